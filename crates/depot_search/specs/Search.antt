-- What the search finds, and the worlds that it speaks of.
use Rattle.std.specs.Prelude.{◌<◌, ◌^◌, List, [], ◌∷◌, map, Bool, length, slice_get, Option, option_map, option_and_then}
use Rattle.depot_base.specs.declared.update.Update.{Update}
use Rattle.depot_model.specs.worlds.Audit.{place_in}
use Rattle.depot_model.specs.lists.Lists.{first}
use Rattle.depot_search.specs.Read.{wrong_among}
use Rattle.depot_search.specs.Rows.{first_own}
use Rattle.depot_search.specs.declared.journal.TracedJournal.{TracedJournal}
use Rattle.depot_traces.specs.declared.finding.Finding.{Finding}
use Rattle.depot_traces.specs.declared.finding.Finding.TheVariants.{Circle}
use Rattle.depot_traces.specs.declared.finding.Op.{Op}
use Rattle.depot_traces.specs.declared.finding.Op.TheVariants.{Write}

-- records and reads are few enough to be counted by a u32
abbrev pub HasFewRecords : TracedJournal → Type 0
HasFewRecords j = length j.entries < 2 ^ 32

abbrev pub HasFewReads : TracedJournal → Type 0
HasFewReads j = length j.reads.now < 2 ^ 32

-- the first journal that has a write, and its record's place there
abbrev pub op_among : List TracedJournal → Update → Option Op
op_among js u = first (map (λ j. option_map (λ place. Write j.node place) (place_in j.entries u)) js)

-- the first write that is in its own row
abbrev pub circle_among : List TracedJournal → List Update → List (List Bool) → Option Finding
circle_among js us rows = option_and_then (λ at. option_and_then (λ u. option_map Circle (op_among js u)) (slice_get us at)) (first_own 0 rows)

-- that, else the first read that isn't exact
abbrev pub found_among : List TracedJournal → List Update → List (List Bool) → Option Finding
found_among js us rows = first (circle_among js us rows ∷ wrong_among js us rows js ∷ [])
