-- How a read is tested: rows of the writes of a world, and the table of which is observed before which.
use Rattle.std.specs.Prelude.{ℕ, ◌+◌, List, [], ◌∷◌, map, take, Bool, not, ◌&&◌, ◌||◌, ◌==◌, Option, Some, None, option_map, if◌then◌else◌}
use Rattle.std.specs.List.{list_any, list_all, zip}
use Rattle.std.specs.Str.{bytes_eq}
use Rattle.depot_base.specs.declared.record.Record.{Record}
use Rattle.depot_base.specs.declared.update.Update.{Update}
use Rattle.depot_model.specs.texts.Contents.{writes, Sighting}
use Rattle.depot_model.specs.lists.Lists.{first}
use Rattle.depot_model.specs.worlds.ReadTests.{is_put_of}
use Rattle.depot_model.specs.texts.Texts.{id_of_update}
use Rattle.depot_search.specs.Rows.{either_of, both_of, without_of, is_met, reached_by}
use Rattle.depot_search.specs.Writes.{is_accepted_in}
use Rattle.depot_search.specs.declared.journal.TracedJournal.{TracedJournal}
use Rattle.depot_traces.specs.SeenTraces.{sighting_of}
use Rattle.depot_traces.specs.declared.finding.Finding.{Finding}
use Rattle.depot_traces.specs.declared.finding.Finding.TheVariants.{Wrong}
use Rattle.depot_traces.specs.declared.trace.Answered.{Answered}
use Rattle.depot_traces.specs.declared.trace.ReadTrace.{ReadTrace}

-- ---- what a read lists

-- one of these answers is of the update
abbrev pub is_answered : List Answered → Update → Bool
is_answered answer u = list_any (λ a. bytes_eq a.id (id_of_update u)) answer

-- each journal of its writer puts the update as it is shown
abbrev pub is_put_in_each : List TracedJournal → List ℕ → Update → Sighting → Bool
is_put_in_each js key u seen = list_all (λ j. not (u.writer == j.node) || list_any (is_put_of key u seen) j.entries) js

-- one of these answers is of the update, and its writer didn't put it as it is shown
abbrev pub is_unput : List TracedJournal → List ℕ → List Answered → Update → Bool
is_unput js key answer u = list_any (λ a. bytes_eq a.id (id_of_update u) && not (is_put_in_each js key u (sighting_of a.shown))) answer

-- ---- rows

-- the writes that these records accepted
abbrev pub held_row : List Update → List Record → List Bool
held_row us J = map (is_accepted_in J) us

-- the writes of a key
abbrev pub key_row : List Update → List ℕ → List Bool
key_row us key = map (writes key) us

-- those of a key that are observed where these are held
abbrev pub observed_row : List Update → List (List Bool) → List ℕ → List Bool → List Bool
observed_row us rows key held = both_of (either_of held (reached_by rows held)) (key_row us key)

-- of these, those that are observed before none of them
abbrev pub last_row : List (List Bool) → List Bool → List Bool
last_row rows among = without_of among (reached_by rows among)

-- those that are held and that a read lists
abbrev pub listed_row : List Update → List Answered → List Bool → List Bool
listed_row us answer held = both_of held (map (is_answered answer) us)

-- both tests pass, or neither does
abbrev pub is_alike : Bool → Bool → Bool
is_alike a b = if a then b else not b

-- two rows are equal
abbrev pub are_alike : List Bool → List Bool → Bool
are_alike a b = list_all (λ p. is_alike p.0 p.1) (zip a b)

-- ---- reads

-- A read that saw these records lists just the last of the writes that are observed before it, and each as its writer put it.
unfoldable pub is_exact_by : List TracedJournal → List Update → List (List Bool) → List Record → ReadTrace → Bool
is_exact_by js us rows J r =
    are_alike (last_row rows (observed_row us rows r.key (held_row us J))) (listed_row us r.answer (held_row us J))
    && not (is_met (listed_row us r.answer (held_row us J)) (map (is_unput js r.key r.answer) us))

-- the place of the first of these reads that isn't so; the first of them has this place
abbrev pub first_inexact : List TracedJournal → List Update → List (List Bool) → List Record → ℕ → List ReadTrace → Option ℕ
first_inexact js us rows J place [] = None
first_inexact js us rows J place (r ∷ rs) = if is_exact_by js us rows (take r.length J) r then first_inexact js us rows J (place + 1) rs else Some place

-- the same over the reads of these journals
abbrev pub wrong_among : List TracedJournal → List Update → List (List Bool) → List TracedJournal → Option Finding
wrong_among js us rows ks = first (map (λ j. option_map (λ place. Wrong j.node place) (first_inexact js us rows j.entries 0 j.reads.now)) ks)
