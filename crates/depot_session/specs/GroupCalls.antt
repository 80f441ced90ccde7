-- Which calls a served node makes on the disk that keeps its journal.
use Rattle.std.specs.Prelude.{◌≡◌, List, [], ◌∷◌, ◌++◌, length, map}
use Rattle.std.specs.List.{flat_map}
use Rattle.depot_base.specs.Calls.{Call, FailsAmong, made}
use Rattle.depot_base.specs.File.{blocks}
use Rattle.depot_base.specs.declared.record.Record.{Record}
use Rattle.depot_journal.specs.Groups.{calls_to_append_group}
use Rattle.depot_model.specs.declared.node_state.NodeState.{Ghosts}
use Rattle.depot_model.specs.texts.Records.{text_of_record}

-- the calls that append these records after those of a journal, as one group: none where there are no records
abbrev pub calls_of_group : List Record → List Record → List Call
calls_of_group J [] = []
calls_of_group J (r ∷ group) = calls_to_append_group (length (blocks (map text_of_record J))) (blocks (map text_of_record (r ∷ group)))

-- those that append groups, one after another
abbrev pub calls_of_groups : List Record → List (List Record) → List Call
calls_of_groups J [] = []
calls_of_groups J (group ∷ groups) = calls_of_group J group ++ calls_of_groups (J ++ group) groups

-- the records of groups
abbrev pub all_of_groups : List (List Record) → List Record
all_of_groups groups = flat_map (λ group. group) groups

-- The journal grew by groups of records, each of which was appended by its calls; or the disk failed, and of these calls
-- those up to the one that failed were made. No other call was made on the disk.
pub record AppendsGroups {N : Type 0} (g : Ghosts N) (old new : N) (failed : Type 0) : Type 0 where
  pub groups : List (List Record)
  pub grown : (failed → ⊥) → g.records new ≡ g.records old ++ all_of_groups groups
  pub whole : (failed → ⊥) → g.after old (made (calls_of_groups (g.records old) groups)) new
  pub part : failed → FailsAmong g.after old new (calls_of_groups (g.records old) groups)
