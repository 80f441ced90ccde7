-- What a table has of records, whose texts were scanned in order.
use Rattle.std.specs.Prelude.{◌≡◌, ◌≤◌, ℕ, List, [], ◌∷◌, length}
use Rattle.std.specs.List.{flat_map}
use Rattle.depot_base.specs.declared.limits.TheConstants.{MOST_RECORDS}
use Rattle.depot_base.specs.declared.record.Record.{Record}
use Rattle.depot_model.specs.worlds.Causality.{puts_of}
use Rattle.depot_model.specs.journals.Journal.{accepted, value_by}
use Rattle.depot_model.specs.texts.Records.{IsTextOf}
use Rattle.depot_model.specs.worlds.World.{Correct}
use Rattle.depot_traces.specs.declared.trace.Trace.{Trace}
use Rattle.depot_audit.specs.Tables.{AreMetUpdates, AreMetValues}
use Rattle.depot_audit.specs.declared.met.Met.{Met}

-- each of the first list has this to the one at its place in the second, and they are as many
abbrev pub ArePairs : {X Y : Type 0} → (X → Y → Type 0) → List X → List Y → Type 0
ArePairs R [] [] = Unit {0}
ArePairs R [] (y ∷ ys) = ⊥
ArePairs R (x ∷ xs) [] = ⊥
ArePairs R (x ∷ xs) (y ∷ ys) = R x y × ArePairs R xs ys

-- these are the texts of these records
abbrev pub AreTexts : List Record → List (List ℕ) → Type 0
AreTexts = ArePairs IsTextOf

-- the texts of a trace are those of its node's records, of which there are no more than a journal holds
pub record IsToldBy (c : Correct) (t : Trace) : Type 0 where
  pub node : c.node ≡ t.node
  pub texts : AreTexts c.journal t.texts
  pub few : length t.texts ≤ MOST_RECORDS

abbrev pub AreToldBy : List Correct → List Trace → Type 0
AreToldBy = ArePairs IsToldBy

-- the accepted updates, with those that were put, and the values, of these records
pub record IsMetOf (rs : List Record) (met : Met) : Type 0 where
  pub updates : AreMetUpdates (accepted rs) (puts_of rs) met.updates.table met.updates.apart
  pub values : AreMetValues (flat_map value_by rs) met.values.table met.values.apart
