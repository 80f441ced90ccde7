use Rattle.std.proofs.Common.{◌≡◌, ℕ, List, true, take}
use Rattle.std.specs.List.{AllByRecursion}
use Rattle.depot_model.specs.journals.Journal.{accepted, is_foreign}
use Rattle.depot_decide.proofs.record_check.are_foreign.Given as goal

abbrev pub invariant-loop-id : goal.invariant-loop-id
invariant-loop-id g l = AllByRecursion (λ (h : List ℕ). is_foreign l.readings.me (accepted l.readings.records) h ≡ true) (take l.id-index l.ids)
