use Rattle.std.proofs.Common.{◌≡◌, take}
use Rattle.depot_model.specs.worlds.Receipts.{receipt_changes}
use Rattle.depot_queries.proofs.due.changes_of.Given as goal

abbrev pub invariant-loop-id : goal.invariant-loop-id
invariant-loop-id l = l.changes ≡ receipt_changes (take l.id-index l.ids)
