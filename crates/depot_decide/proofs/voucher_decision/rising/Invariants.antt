use Rattle.std.proofs.Common.{◌≡◌, drop}
use Rattle.depot_model.specs.checks.Vouching.{rising}
use Rattle.depot_decide.proofs.voucher_decision.rising.Given as goal

abbrev pub invariant-loop-place : goal.invariant-loop-place
invariant-loop-place l = l.sorted.keys ≡ rising (drop l.place l.ids)
