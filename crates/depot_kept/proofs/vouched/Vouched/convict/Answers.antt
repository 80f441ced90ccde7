use Rattle.std.proofs.Common.{length, ap, arith, inl, inr}
use Rattle.depot_kept.specs.VouchedView.{Vouching}
use Rattle.depot_kept.proofs.vouched.Vouched.convict.Goals as goal

pub insert_node-requires-clause-room : goal.insert_node-requires-clause-room
insert_node-requires-clause-room c =
    let count = ap (λ (v : Vouching). length v.convicted) c.self.view_is in
    let nodes = ap (λ (v : Vouching). v.nodes) c.self.view_is in
    elim c.requires [
      | inl few ↦ omega (arith, count, nodes, few, c.self.invariant.room)
      | inr known ↦ absurd cc
    ]
