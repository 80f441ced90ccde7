use Rattle.std.proofs.Common.{◌≡◌, length, ap, arith}
use Rattle.std.proofs.lemmas.Option.{slice_get_read}
use Rattle.depot_order.specs.Spots.{Forest}
use Rattle.depot_order.proofs.Tips.{size_placed}
use Rattle.depot_order.proofs.chains.Chains.spot.Goals as goal

pub index-requires : goal.index-requires
index-requires c =
    let size : length c.self.inside.placed.items ≡ length c.self.inside.prevs.items = size_placed _ _ _ c.self.invariant in
    let seen = ap (λ (f : Forest). length f.prevs) c.self.view_is in
    omega arith

pub returns : goal.returns
returns c =
    let size : length c.self.inside.placed.items ≡ length c.self.inside.prevs.items = size_placed _ _ _ c.self.invariant in
    let seen = ap (λ (f : Forest). length f.prevs) c.self.view_is in
    rw (← c.self.view_is, ← c.self.invariant.same) (slice_get_read c.self.inside.placed.items (length c.self.inside.prevs.items) c.args.item _ (omega arith) (omega arith) c.index.ensures)
