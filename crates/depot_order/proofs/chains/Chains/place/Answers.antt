use Rattle.std.proofs.Common.{ap, arith, length, ◌≡◌}
use Rattle.depot_order.specs.Spots.{Forest}
use Rattle.depot_order.proofs.Tips.{chain_of_later, numbered_next, prev_low}
use Rattle.depot_order.proofs.chains.Chains.place.Goals as goal

pub move_tip-requires-clause-known : goal.move_tip-requires-clause-known
move_tip-requires-clause-known c = λ later.
    let is = rw (← c.self.view_is) at c.requires.spot in
    let low = chain_of_later _ _ _ c.args.prev c.args.spot c.self.invariant is later in
    omega (arith, low)

pub invariant_of-self : goal.invariant_of-self
invariant_of-self c =
    let seen = ap (λ (f : Forest). length f.prevs) c.self.view_is in
    let is = rw (← c.self.view_is) at c.requires.spot in
    let item : c.len-item.result ≡ length c.self.inside.prevs.items = omega arith in
    rw (c.push_reserved.ensures.items, c.push_reserved-2.ensures.items, c.move_tip.ensures, item)
    (numbered_next _ _ _ c.args.prev c.args.spot c.self.invariant (λ p e. let low = prev_low c.args.prev _ p c.requires.earlier e in omega (arith, low)) (omega arith) is)
