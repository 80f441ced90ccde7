use Rattle.std.proofs.Common.{ℕ, length, Some, refl, ap, sym, ◌∙◌, arith}
use Rattle.std.proofs.lemmas.Option.{slice_get_read}
use Rattle.depot_order.specs.Spots.{Forest}
use Rattle.depot_order.proofs.Tips.{size_placed, prev_low, chain_there, place_low, prev_free, prev_taken}
use Rattle.depot_order.proofs.chains.Chains.next_spot.Goals as goal
use Rattle.depot_order.proofs.chains.Chains.next_spot.Goals.{in-Some+else-index-parent, in_default}

pub index-spot-requires : goal.index-spot-requires
index-spot-requires c =
    let size = size_placed _ _ _ c.self.invariant in
    let seen = ap (λ (f : Forest). length f.prevs) c.self.view_is in
    let low = prev_low c.args.prev _ _ c.requires.earlier c.in-Some.is in
    omega (arith, size, seen, low)

pub index-requires : goal.index-requires
index-requires c =
    let size = size_placed _ _ _ c.self.invariant in
    let seen = ap (λ (f : Forest). length f.prevs) c.self.view_is in
    let low = prev_low c.args.prev _ _ c.requires.earlier c.in-Some.is in
    let at = slice_get_read c.self.inside.placed.items (length c.self.inside.placed.items) c.in-Some.parent _ refl (omega (arith, size, seen, low)) c.index-spot.ensures in
    let known = chain_there _ _ _ _ _ c.self.invariant at in
    omega (arith, known)

pub overflow_add-result : goal.overflow_add-result
overflow_add-result c =
    let size = size_placed _ _ _ c.self.invariant in
    let seen = ap (λ (f : Forest). length f.prevs) c.self.view_is in
    let low = prev_low c.args.prev _ _ c.requires.earlier c.in-Some.is in
    let at = slice_get_read c.self.inside.placed.items (length c.self.inside.placed.items) c.in-Some.parent _ refl (omega (arith, size, seen, low)) c.index-spot.ensures in
    let few = place_low _ _ _ _ _ c.self.invariant at in
    omega (arith, few, low)

pub returns-then-index-parent : goal.returns-then-index-parent
returns-then-index-parent c =
    let size = size_placed _ _ _ c.self.invariant in
    let seen = ap (λ (f : Forest). length f.prevs) c.self.view_is in
    let low = prev_low c.args.prev _ _ c.requires.earlier c.in-Some.is in
    let at = slice_get_read c.self.inside.placed.items (length c.self.inside.placed.items) c.in-Some.parent _ refl (omega (arith, size, seen, low)) c.index-spot.ensures in
    let known = chain_there _ _ _ _ _ c.self.invariant at in
    let tip = slice_get_read c.self.inside.tips.items (length c.self.inside.tips.items) c.index-spot.result.now.chain _ refl known c.index.ensures in
    let same = tip ∙ ap (λ (n : ℕ). Some n) c.if-index-parent.true in
    rw (← c.self.view_is, c.in-Some.is) (sym (prev_free _ _ _ _ _ c.self.invariant at same))

pub returns : goal.returns
returns c = elim c.match-prev.branch [
  | in-Some+else-index-parent w ↦
      let size = size_placed _ _ _ c.self.invariant in
      let seen = ap (λ (f : Forest). length f.prevs) c.self.view_is in
      let low = prev_low c.args.prev _ _ c.requires.earlier w.in-Some.is in
      let at = slice_get_read c.self.inside.placed.items (length c.self.inside.placed.items) w.in-Some.parent _ refl (omega (arith, size, seen, low)) w.index-spot.ensures in
      let known = chain_there _ _ _ _ _ c.self.invariant at in
      let tip = slice_get_read c.self.inside.tips.items (length c.self.inside.tips.items) w.index-spot.result.now.chain _ refl known w.index.ensures in
      rw (c.chain_count.ensures.count, ← c.self.view_is, w.in-Some.is) (sym (prev_taken _ _ _ _ _ _ c.self.invariant at tip w.if-index-parent.false))
  | in_default w ↦ rw (c.chain_count.ensures.count, w.in_default.is) refl
]
