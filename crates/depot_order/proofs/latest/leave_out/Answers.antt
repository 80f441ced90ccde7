use Rattle.std.proofs.Common.{◌≡◌, ◌≢◌, ◌∙◌, ◌<◌, length, get_or, get_or-set_other, true≢false, refl, sym, arith}
use Rattle.std.proofs.Math.ListN.{length-set}
use Rattle.std.proofs.lemmas.List.{get_or_default}
use Rattle.depot_order.proofs.ItemLists.{passed_over, taken_over}
use Rattle.depot_order.proofs.latest.leave_out.Goals as goal

pub loop-i-preserved-then-before : goal.loop-i-preserved-then-before
loop-i-preserved-then-before g c =
    let old = c.args.list.now.items in
    let list = c.loop-i.list.items in
    let i = c.loop-i.i in
    let x = c.index-other.result.now in
    let inv = c.loop-i.invariant in
    let low : i < length old = omega (arith, c.loop-i-test.true, c.len-i-end.ensures) in
    let is : x ≡ get_or old i 0 = c.index-other.ensures ∙ (get_or_default list i x 0 (omega (arith, low, inv.long)) ∙ inv.rest i (omega arith)) in
    record {
      low = omega (arith, inv.low);
      long = inv.long;
      kept = passed_over (λ a. g.P.Precedes.precedes c.args.order.now a c.args.item → ⊥) old list i c.loop-i.kept x low is inv.kept (λ apart. apart (c.if-before.ensures.answer.0 refl));
      rest = λ k le. inv.rest k (omega (arith, le));
      capacity = inv.capacity;
      cost = omega (arith, inv.cost, c.before-in-loop-i.ensures.cost);
    }

pub loop-i-preserved : goal.loop-i-preserved
loop-i-preserved g c =
    let old = c.args.list.now.items in
    let list = c.loop-i.list.items in
    let i = c.loop-i.i in
    let kept = c.loop-i.kept in
    let x = c.index-other.result.now in
    let inv = c.loop-i.invariant in
    let low : i < length old = omega (arith, c.loop-i-test.true, c.len-i-end.ensures) in
    let inside : kept < length list = omega (arith, low, inv.long, inv.low) in
    let is : x ≡ get_or old i 0 = c.index-other.ensures ∙ (get_or_default list i x 0 (omega (arith, low, inv.long)) ∙ inv.rest i (omega arith)) in
    record {
      low = omega (arith, inv.low);
      long = length-set list kept x ∙ inv.long;
      kept = taken_over (λ a. g.P.Precedes.precedes c.args.order.now a c.args.item → ⊥) old list i kept x low inside is inv.kept (λ before. true≢false (sym (c.if-before.ensures.answer.1 before)));
      rest = λ k le. let apart : k ≢ kept = omega (arith, le, inv.low) in rw get_or-set_other (inv.rest k (omega (arith, le)));
      capacity = inv.capacity;
      cost = omega (arith, inv.cost, c.before-in-loop-i.ensures.cost);
    }
