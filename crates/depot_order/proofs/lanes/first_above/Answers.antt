use Rattle.std.proofs.Common.{◌∙◌, ◌+◌, ◌-◌, ℕ, length, take, drop, Option, option_map, sym, ap, arith}
use Rattle.std.proofs.lemmas.List.{length-drop, length-take}
use Rattle.depot_order.proofs.LaneLaws.{first_above-behind, first_above-within}
use Rattle.depot_order.proofs.lanes.first_above.Goals as goal

pub returns-in_err-place : goal.returns-in_err-place
returns-in_err-place c =
    let at = c.skip_lanes-at.result in
    c.from_residual.ensures ∙ sym (first_above-behind at c.args.a.now c.args.b.now c.requires c.skip_lanes-at.ensures.within c.skip_lanes-at.ensures.leq
    ∙ ap (λ (o : Option ℕ). option_map (λ k. at + k) o) (sym c.above_in.ensures ∙ c.in_err-place.was))

pub overflow_add-result : goal.overflow_add-result
overflow_add-result c =
    let at = c.skip_lanes-at.result in
    let xs = drop at c.args.a.now in
    let ys = drop at c.args.b.now in
    let low = first_above-within (take (length c.args.a.now - at) xs) (take (length c.args.b.now - at) ys) c.in_ok-place.place (sym c.above_in.ensures ∙ c.in_ok-place.was) in
    omega (arith, low, length-take (length c.args.a.now - at) xs, length-drop at c.args.a.now, c.skip_lanes-at.ensures.within)

pub returns : goal.returns
returns c =
    let at = c.skip_lanes-at.result in
    sym (first_above-behind at c.args.a.now c.args.b.now c.requires c.skip_lanes-at.ensures.within c.skip_lanes-at.ensures.leq
    ∙ ap (λ (o : Option ℕ). option_map (λ k. at + k) o) (sym c.above_in.ensures ∙ c.in_ok-place.was))
