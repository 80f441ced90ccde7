use Rattle.std.proofs.Common.{◌≤◌, List, get_or, refl, length, map, ap, ◌∙◌, subst, arith}
use Rattle.std.proofs.lemmas.List.{take_all}
use Rattle.depot_base.specs.declared.voucher.Voucher.{Voucher}
use Rattle.depot_model.specs.exchange.Bundle.{voucher_frame}
use Rattle.depot_laws.proofs.own_updates.OwnTexts.{lawful_is_short}
use Rattle.depot_gossip.specs.Fronts.{AreFrames}
use Rattle.depot_gossip.proofs.FrontLaws.{all_vouchers, few_vouchers, voucher_at, voucher_next, vouchers_at}
use Rattle.depot_gossip.proofs.front.voucher_frames.Goals as goal

pub put_voucher-requires-clause-at : goal.put_voucher-requires-clause-at
put_voucher-requires-clause-at g c =
    voucher_at (g.R.NodeState.records c.args.node.now) c.args.ids.now c.as_slice-place-items.result.now c.loop-place.place-index (get_or c.as_slice-place-items.result.now c.loop-place.place-index 0) (c.as_slice-place-items.ensures ∙ c.in_ok-places.ensures) c.loop-place-test.true refl

pub put_voucher-requires-clause-few : goal.put_voucher-requires-clause-few
put_voucher-requires-clause-few g c =
    let J = g.R.NodeState.records c.args.node.now in
    let few = few_vouchers J c.args.ids.now c.as_slice-place-items.result.now (c.as_slice-place-items.ensures ∙ c.in_ok-places.ensures) in
    let short : length J ≤ 131072 = lawful_is_short (g.R.NodeState.stands c.args.node.now) J (g.met.R.Replica.lawful c.args.node.now) in
    omega (arith, few, short, c.loop-place.invariant.few, c.loop-place-test.true)

pub loop-place-preserved : goal.loop-place-preserved
loop-place-preserved g c =
    let J = g.R.NodeState.records c.args.node.now in
    let sign = g.R.NodeState.signature_of c.args.node.now in
    let places = c.as_slice-place-items.result.now in
    let v = voucher_at J c.args.ids.now places c.loop-place.place-index (get_or c.as_slice-place-items.result.now c.loop-place.place-index 0) (c.as_slice-place-items.ensures ∙ c.in_ok-places.ensures) c.loop-place-test.true refl in
    record {
      made = voucher_next sign J places c.loop-place.place-index (get_or places c.loop-place.place-index 0) v.0 c.put_voucher.new.self c.loop-place-test.true refl v.1 (c.in_ok-put_voucher.ensures.added v.0 v.1 (map (voucher_frame sign) (vouchers_at J _)) c.loop-place.invariant.made);
      few = omega (arith, c.loop-place.invariant.few, c.in_ok-put_voucher.ensures.count);
    }

pub returns : goal.returns
returns g c =
    let J = g.R.NodeState.records c.args.node.now in
    let sign = g.R.NodeState.signature_of c.args.node.now in
    let places = c.as_slice-place-items.result.now in
    let whole = take_all c.loop-place.place-index places c.loop-place-test.false ∙ c.as_slice-place-items.ensures ∙ c.in_ok-places.ensures in
    subst (λ (vs : List Voucher). AreFrames (map (voucher_frame sign) vs) c.loop-place.frames) (ap (vouchers_at J) whole ∙ all_vouchers J c.args.ids.now) c.loop-place.invariant.made
