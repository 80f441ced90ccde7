use Rattle.std.proofs.Common.{◌≤◌, List, get_or, refl, length, map, ap, ◌∙◌, subst, arith}
use Rattle.std.proofs.lemmas.List.{take_all}
use Rattle.depot_base.specs.declared.proof.Proof.{Proof}
use Rattle.depot_model.specs.exchange.Bundle.{proof_frame}
use Rattle.depot_laws.proofs.own_updates.OwnTexts.{lawful_is_short}
use Rattle.depot_gossip.specs.Fronts.{AreFrames}
use Rattle.depot_gossip.proofs.FrontLaws.{all_proofs, few_proofs, proof_at, proof_next, proofs_at}
use Rattle.depot_gossip.proofs.front.proof_frames.Goals as goal

pub put_proof-requires-clause-at : goal.put_proof-requires-clause-at
put_proof-requires-clause-at g c =
    proof_at (g.R.NodeState.records c.args.node.now) c.args.hello.now.convicted c.as_slice-place-items.result.now c.loop-place.place-index (get_or c.as_slice-place-items.result.now c.loop-place.place-index 0) (c.as_slice-place-items.ensures ∙ c.in_ok-places.ensures) c.loop-place-test.true refl

pub put_proof-requires-clause-few : goal.put_proof-requires-clause-few
put_proof-requires-clause-few g c =
    let J = g.R.NodeState.records c.args.node.now in
    let few = few_proofs J c.args.hello.now.convicted c.as_slice-place-items.result.now (c.as_slice-place-items.ensures ∙ c.in_ok-places.ensures) in
    let short : length J ≤ 131072 = lawful_is_short (g.R.NodeState.stands c.args.node.now) J (g.met.R.Replica.lawful c.args.node.now) in
    omega (arith, few, short, c.loop-place.invariant.few, c.loop-place-test.true)

pub loop-place-preserved : goal.loop-place-preserved
loop-place-preserved g c =
    let J = g.R.NodeState.records c.args.node.now in
    let places = c.as_slice-place-items.result.now in
    let p = proof_at J c.args.hello.now.convicted places c.loop-place.place-index (get_or c.as_slice-place-items.result.now c.loop-place.place-index 0) (c.as_slice-place-items.ensures ∙ c.in_ok-places.ensures) c.loop-place-test.true refl in
    record {
      made = proof_next J places c.loop-place.place-index (get_or places c.loop-place.place-index 0) p.0 c.put_proof.new.self c.loop-place-test.true refl p.1 (c.in_ok-put_proof.ensures.added p.0 p.1 (map proof_frame (proofs_at J _)) c.loop-place.invariant.made);
      few = omega (arith, c.loop-place.invariant.few, c.in_ok-put_proof.ensures.count);
    }

pub returns : goal.returns
returns g c =
    let J = g.R.NodeState.records c.args.node.now in
    let places = c.as_slice-place-items.result.now in
    let whole = take_all c.loop-place.place-index places c.loop-place-test.false ∙ c.as_slice-place-items.ensures ∙ c.in_ok-places.ensures in
    subst (λ (ps : List Proof). AreFrames (map proof_frame ps) c.loop-place.frames) (ap (proofs_at J) whole ∙ all_proofs J c.args.hello.now) c.loop-place.invariant.made
