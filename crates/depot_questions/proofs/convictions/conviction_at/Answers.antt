use Rattle.std.proofs.Common.{drop, ap, ◌∙◌}
use Rattle.depot_questions.proofs.ToldConvictions.{made_of_proof, proof_at}
use Rattle.depot_questions.proofs.convictions.conviction_at.Goals as goal

pub accused-requires : goal.accused-requires
accused-requires g c =
    let kept = proof_at (g.N.NodeState.stands c.args.node.now) (g.N.NodeState.records c.args.node.now) c.args.place c.record_text.result.now c.requires.0 (g.met.N.Replica.lawful c.args.node.now) c.requires.1.0 c.requires.1.1 c.record_text.ensures in
    (kept.proof, (kept.fits, c.behind_tag-text.ensures ∙ ap (drop 1) kept.is))

pub returns : goal.returns
returns g c =
    let kept = proof_at (g.N.NodeState.stands c.args.node.now) (g.N.NodeState.records c.args.node.now) c.args.place c.record_text.result.now c.requires.0 (g.met.N.Replica.lawful c.args.node.now) c.requires.1.0 c.requires.1.1 c.record_text.ensures in
    let text = c.behind_tag-text.ensures ∙ ap (drop 1) kept.is in
    made_of_proof (g.N.NodeState.records c.args.node.now) c.args.place c.in_ok-node.node c.record_text.result.now c.in_ok-from_slice.field-0 kept (c.in_ok-node.ensures kept.proof kept.fits text) (c.in_ok-from_slice.ensures ∙ text)
