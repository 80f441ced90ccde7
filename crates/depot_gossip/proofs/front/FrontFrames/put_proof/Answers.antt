use Rattle.std.proofs.Common.{List, ℕ, [], ◌∷◌, ◌++◌, ap, length, subst, arith}
use Rattle.std.specs.Prelude.{OnOk}
use Rattle.depot_base.specs.declared.record.Record.TheVariants.{Conviction}
use Rattle.depot_model.proofs.lists.Elements.{in_at}
use Rattle.depot_model.proofs.of_texts.TextLaws.{proof_is_short}
use Rattle.depot_laws.proofs.records.LawfulRecords.{IsProof-from_record}
use Rattle.depot_laws.proofs.lists.Splits.{lawful_texts}
use Rattle.depot_gossip.specs.Fronts.{AreFrames}
use Rattle.depot_gossip.proofs.front.FrontFrames.put_proof.Goals as goal

pub put-requires-clause-short : goal.put-requires-clause-short
put-requires-clause-short g c =
    let J = g.R.NodeState.records c.args.node.now in
    let p = c.requires.at in
    let text = c.proof_text.ensures p.0 p.1 in
    let short = proof_is_short p.0 (IsProof-from_record p.0 (lawful_texts (g.R.NodeState.stands c.args.node.now) J (Conviction p.0) (g.met.R.Replica.lawful c.args.node.now) (in_at J c.args.place (Conviction p.0) p.1))) in
    omega (arith, ap length text, short)

pub returns-clause-added : goal.returns-clause-added
returns-clause-added g c = λ p at fs are.
    subst (λ (text : List ℕ). OnOk c.put.result (AreFrames (fs ++ (record { tag = 1; payload = text }) ∷ []) c.put.new.self)) (c.proof_text.ensures p at) (c.put.ensures.added fs are)
