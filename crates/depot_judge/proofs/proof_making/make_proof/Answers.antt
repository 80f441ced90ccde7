use Rattle.std.proofs.Common.{refl, sym, subst, ◌∙◌}
use Rattle.depot_base.specs.declared.proof.Proof.{Proof}
use Rattle.depot_model.specs.texts.Texts.{IsProof}
use Rattle.depot_model.specs.updates.Conviction.{IsGood}
use Rattle.depot_model.proofs.of_updates.JudgementLaws.{halves-proof_of, IsProof-proof_of, IsGood-proof_of}
use Rattle.depot_judge.proofs.proof_making.make_proof.Goals as goal

pub returns-clause-made : goal.returns-clause-made
returns-clause-made c = halves-proof_of c.args.kind c.args.a.now c.args.b.now c.in_ok-copy.field-0 c.in_ok-copy-2.field-0 _ (c.in_ok-copy.ensures ∙ c.in_order.ensures.first) (c.in_ok-copy-2.ensures ∙ c.in_order.ensures.second) refl

pub returns-clause-proof : goal.returns-clause-proof
returns-clause-proof c = subst (λ (p : Proof). IsProof p) (sym (returns-clause-made c)) (IsProof-proof_of c.args.kind c.args.a.now c.args.b.now c.requires.first c.requires.second c.requires.contradict)

pub returns-clause-good : goal.returns-clause-good
returns-clause-good c = subst (λ (p : Proof). IsGood p) (sym (returns-clause-made c)) (IsGood-proof_of c.args.kind c.args.a.now c.args.b.now c.requires.first c.requires.second c.requires.contradict)
