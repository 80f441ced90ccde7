use Rattle.std.proofs.Common.{◌∙◌, List, ℕ, refl, sym, subst}
use Rattle.depot_base.specs.Writes.{one_change}
use Rattle.depot_model.proofs.of_journals.JournalCallLaws.{idle_call}
use Rattle.depot_model.specs.readers.Checkpoints.{checkpoint_key}
use Rattle.depot_model.specs.checks.Putting.{IsPutCall}
use Rattle.depot_model.specs.journals.Replicas.{journal_of}
use Rattle.depot_trim.proofs.Signings.{no_fault, as_put_call}
use Rattle.depot_trim.proofs.signing.sign_checkpoint.Goals as goal

pub returns-in-Ok-clause-call : goal.returns-in-Ok-clause-call
returns-in-Ok-clause-call g c =
    let n = g.N.NodeState in
    let text = c.args.text.now in
    let by_key = subst (λ (k : List ℕ). IsPutCall n c.args.node.now c.put.new.self (one_change k c.in-Ok.made.value) c.put.result) c.in-Ok.ensures.1.0 c.put.ensures.call in
    as_put_call n c.args.node.now c.put.new.self text c.put.result c.as_signed.result c.as_signed.ensures
    (subst (λ (v : List ℕ). IsPutCall n c.args.node.now c.put.new.self (one_change (checkpoint_key text) v) c.put.result) c.in-Ok.ensures.1.1 by_key)

-- ---- nothing is done where nothing is signed

pub returns-then-is_stopped-clause-call : goal.returns-then-is_stopped-clause-call
returns-then-is_stopped-clause-call g c = record {
  same = record { stands = refl; key = refl; signs = refl };
  journal = idle_call (journal_of g.N.NodeState) (λ n file left. g.met.N.Replica.only_now n file left) (λ n. g.met.N.Replica.after_none n) _ _ c.is_stopped.ensures.stable
      ((λ _. sym c.is_stopped.ensures.stopped ∙ c.if-is_stopped.true), (λ _. cc)) (λ f. cc);
}

pub returns-in-Err-clause-call : goal.returns-in-Err-clause-call
returns-in-Err-clause-call g c =
    let fault = no_fault (g.N.NodeState.stands c.args.node.now) (g.N.NodeState.records c.args.node.now) c.args.text.now c.in-Err.refusal c.in-Err.ensures in record {
      same = record { stands = refl; key = refl; signs = refl };
      journal = idle_call (journal_of g.N.NodeState) (λ n file left. g.met.N.Replica.only_now n file left) (λ n. g.met.N.Replica.after_none n) _ _ c.is_stopped.ensures.stable
          ((λ s. absurd (fault.1 cc)), (λ is. cc)) (λ f. fault.0 cc);
    }
