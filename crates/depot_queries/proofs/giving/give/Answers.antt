use Rattle.std.proofs.Common.{◌≡◌, ◌∙◌, ℕ, List, true, refl, sym, ap, subst}
use Rattle.depot_base.specs.Pairs.{AllPairsByRecursion}
use Rattle.depot_base.specs.Parts.{is_below}
use Rattle.depot_base.specs.declared.write.Change.{Change}
use Rattle.depot_model.proofs.of_journals.JournalCallLaws.{idle_call}
use Rattle.depot_model.specs.journals.Replicas.{journal_of}
use Rattle.depot_model.specs.checks.Putting.{IsPutCall}
use Rattle.depot_model.specs.worlds.Receipts.{receipt_changes}
use Rattle.depot_laws.proofs.of_audits.TrueReceipts.{keys_rise}
use Rattle.depot_queries.proofs.GivenAnswers.{given_are_true, no_fault, as_put_call}
use Rattle.depot_queries.proofs.giving.give.Goals as goal

pub put_all-requires-clause-rising : goal.put_all-requires-clause-rising
put_all-requires-clause-rising g c =
    let rises = subst (λ (ids : List (List ℕ)). AllPairsByRecursion (λ g h. is_below g h ≡ true) ids) (sym c.as_slice.ensures) c.requires.rising in
    subst (λ (cs : List Change). AllPairsByRecursion (λ c d. is_below c.key d.key ≡ true) cs) (sym c.in-Ok.ensures.1) (keys_rise c.as_slice.result.now rises)

pub returns-in-Ok-clause-receipts : goal.returns-in-Ok-clause-receipts
returns-in-Ok-clause-receipts g c =
    let n = g.N.NodeState in
    given_are_true (n.stands c.args.node.now) (n.records c.args.node.now) c.as_slice.result.now c.in-Ok.changes c.put_all.result (n.records c.put_all.new.self) c.in-Ok.ensures c.put_all.ensures.puts

pub returns-in-Ok-clause-call : goal.returns-in-Ok-clause-call
returns-in-Ok-clause-call g c =
    as_put_call g.N.NodeState c.args.node.now c.put_all.new.self c.args.ids.now c.put_all.result c.as_give.result c.as_give.ensures
    (subst (λ (cs : List Change). IsPutCall g.N.NodeState c.args.node.now c.put_all.new.self cs c.put_all.result) (c.in-Ok.ensures.1 ∙ ap receipt_changes c.as_slice.ensures) c.put_all.ensures.call)

-- ---- nothing is done where nothing is given

pub returns-then-is_stopped-clause-call : goal.returns-then-is_stopped-clause-call
returns-then-is_stopped-clause-call g c = record {
  same = record { stands = refl; key = refl; signs = refl };
  journal = idle_call (journal_of g.N.NodeState) (λ n file left. g.met.N.Replica.only_now n file left) (λ n. g.met.N.Replica.after_none n) _ _ c.is_stopped.ensures.stable
      ((λ _. sym c.is_stopped.ensures.stopped ∙ c.if-is_stopped.true), (λ _. cc)) (λ f. cc);
}

pub returns-in-Err-clause-call : goal.returns-in-Err-clause-call
returns-in-Err-clause-call g c =
    let fault = no_fault (g.N.NodeState.records c.args.node.now) c.as_slice.result.now c.in-Err.refusal c.in-Err.ensures in record {
      same = record { stands = refl; key = refl; signs = refl };
      journal = idle_call (journal_of g.N.NodeState) (λ n file left. g.met.N.Replica.only_now n file left) (λ n. g.met.N.Replica.after_none n) _ _ c.is_stopped.ensures.stable
          ((λ s. absurd (fault.1 cc)), (λ is. cc)) (λ f. fault.0 cc);
    }
