use Rattle.std.proofs.Common.{rules, refl}
use Rattle.std.proofs.lemmas.Result.{err_from_is_err_and}
use Rattle.depot_model.proofs.of_journals.JournalCallLaws.{idle_call, never_stopped}
use Rattle.depot_node.specs.Holdings.{journal_on}
use Rattle.depot_node.proofs.put.put.Goals as goal

-- ---- the call

pub returns-then-is_stopped-clause-call : goal.returns-then-is_stopped-clause-call
returns-then-is_stopped-clause-call g c = idle_call (journal_on g.D.Disk) (λ v file left. g.met.D.Disk.only_now v.disk file left) (λ v. g.met.D.Disk.after_none v.disk) c.args.store.now _ (c.is_stopped.ensures.stable c.requires.kept.read) (λ s. search rules, λ was. refl) (λ e. cc)

pub returns-in_err-changes-clause-call : goal.returns-in_err-changes-clause-call
returns-in_err-changes-clause-call g c =
    let p = err_from_is_err_and c.from_residual.result c.from_residual.ensures.1 in
    rw (p.1, p.2) (idle_call (journal_on g.D.Disk) (λ v file left. g.met.D.Disk.only_now v.disk file left) (λ v. g.met.D.Disk.after_none v.disk) c.args.store.now _ (c.is_stopped.ensures.stable c.requires.kept.read) (never_stopped c.args.store.now.stopped (search rules) (λ s. cc)) (λ e. cc))
