use Rattle.std.proofs.Common.{◌<◌, ◌∙◌, List, length, sym, subst}
use Rattle.std.specs.Prelude.{All}
use Rattle.depot_base.specs.declared.update.Update.{Update}
use Rattle.depot_model.specs.lists.Items.{updates_at}
use Rattle.depot_model.specs.updates.Order.{AreLatestIn}
use Rattle.depot_trim.proofs.ReaderReads.{accepted_is, items_kept}
use Rattle.depot_trim.proofs.trimmed.Trimmed.latest.Goals as goal

pub returns-clause-latest : goal.returns-clause-latest
returns-clause-latest g c = λ R r.
    let same = c.graph.ensures ∙ sym (accepted_is g.S.Scheme.verifies R c.args.self.now r) in
    subst (λ (us : List Update). AreLatestIn c.args.key.now us (updates_at us c.latest.result.now)) same c.latest.ensures.latest

pub returns-clause-items : goal.returns-clause-items
returns-clause-items g c = λ R r.
    let same = c.graph.ensures ∙ sym (accepted_is g.S.Scheme.verifies R c.args.self.now r) in
    items_kept R c.args.key.now c.latest.result.now r.lawful r.below
    (subst (λ (us : List Update). AreLatestIn c.args.key.now us (updates_at us c.latest.result.now)) same c.latest.ensures.latest)
    (subst (λ (us : List Update). All (λ n. n < length us) c.latest.result.now) same c.latest.ensures.items)
