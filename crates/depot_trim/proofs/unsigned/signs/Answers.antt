use Rattle.std.proofs.Common.{◌≡◌, ◌∙◌, eqb, refl, sym, subst}
use Rattle.depot_base.specs.declared.update.Update.{Update}
use Rattle.depot_base.proofs.GeneralLaws.{same_at}
use Rattle.depot_laws.proofs.lists.Tests.{holds_from_not}
use Rattle.depot_graph.specs.Kept.{updates_in}
use Rattle.depot_trim.specs.Trimmings.{ids_in, signs_as}
use Rattle.depot_trim.proofs.Signers.{signs_where}
use Rattle.depot_trim.proofs.unsigned.signs.Goals as goal

pub returns : goal.returns
returns c = λ u at.
    let us = updates_in c.args.graph.now.items.entries in
    let text = c.args.sought.now.text.now in
    let ids = ids_in c.args.sought.now.leaves.now in
    let t = c.update-update.result.now in
    let wrote = holds_from_not (eqb t.writer c.args.node) (sym c.ne.ensures ∙ c.if-ne.false) in
    subst (λ (x : Update). c.follows_all.result ≡ signs_as us text ids c.args.node x) (same_at us c.args.item c.args.item t u refl c.update-update.ensures at)
    (signs_where us text ids c.args.node t c.follows_all.result wrote (sym c.puts.ensures ∙ c.if-not-puts.false) (c.follows_all.ensures t c.update-update.ensures))
