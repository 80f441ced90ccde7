use Rattle.std.proofs.Common.{List, sym, ap, ◌∙◌}
use Rattle.depot_base.specs.declared.update.Dep.{Dep}
use Rattle.depot_model.specs.lists.Lists.{first}
use Rattle.depot_model.specs.checks.Checks.{sight, wrong_prev, wrong_entries}
use Rattle.depot_accept.proofs.ContentOrder.{wrong_in_prev, wrong_in_entry}
use Rattle.depot_accept.proofs.NamedUpdates.{found}
use Rattle.depot_accept.proofs.content.wrong_dep.Goals as goal

pub returns-in-Some : goal.returns-in-Some
returns-in-Some g c = sym (wrong_in_prev (g.P.Past.updates c.args.past.now) c.args.update.now c.in-Some.check (sym (c.in-Some.ensures ∙ ap (wrong_prev c.args.update.now) c.prev_of.ensures)))

pub returns-in-None : goal.returns-in-None
unfolding sight
returns-in-None g c =
    c.wrong_entries.ensures
    ∙ ap (λ (ds : List Dep). first (wrong_entries 1 (found (g.P.Past.updates c.args.past.now) ds))) c.as_slice-deps.ensures
    ∙ sym (wrong_in_entry (g.P.Past.updates c.args.past.now) c.args.update.now (sym (c.in-None.ensures ∙ ap (wrong_prev c.args.update.now) c.prev_of.ensures)))
