use Rattle.std.proofs.Common.{refl, sym, ◌∙◌}
use Rattle.depot_accept.proofs.NamedUpdates.{prev_zeros}
use Rattle.depot_accept.proofs.ParentItems.{prev_at_item}
use Rattle.depot_accept.proofs.content.prev_of.Goals as goal

pub returns-then-is_zeros : goal.returns-then-is_zeros
returns-then-is_zeros g c = sym (prev_zeros (g.P.Past.updates c.args.past.now) c.args.update.now.prev (sym c.is_zeros.ensures ∙ c.if-is_zeros.true))

pub returns : goal.returns
returns g c = prev_at_item (g.P.Past.updates c.args.past.now) c.args.update.now c.update.result.now c.args.items.now _ (sym c.is_zeros.ensures ∙ c.if-is_zeros.false) c.requires refl c.update.ensures
