use Rattle.std.proofs.Common.{ap, ◌∙◌}
use Rattle.depot_model.specs.lists.Lists.{is_among}
use Rattle.depot_kept.specs.VouchedView.{IdsWithRoom}
use Rattle.depot_kept.proofs.IdSlotLaws.{found_is_vouched, missing_is_not_vouched}
use Rattle.depot_kept.proofs.ids.VouchedIds.contains.Goals as goal

pub returns-in-Some : goal.returns-in-Some
returns-in-Some c = found_is_vouched c.args.id.now c.self.inside.slots.entries _ c.self.invariant c.in-Some.ensures.value ∙ ap (λ (v : IdsWithRoom). is_among c.args.id.now v.ids) c.self.view_is

pub returns-in-None : goal.returns-in-None
returns-in-None c = missing_is_not_vouched c.args.id.now c.self.inside.slots.entries c.in-None.ensures.value ∙ ap (λ (v : IdsWithRoom). is_among c.args.id.now v.ids) c.self.view_is
