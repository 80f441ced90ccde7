use Rattle.std.proofs.Common.{List, Option, ap, sym, ◌∙◌}
use Rattle.depot_schedule.specs.declared.event.Event.{Event}
use Rattle.depot_schedule.specs.declared.verb.Made.{Made}
use Rattle.depot_schedule.specs.EventWords.{label_made, if_named, first_or, named_by}
use Rattle.depot_schedule.proofs.LabelSteps.{named_by-push}
use Rattle.depot_schedule_parser.proofs.draft.Draft.with_event.Goals as goal

pub invariant_of-result : goal.invariant_of-result
invariant_of-result c = (
  c.self.invariant.0,
  λ label.
      c.in_ok-labels.ensures label
      ∙ ap (λ (o : Option Made). first_or (if_named label (label_made c.args.event)) o) (c.self.invariant.1 label)
      ∙ sym (named_by-push c.self.inside.schedule.events c.args.event label)
      ∙ ap (λ (es : List Event). named_by es label) (sym c.in_ok-push.ensures.ok),
)
