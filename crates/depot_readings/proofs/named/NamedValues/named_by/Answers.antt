use Rattle.std.proofs.Common.{◌≡◌, List, IfOk, ap, subst, ◌∙◌}
use Rattle.depot_base.specs.declared.record.Record.{Record}
use Rattle.depot_base.specs.declared.update.NamedValue.{NamedValue}
use Rattle.depot_model.specs.journals.Journal.{accepted}
use Rattle.depot_readings.specs.Named.{values_named_in}
use Rattle.depot_readings.proofs.NamedLaws.{growth_brings}
use Rattle.depot_readings.proofs.named.NamedValues.named_by.Goals as goal

pub returns : goal.returns
returns c = subst (λ (ns : List NamedValue). IfOk c.named_in.result (λ list. list.items ≡ ns)) (growth_brings c.growth.inside.news ∙ ap (λ (rs : List Record). values_named_in (accepted rs)) c.growth.view_is) c.named_in.ensures
