use Rattle.std.proofs.Common.{ℕ, sym, ap, ◌∙◌}
use Rattle.depot_model.specs.journals.Journal.{accepted}
use Rattle.depot_readings.specs.LeavesWith.{leaves_with}
use Rattle.depot_readings.specs.ReadingsView.{standing}
use Rattle.depot_readings.proofs.readings.Readings.limit.Goals as goal

pub returns : goal.returns
returns g c =
    let J = c.args.self.now.records in
    c.limit.ensures.lawful (standing g.S.Scheme.verifies c.args.self.now) J c.counts.ensures.lawful c.requires c.counts.ensures.counts
    (c.leaves_with.ensures ∙ ap (λ (n : ℕ). leaves_with (accepted J) n c.args.new.now) (sym c.counts.ensures.counts.leaves))
