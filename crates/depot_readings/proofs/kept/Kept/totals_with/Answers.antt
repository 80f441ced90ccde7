use Rattle.std.proofs.Common.{sym, ap, ◌∙◌}
use Rattle.depot_readings.specs.declared.totals.Totals.{Totals}
use Rattle.depot_readings.proofs.TotalLaws.{clock_with, clock_without, number_with}
use Rattle.depot_readings.proofs.KeptLaws.{counted_then}
use Rattle.depot_readings.proofs.kept.Kept.totals_with.Goals as goal
use Rattle.depot_readings.proofs.kept.Kept.totals_with.Goals.{in-Update, in_default}

pub returns-in-Some : goal.returns-in-Some
returns-in-Some g c = λ J k. record {
  own = elim c.match-statement.branch [
    | in-Update w ↦ ap (λ (t : Totals). t.own) w.totals-is ∙ k.totals.own
    | in_default w ↦ ap (λ (t : Totals). t.own) w.totals-is ∙ k.totals.own
  ];
  leaves = number_with _ _ c.in-Some.leaves c.args.statement.now (sym c.in-Some.is ∙ c.requires ∙ counted_then J _ _ _ c.args.statement.now k);
  clock = elim c.match-statement.branch [
    | in-Update w ↦ clock_with _ _ w.in-Update.update _ c.args.self.now.totals.clock w.in-Update.is (ap (λ (t : Totals). t.clock) w.totals-is ∙ w.max.ensures) k.totals.clock
    | in_default w ↦ clock_without _ _ w.in_default.field-0 _ w.in_default.is (ap (λ (t : Totals). t.clock) w.totals-is ∙ k.totals.clock)
  ];
  last = elim c.match-statement.branch [
    | in-Update w ↦ ap (λ (t : Totals). t.last) w.totals-is ∙ k.totals.last
    | in_default w ↦ ap (λ (t : Totals). t.last) w.totals-is ∙ k.totals.last
  ];
}
