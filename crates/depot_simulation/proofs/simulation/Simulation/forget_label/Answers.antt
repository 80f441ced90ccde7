use Rattle.std.proofs.Common.{true, refl, subst}
use Rattle.depot_scenario.specs.LabelUses.{EndsUse}
use Rattle.depot_simulation.proofs.ForgottenLabels.{none_forgotten, one_forgotten}
use Rattle.depot_simulation.proofs.simulation.Simulation.forget_label.Goals as goal

pub returns-then-end-clause-forgets : goal.returns-then-end-clause-forgets
returns-then-end-clause-forgets g c =
    one_forgotten g.A.Actor.view g.A.Reader.Reading.reads c.args.self.now (record c.args.self.now { labels = c.forget.new.self }) c.args.uses.now.map.entries c.end.new.self.map.entries c.args.label.now c.args.to_come refl refl refl c.forget.ensures
    (subst (λ (b : _). EndsUse c.args.uses.now.map.entries c.args.label.now c.args.to_come b c.end.new.self.map.entries) c.if-end.true c.end.ensures)

pub returns-else-end-clause-forgets : goal.returns-else-end-clause-forgets
returns-else-end-clause-forgets g c = none_forgotten g.A.Actor.view g.A.Reader.Reading.reads c.args.self.now c.args.uses.now.map.entries c.end.new.self.map.entries c.args.label.now c.args.to_come c.end.result c.end.ensures
