use Rattle.std.proofs.Common.{refl, ◌∙◌}
use Rattle.depot_simulation.proofs.ForgottenLabels.{more_forgotten, no_label_forgotten}
use Rattle.depot_simulation.proofs.simulation.Simulation.forget_labels.Goals as goal

pub loop-label-init : goal.loop-label-init
loop-label-init g c = record {
  forgets = no_label_forgotten g.A.Actor.view g.A.Reader.Reading.reads c.args.self.now c.args.uses.now.map.entries c.args.to_come;
  asked = refl;
}

pub loop-label-preserved : goal.loop-label-preserved
loop-label-preserved g c = record {
  forgets = more_forgotten g.A.Actor.view g.A.Reader.Reading.reads c.args.self.now c.loop-label.self c.forget_label.new.self c.args.uses.now.map.entries c.loop-label.uses.map.entries c.forget_label.new.uses.map.entries c.args.to_come c.loop-label.invariant.forgets
      c.forget_label.ensures.forgets;
  asked = c.forget_label.ensures.asked ∙ c.loop-label.invariant.asked;
}
