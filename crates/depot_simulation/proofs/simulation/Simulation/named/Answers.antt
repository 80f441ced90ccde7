use Rattle.std.proofs.Common.{ap, ◌∙◌, ◌++◌, ◌∷◌, []}
use Rattle.depot_base.specs.declared.update.Dep.{Dep}
use Rattle.depot_simulation.proofs.LabelledUpdates.{fits_here, none_named, nothing_named, one_named}
use Rattle.depot_simulation.proofs.simulation.Simulation.named.Goals as goal

pub loop-r-init : goal.loop-r-init
loop-r-init g c = λ setup run at. none_named run c.args.refs.now c.new-named.result c.new-named.ensures

pub returns-in_default : goal.returns-in_default
returns-in_default g c = λ setup run at. nothing_named run c.args.refs.now c.loop-r.r-index c.r-item.result c.loop-r-test.true c.r-item.is (c.in_default.ensures setup run at)

pub entry_of-requires : goal.entry_of-requires
entry_of-requires g c = fits_here g.A.Actor.view g.A.Reader.Reading.reads c.args.self.now g.met.A.Actor.lawful c.requires c.r-item.result c.in-Some.update.now c.in-Some.ensures

pub loop-r-preserved : goal.loop-r-preserved
loop-r-preserved g c = λ setup run at.
    one_named run c.args.refs.now c.loop-r.r-index c.r-item.result c.in-Some.update.now c.loop-r.named c.push.new.self c.loop-r-test.true c.r-item.is (c.in-Some.ensures setup run at)
    (c.in_ok-push.ensures.ok ∙ ap (λ (d : Dep). c.loop-r.named ++ d ∷ []) c.in_ok-entry_of.ensures) (c.loop-r.invariant setup run at)
