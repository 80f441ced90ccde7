use Rattle.depot_simulation.proofs.SignedUpdates.{judged_done}
use Rattle.depot_simulation.proofs.simulation.Simulation.judge.Goals as goal

pub returns : goal.returns
returns g c = λ setup run on at.
    let bytes = c.bytes_of.result.now in
    judged_done g.row.A.Denot g.A.Actor.view g.A.Reader.Reading.reads setup run c.args.label.now bytes c.in_ok-lines.lines c.push_all.new.self c.args.self.now at (c.bytes_of.ensures setup run at)
    (c.in_ok-lines.ensures.answer setup run on.verifies_is on.listed_is) (c.in_ok-lines.ensures.behind setup run) c.in_ok-push_all.ensures.ok
