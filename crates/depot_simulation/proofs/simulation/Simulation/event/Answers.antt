use Rattle.std.proofs.Common.{◌++◌, List, ℕ, ap, ◌∙◌}
use Rattle.depot_world.specs.Transcript.{done}
use Rattle.depot_simulation.proofs.SignedUpdates.{lines_told}
use Rattle.depot_simulation.proofs.simulation.Simulation.event.Goals as goal

pub returns-clause-lines : goal.returns-clause-lines
returns-clause-lines g c = λ setup run on sound at.
    let e = c.args.event.now in
    let d = c.in_ok-behind.ensures.lines setup run on sound at in
    record {
      lines_are = lines_told e (done setup run e) c.in_ok-lines.lines c.in_ok-behind.behind c.push_all.new.self c.in_ok-lines.ensures d.lines_are
          (c.in_ok-push_all.ensures.ok ∙ ap (λ (t : List ℕ). c.in_ok-lines.lines ++ t) c.as_slice.ensures);
      at = d.at;
    }
