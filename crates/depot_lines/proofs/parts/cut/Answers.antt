use Rattle.depot_lines.proofs.PartSteps.{found, missing}
use Rattle.depot_lines.proofs.parts.cut.Goals as goal

pub returns-in-Some : goal.returns-in-Some
returns-in-Some c =
    let f = found c.args.separator c.args.text.now c.in-Some.place c.in-Some.ensures.place in
    rw (c.split_at.ensures.front, c.split_at-in-Some.ensures.back) f.1

pub returns-in-None : goal.returns-in-None
returns-in-None c = missing c.args.separator c.args.text.now c.in-None.ensures.place
