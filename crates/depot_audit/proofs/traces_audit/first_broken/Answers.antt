use Rattle.std.proofs.Common.{sym, ◌∙◌}
use Rattle.depot_model.specs.worlds.Audit.{circle, wrong}
use Rattle.depot_audit.proofs.WorldFindings.{only_second}
use Rattle.depot_audit.proofs.traces_audit.first_broken.Goals as goal

pub returns-then-is_apart : goal.returns-then-is_apart
returns-then-is_apart c = λ W of.
    let free = (c.is_apart.ensures W of.is_world (c.in_ok-met.ensures W of)).0 c.if-is_apart.true in
    c.first_wrong.ensures.wrong W of (c.in_ok-met.ensures W of) free ∙ sym (only_second (circle W) (wrong W) (c.first_wrong.ensures.circle W of.is_world free))
