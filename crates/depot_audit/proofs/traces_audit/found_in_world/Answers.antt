use Rattle.std.proofs.Common.{ap, option_map, sym, ◌∙◌}
use Rattle.depot_traces.specs.SeenTraces.{finding_of}
use Rattle.depot_audit.proofs.WorldFindings.{one_broken, one_named, none_found}
use Rattle.depot_audit.proofs.traces_audit.found_in_world.Goals as goal

pub returns-in-Some : goal.returns-in-Some
returns-in-Some c = λ W of. one_broken W of.is_world (finding_of c.in-Some.found) (sym (ap (option_map finding_of) c.in-Some.is) ∙ c.in_ok-found.ensures W of)

pub returns-in-Some-2 : goal.returns-in-Some-2
returns-in-Some-2 c = λ W of.
    one_named W of.is_world (finding_of c.in-Some-2.found) (sym (ap (option_map finding_of) c.in-None.is) ∙ c.in_ok-found.ensures W of) (sym (ap (option_map finding_of) c.in-Some-2.is) ∙ c.in_ok-found-in-None.ensures W of)

pub returns-in-None-2 : goal.returns-in-None-2
returns-in-None-2 c = λ W of.
    none_found W of.is_world (sym (ap (option_map finding_of) c.in-None.is) ∙ c.in_ok-found.ensures W of) (sym (ap (option_map finding_of) c.in-None-2.is) ∙ c.in_ok-found-in-None.ensures W of)
