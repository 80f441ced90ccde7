use Rattle.std.proofs.Common.{◌≡◌, ◌++◌, take, map}
use Rattle.depot_world.specs.Forgetting.{labels_of_refs}
use Rattle.depot_scenario.proofs.event_labels.with_refs.Given as goal

abbrev pub invariant-loop-reference : goal.invariant-loop-reference
invariant-loop-reference l = map (λ label. label.now) l.labels.items ≡ map (λ label. label.now) l.fn.labels.items ++ labels_of_refs (take l.reference-index l.refs)
