use Rattle.std.proofs.Common.{◌≡◌, ◌++◌, map, drop}
use Rattle.depot_model.specs.lists.Items.{places_of}
use Rattle.depot_accept.proofs.ParentItems.{first_lost}
use Rattle.depot_accept.proofs.content.find_entries.Given as goal

abbrev pub invariant-loop-dep : goal.invariant-loop-dep
invariant-loop-dep g l = record {
  first : first_lost (g.P.Past.updates l.past) (map (λ d. d.id) l.deps) ≡ first_lost (g.P.Past.updates l.past) (map (λ d. d.id) (drop l.dep-index l.deps));
  items : l.initial.items.items ++ places_of (g.P.Past.updates l.past) (map (λ d. d.id) l.deps) ≡ l.items.items ++ places_of (g.P.Past.updates l.past) (map (λ d. d.id) (drop l.dep-index l.deps));
}
