use Rattle.std.proofs.Common.{List, ℕ, ◌++◌, take, sym, ap, ◌∙◌}
use Rattle.std.proofs.lemmas.List.{append-nil}
use Rattle.std.proofs.lemmas.Result.{on_ok_weaker}
use Rattle.depot_graph.specs.Kept.{updates_in}
use Rattle.depot_gossip.proofs.FarPlaces.{far_of_none, far_of_some}
use Rattle.depot_gossip.proofs.far.add_far_of.Goals as goal

pub returns-in-Some : goal.returns-in-Some
returns-in-Some c =
    let us = updates_in c.args.graph.now.items.entries in
    on_ok_weaker c.add_far.result (λ added. ap (take c.args.most) (added ∙ ap (λ (ys : List ℕ). c.args.items.now.items ++ ys) (sym (far_of_some us c.args.leaf.now.id c.in-Some.item (sym c.find.ensures ∙ c.in-Some.is))))) c.add_far.ensures

pub returns-in-None : goal.returns-in-None
returns-in-None c =
    let us = updates_in c.args.graph.now.items.entries in
    ap (take c.args.most) (sym (ap (λ (ys : List ℕ). c.args.items.now.items ++ ys) (far_of_none us c.args.leaf.now.id (sym c.find.ensures ∙ c.in-None.is)) ∙ append-nil c.args.items.now.items))
