use Rattle.std.proofs.Common.{◌∙◌, sym, ap, map, ℕ, Option}
use Rattle.std.proofs.lemmas.List.{map-set}
use Rattle.depot_graph.specs.Kin.{with_siblings}
use Rattle.depot_graph.proofs.graph.replace_list.Goals as goal

pub returns-in-Some-clause-lists : goal.returns-in-Some-clause-lists
returns-in-Some-clause-lists c =
    map-set (λ list. list.items) c.args.lists.now.items c.in-Some.prev c.args.list
    ∙ ap (λ (prev : Option ℕ). with_siblings prev c.args.list.items (map (λ list. list.items) c.args.lists.now.items)) (sym c.in-Some.is)
