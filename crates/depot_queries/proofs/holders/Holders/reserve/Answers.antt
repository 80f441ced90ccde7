use Rattle.std.proofs.Common.{◌≡◌, ◌∙◌, ◌+◌, ◌≤◌, vec_len, true, arith}
use Rattle.std.specs.Vec.{vec_capacity}
use Rattle.depot_queries.specs.HolderLists.{holders_of, has_place}
use Rattle.depot_queries.specs.RisingPlaces.{has_place_in}
use Rattle.depot_queries.proofs.HolderLaws.{same_nodes, places_stay, place_over}
use Rattle.depot_queries.proofs.holders.Holders.reserve.Goals as goal

pub returns-clause-same : goal.returns-clause-same
unfolding holders_of
returns-clause-same c = λ other. same_nodes c.args.self.now.lists c.insert.new.self c.args.id c.reserve.new.self c.in_ok-insert.ensures.updates.0 (c.in_ok-reserve.ensures.items ∙ (c.in_ok-list.ensures.items ∙ c.of.ensures)) other

pub returns-clause-places : goal.returns-clause-places
unfolding has_place
returns-clause-places c = λ other had.
    let more : vec_len c.reserve.new.self + 1 ≤ vec_capacity c.reserve.new.self = c.in_ok-reserve.ensures.ok in
    let place : has_place_in c.reserve.new.self c.args.node ≡ true = place_over c.reserve.new.self c.args.node (omega (arith, more)) in
    places_stay c.args.self.now.lists c.insert.new.self c.args.id c.args.node c.reserve.new.self c.in_ok-insert.ensures.updates.0 place other had
