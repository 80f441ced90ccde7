use Rattle.depot_order.proofs.ItemLists.{has_of_all}
use Rattle.depot_order.proofs.MendedLists.{latest_one}
use Rattle.depot_order.proofs.latest.latest_items_are_one_list.Goals as goal

pub returns : goal.returns
returns g c = λ among xs ys all first second.
    let order = c.args.order.now in
    let has = has_of_all (g.P.Precedes.has order) among all in
    let law = g.met.P.Precedes in
    latest_one (g.P.Precedes.precedes order) (g.P.Precedes.listed order) among xs ys (λ a on. law.lists_no_self order a (has a on)) (λ a b a_in b_in. law.lists_on order a b a (has a a_in) (has b b_in) (has a a_in)) first second
