use Rattle.std.proofs.Common.{ℕ, List, subst}
use Rattle.depot_order.specs.LatestItems.{IsMended}
use Rattle.depot_order.specs.KeyLists.{latest_of}
use Rattle.depot_order.proofs.ItemLists.{has_of_all}
use Rattle.depot_order.proofs.MendedLists.{latest_mended}
use Rattle.depot_order.proofs.index.KeyIndex.add.Goals as goal

pub returns-clause-latest : goal.returns-clause-latest
returns-clause-latest g c = λ among newest latest.
    let order = c.args.order.now in
    let item = c.args.item in
    let old = latest_of c.args.key.now c.args.self.now in
    let new = latest_of c.args.key.now c.mend_list.new.self in
    let has = has_of_all (g.P.Precedes.has order) old c.requires.items in
    let law = g.met.P.Precedes in
    let mended = subst (λ (l : List ℕ). IsMended (g.P.Precedes.precedes order) (g.P.Precedes.listed order) item l new) (c.in_ok-reserve.ensures.same c.args.key.now) c.mend_list.ensures.mended in
    latest_mended (g.P.Precedes.precedes order) (g.P.Precedes.listed order) item among old new (record {
      no_self = law.precedes_no_self order item c.requires.item;
      all = λ a on. law.lists_all order a item (has a on) c.requires.item;
      on = λ a b a_in b_in. law.lists_on order item a b c.requires.item (has a a_in) (has b b_in);
    }) mended newest latest
