use Rattle.std.proofs.Common.{ℕ, List, eqb, subst, ◌∙◌}
use Rattle.std.proofs.lemmas.List.Filters.{dedup_is}
use Rattle.depot_queries.specs.InFront.{AreVoucherPlaces}
use Rattle.depot_queries.proofs.FrontOrder.{places_are}
use Rattle.depot_queries.proofs.in_front.voucher_places.Goals as goal

pub returns : goal.returns
returns g c =
    let J = c.args.readings.now.records in
    let found = c.in_ok-found.found.items in
    let sorted = c.sort_unstable.new.self.items in
    c.from_vec.ensures ∙ places_are J c.args.ids.now found sorted c.dedup.new.self.items (subst (λ (ids : List (List ℕ)). AreVoucherPlaces J ids found) c.as_slice.ensures c.in_ok-found.ensures) c.sort_unstable.ensures.permutation c.sort_unstable.ensures.sorted (dedup_is eqb sorted c.dedup.new.self.items c.dedup.ensures.filtered)
