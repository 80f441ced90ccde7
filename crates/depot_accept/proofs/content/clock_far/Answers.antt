use Rattle.std.proofs.Common.{◌≡◌, ◌+◌, true, false, sym, arith}
use Rattle.std.specs.Prelude.{nat_lt}
use Rattle.std.proofs.lemmas.Bool.Decides.{nat_tests}
use Rattle.depot_model.specs.updates.Order.{parents}
use Rattle.depot_graph.proofs.ItemPlaces.{places_within}
use Rattle.depot_accept.proofs.ParentItems.{far_above}
use Rattle.depot_accept.proofs.content.clock_far.Goals as goal

pub greatest_clock-greatest-requires : goal.greatest_clock-greatest-requires
greatest_clock-greatest-requires g c = places_within (g.P.Past.updates c.args.past.now) (parents c.args.update.now) c.args.items.now c.requires

pub returns-then-saturating_sub-gt-MOST_AHEAD : goal.returns-then-saturating_sub-gt-MOST_AHEAD
returns-then-saturating_sub-gt-MOST_AHEAD g c =
    let far : nat_lt (c.greatest_clock-greatest.result + 65536) c.args.update.now.clock ≡ true = grind (arith, nat_tests) in
    far_above (g.P.Past.updates c.args.past.now) c.args.update.now c.args.items.now c.greatest_clock-greatest.result true c.requires c.greatest_clock-greatest.ensures (sym far)

pub returns : goal.returns
returns g c =
    let near : nat_lt (c.greatest_clock-greatest.result + 65536) c.args.update.now.clock ≡ false = grind (arith, nat_tests) in
    far_above (g.P.Past.updates c.args.past.now) c.args.update.now c.args.items.now c.greatest_clock-greatest.result false c.requires c.greatest_clock-greatest.ensures (sym near)
