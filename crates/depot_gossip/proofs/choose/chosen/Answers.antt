use Rattle.std.proofs.Common.{List, ℕ, [], ◌++◌, not, sym, ap, subst, ◌∙◌}
use Rattle.std.specs.List.{AllByRecursion, flat_map}
use Rattle.depot_model.specs.exchange.Bundle.{Parcel, candidate_places, candidate_parcels, wanted_parcel, hashes_of, sent_for}
use Rattle.depot_gossip.specs.Choosing.{Carries, HasUpdateAt, records_at}
use Rattle.depot_gossip.proofs.FitLaws.{is_chosen, with_more}
use Rattle.depot_gossip.proofs.ChoiceLaws.{candidates_at, parcels_are}
use Rattle.depot_gossip.proofs.choose.chosen.Goals as goal

pub add_all-requires-clause-tell : goal.add_all-requires-clause-tell
add_all-requires-clause-tell g c =
    let J = g.R.NodeState.records c.args.node.now in
    let same = c.as_slice.ensures ∙ c.in_ok-places.ensures in
    subst (λ (places : List ℕ). AllByRecursion (HasUpdateAt J) places) (sym same) (candidates_at J c.in_ok-ids.ids c.args.hello.now.node).tell

pub add_all-requires-clause-none : goal.add_all-requires-clause-none
add_all-requires-clause-none g c = c.new-sending.ensures (g.R.NodeState.stands c.args.node.now).me

pub returns : goal.returns
returns g c =
    let J = g.R.NodeState.records c.args.node.now in
    let sign = g.R.NodeState.signature_of c.args.node.now in
    let me = (g.R.NodeState.stands c.args.node.now).me in
    let h = c.args.hello.now in
    let are = parcels_are sign J h c.as_slice.result.now (c.as_slice.ensures ∙ c.in_ok-places.ensures ∙ ap (λ (ids : List (List ℕ)). candidate_places J ids h.node) c.in_ok-ids.ensures) in
    let front = candidate_parcels sign J [] (records_at J c.as_slice.result.now) in
    let wanted = subst (λ (hs : List (List ℕ)). Carries me (front ++ flat_map (wanted_parcel J (hashes_of front)) hs) c.add_all.new.sending c.in_ok-all.all) c.as_slice-2.ensures c.in_ok-all.ensures in
    let all = subst (λ (xs : List Parcel). Carries me xs c.add_all.new.sending c.in_ok-all.all) (sym are) wanted in
    let is = is_chosen me sign J h c.add_all.new.sending c.in_ok-all.all all in
    record { holds = with_more me (sent_for sign J h) c.add_all.new.sending (not c.in_ok-all.all) is.holds; more = is.more }
