use Rattle.std.proofs.Common.{◌≡◌, List, ℕ, Bool, [], ◌++◌, map, sym, ap, subst, ◌∙◌}
use Rattle.std.specs.List.{AllByRecursion, filter, flat_map}
use Rattle.std.proofs.lemmas.List.{append-nil}
use Rattle.depot_model.specs.exchange.Bundle.{Parcel, candidate_parcels, candidate_places, candidates, wanted_parcel, hashes_of}
use Rattle.depot_gossip.specs.Choosing.{HasUpdateAt, records_at}
use Rattle.depot_gossip.proofs.ChoiceLaws.{candidates_at, parcels_are}
use Rattle.depot_gossip.specs.Bounding.{is_own_record, own_parcels, parcels_of}
use Rattle.depot_gossip.specs.Choices.{ChoosesTo, is_of_at}
use Rattle.depot_gossip.proofs.WithinLaws.{own_records, own_tell}
use Rattle.depot_gossip.proofs.choosing.choose_for.Goals as goal

pub choose_all-requires-clause-tell : goal.choose_all-requires-clause-tell
choose_all-requires-clause-tell g c =
    let J = g.R.NodeState.records c.args.node.now in
    let me = (g.R.NodeState.stands c.args.node.now).me in
    let same = c.as_slice-then-own.ensures ∙ c.in_ok-mine.ensures ∙ ap (filter (is_of_at me J)) (c.as_slice.ensures ∙ c.in_ok-places.ensures) in
    subst (λ (places : List ℕ). AllByRecursion (HasUpdateAt J) places) (sym same) (own_tell me J (candidate_places J c.in_ok-ids.ids c.args.hello.now.node) (candidates_at J c.in_ok-ids.ids c.args.hello.now.node).tell)

pub returns-then-own : goal.returns-then-own
unfolding own_parcels
returns-then-own g c =
    let J = g.R.NodeState.records c.args.node.now in
    let me = (g.R.NodeState.stands c.args.node.now).me in
    let sign = g.R.NodeState.signature_of c.args.node.now in
    let h = c.args.hello.now in
    let at = candidates_at J c.in_ok-ids.ids h.node in
    let same = c.as_slice-then-own.ensures ∙ c.in_ok-mine.ensures ∙ ap (filter (is_of_at me J)) (c.as_slice.ensures ∙ c.in_ok-places.ensures) in
    let records : records_at J c.as_slice-then-own.result.now ≡ filter (is_own_record me) (candidates J (map (λ l. l.id) h.leaves) h.node) =
    ap (records_at J) same ∙ own_records me J (candidate_places J c.in_ok-ids.ids h.node) at.tell ∙ ap (filter (is_own_record me)) at.records
    ∙ ap (λ (ids : List (List ℕ)). filter (is_own_record me) (candidates J ids h.node)) c.in_ok-ids.ensures in
    let all = append-nil (candidate_parcels sign J [] (records_at J c.as_slice-then-own.result.now)) ∙ ap (candidate_parcels sign J []) records in
    let own = subst (λ (xs : List Parcel). ChoosesTo me J c.args.room.now xs c.choose_all.new.choice c.choose_all.result) all c.choose_all.ensures in
    subst (λ (b : Bool). ChoosesTo me J c.args.room.now (parcels_of me sign J h b) c.choose_all.new.choice c.choose_all.result) (sym c.if-own.true) own

pub choose_all-requires-2-clause-tell : goal.choose_all-requires-2-clause-tell
choose_all-requires-2-clause-tell g c =
    let J = g.R.NodeState.records c.args.node.now in
    let same = c.as_slice-2.ensures ∙ c.in_ok-places.ensures in
    subst (λ (places : List ℕ). AllByRecursion (HasUpdateAt J) places) (sym same) (candidates_at J c.in_ok-ids.ids c.args.hello.now.node).tell

pub returns : goal.returns
returns g c =
    let J = g.R.NodeState.records c.args.node.now in
    let sign = g.R.NodeState.signature_of c.args.node.now in
    let me = (g.R.NodeState.stands c.args.node.now).me in
    let h = c.args.hello.now in
    let are = parcels_are sign J h c.as_slice-2.result.now (c.as_slice-2.ensures ∙ c.in_ok-places.ensures ∙ ap (λ (ids : List (List ℕ)). candidate_places J ids h.node) c.in_ok-ids.ensures) in
    let front = candidate_parcels sign J [] (records_at J c.as_slice-2.result.now) in
    let wanted = subst (λ (hs : List (List ℕ)). ChoosesTo me J c.args.room.now (front ++ flat_map (wanted_parcel J (hashes_of front)) hs) c.choose_all-2.new.choice c.choose_all-2.result) c.as_slice-3.ensures c.choose_all-2.ensures in
    let all = subst (λ (xs : List Parcel). ChoosesTo me J c.args.room.now xs c.choose_all-2.new.choice c.choose_all-2.result) (sym are) wanted in
    subst (λ (b : Bool). ChoosesTo me J c.args.room.now (parcels_of me sign J h b) c.choose_all-2.new.choice c.choose_all-2.result) (sym c.if-own.false) all
