use Rattle.std.proofs.Common.{List, ℕ, Bool, [], ◌++◌, ◌∷◌, map, take, Ok, sym, ap, subst, arith}
use Rattle.std.proofs.lemmas.List.{take_all}
use Rattle.sha2.specs.Sha256.{sha256}
use Rattle.depot_base.specs.declared.memory.Memory.{Memory}
use Rattle.depot_model.specs.lists.Lists.{is_among}
use Rattle.depot_model.specs.exchange.Bundle.{Parcel, candidate_parcel, candidate_parcels, hashes_of}
use Rattle.depot_gossip.specs.Choosing.{AddsHashes, AreAlike, records_at}
use Rattle.depot_gossip.proofs.ChoiceLaws.{tells_at, next_place, place_parcels, alike_push}
use Rattle.depot_gossip.specs.Choices.{Chooses, IsChosenFrom}
use Rattle.depot_gossip.proofs.ChosenLaws.{place_stopped}
use Rattle.depot_gossip.proofs.choosing.choose_candidates.Goals as goal

pub loop-place-init : goal.loop-place-init
unfolding candidate_parcels
loop-place-init g c = record { chosen = c.requires.none; alike = λ h. ap (is_among h) c.requires.new }

pub choose_candidate-requires-clause-tells : goal.choose_candidate-requires-clause-tells
choose_candidate-requires-clause-tells g c = tells_at (g.R.NodeState.records c.args.node.now) c.args.places.now c.loop-place.place-index c.loop-place-test.true c.requires.tell

pub returns : goal.returns
returns g c =
    let sign = g.R.NodeState.signature_of c.args.node.now in
    let J = g.R.NodeState.records c.args.node.now in
    let all = take_all c.loop-place.place-index c.args.places.now (omega arith) in
    record {
      chooses = subst (λ (places : List ℕ). IsChosenFrom (g.R.NodeState.stands c.args.node.now).me J c.args.room.now (candidate_parcels sign J [] (records_at J places)) c.loop-place.choice) all c.loop-place.invariant.chosen;
      hashes = subst (λ (places : List ℕ). AreAlike c.loop-place.hashes.keys (hashes_of (candidate_parcels sign J [] (records_at J places)))) all c.loop-place.invariant.alike;
    }

pub loop-place-preserved : goal.loop-place-preserved
loop-place-preserved g c =
    let me = (g.R.NodeState.stands c.args.node.now).me in
    let sign = g.R.NodeState.signature_of c.args.node.now in
    let J = g.R.NodeState.records c.args.node.now in
    let keys = c.loop-place.hashes.keys in
    let n = next_place J c.args.places.now c.loop-place.place-index c.loop-place-test.true c.requires.tell in
    let before = candidate_parcels sign J [] (records_at J (take c.loop-place.place-index c.args.places.now)) in
    let x = candidate_parcel sign J keys n.place.item in
    let longer = place_parcels sign J keys c.args.places.now c.loop-place.place-index n c.loop-place.invariant.alike in
    let chosen = subst (λ (b : Bool). Chooses me J c.args.room.now (before ++ x ∷ []) c.choose_candidate.new.choice b) c.if-not-branch.false (c.in_ok-choose_candidate.ensures.chooses n.place.item n.place.at before c.loop-place.invariant.chosen) in
    let too = subst (λ (b : Bool). AddsHashes {E = Memory} keys (map sha256 x.values) (Ok b) c.choose_candidate.new.hashes.keys) c.if-not-branch.false (c.in_ok-choose_candidate.ensures.hashes n.place.item n.place.at) in
    record {
      chosen = subst (λ (xs : List Parcel). IsChosenFrom me J c.args.room.now xs c.choose_candidate.new.choice) (sym longer) chosen;
      alike = subst (λ (xs : List Parcel). AreAlike c.choose_candidate.new.hashes.keys (hashes_of xs)) (sym longer) (alike_push keys c.choose_candidate.new.hashes.keys before x c.loop-place.invariant.alike too);
    }

pub returns-then-not-branch-clause-chooses : goal.returns-then-not-branch-clause-chooses
returns-then-not-branch-clause-chooses g c =
    let me = (g.R.NodeState.stands c.args.node.now).me in
    let sign = g.R.NodeState.signature_of c.args.node.now in
    let J = g.R.NodeState.records c.args.node.now in
    let keys = c.loop-place.hashes.keys in
    let n = next_place J c.args.places.now c.loop-place.place-index c.loop-place-test.true c.requires.tell in
    let before = candidate_parcels sign J [] (records_at J (take c.loop-place.place-index c.args.places.now)) in
    let x = candidate_parcel sign J keys n.place.item in
    let cut = subst (λ (b : Bool). Chooses me J c.args.room.now (before ++ x ∷ []) c.choose_candidate.new.choice b) c.if-not-branch.true (c.in_ok-choose_candidate.ensures.chooses n.place.item n.place.at before c.loop-place.invariant.chosen) in
    place_stopped me sign J c.args.room.now keys c.args.places.now c.loop-place.place-index n c.choose_candidate.new.choice c.loop-place.invariant.alike cut
