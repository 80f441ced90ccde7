use Rattle.std.proofs.Common.{List, ℕ, Bool, [], ◌++◌, ◌∷◌, map, take, Ok, sym, ap, subst, arith}
use Rattle.std.proofs.lemmas.List.{take_all}
use Rattle.sha2.specs.Sha256.{sha256}
use Rattle.depot_base.specs.declared.memory.Memory.{Memory}
use Rattle.depot_model.specs.lists.Lists.{is_among}
use Rattle.depot_model.specs.exchange.Bundle.{Parcel, candidate_parcel, candidate_parcels, hashes_of}
use Rattle.depot_streams.specs.Sendings.{Holds}
use Rattle.depot_gossip.specs.Choosing.{Carries, AddsHashes, AreAlike, records_at}
use Rattle.depot_gossip.proofs.FitLaws.{is_short}
use Rattle.depot_gossip.proofs.ChoiceLaws.{tells_at, next_place, place_parcels, place_cut, alike_push}
use Rattle.depot_gossip.proofs.choose.add_candidates.Goals as goal

pub loop-place-init : goal.loop-place-init
unfolding candidate_parcels
loop-place-init g c = record { holds = c.requires.none; alike = λ h. ap (is_among h) c.requires.new }

pub add_candidate-requires-clause-tells : goal.add_candidate-requires-clause-tells
add_candidate-requires-clause-tells g c = tells_at (g.R.NodeState.records c.args.node.now) c.args.places.now c.loop-place.place-index c.loop-place-test.true c.requires.tell

pub add_candidate-requires-clause-short : goal.add_candidate-requires-clause-short
add_candidate-requires-clause-short g c = is_short (g.R.NodeState.stands c.args.node.now).me (candidate_parcels (g.R.NodeState.signature_of c.args.node.now) (g.R.NodeState.records c.args.node.now) [] (records_at (g.R.NodeState.records c.args.node.now) (take c.loop-place.place-index c.args.places.now))) c.loop-place.sending c.loop-place.invariant.holds

pub returns : goal.returns
returns g c =
    let sign = g.R.NodeState.signature_of c.args.node.now in
    let J = g.R.NodeState.records c.args.node.now in
    let all = take_all c.loop-place.place-index c.args.places.now (omega arith) in
    record {
      adds = subst (λ (places : List ℕ). Holds (g.R.NodeState.stands c.args.node.now).me (candidate_parcels sign J [] (records_at J places)) c.loop-place.sending) all c.loop-place.invariant.holds;
      hashes = subst (λ (places : List ℕ). AreAlike c.loop-place.hashes.keys (hashes_of (candidate_parcels sign J [] (records_at J places)))) all c.loop-place.invariant.alike;
    }

pub loop-place-preserved : goal.loop-place-preserved
loop-place-preserved g c =
    let me = (g.R.NodeState.stands c.args.node.now).me in
    let sign = g.R.NodeState.signature_of c.args.node.now in
    let J = g.R.NodeState.records c.args.node.now in
    let keys = c.loop-place.hashes.keys in
    let n = next_place J c.args.places.now c.loop-place.place-index c.loop-place-test.true c.requires.tell in
    let before = candidate_parcels sign J [] (records_at J (take c.loop-place.place-index c.args.places.now)) in
    let x = candidate_parcel sign J keys n.place.item in
    let longer = place_parcels sign J keys c.args.places.now c.loop-place.place-index n c.loop-place.invariant.alike in
    let holds = subst (λ (b : Bool). Carries me (before ++ x ∷ []) c.add_candidate.new.sending b) c.if-not-branch.false (c.in_ok-add_candidate.ensures.adds n.place.item n.place.at before c.loop-place.invariant.holds) in
    let too = subst (λ (b : Bool). AddsHashes {E = Memory} keys (map sha256 x.values) (Ok b) c.add_candidate.new.hashes.keys) c.if-not-branch.false (c.in_ok-add_candidate.ensures.hashes n.place.item n.place.at) in
    record {
      holds = subst (λ (xs : List Parcel). Holds me xs c.add_candidate.new.sending) (sym longer) holds;
      alike = subst (λ (xs : List Parcel). AreAlike c.add_candidate.new.hashes.keys (hashes_of xs)) (sym longer) (alike_push keys c.add_candidate.new.hashes.keys before x c.loop-place.invariant.alike too);
    }

pub returns-then-not-branch-clause-adds : goal.returns-then-not-branch-clause-adds
returns-then-not-branch-clause-adds g c =
    let me = (g.R.NodeState.stands c.args.node.now).me in
    let sign = g.R.NodeState.signature_of c.args.node.now in
    let J = g.R.NodeState.records c.args.node.now in
    let keys = c.loop-place.hashes.keys in
    let n = next_place J c.args.places.now c.loop-place.place-index c.loop-place-test.true c.requires.tell in
    let before = candidate_parcels sign J [] (records_at J (take c.loop-place.place-index c.args.places.now)) in
    let x = candidate_parcel sign J keys n.place.item in
    let cut = subst (λ (b : Bool). Carries me (before ++ x ∷ []) c.add_candidate.new.sending b) c.if-not-branch.true (c.in_ok-add_candidate.ensures.adds n.place.item n.place.at before c.loop-place.invariant.holds) in
    place_cut me sign J keys c.args.places.now c.loop-place.place-index n c.add_candidate.new.sending c.loop-place.invariant.alike cut
