use Rattle.std.proofs.Common.{List, Bool, [], ◌++◌, Ok, subst}
use Rattle.std.specs.List.{flat_map}
use Rattle.depot_base.specs.declared.memory.Memory.{Memory}
use Rattle.depot_model.specs.exchange.Bundle.{Parcel, candidate_parcels, wanted_parcel, hashes_of}
use Rattle.depot_gossip.specs.Choosing.{AreHashesOf, records_at}
use Rattle.depot_gossip.proofs.ChoiceLaws.{wanted_alike}
use Rattle.depot_gossip.specs.Choices.{Chooses, ChoosesTo}
use Rattle.depot_gossip.proofs.BoundedChoices.{stopped_on}
use Rattle.depot_gossip.proofs.choosing.choose_all.Goals as goal

pub returns-then-not-branch : goal.returns-then-not-branch
returns-then-not-branch g c =
    let J = g.R.NodeState.records c.args.node.now in
    let me = (g.R.NodeState.stands c.args.node.now).me in
    let xs = candidate_parcels (g.R.NodeState.signature_of c.args.node.now) J [] (records_at J c.args.places.now) in
    stopped_on me J c.args.room.now xs (flat_map (wanted_parcel J (hashes_of xs)) c.args.wanted.now) c.choose_candidates.new.choice
    (subst (λ (b : Bool). Chooses me J c.args.room.now xs c.choose_candidates.new.choice b) c.if-not-branch.true c.in_ok-choose_candidates.ensures.chooses)

pub returns : goal.returns
returns g c =
    let J = g.R.NodeState.records c.args.node.now in
    let me = (g.R.NodeState.stands c.args.node.now).me in
    let xs = candidate_parcels (g.R.NodeState.signature_of c.args.node.now) J [] (records_at J c.args.places.now) in
    let chosen = subst (λ (b : Bool). Chooses me J c.args.room.now xs c.choose_candidates.new.choice b) c.if-not-branch.false c.in_ok-choose_candidates.ensures.chooses in
    let alike = subst (λ (b : Bool). AreHashesOf {E = Memory} xs (Ok b) c.choose_candidates.new.hashes.keys) c.if-not-branch.false c.in_ok-choose_candidates.ensures.hashes in
    subst (λ (ys : List Parcel). ChoosesTo me J c.args.room.now (xs ++ ys) c.choose_wanted.new.choice c.choose_wanted.result) (wanted_alike J c.choose_candidates.new.hashes.keys (hashes_of xs) c.args.wanted.now alike)
    (c.choose_wanted.ensures xs chosen)
