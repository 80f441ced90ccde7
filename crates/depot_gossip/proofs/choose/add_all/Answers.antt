use Rattle.std.proofs.Common.{List, Bool, [], ◌++◌, Ok, subst}
use Rattle.std.specs.List.{flat_map}
use Rattle.depot_base.specs.declared.memory.Memory.{Memory}
use Rattle.depot_model.specs.exchange.Bundle.{Parcel, candidate_parcels, wanted_parcel, hashes_of}
use Rattle.depot_gossip.specs.Choosing.{Carries, AddsTo, AreHashesOf, records_at}
use Rattle.depot_gossip.proofs.FitLaws.{cut_on}
use Rattle.depot_gossip.proofs.ChoiceLaws.{wanted_alike}
use Rattle.depot_gossip.proofs.choose.add_all.Goals as goal

pub add_wanted-requires-clause-some : goal.add_wanted-requires-clause-some
add_wanted-requires-clause-some g c =
    let xs = candidate_parcels (g.R.NodeState.signature_of c.args.node.now) (g.R.NodeState.records c.args.node.now) [] (records_at (g.R.NodeState.records c.args.node.now) c.args.places.now) in
    (xs, subst (λ (b : Bool). Carries (g.R.NodeState.stands c.args.node.now).me xs c.add_candidates.new.sending b) c.if-not-branch.false c.in_ok-add_candidates.ensures.adds)

pub returns-then-not-branch : goal.returns-then-not-branch
returns-then-not-branch g c =
    let J = g.R.NodeState.records c.args.node.now in
    let xs = candidate_parcels (g.R.NodeState.signature_of c.args.node.now) J [] (records_at J c.args.places.now) in
    cut_on (g.R.NodeState.stands c.args.node.now).me xs (flat_map (wanted_parcel J (hashes_of xs)) c.args.wanted.now) c.add_candidates.new.sending
    (subst (λ (b : Bool). Carries (g.R.NodeState.stands c.args.node.now).me xs c.add_candidates.new.sending b) c.if-not-branch.true c.in_ok-add_candidates.ensures.adds)

pub returns : goal.returns
returns g c =
    let J = g.R.NodeState.records c.args.node.now in
    let me = (g.R.NodeState.stands c.args.node.now).me in
    let xs = candidate_parcels (g.R.NodeState.signature_of c.args.node.now) J [] (records_at J c.args.places.now) in
    let holds = subst (λ (b : Bool). Carries me xs c.add_candidates.new.sending b) c.if-not-branch.false c.in_ok-add_candidates.ensures.adds in
    let alike = subst (λ (b : Bool). AreHashesOf {E = Memory} xs (Ok b) c.add_candidates.new.hashes.keys) c.if-not-branch.false c.in_ok-add_candidates.ensures.hashes in
    subst (λ (ys : List Parcel). AddsTo me (xs ++ ys) c.add_wanted.new.sending c.add_wanted.result) (wanted_alike J c.add_candidates.new.hashes.keys (hashes_of xs) c.args.wanted.now alike)
    (c.add_wanted.ensures xs holds)
