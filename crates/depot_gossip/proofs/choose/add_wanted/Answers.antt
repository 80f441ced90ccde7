use Rattle.std.proofs.Common.{List, ℕ, Bool, ◌++◌, take, sym, subst, arith}
use Rattle.std.specs.List.{flat_map}
use Rattle.std.proofs.lemmas.List.{append-nil, take_all}
use Rattle.depot_model.specs.exchange.Bundle.{Parcel, wanted_parcel}
use Rattle.depot_streams.specs.Sendings.{Holds}
use Rattle.depot_gossip.specs.Choosing.{IsCutAt, Carries}
use Rattle.depot_gossip.proofs.FitLaws.{is_short}
use Rattle.depot_gossip.proofs.ChoiceLaws.{wanted_push, wanted_cut}
use Rattle.depot_gossip.proofs.choose.add_wanted.Goals as goal

pub loop-hash-init : goal.loop-hash-init
loop-hash-init g c = λ xs holds. subst (λ (ys : List Parcel). Holds (g.R.NodeState.stands c.args.node.now).me ys c.args.sending.now) (sym (append-nil xs)) holds

pub add_wanted_value-requires-clause-short : goal.add_wanted_value-requires-clause-short
add_wanted_value-requires-clause-short g c =
    is_short (g.R.NodeState.stands c.args.node.now).me (c.requires.some.0 ++ flat_map (wanted_parcel (g.R.NodeState.records c.args.node.now) c.args.hashes.now.keys) (take c.loop-hash.hash-index c.args.wanted.now)) c.loop-hash.sending
    (c.loop-hash.invariant c.requires.some.0 c.requires.some.1)

pub returns : goal.returns
returns g c = λ xs holds.
    subst (λ (hs : List (List ℕ)). Holds (g.R.NodeState.stands c.args.node.now).me (xs ++ flat_map (wanted_parcel (g.R.NodeState.records c.args.node.now) c.args.hashes.now.keys) hs) c.loop-hash.sending)
    (take_all c.loop-hash.hash-index c.args.wanted.now (omega arith)) (c.loop-hash.invariant xs holds)

pub returns-then-not-branch : goal.returns-then-not-branch
returns-then-not-branch g c = λ xs holds.
    let me = (g.R.NodeState.stands c.args.node.now).me in
    let J = g.R.NodeState.records c.args.node.now in
    let keys = c.args.hashes.now.keys in
    let before = xs ++ flat_map (wanted_parcel J keys) (take c.loop-hash.hash-index c.args.wanted.now) in
    let cut = subst (λ (b : Bool). Carries me (before ++ wanted_parcel J keys c.hash-item.result) c.add_wanted_value.new.sending b) c.if-not-branch.true (c.in_ok-add_wanted_value.ensures before (c.loop-hash.invariant xs holds)) in
    wanted_cut me J keys c.args.wanted.now c.loop-hash.hash-index xs c.add_wanted_value.new.sending
    (subst (λ (ys : List Parcel). IsCutAt me ys c.add_wanted_value.new.sending) (wanted_push J keys c.args.wanted.now c.loop-hash.hash-index c.hash-item.result xs c.loop-hash-test.true c.hash-item.is) cut)

pub loop-hash-preserved : goal.loop-hash-preserved
loop-hash-preserved g c = λ xs holds.
    let me = (g.R.NodeState.stands c.args.node.now).me in
    let J = g.R.NodeState.records c.args.node.now in
    let keys = c.args.hashes.now.keys in
    let before = xs ++ flat_map (wanted_parcel J keys) (take c.loop-hash.hash-index c.args.wanted.now) in
    let more = subst (λ (b : Bool). Carries me (before ++ wanted_parcel J keys c.hash-item.result) c.add_wanted_value.new.sending b) c.if-not-branch.false (c.in_ok-add_wanted_value.ensures before (c.loop-hash.invariant xs holds)) in
    subst (λ (ys : List Parcel). Holds me ys c.add_wanted_value.new.sending) (wanted_push J keys c.args.wanted.now c.loop-hash.hash-index c.hash-item.result xs c.loop-hash-test.true c.hash-item.is) more
