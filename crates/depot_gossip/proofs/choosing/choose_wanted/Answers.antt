use Rattle.std.proofs.Common.{List, ℕ, Bool, ◌++◌, take, sym, subst, arith}
use Rattle.std.specs.List.{flat_map}
use Rattle.std.proofs.lemmas.List.{append-nil, take_all}
use Rattle.depot_model.specs.exchange.Bundle.{Parcel, wanted_parcel}
use Rattle.depot_gossip.proofs.ChoiceLaws.{wanted_push}
use Rattle.depot_gossip.specs.Choices.{Chooses, IsChosenFrom, IsStoppedAt}
use Rattle.depot_gossip.proofs.ChosenLaws.{wanted_stopped}
use Rattle.depot_gossip.proofs.choosing.choose_wanted.Goals as goal

pub loop-hash-init : goal.loop-hash-init
loop-hash-init g c = λ xs k. subst (λ (ys : List Parcel). IsChosenFrom (g.R.NodeState.stands c.args.node.now).me (g.R.NodeState.records c.args.node.now) c.args.room.now ys c.args.choice.now) (sym (append-nil xs)) k

pub returns : goal.returns
returns g c = λ xs k.
    subst (λ (hs : List (List ℕ)). IsChosenFrom (g.R.NodeState.stands c.args.node.now).me (g.R.NodeState.records c.args.node.now) c.args.room.now (xs ++ flat_map (wanted_parcel (g.R.NodeState.records c.args.node.now) c.args.hashes.now.keys) hs) c.loop-hash.choice)
    (take_all c.loop-hash.hash-index c.args.wanted.now (omega arith)) (c.loop-hash.invariant xs k)

pub returns-then-not-branch : goal.returns-then-not-branch
returns-then-not-branch g c = λ xs k.
    let me = (g.R.NodeState.stands c.args.node.now).me in
    let J = g.R.NodeState.records c.args.node.now in
    let keys = c.args.hashes.now.keys in
    let before = xs ++ flat_map (wanted_parcel J keys) (take c.loop-hash.hash-index c.args.wanted.now) in
    let cut = subst (λ (b : Bool). Chooses me J c.args.room.now (before ++ wanted_parcel J keys c.hash-item.result) c.choose_wanted_value.new.choice b) c.if-not-branch.true (c.in_ok-choose_wanted_value.ensures before (c.loop-hash.invariant xs k)) in
    wanted_stopped me J c.args.room.now keys c.args.wanted.now c.loop-hash.hash-index xs c.choose_wanted_value.new.choice
    (subst (λ (ys : List Parcel). IsStoppedAt me J c.args.room.now ys c.choose_wanted_value.new.choice) (wanted_push J keys c.args.wanted.now c.loop-hash.hash-index c.hash-item.result xs c.loop-hash-test.true c.hash-item.is) cut)

pub loop-hash-preserved : goal.loop-hash-preserved
loop-hash-preserved g c = λ xs k.
    let me = (g.R.NodeState.stands c.args.node.now).me in
    let J = g.R.NodeState.records c.args.node.now in
    let keys = c.args.hashes.now.keys in
    let before = xs ++ flat_map (wanted_parcel J keys) (take c.loop-hash.hash-index c.args.wanted.now) in
    let more = subst (λ (b : Bool). Chooses me J c.args.room.now (before ++ wanted_parcel J keys c.hash-item.result) c.choose_wanted_value.new.choice b) c.if-not-branch.false (c.in_ok-choose_wanted_value.ensures before (c.loop-hash.invariant xs k)) in
    subst (λ (ys : List Parcel). IsChosenFrom me J c.args.room.now ys c.choose_wanted_value.new.choice) (wanted_push J keys c.args.wanted.now c.loop-hash.hash-index c.hash-item.result xs c.loop-hash-test.true c.hash-item.is) more
