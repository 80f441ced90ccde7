use Rattle.std.proofs.Common.{List, Bool, [], ◌++◌, subst, sym}
use Rattle.depot_model.specs.exchange.Bundle.{Parcel, wanted_parcel}
use Rattle.depot_gossip.specs.Choosing.{Carries}
use Rattle.depot_gossip.proofs.FitLaws.{is_short}
use Rattle.depot_gossip.specs.Choices.{ChoosesTo}
use Rattle.depot_gossip.proofs.ChosenLaws.{wanted_alone, wanted_is, wanted_none, wanted_one, wanted_with}
use Rattle.depot_gossip.proofs.choosing.choose_wanted_value.Goals as goal

pub add_wanted_value-requires-clause-short : goal.add_wanted_value-requires-clause-short
add_wanted_value-requires-clause-short g c = is_short (g.R.NodeState.stands c.args.node.now).me [] c.new-parcel.result (c.new-parcel.ensures (g.R.NodeState.stands c.args.node.now).me)

pub returns-then-not-branch : goal.returns-then-not-branch
returns-then-not-branch g c = λ xs k.
    let me = (g.R.NodeState.stands c.args.node.now).me in
    let J = g.R.NodeState.records c.args.node.now in
    let w = wanted_parcel J c.args.hashes.now.keys c.args.hash.now in
    wanted_alone me J c.args.room.now xs w c.args.choice.now c.add_wanted_value.new.sending (wanted_is J c.args.hashes.now.keys c.args.hash.now) k
    (subst (λ (b : Bool). Carries me w c.add_wanted_value.new.sending b) c.if-not-branch.true (c.in_ok-add_wanted_value.ensures [] (c.new-parcel.ensures me)))

pub returns-then-parcel-eq0 : goal.returns-then-parcel-eq0
returns-then-parcel-eq0 g c = λ xs k.
    let me = (g.R.NodeState.stands c.args.node.now).me in
    let J = g.R.NodeState.records c.args.node.now in
    let w = wanted_parcel J c.args.hashes.now.keys c.args.hash.now in
    let holds = subst (λ (b : Bool). Carries me w c.add_wanted_value.new.sending b) c.if-not-branch.false (c.in_ok-add_wanted_value.ensures [] (c.new-parcel.ensures me)) in
    wanted_none me J c.args.room.now xs w c.args.choice.now c.add_wanted_value.new.sending (wanted_is J c.args.hashes.now.keys c.args.hash.now) holds c.if-parcel-eq0.true k

pub returns : goal.returns
returns g c = λ xs k.
    let me = (g.R.NodeState.stands c.args.node.now).me in
    let J = g.R.NodeState.records c.args.node.now in
    let w = wanted_parcel J c.args.hashes.now.keys c.args.hash.now in
    let holds = subst (λ (b : Bool). Carries me w c.add_wanted_value.new.sending b) c.if-not-branch.false (c.in_ok-add_wanted_value.ensures [] (c.new-parcel.ensures me)) in
    elim (wanted_one me J w c.add_wanted_value.new.sending c.new.result (wanted_is J c.args.hashes.now.keys c.args.hash.now) holds c.if-parcel-eq0.false c.new.ensures) [
      | wanted_with x is p ↦ subst (λ (ys : List Parcel). ChoosesTo me J c.args.room.now (xs ++ ys) c.add-2.new.self c.add-2.result) (sym is) (c.add-2.ensures me J x p xs k)
    ]
