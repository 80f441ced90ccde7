use Rattle.std.proofs.Common.{Bool, [], ◌∷◌, subst}
use Rattle.depot_model.specs.exchange.Bundle.{candidate_parcel}
use Rattle.depot_gossip.specs.Choosing.{Carries}
use Rattle.depot_gossip.proofs.BundleAnswers.{left_is_unvouched}
use Rattle.depot_gossip.proofs.FitLaws.{is_short}
use Rattle.depot_gossip.proofs.ChosenLaws.{cut_alone}
use Rattle.depot_gossip.proofs.choosing.choose_candidate.Goals as goal

pub add_candidate-requires-clause-short : goal.add_candidate-requires-clause-short
add_candidate-requires-clause-short g c = is_short (g.R.NodeState.stands c.args.node.now).me [] c.new-parcel.result (c.new-parcel.ensures (g.R.NodeState.stands c.args.node.now).me)

pub returns-then-not-branch-clause-chooses : goal.returns-then-not-branch-clause-chooses
returns-then-not-branch-clause-chooses g c = λ r at xs k.
    let me = (g.R.NodeState.stands c.args.node.now).me in
    let x = candidate_parcel (g.R.NodeState.signature_of c.args.node.now) (g.R.NodeState.records c.args.node.now) c.args.hashes.now.keys r in
    cut_alone me (g.R.NodeState.records c.args.node.now) c.args.room.now xs x c.args.choice.now c.add_candidate.new.sending k
    (subst (λ (b : Bool). Carries me (x ∷ []) c.add_candidate.new.sending b) c.if-not-branch.true (c.in_ok-add_candidate.ensures.adds r at [] (c.new-parcel.ensures me)))

pub returns-clause-chooses : goal.returns-clause-chooses
returns-clause-chooses g c = λ r at xs k.
    let me = (g.R.NodeState.stands c.args.node.now).me in
    let J = g.R.NodeState.records c.args.node.now in
    let x = candidate_parcel (g.R.NodeState.signature_of c.args.node.now) J c.args.hashes.now.keys r in
    let holds = subst (λ (b : Bool). Carries me (x ∷ []) c.add_candidate.new.sending b) c.if-not-branch.false (c.in_ok-add_candidate.ensures.adds r at [] (c.new-parcel.ensures me)) in
    c.add.ensures me J x (record { holds = holds; ids = left_is_unvouched me J (x ∷ []) c.add_candidate.new.sending.ids c.in_ok-fresh.fresh holds.ids c.in_ok-fresh.ensures }) xs k
