use Rattle.std.proofs.Common.{◌≡◌, ◌∙◌, List, ap, sym, subst}
use Rattle.std.specs.Prelude.{slice_get}
use Rattle.depot_answers.specs.Sightings.{sighting_of_seen}
use Rattle.depot_base.specs.declared.update.Update.{Update}
use Rattle.depot_model.specs.lists.Items.{at}
use Rattle.depot_model.specs.texts.Texts.{id_of_update}
use Rattle.depot_service.proofs.TracedReads.{is_answered, seen_fits}
use Rattle.depot_service.proofs.traces.answered.Goals as goal

pub shown-requires : goal.shown-requires
shown-requires g c =
    let J = g.N.NodeState.records c.args.node.now in
    let u = c.update.result.now in
    let there = ap (λ (us : List Update). slice_get us c.args.item) (sym c.graph-graph.ensures) ∙ c.update.ensures in
    let is = c.seen-seen.ensures J (c.value_of.ensures u there) in
    rw is (seen_fits _ J c.args.key.now u (g.met.N.Replica.lawful c.args.node.now))

pub returns : goal.returns
returns g c =
    let J = g.N.NodeState.records c.args.node.now in
    let u = c.update.result.now in
    let there = ap (λ (us : List Update). slice_get us c.args.item) (sym c.graph-graph.ensures) ∙ c.update.ensures in
    let has = subst (λ (us : List Update). at us c.args.item (λ t. id_of_update t ≡ c.id.result.now)) c.graph-graph.ensures c.id.ensures in (
      u,
      (there, is_answered _ J c.args.key.now c.id.result.now c.args.item u c.in_ok-shown.field-0 (sighting_of_seen c.seen-seen.result) (g.met.N.Replica.lawful c.args.node.now) has there (c.seen-seen.ensures J (c.value_of.ensures u there)) c.in_ok-shown.ensures),
    )
