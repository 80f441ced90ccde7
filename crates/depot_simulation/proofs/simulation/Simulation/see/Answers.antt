use Rattle.std.proofs.Common.{◌≡◌, ◌<◌, List, [], ◌∷◌, length, take, Some, refl, sym, ap, subst, ◌∙◌}
use Rattle.std.proofs.lemmas.Option.{slice_get_within}
use Rattle.depot_base.specs.declared.update.Update.{Update}
use Rattle.depot_model.specs.journals.Journal.{accepted}
use Rattle.depot_model.specs.texts.Texts.{id_of_update}
use Rattle.depot_world.specs.Run.{seen_with}
use Rattle.depot_scenario.specs.KnownUpdates.{HasSeenParents}
use Rattle.depot_simulation.proofs.NewUpdates.{added_fits, added_has_parents, adding_goes_on, room_for_next}
use Rattle.depot_simulation.proofs.Remembered.{seen_add_nothing}
use Rattle.depot_simulation.proofs.simulation.Simulation.see.Goals as goal

pub loop-item-init : goal.loop-item-init
loop-item-init g c = record {
  participants = refl;
  labels = refl;
  readers = refl;
  asked = refl;
  seen = sym (seen_add_nothing c.args.self.now.seen.listed.updates (take c.args.count (accepted (g.A.Actor.view c.args.actor.now).journal)) c.requires.seen);
}

pub add-requires-clause-id : goal.add-requires-clause-id
add-requires-clause-id g c =
    let t = c.id.ensures in
    let both : Some t.0 ≡ Some c.update.result.now = sym t.1.0 ∙ c.update.ensures in
    let same : t.0 ≡ c.update.result.now = cc in
    sym t.1.1 ∙ ap (λ (u : Update). id_of_update u) same

pub add-requires-clause-text : goal.add-requires-clause-text
add-requires-clause-text g c =
    let v = g.A.Actor.view c.args.actor.now in
    added_fits v.here v.journal c.loop-item.item c.update.result.now (g.met.A.Actor.lawful c.args.actor.now) c.update.ensures

pub add-requires-clause-parents : goal.add-requires-clause-parents
add-requires-clause-parents g c =
    let v = g.A.Actor.view c.args.actor.now in
    let old = c.args.self.now.seen.listed.updates in
    subst (λ (us : List Update). HasSeenParents us c.update.result.now) (sym c.loop-item.invariant.seen) (added_has_parents v.here v.journal c.loop-item.item c.update.result.now old (g.met.A.Actor.lawful c.args.actor.now) c.update.ensures)

pub add-requires-clause-room : goal.add-requires-clause-room
add-requires-clause-room g c =
    let us = accepted (g.A.Actor.view c.args.actor.now).journal in
    let within = slice_get_within us c.loop-item.item c.update.result.now c.update.ensures in
    subst (λ (xs : List Update). length xs < 4294967295) (sym c.loop-item.invariant.seen) (room_for_next c.args.self.now.seen.listed.updates us c.loop-item.item within c.requires.room)

pub loop-item-preserved : goal.loop-item-preserved
loop-item-preserved g c =
    let us = accepted (g.A.Actor.view c.args.actor.now).journal in
    let old = c.args.self.now.seen.listed.updates in
    let next = adding_goes_on us c.loop-item.item c.update.result.now old c.update.ensures in
    record {
      participants = c.loop-item.invariant.participants;
      labels = c.loop-item.invariant.labels;
      readers = c.loop-item.invariant.readers;
      asked = c.in_ok-add.ensures.asked ∙ c.loop-item.invariant.asked;
      seen = c.in_ok-add.ensures.ok ∙ ap (λ (xs : List Update). seen_with xs (c.update.result.now ∷ [])) c.loop-item.invariant.seen ∙ next;
    }
