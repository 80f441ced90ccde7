use Rattle.std.proofs.Common.{◌≡◌, ◌+◌, List, [], ◌∷◌, ◌++◌, get_or, take, map, Some, sym, ap, subst, ◌∙◌}
use Rattle.std.proofs.lemmas.Bool.{not-true, not-false}
use Rattle.std.proofs.lemmas.List.{take_all, map-append}
use Rattle.depot_model.specs.texts.Roster.{key_of}
use Rattle.depot_schedule.specs.declared.member.Member.{Member}
use Rattle.depot_world.specs.Run.{run_of}
use Rattle.depot_world.specs.Setups.{setup_of}
use Rattle.depot_simulation.specs.Acting.{AreHosted, ParticipantView}
use Rattle.depot_simulation.specs.Playing.{participant_by}
use Rattle.depot_simulation.specs.declared.participant.Participant.{Participant}
use Rattle.depot_simulation.proofs.BegunRuns.{signer_listed, signer_hosted, correct_more, faulty_more, hosts_of, unread}
use Rattle.depot_simulation.proofs.RememberedRuns.{begun}
use Rattle.depot_simulation.proofs.playing.begun.Goals as goal

pub fresh_host-requires : goal.fresh_host-requires
fresh_host-requires g c =
    let scenario = c.args.scenario.now in
    let key = g.G.Signer.key_of in
    let place = c.loop-place.place in
    let m = c.index-scenario-place.result in
    let signer = c.index-scenario-place-in-loop-place.result in
    let base = signer_listed key g.G.Signer.signature_of c.args.schedule.now g.S.Scheme.verifies scenario.height scenario.roster.now scenario.members.now scenario.signers.now place m signer
    c.requires.members c.requires.scenario c.loop-place-test.true c.index-scenario-place.is c.index-scenario-place-in-loop-place.is in
    subst (λ (x : Member). key_of scenario.roster.now x.node ≡ Some (key (get_or scenario.signers.now place signer))) c.index-scenario-place.is
    (subst (λ (x : g.row.G.Denot). key_of scenario.roster.now m.node ≡ Some (key x)) c.index-scenario-place-in-loop-place.is base)

pub loop-place-preserved : goal.loop-place-preserved
loop-place-preserved g c =
    let scenario = c.args.scenario.now in
    let setup = setup_of c.args.schedule.now in
    let view = g.A.Actor.view in
    let place = c.loop-place.place in
    let m = c.index-scenario-place.result in
    let signer = c.index-scenario-place-in-loop-place.result in
    let old = c.loop-place.participants.items in
    let new = c.in_ok-actor.actor in
    let participant : Participant g.row.A.Denot = record { actor = new; reads = c.new.result } in
    let one = signer_hosted g.G.Signer.key_of g.G.Signer.signature_of setup g.S.Scheme.verifies scenario.height scenario.roster.now scenario.members.now scenario.signers.now place m signer (view new)
    c.requires.scenario c.loop-place-test.true c.index-scenario-place.is c.index-scenario-place-in-loop-place.is c.in_ok-actor.ensures in
    let pushed : map (participant_by view) c.push.new.self.items ≡ map (participant_by view) old ++ participant_by view participant ∷ [] = ap (λ (xs : List (Participant g.row.A.Denot)). map (participant_by view) xs) {x = c.push.new.self.items} {y = old ++ participant ∷ []} c.in_ok-push.ensures.items ∙ map-append (participant_by view) old (participant ∷ []) in
    subst (λ (ps : List ParticipantView). AreHosted setup (hosts_of setup (take (place + 1) scenario.members.now)) ps) (sym pushed)
    (correct_more setup scenario.members.now place m (map (participant_by view) old) (participant_by view participant) c.loop-place-test.true c.index-scenario-place.is (ap (λ (x : Member). x.correct) c.index-scenario-place.is ∙ not-false _ c.if-not-member.false) c.loop-place.invariant (record { hosted = one; told = unread setup m.node participant.reads c.new.ensures }))

pub loop-place-preserved-then-not-member : goal.loop-place-preserved-then-not-member
loop-place-preserved-then-not-member g c =
    let scenario = c.args.scenario.now in
    let place = c.loop-place.place in
    let m = c.index-scenario-place.result in
    faulty_more (setup_of c.args.schedule.now) scenario.members.now place m (map (participant_by g.A.Actor.view) c.loop-place.participants.items) c.loop-place-test.true c.index-scenario-place.is (ap (λ (x : Member). x.correct) c.index-scenario-place.is ∙ not-true _ c.if-not-member.true) c.loop-place.invariant

pub returns-clause-at : goal.returns-clause-at
unfolding run_of
returns-clause-at g c =
    let setup = setup_of c.args.schedule.now in
    let members = c.args.schedule.now.members in
    let whole : take c.loop-place.place c.args.scenario.now.members.now ≡ members = take_all c.loop-place.place c.args.scenario.now.members.now c.loop-place-test.false ∙ c.requires.members in
    record {
      hosted = subst (λ (ms : List Member). AreHosted setup (hosts_of setup ms) (map (participant_by g.A.Actor.view) c.loop-place.participants.items)) whole c.loop-place.invariant;
      labels_are = c.new-2.ensures;
      seen_are = c.new-3.ensures.none;
      readers_are = c.new-4.ensures;
      remembered = begun setup members;
    }
