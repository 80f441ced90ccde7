use Rattle.std.proofs.Common.{◌≡◌, ◌+◌, ◌-◌, List, [], ◌∷◌, ◌++◌, length, take, reverse, IsTrue, refl, rules, sym, ap, subst, inl, inr, ◌∙◌, arith}
use Rattle.std.proofs.lemmas.List.{append-nil}
use Rattle.depot_base.proofs.Writing.{on_err_from}
use Rattle.depot_schedule.specs.declared.event.Event.{Event}
use Rattle.depot_world.specs.Run.{Run}
use Rattle.depot_world.specs.Setups.{Setup}
use Rattle.depot_world.specs.Transcript.{printed, run_after}
use Rattle.depot_world.proofs.AlikeRuns.{alike_sound}
use Rattle.depot_scenario.specs.LabelUses.{AreUses}
use Rattle.depot_simulation.specs.Playing.{IsSimulationAt, IsSimulationFor}
use Rattle.depot_simulation.proofs.ForgottenLabels.{next_alike, played_for, stands_for, uses_left}
use Rattle.depot_simulation.proofs.PlayedEvents.{AreToCome, IsNext, all_so_far, all_to_come, front_before, front_within, next_is, no_fault, none_so_far, on_at, printed_more, run_more, so_far}
use Rattle.depot_simulation.proofs.SeenCounts.{few_seen}
use Rattle.depot_simulation.proofs.playing.play_all.Given.{Over}
use Rattle.depot_simulation.proofs.playing.play_all.Goals as goal
use Rattle.depot_simulation.proofs.playing.play_all.Goals.{In-Some}

-- the event is the next one
next : (g : Over) (c : In-Some g) → IsNext c.args.events c.loop-event.to_come.items c.pop.new.self.items c.in-Some.event
next g c = next_is c.args.events c.loop-event.to_come.items c.pop.new.self.items c.in-Some.event c.in-Some.ensures.items c.loop-event.invariant.left

pub loop-event-init : goal.loop-event-init
unfolding run_after printed
loop-event-init g c =
    let es = c.args.events in
    let out = g.K.Sink.written c.args.out.now in
    let turned : c.reverse.new.self.items ≡ reverse es = c.reverse.ensures.items ∙ ap (λ (xs : List Event). reverse xs) c.into_vec-to_come.ensures in
    let none : so_far es c.reverse.new.self.items ≡ [] = ap (λ (xs : List Event). so_far es xs) turned ∙ none_so_far es in
    record {
      left = subst (λ (xs : List Event). AreToCome es xs) (sym turned) (all_to_come es);
      uses = subst (AreUses c.in_ok-uses.uses.map.entries) c.as_slice.ensures.value c.in_ok-uses.ensures;
      at = λ setup run on sound at. stands_for g.A.Actor.view g.A.Reader.Reading.reads setup c.reverse.new.self.items (run_after setup run (so_far es c.reverse.new.self.items)) c.args.simulation.now
          (subst (λ (xs : List Event). IsSimulationAt g.A.Actor.view g.A.Reader.Reading.reads setup (run_after setup run xs) c.args.simulation.now) (sym none) at);
      written = λ setup run on sound at tells. sym (ap (λ (xs : List Event). out ++ printed setup run xs) none ∙ append-nil out);
      tells = refl;
      faults = refl;
      asked = refl;
      faultless = λ is. is;
    }

pub play_one-played-requires-clause-may : goal.play_one-played-requires-clause-may
play_one-played-requires-clause-may g c =
    let n = next g (goal.at.play_one-played-requires-clause-may g c).In-Some in
    c.requires.may c.in-Some.event (on_at c.args.events (length c.args.events - length c.loop-event.to_come.items) c.in-Some.event n.within n.is)

pub play_one-played-requires-clause-asked : goal.play_one-played-requires-clause-asked
play_one-played-requires-clause-asked g c = λ asks.
    let n = next g (goal.at.play_one-played-requires-clause-asked g c).In-Some in
    c.loop-event.invariant.asked ∙ c.requires.asked c.in-Some.event (on_at c.args.events (length c.args.events - length c.loop-event.to_come.items) c.in-Some.event n.within n.is) asks

pub play_one-played-requires-clause-played : goal.play_one-played-requires-clause-played
play_one-played-requires-clause-played g c =
    let p = c.requires.played in
    let i = length c.args.events - length c.loop-event.to_come.items in
    let s = c.loop-event.invariant.at p.setup p.run p.on p.sound p.at in
    record {
      setup = p.setup;
      run = s.few;
      on = p.on;
      sound = alike_sound p.setup c.loop-event.to_come.items (run_after p.setup p.run (take i c.args.events)) s.few s.alike (p.sound i);
      few = few_seen p.setup p.run s.few c.args.events c.loop-event.to_come.items i p.at.remembered p.few (p.sound i) s.alike;
      at = s.at;
    }

pub returns-in_err-uses-clause-front : goal.returns-in_err-uses-clause-front
unfolding printed
returns-in_err-uses-clause-front g c = λ setup run on sound at. on_err_from c.from_residual.result (λ tells.
    let old = g.K.Sink.written c.args.out.now in
    front_before setup run c.args.events 0 old old (sym (append-nil old)))

pub returns-in_err-played-clause-front : goal.returns-in_err-played-clause-front
returns-in_err-played-clause-front g c = λ setup run on sound at. on_err_from c.from_residual-in_err-played.result (λ tells.
    let inv = c.loop-event.invariant in
    let n = next g (goal.at.returns-in_err-played-clause-front g c).In-Some in
    let es = c.args.events in
    let i = length es - length c.loop-event.to_come.items in
    let old = g.K.Sink.written c.args.out.now in
    let before = g.K.Sink.written c.loop-event.out in
    let so = inv.written setup run on sound at tells in
    let still = subst IsTrue (sym inv.tells) tells in
    elim c.in_err-played.ensures.front [
      | inl none ↦ front_before setup run es i old (g.K.Sink.written c.play_one-played.new.out) (none still ∙ append-nil before ∙ so)
      | inr some ↦
          let whole = run_after setup run (take i es) in
          let s = inv.at setup run on sound at in
          let told = some.1.0 setup s.few on (alike_sound setup c.loop-event.to_come.items whole s.few s.alike (sound i)) s.at in
          let alike = next_alike setup c.loop-event.to_come.items c.pop.new.self.items c.in-Some.event whole s.few c.in-Some.ensures.items s.alike in
          front_within setup run es i c.in-Some.event old before some.0 (g.K.Sink.written c.play_one-played.new.out) n.within n.is so (told.lines_are ∙ alike.lines) (some.1.1 still)
    ])

pub returns-in_err-forgotten-clause-front : goal.returns-in_err-forgotten-clause-front
returns-in_err-forgotten-clause-front g c = λ setup run on sound at. on_err_from c.from_residual-in_err-forgotten.result (λ tells.
    let inv = c.loop-event.invariant in
    let n = next g (goal.at.returns-in_err-forgotten-clause-front g c).In-Some in
    let es = c.args.events in
    let i = length es - length c.loop-event.to_come.items in
    let old = g.K.Sink.written c.args.out.now in
    let whole = run_after setup run (take i es) in
    let s = inv.at setup run on sound at in
    let played = c.in_ok-played.ensures in
    let told = played.done.1.0 setup s.few on (alike_sound setup c.loop-event.to_come.items whole s.few s.alike (sound i)) s.at in
    let alike = next_alike setup c.loop-event.to_come.items c.pop.new.self.items c.in-Some.event whole s.few c.in-Some.ensures.items s.alike in
    front_before setup run es (i + 1) old (g.K.Sink.written c.play_one-played.new.out)
    (printed_more setup run es i c.in-Some.event old (g.K.Sink.written c.loop-event.out) played.done.0 (g.K.Sink.written c.play_one-played.new.out) n.within n.is
    (inv.written setup run on sound at tells) (told.lines_are ∙ alike.lines) (played.done.1.1 (subst IsTrue (sym inv.tells) tells))))

pub returns-in_err-forgotten-clause-cause : goal.returns-in_err-forgotten-clause-cause
returns-in_err-forgotten-clause-cause g c =
    let none : g.K.Sink.faults c.play_one-played.new.out ≡ g.K.Sink.faults c.args.out.now = no_fault (g.K.Sink.faults c.loop-event.out) (g.K.Sink.faults c.play_one-played.new.out) _ c.in_ok-played.ensures.cause (λ is. cc) ∙ c.loop-event.invariant.faults in
    rw none (search rules)

pub loop-event-preserved : goal.loop-event-preserved
loop-event-preserved g c =
    let inv = c.loop-event.invariant in
    let n = next g (goal.at.loop-event-preserved g c).In-Some in
    let es = c.args.events in
    let i = length es - length c.loop-event.to_come.items in
    let e = c.in-Some.event in
    let all = c.loop-event.to_come.items in
    let rest = c.give_back.new.events.items in
    let more : all ≡ rest ++ e ∷ [] = c.in-Some.ensures.items ∙ ap (λ (xs : List Event). xs ++ e ∷ []) (sym c.give_back.ensures) in
    let whole : Setup → Run → Run = λ setup run. run_after setup run (take i es) in
    let played = c.in_ok-played.ensures in
    let on_goes : take (i + 1) es ≡ so_far es rest = sym (ap (λ (xs : List Event). so_far es xs) c.give_back.ensures ∙ n.then) in
    let uses = uses_left c.loop-event.uses.map.entries all rest e more inv.uses in
    let forgets = c.in_ok-forgotten.ensures.forgets in
    let long : length rest ≡ c.len.result = sym (c.len.ensures ∙ c.give_back.new.events.ok.0) in
    record {
      left = subst (λ (xs : List Event). AreToCome es xs) (sym c.give_back.ensures) n.left;
      uses = (forgets rest long uses).0;
      at = λ setup run on sound at.
          let s = inv.at setup run on sound at in
          let told = played.done.1.0 setup s.few on (alike_sound setup all (whole setup run) s.few s.alike (sound i)) s.at in
          subst (λ (r : Run). IsSimulationFor g.A.Actor.view g.A.Reader.Reading.reads setup rest r c.forget_labels-forgotten.new.self) (run_more setup run es i e n.within n.is ∙ ap (λ (xs : List Event). run_after setup run xs) on_goes)
          (played_for g.A.Actor.view g.A.Reader.Reading.reads setup all rest e (whole setup run) c.loop-event.simulation c.play_one-played.new.simulation c.forget_labels-forgotten.new.self played.done.0 c.loop-event.uses.map.entries c.forget_labels-forgotten.new.uses.map.entries c.len.result
          more s told forgets uses long);
      written = λ setup run on sound at tells.
          let s = inv.at setup run on sound at in
          let told = played.done.1.0 setup s.few on (alike_sound setup all (whole setup run) s.few s.alike (sound i)) s.at in
          let alike = next_alike setup all rest e (whole setup run) s.few more s.alike in
          printed_more setup run es i e (g.K.Sink.written c.args.out.now) (g.K.Sink.written c.loop-event.out) played.done.0 (g.K.Sink.written c.play_one-played.new.out) n.within n.is
          (inv.written setup run on sound at tells) (told.lines_are ∙ alike.lines) (played.done.1.1 (subst IsTrue (sym inv.tells) tells)) ∙ ap (λ (xs : List Event). g.K.Sink.written c.args.out.now ++ printed setup run xs) on_goes;
      tells = played.tells ∙ inv.tells;
      asked = c.in_ok-forgotten.ensures.asked ∙ (played.asked ∙ inv.asked);
      faults = no_fault (g.K.Sink.faults c.loop-event.out) (g.K.Sink.faults c.play_one-played.new.out) _ played.cause (λ is. cc) ∙ inv.faults;
      faultless = λ is. (played.faultless (inv.faultless is)).0;
    }

pub returns-clause-done : goal.returns-clause-done
returns-clause-done g c = λ setup run on sound at tells.
    let none : length c.loop-event.to_come.items ≡ 0 = omega (arith, c.in_default.ensures.cases.0) in
    c.loop-event.invariant.written setup run on sound at tells ∙ ap (λ (xs : List Event). g.K.Sink.written c.args.out.now ++ printed setup run xs) (all_so_far c.args.events c.loop-event.to_come.items none)
