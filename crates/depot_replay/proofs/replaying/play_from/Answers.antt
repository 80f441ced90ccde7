use Rattle.std.proofs.Common.{◌≡◌, ◌++◌, ◌+◌, ◌≤◌, ℕ, List, length, true, rules, refl, sym, subst, ◌∙◌, arith}
use Rattle.std.specs.List.{list_any}
use Rattle.std.proofs.lemmas.List.{append-nil}
use Rattle.std.proofs.lemmas.Result.{on_err_weaker, on_ok_weaker}
use Rattle.depot_base.proofs.Writing.{on_err_from}
use Rattle.depot_base.specs.declared.limits.TheConstants.{MOST_LINES}
use Rattle.depot_base.specs.Reading.{AddsFrontOf}
use Rattle.depot_model.proofs.lists.Members.{any_from}
use Rattle.depot_model.specs.lists.Lists.{IsIn}
use Rattle.depot_schedule.specs.declared.event.Event.{Event}
use Rattle.depot_schedule.specs.declared.schedule.Schedule.{Schedule}
use Rattle.depot_schedule.specs.declared.member.Member.{Member}
use Rattle.depot_schedule.specs.Schedules.{IsSchedule}
use Rattle.depot_world.specs.Run.{run_of}
use Rattle.depot_world.specs.Setups.{setup_of, suite_of}
use Rattle.depot_world.specs.Transcript.{printed, transcript_of}
use Rattle.depot_world.proofs.of_worlds.SoundRuns.{runs_are_sound}
use Rattle.depot_scenario.specs.MemberSigners.{AreSigners, member_signers_of}
use Rattle.depot_scenario.specs.Scenarios.{IsSet, MayHappen}
use Rattle.depot_simulation.specs.Asking.{asks_right_history}
use Rattle.depot_simulation.specs.Playing.{StaysSound}
use Rattle.depot_simulation.proofs.BegunRuns.{schedule_may}
use Rattle.depot_replay.specs.BegunSchedules.{with_events}
use Rattle.depot_replay.proofs.replaying.play_from.Given.{Over}
use Rattle.depot_replay.proofs.replaying.play_from.Goals as goal
use Rattle.depot_replay.proofs.replaying.play_from.Goals.{After-as_slice}

-- the scenario is that of the schedule
set_by : (g : Over) (c : After-as_slice g) → IsSet (setup_of c.args.begin.now) g.S.Scheme.verifies c.args.begin.now.height c.args.roster.now c.as_slice.result.now (member_signers_of g.G.Signer.key_of g.G.Signer.signature_of c.args.signers.now)
unfolding setup_of
set_by g c =
    let s = c.args.begin.now in
    let member_signers = member_signers_of g.G.Signer.key_of g.G.Signer.signature_of c.args.signers.now in
    record {
      verifies_is = c.requires.scheme;
      height_is = refl;
      listed_is = sym c.requires.roster;
      signers_are = subst (λ (ms : List Member). AreSigners (suite_of s.winter) s.height ms member_signers) (sym c.as_slice.ensures) c.requires.signers;
    }

-- the nodes of a schedule may be audited at each point
stays_sound : (s : Schedule) → IsSchedule s → StaysSound (setup_of s) (run_of (setup_of s) s.members) s.events
stays_sound s is = λ n. runs_are_sound s n is

-- no update was seen yet, and the events are fewer than the lines
few_lines : (s : Schedule) → IsSchedule s → length (run_of (setup_of s) s.members).seen + length s.events ≤ MOST_LINES
unfolding run_of
few_lines s is = omega (arith, is.lines)

pub begun-requires : goal.begun-requires
begun-requires g c = let set = set_by g (goal.at.begun-requires g c).After-as_slice in search (rules, set)

pub play_all-requires-clause-played : goal.play_all-requires-clause-played
unfolding setup_of
play_all-requires-clause-played g c =
    let s = with_events c.args.begin.now c.args.events in
    record {
      setup = setup_of s;
      run = run_of (setup_of s) s.members;
      on = set_by g (goal.at.play_all-requires-clause-played g c).After-as_slice;
      sound = stays_sound s c.requires.schedule;
      few = few_lines s c.requires.schedule;
      at = c.in_ok-play.ensures.at;
    }

pub play_all-requires-clause-may : goal.play_all-requires-clause-may
play_all-requires-clause-may g c = λ e on.
    let s = with_events c.args.begin.now c.args.events in
    subst (λ (ms : List Member). MayHappen s.height ms e) (sym c.as_slice.ensures) (schedule_may s c.requires.schedule e on)

pub play_all-requires-clause-asked : goal.play_all-requires-clause-asked
play_all-requires-clause-asked g c = λ e on is.
    let seen : list_any asks_right_history c.as_slice-2.result.now ≡ true = any_from asks_right_history e c.as_slice-2.result.now (subst (λ (es : List Event). IsIn e es) (sym c.as_slice-2.ensures) on) is in
    c.in_ok-play.ensures.asked ∙ c.any_asks_right_history-asked.ensures ∙ seen

-- what is printed of its events is its transcript
transcript_is : (s : Schedule) → printed (setup_of s) (run_of (setup_of s) s.members) s.events ≡ transcript_of s
unfolding transcript_of
transcript_is s = refl

pub returns-clause-done : goal.returns-clause-done
unfolding setup_of
returns-clause-done g c =
    let s = with_events c.args.begin.now c.args.events in
    let setup = setup_of s in
    let set = set_by g (goal.at.returns-clause-done g c).After-as_slice in
    λ tells. on_ok_weaker c.play_all.result (λ wrote. subst (λ (t : List ℕ). g.K.Sink.written c.play_all.new.out ≡ g.K.Sink.written c.args.out.now ++ t) (transcript_is s) (wrote tells))
    (c.play_all.ensures.done setup (run_of setup s.members) set (stays_sound s c.requires.schedule) c.in_ok-play.ensures.at)

pub returns-clause-front : goal.returns-clause-front
unfolding setup_of
returns-clause-front g c =
    let s = with_events c.args.begin.now c.args.events in
    let setup = setup_of s in
    let set = set_by g (goal.at.returns-clause-front g c).After-as_slice in
    λ tells. on_err_weaker c.play_all.result (λ wrote. subst (λ (t : List ℕ). AddsFrontOf (g.K.Sink.written c.args.out.now) t (g.K.Sink.written c.play_all.new.out)) (transcript_is s) (wrote tells))
    (c.play_all.ensures.front setup (run_of setup s.members) set (stays_sound s c.requires.schedule) c.in_ok-play.ensures.at)

-- no memory was found for the nodes, and nothing was written
pub returns-in_err-play-clause-front : goal.returns-in_err-play-clause-front
returns-in_err-play-clause-front g c = λ tells. on_err_from c.from_residual.result (0, sym (append-nil (g.K.Sink.written c.args.out.now)))
