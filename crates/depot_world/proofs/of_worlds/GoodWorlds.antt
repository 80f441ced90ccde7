-- The world of a schedule is a world.
use Rattle.std.proofs.Common.{◌≡◌, ℕ, true, List, [], ◌∷◌, map, refl, sym, ap, subst}
use Rattle.std.specs.Prelude.{filter}
use Rattle.depot_model.specs.worlds.Causality.{IsForkJoinCausal, ConvictsNoCorrectNode}
use Rattle.depot_base.specs.Statement.{writer_of}
use Rattle.depot_base.specs.declared.proof.Kind.{Kind}
use Rattle.depot_base.specs.declared.proof.Proof.TheVariants.{Pair}
use Rattle.depot_base.specs.declared.statement.Signed.{Signed}
use Rattle.depot_model.specs.lists.Items.{AreDistinct}
use Rattle.depot_model.specs.lists.Lists.{IsIn}
use Rattle.depot_model.specs.worlds.Receipts.{AreReceiptsTrue}
use Rattle.depot_model.specs.texts.Roster.{has_node}
use Rattle.depot_model.specs.texts.Texts.{IsRoster}
use Rattle.depot_model.specs.worlds.World.{Correct, IsCorrect, IsWorld, IsAuthentic, IsCollisionFree, proofs_of}
use Rattle.depot_model.proofs.lists.Members.{from_map, from_filter}
use Rattle.depot_laws.proofs.records.Births.{born as born_lawful}
use Rattle.depot_laws.proofs.of_worlds.ForkJoin.{fork_join_causal}
use Rattle.depot_laws.proofs.of_worlds.NoVerdicts.{convicts_none, pairs_spare}
use Rattle.depot_laws.proofs.of_audits.TrueReceipts.{silent_is_true, no_receipts_yet}
use Rattle.depot_schedule.specs.declared.event.Event.{Event}
use Rattle.depot_schedule.specs.declared.member.Member.{Member}
use Rattle.depot_schedule.specs.declared.schedule.Schedule.{Schedule}
use Rattle.depot_schedule.specs.Schedules.{IsSchedule, FitEvents, with_event, before_events}
use Rattle.depot_world.specs.Run.{Host, Run, fresh_host, run_of, world_by}
use Rattle.depot_world.specs.Setups.{Setup, setup_of, stands_on, signs_on}
use Rattle.depot_world.specs.Transcript.{done, run_after, world_of}
use Rattle.depot_world.proofs.of_bytes.ByteSignatures.{SignsBytes, members_sign_bytes}
use Rattle.depot_world.proofs.EventFacts.{events_bring_bytes}
use Rattle.depot_world.proofs.of_worlds.GoodEvents.{event_keeps}
use Rattle.depot_world.proofs.of_worlds.GoodNodes.{IsGoodNode}
use Rattle.depot_world.proofs.of_worlds.GoodRuns.{IsGoodRun, numbers_of}
use Rattle.depot_world.proofs.ScheduleMembers.{nodes_of, members_are, distinct_filter}
use Rattle.depot_world.proofs.ScheduleRosters.{setup_has_roster, setup_has_members}

-- ---- before the first event

fresh_is_good : (setup : Setup) (node : ℕ) → IsRoster setup.listed → has_node setup.listed node ≡ true → IsGoodNode setup (fresh_host setup node).correct
fresh_is_good setup node fits known = record {
  member = known;
  lawful = born_lawful (stands_on setup node) fits known;
  begun = refl;
  reads = λ r never. absurd never;
  in_order = tt;
  holds = (tt, tt);
  receipts = silent_is_true [] (fresh_host setup node).correct.journal refl no_receipts_yet;
}

numbers_fresh : (setup : Setup) (ms : List Member) → numbers_of (map (λ (m : Member). fresh_host setup m.node) ms) ≡ nodes_of ms
numbers_fresh setup [] = refl
numbers_fresh setup (m ∷ ms) = ap (λ (ns : List ℕ). m.node ∷ ns) (numbers_fresh setup ms)

pub begins_good : (s : Schedule) → IsSchedule s → IsGoodRun (setup_of s) (run_of (setup_of s) s.members)
unfolding run_of
begins_good s is =
    let setup = setup_of s in
    let correct = filter (λ (m : Member). m.correct) s.members in
    record {
      distinct = subst AreDistinct (sym (numbers_fresh setup correct)) (distinct_filter (λ (m : Member). m.correct) s.members (members_are s is).distinct);
      hosts = λ x on.
          let m = from_map (λ (y : Member). fresh_host setup y.node) x correct on in
          subst (λ (y : Host). IsGoodNode setup y.correct) m.1.1 (fresh_is_good setup m.0.node (setup_has_roster s is) (setup_has_members s m.0 (from_filter (λ (y : Member). y.correct) m.0 s.members m.1.0).0));
      labels = λ m never. absurd never;
      judged = λ p never. absurd never;
    }

-- ---- all events

pub events_keep : (setup : Setup) (s : Schedule) (run : Run) (es : List Event) → ((node : ℕ) → SignsBytes (signs_on setup node)) → FitEvents s es → IsGoodRun setup run → IsGoodRun setup (run_after setup run es)
unfolding run_after
events_keep setup s run [] signs fit g = g
events_keep setup s run (e ∷ es) signs fit g = events_keep setup (with_event s e) (done setup run e).run es signs fit.1 (event_keeps setup run e signs (events_bring_bytes s e fit.0) g)

-- ---- the world

same_nodes : (ss : List Host) → map (λ (c : Correct). c.node) (map (λ (s : Host). s.correct) ss) ≡ numbers_of ss
same_nodes [] = refl
same_nodes (s ∷ ss) = ap (λ (ns : List ℕ). s.correct.node ∷ ns) (same_nodes ss)

node_is_correct : (setup : Setup) (run : Run) (c : Correct) → IsGoodNode setup c → IsCorrect (world_by setup run) c
unfolding world_by
node_is_correct setup run c g = record { member = g.member; lawful = g.lawful; begun = g.begun; reads = g.reads; in_order = g.in_order }

pub run_makes_world : (setup : Setup) (run : Run) → IsGoodRun setup run → IsWorld (world_by setup run)
unfolding world_by
run_makes_world setup run g = record {
  distinct = subst AreDistinct (sym (same_nodes run.hosts)) g.distinct;
  correct = λ c on. let s = from_map (λ (x : Host). x.correct) c run.hosts on in subst (IsCorrect (world_by setup run)) s.1.1 (node_is_correct setup run s.0.correct (g.hosts s.0 s.1.0));
  formed = λ p on. (g.judged p on).formed;
  judged = λ p on. (g.judged p on).judged;
}

-- the world of a schedule
pub schedule_makes_world : (s : Schedule) → IsSchedule s → IsWorld (world_of s)
unfolding world_of
schedule_makes_world s is =
    let setup = setup_of s in
    run_makes_world setup (run_after setup (run_of setup s.members) s.events)
    (events_keep setup (before_events s) (run_of setup s.members) s.events (members_sign_bytes s) is.events (begins_good s is))

run_has_true_receipts : (setup : Setup) (run : Run) (c : Correct) → IsGoodRun setup run → IsIn c (world_by setup run).nodes → AreReceiptsTrue c.journal
unfolding world_by
run_has_true_receipts setup run c g on = let s = from_map (λ (x : Host). x.correct) c run.hosts on in subst (λ (d : Correct). AreReceiptsTrue d.journal) s.1.1 (g.hosts s.0 s.1.0).receipts

-- each receipt of a correct node of it is true
pub schedule_receipts_are_true : (s : Schedule) (c : Correct) → IsSchedule s → IsIn c (world_of s).nodes → AreReceiptsTrue c.journal
unfolding world_of
schedule_receipts_are_true s c is on =
    let setup = setup_of s in
    run_has_true_receipts setup (run_after setup (run_of setup s.members) s.events) c
    (events_keep setup (before_events s) (run_of setup s.members) s.events (members_sign_bytes s) is.events (begins_good s is)) on

-- its roster is that of the setup
pub schedule_world_has_roster : (s : Schedule) → IsSchedule s → IsRoster (world_of s).listed
unfolding world_by world_of
schedule_world_has_roster s is = setup_has_roster s is

-- so what holds of worlds holds of it
pub schedule_world_is_causal : (s : Schedule) → IsSchedule s → IsAuthentic (world_of s) → IsCollisionFree (world_of s) → IsForkJoinCausal (world_of s)
schedule_world_is_causal s is authentic free = fork_join_causal (world_of s) (schedule_makes_world s is) authentic free

pub schedule_world_convicts_none : (s : Schedule) → IsSchedule s → IsAuthentic (world_of s) → IsCollisionFree (world_of s) → ConvictsNoCorrectNode (world_of s)
schedule_world_convicts_none s is authentic free = convicts_none (world_of s) (schedule_makes_world s is) authentic free

pub schedule_pairs_spare : (s : Schedule) (c : Correct) (kind : Kind) (first second : Signed) → IsSchedule s → IsAuthentic (world_of s) → IsIn c (world_of s).nodes → IsIn (Pair kind first second) (proofs_of (world_of s)) → writer_of first.statement ≡ c.node → ⊥
schedule_pairs_spare s c kind first second is authentic c_on on named = pairs_spare (world_of s) (schedule_makes_world s is) authentic c kind first second c_on on named
