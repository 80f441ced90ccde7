-- The runs of a schedule may be audited at each point.
use Rattle.std.proofs.Common.{◌≡◌, ℕ, ◌+◌, ◌<◌, ◌≤◌, Bool, true, false, not, ◌&&◌, ◌||◌, ltb, cond, List, [], ◌∷◌, ◌++◌, length, take, zero, suc, sym, ap, subst, ◌∙◌, arith, append_assoc, length-append}
use Rattle.std.specs.Prelude.{filter}
use Rattle.std.specs.List.{list_any}
use Rattle.std.proofs.lemmas.Bool.{and_parts}
use Rattle.std.proofs.lemmas.Bool.Decides.{nat_tests}
use Rattle.std.proofs.lemmas.List.{length-map}
use Rattle.std.proofs.lemmas.List.Elements.{filter-append}
use Rattle.depot_model.proofs.lists.Members.{from_map}
use Rattle.depot_schedule.specs.declared.event.Event.{Event}
use Rattle.depot_schedule.specs.declared.member.Member.{Member}
use Rattle.depot_schedule.specs.declared.schedule.Schedule.{Schedule}
use Rattle.depot_schedule.specs.Schedules.{IsSchedule, FitEvents, FitMembers, with_event, with_member, before_events, before_members, count_correct, has_correct, may_join}
use Rattle.depot_schedule.specs.EventWords.{is_declared}
use Rattle.depot_world.specs.Audits.{IsSound}
use Rattle.depot_world.specs.Run.{Host, fresh_host, run_of}
use Rattle.depot_world.specs.Setups.{setup_of}
use Rattle.depot_world.specs.Transcript.{run_after}
use Rattle.depot_world.proofs.of_bytes.ByteSignatures.{members_sign_bytes}
use Rattle.depot_world.proofs.of_worlds.GoodRuns.{numbers_of}
use Rattle.depot_world.proofs.of_worlds.GoodWorlds.{begins_good, events_keep, run_makes_world}
use Rattle.depot_world.proofs.ReadCounts.{HaveFewReads, few_after, few_taken, same_after}

-- ---- a prefix of the events

fit_front : (s : Schedule) (n : ℕ) (es : List Event) → FitEvents s es → FitEvents s (take n es)
fit_front s zero es fit = tt
fit_front s (suc n) [] fit = tt
fit_front s (suc n) (e ∷ es) fit = (fit.0, fit_front (with_event s e) n es fit.1)

-- ---- how many correct nodes there are

counts-append : (ms ns : List Member) → count_correct (ms ++ ns) ≡ count_correct ms + count_correct ns
counts-append ms ns = ap (λ (xs : List Member). length xs) (filter-append (λ (m : Member). m.correct) ms ns) ∙ length-append (filter (λ (m : Member). m.correct) ms) (filter (λ (m : Member). m.correct) ns)

-- one that joins leaves them at most 32
one_joins : (s : Schedule) (m : Member) → may_join s m ≡ true → count_correct s.members ≤ 32 → count_correct (s.members ++ m ∷ []) ≤ 32
one_joins s m e few =
    let p = and_parts (not (is_declared s.members m.node) && (not m.correct || ltb (count_correct s.members) 32)) (ltb (length s.members) 256) e in
    by_member m.correct (and_parts (not (is_declared s.members m.node)) _ p.0).1 (counts-append s.members (m ∷ [])) where
      by_member : (b : Bool) → (not b || ltb (count_correct s.members) 32) ≡ true → count_correct (s.members ++ m ∷ []) ≡ count_correct s.members + length (cond b (m ∷ []) []) → count_correct (s.members ++ m ∷ []) ≤ 32
      by_member true below many = let low : count_correct s.members < 32 = grind (arith, nat_tests, below) in omega (arith, many, low)
      by_member false below many = omega (arith, many, few)

all_join : (s : Schedule) (ms : List Member) → FitMembers s ms → count_correct s.members ≤ 32 → count_correct (s.members ++ ms) ≤ 32
all_join s [] fit few = omega (arith, few, counts-append s.members [])
all_join s (m ∷ ms) fit few = subst (λ (xs : List Member). count_correct xs ≤ 32) (append_assoc s.members (m ∷ []) ms) (all_join (with_member s m) ms fit.1 (one_joins s m fit.0.2 few))

some_correct : (ms : List Member) → has_correct ms ≡ true → 0 < count_correct ms
some_correct [] e = absurd cc
some_correct (m ∷ ms) e = by_first m.correct e (some_correct ms) where
  by_first : (b : Bool) → (b || list_any (λ (x : Member). x.correct) ms) ≡ true → (has_correct ms ≡ true → 0 < count_correct ms) → 0 < length (cond b (m ∷ filter (λ (x : Member). x.correct) ms) (filter (λ (x : Member). x.correct) ms))
  by_first true is rest = omega arith
  by_first false is rest = rest is

-- ---- the hosts of a run

many_numbers : (ss : List Host) → length (numbers_of ss) ≡ length ss
many_numbers ss = length-map ss (λ (s : Host). s.correct.node)

many_after : (s : Schedule) (es : List Event) → length (run_after (setup_of s) (run_of (setup_of s) s.members) es).hosts ≡ count_correct s.members
unfolding run_of
many_after s es =
    let setup = setup_of s in
    let run = run_of setup s.members in
    let after = run_after setup run es in
    sym (many_numbers after.hosts) ∙ ap (λ (ns : List ℕ). length ns) (same_after setup run es) ∙ many_numbers run.hosts ∙ length-map (filter (λ (m : Member). m.correct) s.members) (λ (m : Member). fresh_host setup m.node)

begins_unread : (s : Schedule) → HaveFewReads 0 (run_of (setup_of s) s.members).hosts
unfolding run_of
begins_unread s x on =
    let setup = setup_of s in
    let m = from_map (λ (y : Member). fresh_host setup y.node) x (filter (λ (y : Member). y.correct) s.members) on in
    subst (λ (y : Host). length y.correct.reads ≤ 0) m.1.1 (omega arith)

-- ---- the law

pub runs_are_sound : (s : Schedule) (n : ℕ) → IsSchedule s → IsSound (setup_of s) (run_after (setup_of s) (run_of (setup_of s) s.members) (take n s.events))
runs_are_sound s n is =
    let setup = setup_of s in
    let run = run_of setup s.members in
    let front = take n s.events in
    let many = many_after s front in
    record {
      world = run_makes_world setup (run_after setup run front) (events_keep setup (before_events s) run front (members_sign_bytes s) (fit_front (before_events s) n s.events is.events) (begins_good s is));
      few = λ x on. omega (arith, few_after setup run front 0 (begins_unread s) x on, few_taken n s.events, is.lines);
      some = omega (arith, many, some_correct s.members is.some);
      most = omega (arith, many, all_join (before_members s) s.members is.members (omega arith));
    }
