-- Each load has a text.
use Rattle.std.proofs.Common.{ℕ, ◌+◌, ◌*◌, ◌%◌, ◌/◌, ◌^◌, ◌<◌, [], None, refl, arith}
use Rattle.std.proofs.lemmas.Nat.{mod_below}
use Rattle.depot_schedule.specs.declared.event.Event.TheVariants.{Get, Hello, Give}
use Rattle.depot_schedule.specs.declared.verb.Made.TheVariants as made
use Rattle.depot_schedule.specs.Schedules.{FitMembers, IsSchedule, before_members}
use Rattle.depot_world.specs.declared.load_draft.LoadDraft.{LoadDraft}
use Rattle.depot_world.specs.Loads.{begun, bundled, whole_draft, exchange, farewell, giver, greet, load_key, last_bundle, last_hello, load_of, members, read, round, schedule_with, steps, taker, draft_with}
use Rattle.depot_world.proofs.of_loads.Fresh.{free-none}
use Rattle.depot_world.proofs.of_loads.EventFits.{IsCorrect, get-fits, hello-fits}
use Rattle.depot_world.proofs.of_loads.DraftFits.{IsGood, IsBeforeRound, good-still, good-more, good-made, good-bundled, good-give, good-round, other-correct}
use Rattle.depot_world.proofs.of_loads.DrawSteps.{steps-keep}

-- ---- the end

giver-correct : (j : ℕ) → IsCorrect (giver j)
giver-correct j = let lt : j % 20 < 20 = mod_below j 20 (omega arith) in (omega arith, omega (arith, lt))

taker-correct : (j : ℕ) → IsCorrect (taker j)
taker-correct j = let lt : j % 4 < 4 = mod_below j 4 (omega arith) in other-correct (giver j) (1 + j % 4) (giver-correct j) (omega arith) (omega (arith, lt))

-- one exchange more
abbrev IsBeforeExchange : ℕ → LoadDraft → Type 0
IsBeforeExchange j d = IsGood (6000 + 2 * j) 2000 (8000 + 3 * j) d

good-exchange : (j : ℕ) (d : LoadDraft) → j < 40 → IsBeforeExchange j d → IsBeforeExchange (j + 1) (exchange j d)
unfolding exchange
good-exchange j d early good =
    let small : j < 2 ^ 32 = omega (arith, early) in
    let k = 6000 + 2 * j in
    let made = good-bundled k 2000 (8000 + 3 * j) (giver j) (taker j) 101 103 j d refl refl small (giver-correct j) (taker-correct j) (omega arith) (omega arith) good in
    let b = bundled (giver j) (taker j) (last_hello j) (last_bundle j) d in
    let given = good-give (6001 + 2 * j + 1) 2000 (8000 + 3 * j + 2) (taker j) 103 j None b refl small (taker-correct j) tt made.1 made.0 in
    good-still (6001 + 2 * j + 1) (6000 + 2 * (j + 1)) 2000 2000 (8000 + 3 * j + 2 + 1) (8000 + 3 * (j + 1)) (draft_with b (Give (taker j) (last_bundle j) None)) (omega arith) (omega arith) (omega arith) given

-- one read more
abbrev IsBeforeRead : ℕ → LoadDraft → Type 0
IsBeforeRead i d = IsGood 6080 2000 (8120 + i) d

good-read : (i : ℕ) (d : LoadDraft) → i < 200 → IsBeforeRead i d → IsBeforeRead (i + 1) (read i d)
unfolding read
good-read i d early good =
    let lt : i % 5 < 5 = mod_below i 5 (omega arith) in
    let node : IsCorrect (1 + i % 5) = (omega arith, omega (arith, lt)) in
    let e = Get (1 + i % 5) (load_key (i / 5)) in
    good-still 6080 6080 2000 2000 (8120 + i + 1) (8120 + (i + 1)) (draft_with d e) (omega arith) (omega arith) (omega arith) (good-more 6080 2000 (8120 + i) d e refl (get-fits d.events (1 + i % 5) (i / 5) node) good)

-- one hello more
abbrev IsBeforeHello : ℕ → LoadDraft → Type 0
IsBeforeHello i d = IsGood (6080 + i) 2000 (8320 + i) d

good-greet : (i : ℕ) (d : LoadDraft) → i < 5 → IsBeforeHello i d → IsBeforeHello (i + 1) (greet i d)
unfolding greet
good-greet i d early good =
    let small : 1 + i < 2 ^ 32 = omega (arith, early) in
    let node : IsCorrect (1 + i) = (omega arith, omega (arith, early)) in
    let e = Hello (1 + i) (farewell (1 + i)) in
    let said = good-made (6080 + i) 2000 (8320 + i) 122 (1 + i) d e made.Bytes refl small (omega arith) (hello-fits d.events (1 + i) 122 (1 + i) refl small node (good.free 122 (1 + i) small (omega arith))) good in
    good-still (6079 + (1 + i) + 1) (6080 + (i + 1)) 2000 2000 (8320 + i + 1) (8320 + (i + 1)) (draft_with d e) (omega arith) (omega arith) (omega arith) said

-- ---- all of it

good-begun : (number : ℕ) → IsBeforeRound 0 (begun number)
good-begun number = record { fits = tt; free = free-none; few = omega arith; short = omega arith }

good-drafted : (number : ℕ) → IsBeforeHello 5 (whole_draft number)
unfolding whole_draft
good-drafted number =
    let rounds = steps round 2000 (begun number) in
    let exchanges = steps exchange 40 rounds in
    let reads = steps read 200 exchanges in
    let one : IsBeforeRound 2000 rounds = steps-keep IsBeforeRound round 2000 (begun number) (good-begun number) (λ t d lt good. good-round t d lt good) in
    let two : IsBeforeExchange 40 exchanges = steps-keep IsBeforeExchange exchange 40 rounds one (λ j d lt good. good-exchange j d lt good) in
    let three : IsBeforeRead 200 reads = steps-keep IsBeforeRead read 200 exchanges two (λ i d lt good. good-read i d lt good) in
    steps-keep IsBeforeHello greet 5 reads three (λ i d lt good. good-greet i d lt good)

members-fit : FitMembers (before_members (schedule_with [])) members
members-fit = (
  (omega arith, omega arith, refl),
  ((omega arith, omega arith, refl), ((omega arith, omega arith, refl), ((omega arith, omega arith, refl), ((omega arith, omega arith, refl), ((omega arith, omega arith, refl), tt))))),
)

pub is_schedule : (number : ℕ) → IsSchedule (load_of number)
unfolding load_of
is_schedule number =
    let good = good-drafted number in
    record {
      low = omega arith;
      high = omega arith;
      members = members-fit;
      some = refl;
      events = good.fits;
      lines = omega (arith, good.short);
    }
