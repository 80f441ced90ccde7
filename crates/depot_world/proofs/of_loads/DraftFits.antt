-- A load as it grows: its events fit, its labels rise, and it stays short.
use Rattle.std.proofs.Common.{◌≡◌, ℕ, ◌+◌, ◌*◌, ◌^◌, ◌/◌, ◌<◌, ◌≤◌, Bool, true, false, cond, eqb, ltb, leb, List, [], ◌∷◌, ◌++◌, length, Option, Some, None, refl, arith, length-append}
use Rattle.std.proofs.lemmas.Nat.{mod_below}
use Rattle.depot_schedule.specs.declared.event.Event.{Event}
use Rattle.depot_schedule.specs.declared.event.Event.TheVariants.{Put, Get, Hello, Bundle, Give, Restart, Update}
use Rattle.depot_schedule.specs.declared.event.HistoryWord.TheVariants.{Right}
use Rattle.depot_schedule.specs.declared.verb.Made.{Made}
use Rattle.depot_schedule.specs.declared.verb.Made.TheVariants as made
use Rattle.depot_lines.specs.Spelling.{is_letter}
use Rattle.depot_schedule.specs.EventWords.{label_made}
use Rattle.depot_schedule.specs.Schedules.{FitsEvent, FitEvents}
use Rattle.depot_world.specs.declared.load_draft.LoadDraft.{LoadDraft}
use Rattle.depot_world.specs.Loads.{number_at, drawn, draw, value_of, label_of, round_hello, round_bundle, round_update, faulty_node, some_node, some_key, other_than, draft_with, put_round, get_round, given, bundled, exchange_round, update_round, faulty_round, round_by, round, giver, taker, schedule_with}
use Rattle.depot_world.proofs.of_loads.Fresh.{rank, IsFree, NamesBytes, free-from, free-more, free-made, made-now, made-before}
use Rattle.depot_world.proofs.of_loads.EventFits.{fits-more, IsCorrect, IsSize, put-fits, get-fits, restart-fits, hello-fits, bundle-fits, give-fits, update-fits}

-- Its events fit; labels from this rank on are free; the faulty node signed at most so many updates; and it has at most so many events.
pub record IsGood (rank updates events : ℕ) (d : LoadDraft) : Type 0 where
  pub fits : FitEvents (schedule_with []) d.events
  pub free : IsFree rank d.events
  pub few : d.updates ≤ updates
  pub short : length d.events ≤ events

pub good-still : (k l u v n m : ℕ) (d : LoadDraft) → k ≤ l → u ≤ v → n ≤ m → IsGood k u n d → IsGood l v m d
good-still k l u v n m d a b c good = record { fits = good.fits; free = free-from k l d.events a good.free; few = omega (arith, good.few); short = omega (arith, good.short) }

-- a draw changes no event
pub good-drawn : (k u n : ℕ) (d : LoadDraft) → IsGood k u n d → IsGood k u n (drawn d)
good-drawn k u n d good = record { fits = good.fits; free = good.free; few = good.few; short = good.short }

longer : (es : List Event) (e : Event) (n : ℕ) → length es ≤ n → length (es ++ e ∷ []) ≤ n + 1
longer es e n le = omega (arith, length-append es (e ∷ []))

-- one event more, which makes no label
pub good-more : (k u n : ℕ) (d : LoadDraft) (e : Event) → label_made e ≡ None → FitsEvent (schedule_with d.events) e → IsGood k u n d → IsGood k u (n + 1) (draft_with d e)
good-more k u n d e none fits good = record {
  fits = fits-more [] d.events e good.fits fits;
  free = free-more k d.events e none good.free;
  few = good.few;
  short = longer d.events e n good.short;
}

-- one event more, which makes a label
pub good-made : (k u n c m : ℕ) (d : LoadDraft) (e : Event) (what : Made) → label_made e ≡ Some (label_of c m, what) → m < 2 ^ 32 → k ≤ rank c m → FitsEvent (schedule_with d.events) e → IsGood k u n d → IsGood (rank c m + 1) u (n + 1) (draft_with d e)
good-made k u n c m d e what is small from fits good = record {
  fits = fits-more [] d.events e good.fits fits;
  free = free-made k d.events e c m what is small from good.free;
  few = good.few;
  short = longer d.events e n good.short;
}

-- ---- numbers that are drawn

draw-below : (m : ℕ) (d : LoadDraft) → 0 < m → draw m d < m
unfolding number_at
draw-below m d some = mod_below (d.state / 2 ^ 33) m some

some-correct : (d : LoadDraft) → IsCorrect (some_node d)
some-correct d = let lt = draw-below 5 d (omega arith) in (omega arith, omega (arith, lt))

pub other-correct : (v r : ℕ) → IsCorrect v → 1 ≤ r → r ≤ 4 → IsCorrect (other_than v r)
other-correct v r is low high = by (leb v r) where
  by : (b : Bool) → IsCorrect (cond b (r + 1) r)
  by true = (omega arith, omega arith)
  by false = (omega arith, omega arith)

-- ---- an exchange

-- A bundle for a hello: both labels are new, and that of the bundle is the higher. The bundle's label is made then.
pub good-bundled : (k u n v r c b m : ℕ) (d : LoadDraft) → is_letter c ≡ true → is_letter b ≡ true → m < 2 ^ 32 → IsCorrect v → IsCorrect r → k ≤ rank c m → rank c m < rank b m → IsGood k u n d
    → IsGood (rank b m + 1) u (n + 2) (bundled v r (label_of c m) (label_of b m) d) × NamesBytes (bundled v r (label_of c m) (label_of b m) d).events (label_of b m)
good-bundled k u n v r c b m d one two small giver taker from above good =
    let e = Hello r (label_of c m) in
    let f = Bundle v (label_of c m) (label_of b m) in
    let next : rank c m + 1 ≤ rank b m = below_next (rank c m) (rank b m) above in
    let first = good-made k u n c m d e made.Bytes refl small from (hello-fits d.events r c m one small taker (good.free c m small from)) good in
    let second = good-made (rank c m + 1) u (n + 1) b m (draft_with d e) f made.Bytes refl small next
    (bundle-fits (d.events ++ e ∷ []) v c b m one two small giver (made-now d.events e (label_of c m) made.Bytes refl refl) (first.free b m small next)) first in (
      good-still (rank b m + 1) (rank b m + 1) u u (n + 1 + 1) (n + 2) (bundled v r (label_of c m) (label_of b m) d) (omega arith) (omega arith) (omega arith) second,
      made-now (d.events ++ e ∷ []) f (label_of b m) made.Bytes refl refl,
    ) where
      below_next : (x y : ℕ) → x < y → x + 1 ≤ y
      below_next x y lt = omega arith

-- bytes that a label has are given to a node
pub good-give : (k u n r c m : ℕ) (size : Option ℕ) (d : LoadDraft) → is_letter c ≡ true → m < 2 ^ 32 → IsCorrect r → IsSize size → NamesBytes d.events (label_of c m) → IsGood k u n d → IsGood k u (n + 1) (draft_with d (Give r (label_of c m) size))
good-give k u n r c m size d letter small taker fits names good = good-more k u n d (Give r (label_of c m) size) refl (give-fits d.events r c m size letter small taker fits names) good

-- ---- rounds

either : (k u n : ℕ) (b : Bool) (x y : LoadDraft) → IsGood k u n x → IsGood k u n y → IsGood k u n (cond b x y)
either k u n true x y p q = p
either k u n false x y p q = q

good-given : (k u n c r t : ℕ) (d : LoadDraft) → t < 2 ^ 32 → IsCorrect r → NamesBytes d.events (round_bundle t) → IsGood k u n d → IsGood k u (n + 2) (given c r (round_bundle t) d)
good-given k u n c r t d small taker names good =
    let one = draft_with d (Give r (round_bundle t) None) in
    let pieces = draft_with d (Give r (round_bundle t) (Some 1460)) in
    let given_once = good-give k u n r 98 t None d refl small taker tt names good in
    let given_twice = good-give k u (n + 1) r 98 t None one refl small taker tt (made-before d.events (Give r (round_bundle t) None) (round_bundle t) refl names) given_once in
    let in_pieces = good-give k u n r 98 t (Some 1460) d refl small taker (omega arith, omega arith) names good in
    either k u (n + 2) (eqb c 0) _ _ (good-still k k u u n (n + 2) d (omega arith) (omega arith) (omega arith) good)
    (either k u (n + 2) (eqb c 1) _ _ (good-still k k u u (n + 1 + 1) (n + 2) _ (omega arith) (omega arith) (omega arith) given_twice)
    (either k u (n + 2) (eqb c 2) _ _ (good-still k k u u (n + 1) (n + 2) _ (omega arith) (omega arith) (omega arith) in_pieces)
    (good-still k k u u (n + 1) (n + 2) _ (omega arith) (omega arith) (omega arith) given_once)))

-- what a load is like before the round of this number
abbrev pub IsBeforeRound : ℕ → LoadDraft → Type 0
IsBeforeRound t d = IsGood (3 * t) t (4 * t) d

-- what each kind of round makes of it
abbrev AfterRound : ℕ → LoadDraft → Type 0
AfterRound t d = IsGood (3 * t + 3) (t + 1) (4 * t + 4) d

after : (k n t : ℕ) (d : LoadDraft) → k ≤ 3 * t + 3 → n ≤ 4 * t + 4 → IsGood k t n d → AfterRound t d
after k n t d a b good = good-still k (3 * t + 3) t (t + 1) n (4 * t + 4) d a (omega arith) b good

good-put : (t : ℕ) (d : LoadDraft) → IsBeforeRound t d → AfterRound t (put_round t d)
good-put t d good =
    let a = drawn d in
    let b = drawn a in
    after (3 * t) (4 * t + 1) t (put_round t d) (omega arith) (omega arith)
    (good-more (3 * t) t (4 * t) b (Put (some_node a) (some_key b) (value_of t)) refl (put-fits b.events (some_node a) (draw 40 b) t (some-correct a)) (good-drawn _ _ _ a (good-drawn _ _ _ d good)))

good-get : (t : ℕ) (d : LoadDraft) → IsBeforeRound t d → AfterRound t (get_round d)
good-get t d good =
    let a = drawn d in
    let b = drawn a in
    after (3 * t) (4 * t + 1) t (get_round d) (omega arith) (omega arith)
    (good-more (3 * t) t (4 * t) b (Get (some_node a) (some_key b)) refl (get-fits b.events (some_node a) (draw 40 b) (some-correct a)) (good-drawn _ _ _ a (good-drawn _ _ _ d good)))

good-exchange-round : (t : ℕ) (d : LoadDraft) → t < 2 ^ 32 → IsBeforeRound t d → AfterRound t (exchange_round t d)
good-exchange-round t d small good =
    let a = drawn d in
    let b = drawn a in
    let v = some_node a in
    let r = other_than v (1 + draw 4 b) in
    let lt : draw 4 b < 4 = draw-below 4 b (omega arith) in
    let taker : IsCorrect r = other-correct v (1 + draw 4 b) (some-correct a) (omega arith) (omega (arith, lt)) in
    let ready = good-drawn (3 * t) t (4 * t) a (good-drawn (3 * t) t (4 * t) d good) in
    let made = good-bundled (3 * t) t (4 * t) v r 104 98 t b refl refl small (some-correct a) taker (omega arith) (omega arith) ready in
    let bundle = bundled v r (round_hello t) (round_bundle t) b in
    let c = drawn bundle in
    after (3 * t + 1 + 1) (4 * t + 2 + 2) t (exchange_round t d) (omega arith) (omega arith)
    (good-given (3 * t + 1 + 1) t (4 * t + 2) (draw 8 c) r t c small taker made.1 (good-drawn (3 * t + 1 + 1) t (4 * t + 2) bundle made.0))

one_update_more : (k u n : ℕ) (d : LoadDraft) → IsGood k u n d → IsGood k (u + 1) n (record d { updates = d.updates + 1 })
one_update_more k u n d good = record { fits = good.fits; free = good.free; few = omega (arith, good.few); short = good.short }

good-update : (t n : ℕ) (d : LoadDraft) → t < 2000 → IsCorrect n → IsBeforeRound t d → AfterRound t (update_round t n d)
good-update t n d early taker good =
    let a = drawn d in
    let ready = good-drawn (3 * t) t (4 * t) d good in
    let few : a.updates < 4096 = omega (arith, good.few, early) in
    let small : t < 2 ^ 32 = omega (arith, early) in
    let e = Update (round_update t) faulty_node a.updates 1 None (some_key a) (value_of t) [] Right in
    let first = good-made (3 * t) t (4 * t) 102 t a e made.Update refl small (omega arith) (update-fits a.events t a.updates (draw 40 a) small few (ready.free 102 t small (omega arith))) ready in
    let b = draft_with a e in
    let second = good-give (3 * t + 2 + 1) t (4 * t + 1) n 102 t None b refl small taker tt (made-now a.events e (round_update t) made.Update refl refl) first in
    let all = one_update_more (3 * t + 2 + 1) t (4 * t + 1 + 1) (draft_with b (Give n (round_update t) None)) second in
    good-still (3 * t + 2 + 1) (3 * t + 3) (t + 1) (t + 1) (4 * t + 1 + 1) (4 * t + 4) (update_round t n d) (omega arith) (omega arith) (omega arith) all

good-faulty : (t : ℕ) (d : LoadDraft) → t < 2000 → IsBeforeRound t d → AfterRound t (faulty_round t d)
good-faulty t d early good =
    let a = drawn d in
    let b = drawn a in
    let n = some_node a in
    let ready = good-drawn (3 * t) t (4 * t) a (good-drawn (3 * t) t (4 * t) d good) in
    either (3 * t + 3) (t + 1) (4 * t + 4) (eqb (draw 4 b) 0) (draft_with b (Restart n)) (update_round t n b)
    (after (3 * t) (4 * t + 1) t (draft_with b (Restart n)) (omega arith) (omega arith) (good-more (3 * t) t (4 * t) b (Restart n) refl (restart-fits b.events n (some-correct a)) ready))
    (good-update t n b early (some-correct a) ready)

-- one round more
pub good-round : (t : ℕ) (d : LoadDraft) → t < 2000 → IsBeforeRound t d → IsBeforeRound (t + 1) (round t d)
unfolding round
good-round t d early good =
    let a = drawn d in
    let k = draw 10 a in
    let small : t < 2 ^ 32 = omega (arith, early) in
    let ready = good-drawn (3 * t) t (4 * t) d good in
    let all : AfterRound t (round_by k t a) =
    either (3 * t + 3) (t + 1) (4 * t + 4) (ltb k 5) _ _ (good-put t a ready) (either (3 * t + 3) (t + 1) (4 * t + 4) (ltb k 7) _ _ (good-get t a ready)
    (either (3 * t + 3) (t + 1) (4 * t + 4) (ltb k 9) _ _ (good-exchange-round t a small ready) (good-faulty t a early ready))) in
    good-still (3 * t + 3) (3 * (t + 1)) (t + 1) (t + 1) (4 * t + 4) (4 * (t + 1)) (round_by k t a) (omega arith) (omega arith) (omega arith) all
