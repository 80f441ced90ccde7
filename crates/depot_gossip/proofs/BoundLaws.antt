-- Laws of bounded bundles and of far hellos.
use Rattle.std.proofs.Common.{Some, Option, ◌≡◌, ℕ, ◌+◌, ◌-◌, ◌≤◌, List, [], ◌∷◌, ◌++◌, length, map, Bool, true, false, not, cond, ◌&&◌, ◌||◌, leb, ltb, eqb, Result, Ok, Err, refl, sym, ap, subst, ◌∙◌, inl, inr, ◌⊎◌, arith, length-append, min, append_assoc}
use Rattle.std.specs.List.{flat_map, list_any}
use Rattle.std.specs.Str.{bytes_eq}
use Rattle.std.proofs.lemmas.Bool.{and_parts, leb-true, ltb-false, eqb-true, and_from}
use Rattle.std.proofs.lemmas.List.{append-nil}
use Rattle.std.proofs.lemmas.Slice.Eq.{bytes_eq-Decides}
use Rattle.depot_base.specs.Format.{whole}
use Rattle.depot_base.specs.declared.record.Record.{Record}
use Rattle.depot_base.specs.declared.update.Update.{Update}
use Rattle.depot_model.specs.declared.hello.Hello.{Hello}
use Rattle.depot_model.specs.declared.hello.HelloLeaf.{HelloLeaf}
use Rattle.depot_model.specs.exchange.Bundle.{BundleAnswer, Parcel, Signs, bad_hello, bundle_answer, bundle_of, bytes_of_frames, fitting, frames_of, is_covered, other_roster, parcels, sent_for, sent_foreign, unvouched}
use Rattle.depot_model.specs.checks.Checks.{Setting}
use Rattle.depot_model.specs.exchange.Hello.{hello, hello_of, leaves_named, named_leaf}
use Rattle.depot_model.specs.updates.History.{by_id, leaves_of}
use Rattle.depot_model.specs.lists.Items.{updates_at}
use Rattle.depot_model.specs.journals.Journal.{accepted, has_id}
use Rattle.depot_model.specs.lists.Lists.{IsIn, is_among}
use Rattle.depot_model.specs.updates.Order.{past}
use Rattle.depot_model.specs.texts.Roster.{has_node}
use Rattle.depot_model.specs.texts.Texts.{hash_of_roster, id_of_update}
use Rattle.depot_model.specs.checks.Vouching.{groups_of, new_vouchers}
use Rattle.depot_model.proofs.lists.Members.{among_from, any_from, from_map}
use Rattle.depot_model.proofs.lists.RisingUpdates.{from_by_id}
use Rattle.depot_laws.specs.Rejoin.{updates_of}
use Rattle.depot_laws.proofs.records.Causes.{leaf_is_on}
use Rattle.depot_laws.proofs.exchanges.Parcels.{candidate_is, candidates_for, told_of_parcels}
use Rattle.depot_laws.proofs.lists.Splits.{given_by}
use Rattle.depot_laws.proofs.lists.Tests.{fails_from_not}
use Rattle.depot_laws.proofs.of_worlds.Worlds.{giver_in}
use Rattle.depot_streams.specs.Sendings.{DoFit}
use Rattle.depot_gossip.specs.Preparing.{answer_as_read, answer_with}
use Rattle.depot_gossip.proofs.BundleAnswers.{answer_for, answered_by}
use Rattle.depot_gossip.proofs.FitLaws.{bytes_push, count_push}
use Rattle.depot_gossip.specs.BoundFacts.{IsNamedIn, IsSpared, KeepsBounds, KeepsLeaves, NamesAccepted, SendsFirst, SendsFront, unbounded}
use Rattle.depot_gossip.specs.Bounding.{bounded_answer, bounded_sent, bytes_of_parcels, fit_a_bundle, has_few_vouchers, leaves_left, leaves_some, longest_front, may_follow, parcels_of}
use Rattle.depot_gossip.specs.FarHellos.{far_for, far_hello, far_leaves, put_leaf, put_leaves}
use Rattle.depot_gossip.specs.declared.bounds.Bounds.{Bounds}
use Rattle.depot_gossip.proofs.FarTexts.{at_on}
use Rattle.depot_gossip.proofs.WithinLaws.{leb_same, longest_is_front}

-- ---- without bounds

one_test : (a c e : Bool) → ((a && c) && (e || a)) && true ≡ a && c
one_test true true true = refl
one_test true true false = refl
one_test true false e = refl
one_test false c e = refl

abbrev count_of : List Parcel → ℕ
count_of xs = length (flat_map frames_of xs)

may_is : (here : Setting) (J : List Record) (before : List Parcel) (x : Parcel) → DoFit before → may_follow here J unbounded before x ≡ leb (bytes_of_frames (frames_of x)) (67108864 - bytes_of_parcels before) && leb (length (frames_of x)) (262144 - count_of before)
unfolding may_follow
may_is here J before x fit =
    let xs = before ++ x ∷ [] in
    let bytes = leb_same (bytes_of_parcels xs) 67108864 (bytes_of_frames (frames_of x)) (67108864 - bytes_of_parcels before) (λ few. omega (arith, bytes_push before x, few, fit.within)) (λ few. omega (arith, bytes_push before x, few, fit.within)) in
    let frames = leb_same (count_of xs) 262144 (length (frames_of x)) (262144 - count_of before) (λ few. omega (arith, count_push before x, few, fit.few)) (λ few. omega (arith, count_push before x, few, fit.few)) in
    one_test (leb (bytes_of_parcels xs) 67108864) (leb (count_of xs) 262144) (eqb (bytes_of_parcels before) 0)
    ∙ ap (λ (b : Bool). b && leb (count_of xs) 262144) bytes ∙ ap (λ (b : Bool). leb (bytes_of_frames (frames_of x)) (67108864 - bytes_of_parcels before) && b) frames

fit_more : (before : List Parcel) (x : Parcel) → DoFit before → leb (bytes_of_frames (frames_of x)) (67108864 - bytes_of_parcels before) && leb (length (frames_of x)) (262144 - count_of before) ≡ true → DoFit (before ++ x ∷ [])
fit_more before x fit e =
    let p = and_parts (leb (bytes_of_frames (frames_of x)) (67108864 - bytes_of_parcels before)) (leb (length (frames_of x)) (262144 - count_of before)) e in
    let bytes = leb-true _ _ p.0 in
    let frames = leb-true _ _ p.1 in
    record { within = omega (arith, bytes_push before x, bytes, fit.within); few = omega (arith, count_push before x, frames, fit.few) }

front_is_fitting : (here : Setting) (J : List Record) (before xs : List Parcel) → DoFit before → longest_front (may_follow here J unbounded) before xs ≡ fitting (67108864 - bytes_of_parcels before) (262144 - count_of before) xs
unfolding longest_front fitting
front_is_fitting here J before [] fit = refl
front_is_fitting here J before (x ∷ xs) fit = by_test (leb (bytes_of_frames (frames_of x)) (67108864 - bytes_of_parcels before) && leb (length (frames_of x)) (262144 - count_of before)) refl (may_is here J before x fit) (λ more. front_is_fitting here J (before ++ x ∷ []) xs more) where
  by_test : (b : Bool) → leb (bytes_of_frames (frames_of x)) (67108864 - bytes_of_parcels before) && leb (length (frames_of x)) (262144 - count_of before) ≡ b → may_follow here J unbounded before x ≡ b
      → (DoFit (before ++ x ∷ []) → longest_front (may_follow here J unbounded) (before ++ x ∷ []) xs ≡ fitting (67108864 - bytes_of_parcels (before ++ x ∷ [])) (262144 - count_of (before ++ x ∷ [])) xs)
      → cond (may_follow here J unbounded before x) (x ∷ longest_front (may_follow here J unbounded) (before ++ x ∷ []) xs) []
      ≡ cond b (x ∷ fitting (67108864 - bytes_of_parcels before - bytes_of_frames (frames_of x)) (262144 - count_of before - length (frames_of x)) xs) []
  by_test false is told later = ap (λ (c : Bool). cond c (x ∷ longest_front (may_follow here J unbounded) (before ++ x ∷ []) xs) []) told
  by_test true is told later =
      let bytes : 67108864 - bytes_of_parcels (before ++ x ∷ []) ≡ 67108864 - bytes_of_parcels before - bytes_of_frames (frames_of x) = omega (arith, bytes_push before x) in
      let frames : 262144 - count_of (before ++ x ∷ []) ≡ 262144 - count_of before - length (frames_of x) = omega (arith, count_push before x) in
      ap (λ (c : Bool). cond c (x ∷ longest_front (may_follow here J unbounded) (before ++ x ∷ []) xs) []) told
      ∙ ap (λ (ys : List Parcel). x ∷ ys) (later (fit_more before x fit is) ∙ ap (λ (n : ℕ). fitting n (262144 - count_of (before ++ x ∷ [])) xs) bytes ∙ ap (λ (n : ℕ). fitting (67108864 - bytes_of_parcels before - bytes_of_frames (frames_of x)) n xs) frames)

sent_is : (here : Setting) (sign : Signs) (J : List Record) (h : Hello) → bounded_sent here sign J h unbounded ≡ sent_for sign J h
unfolding bounded_sent sent_for
sent_is here sign J h = front_is_fitting here J [] (parcels sign J h) (record { within = omega arith; few = omega arith })

answer_is : (here : Setting) (sign : Signs) (J : List Record) (text : List ℕ) (h : Hello) → answer_with here sign J h (bounded_sent here sign J h unbounded) (leaves_some here sign J h unbounded) ≡ answer_for here sign J text h
unfolding bundle_of
answer_is here sign J text h = ap (λ (xs : List Parcel). answer_with here sign J h xs (ltb (length xs) (length (parcels sign J h)))) (sent_is here sign J h)

answers_alike : (here : Setting) (f g : Hello → BundleAnswer) → ((h : Hello) → f h ≡ g h) → (r : Result Hello ℕ) → answer_as_read here f r ≡ answer_as_read here g r
answers_alike here f g same (Err at) = refl
answers_alike here f g same (Ok h) = ap (λ (a : BundleAnswer). cond (not (bytes_eq h.roster (hash_of_roster here.listed))) (other_roster h.roster) (cond (not (has_node here.listed h.node)) (bad_hello 2) a)) (same h)

pub unbounded_is_bundle : (here : Setting) (sign : Signs) (J : List Record) (text : List ℕ) → bounded_answer here sign J text unbounded ≡ bundle_answer here sign J text
unfolding bounded_answer
unbounded_is_bundle here sign J text =
    answers_alike here (λ h. answer_with here sign J h (bounded_sent here sign J h unbounded) (leaves_some here sign J h unbounded)) (answer_for here sign J text) (answer_is here sign J text) (whole hello (record { at = 0; rest = text }))
    ∙ sym (answered_by here sign J text)

-- ---- prefixes

no_more : {X : Type 0} (xs : List X) → length xs ≤ 0 → xs ≡ []
no_more [] short = refl
no_more (x ∷ xs) short = absurd (omega (arith, short))

pub sends_front : (here : Setting) (sign : Signs) (J : List Record) (h : Hello) (b : Bounds) → SendsFront here sign J h b
unfolding bounded_sent
sends_front here sign J h b =
    let all = parcels_of here.me sign J h b.own in
    let f = longest_is_front (may_follow here J b) [] all in
    let sent = longest_front (may_follow here J b) [] all in
    record {
      front = record { left = f.0; is = f.1 };
      all = λ none.
          let few : length all ≤ length sent = ltb-false (length sent) (length all) none in
          let long : length all ≡ length sent + length f.0 = ap length f.1 ∙ length-append sent f.0 in
          let nothing : f.0 ≡ [] = no_more f.0 (omega (arith, few, long)) in
          sym (f.1 ∙ ap (λ (ys : List Parcel). sent ++ ys) nothing ∙ append-nil sent);
    }

-- ---- what is spared

-- a test that fails of a list fails of its members
not_any : {X : Type 0} (test : X → Bool) (xs : List X) (x : X) → list_any test xs ≡ false → IsIn x xs → test x ≡ false
not_any test xs x none on = by_test (test x) refl where
  by_test : (b : Bool) → test x ≡ b → b ≡ false
  by_test false is = refl
  by_test true is = absurd (let both : true ≡ false = sym (any_from test x xs on is) ∙ none in cc)

among_named : (h : Hello) (id : List ℕ) → IsNamedIn h id → is_among id (map (λ l. l.id) h.leaves) ≡ true
among_named h id on = among_from id (map (λ (l : HelloLeaf). l.id) h.leaves) on

or_parts : (a b : Bool) → a || b ≡ false → (a ≡ false) × (b ≡ false)
or_parts false false e = (refl, refl)
or_parts true b e = absurd cc
or_parts false true e = absurd cc

second : (a b : Bool) → a ≡ true → a && b ≡ false → b ≡ false
second true b is e = e
second false b is e = absurd cc

pub spared : (sign : Signs) (K : List Record) (h : Hello) (u : Update) → IsIn u (updates_of (parcels sign K h)) → IsSpared K h u
unfolding is_covered
spared sign K h u on =
    let accepts = subst (λ (us : List Update). IsIn u us) (told_of_parcels sign K h) on in
    let g = given_by (λ (r : Record). _) u (candidates_for K h) accepts in
    let is = candidate_is K h g.by u (giver_in _ u (candidates_for K h) g) g.given in
    let free = fails_from_not (is_covered (accepted K) (map (λ l. l.id) h.leaves) u) (and_parts (not (eqb u.writer h.node)) (not (is_covered (accepted K) (map (λ l. l.id) h.leaves) u)) is).1 in
    let each : (l : Update) → IsIn l (accepted K) → IsNamedIn h (id_of_update l) → (bytes_eq (id_of_update u) (id_of_update l) ≡ false) × (has_id (past l (accepted K)) (id_of_update u) ≡ false) =
    λ l l_on named. or_parts _ _ (second (is_among (id_of_update l) (map (λ k. k.id) h.leaves)) _ (among_named h (id_of_update l) named) (not_any _ (accepted K) l free l_on)) in
    record {
      named = λ u_on named. let same : true ≡ false = sym ((bytes_eq-Decides (id_of_update u) (id_of_update u)).1 refl) ∙ (each u u_on named).0 in cc;
      past = λ l l_on named. (each l l_on named).1;
    }

-- ---- what a far hello names

from_put : (l : HelloLeaf) (ks : List HelloLeaf) (k : HelloLeaf) → IsIn k (put_leaf l ks) → IsIn k (l ∷ ks)
unfolding put_leaf
from_put l [] k on = on
from_put l (m ∷ ms) k on = by_tests _ _ (from_put l ms k) on where
  by_tests : (low high : Bool) → (IsIn k (put_leaf l ms) → IsIn k (l ∷ ms)) → IsIn k (cond low (m ∷ put_leaf l ms) (cond high (l ∷ m ∷ ms) (m ∷ ms))) → IsIn k (l ∷ m ∷ ms)
  by_tests true high later (inl same) = inr (inl same)
  by_tests true high later (inr there) = elim (later there) [ inl same ↦ inl same | inr behind ↦ inr (inr behind) ]
  by_tests false true later here = here
  by_tests false false later here = inr here

from_puts : (ls ks : List HelloLeaf) (k : HelloLeaf) → IsIn k (put_leaves ls ks) → IsIn k ls ⊎ IsIn k ks
unfolding put_leaves
from_puts [] ks k on = inr on
from_puts (l ∷ ls) ks k on = elim (from_puts ls (put_leaf l ks) k on) [
  | inl there ↦ inl (inr there)
  | inr put ↦ elim (from_put l ks k put) [ inl same ↦ inl (inl same) | inr behind ↦ inr behind ]
]

pub names_accepted : (here : Setting) (J : List Record) → NamesAccepted here J
unfolding far_hello hello_of far_leaves
names_accepted here J l on =
    let us = accepted J in
    let places = far_for us (leaves_named J) in
    elim (from_puts (map named_leaf (updates_at us places)) (leaves_named J) l on) [
      | inl far ↦ let u = from_map named_leaf l (updates_at us places) far in (u.0, (at_on us places u.0 u.1.0, u.1.1))
      | inr leaf ↦ let u = from_map named_leaf l (by_id (leaves_of us)) leaf in (u.0, (leaf_is_on us u.0 (from_by_id u.0 (leaves_of us) u.1.0), u.1.1))
    ]

in_put : (l : HelloLeaf) (ks : List HelloLeaf) (k : HelloLeaf) → IsIn k ks → IsIn k (put_leaf l ks)
unfolding put_leaf
in_put l [] k on = absurd on
in_put l (m ∷ ms) k on = by_tests _ _ (in_put l ms k) on where
  by_tests : (low high : Bool) → (IsIn k ms → IsIn k (put_leaf l ms)) → IsIn k (m ∷ ms) → IsIn k (cond low (m ∷ put_leaf l ms) (cond high (l ∷ m ∷ ms) (m ∷ ms)))
  by_tests true high later (inl same) = inl same
  by_tests true high later (inr there) = inr (later there)
  by_tests false true later here = inr here
  by_tests false false later here = here

in_puts : (ls ks : List HelloLeaf) (k : HelloLeaf) → IsIn k ks → IsIn k (put_leaves ls ks)
unfolding put_leaves
in_puts [] ks k on = on
in_puts (l ∷ ls) ks k on = in_puts ls (put_leaf l ks) k (in_put l ks k on)

pub keeps_leaves : (here : Setting) (J : List Record) → KeepsLeaves here J
unfolding far_hello hello_of far_leaves
keeps_leaves here J l on = in_puts (map named_leaf (updates_at (accepted J) (far_for (accepted J) (leaves_named J)))) (leaves_named J) l on

-- ---- bounds are kept

-- the last of what is chosen passed its test
pub data IsTested {X : Type 0} (may : List X → X → Bool) (before r : List X) : Type 0 where
  tests_none : r ≡ [] → IsTested may before r
  tests_last : (ys : List X) (y : X) → r ≡ ys ++ y ∷ [] → may (before ++ ys) y ≡ true → IsTested may before r

pub longest_tested : {X : Type 0} (may : List X → X → Bool) (before xs : List X) → IsTested may before (longest_front may before xs)
unfolding longest_front
longest_tested may before [] = tests_none refl
longest_tested {X = X} may before (x ∷ xs) = by_test (may before x) refl (longest_tested may (before ++ x ∷ []) xs) where
  by_test : (b : Bool) → may before x ≡ b → IsTested may (before ++ x ∷ []) (longest_front may (before ++ x ∷ []) xs) → IsTested may before (cond b (x ∷ longest_front may (before ++ x ∷ []) xs) [])
  by_test false is rest = tests_none refl
  by_test true is (tests_none e) = tests_last [] x (ap (λ (ys : List X). x ∷ ys) e) (ap (λ (ys : List X). may ys x) (append-nil before) ∙ is)
  by_test true is (tests_last ys y e t) = tests_last (x ∷ ys) y (ap (λ (zs : List X). x ∷ zs) e) (ap (λ (zs : List X). may zs y) (sym (append_assoc before (x ∷ []) ys)) ∙ t)

either : (a b : Bool) → a || b ≡ true → (a ≡ true) ⊎ (b ≡ true)
either true b e = inl refl
either false b e = inr e

last_part : (a c d : Bool) → (a && c) && d ≡ true → (c ≡ true) × (d ≡ true)
last_part a c d e = let p = and_parts (a && c) d e in ((and_parts a c p.0).1, p.1)

few_told : (here : Setting) (J : List Record) (o : Option ℕ) (xs : List Parcel) (most : ℕ) → o ≡ Some most → has_few_vouchers here J o xs ≡ true → length (new_vouchers here.me J (unvouched here.me J xs)) ≤ min most (leaves_left here J)
few_told here J o xs most is e = leb-true _ _ (sym (ap (λ (p : Option ℕ). has_few_vouchers here J p xs) is) ∙ e)

none_few : (here : Setting) (J : List Record) (n : ℕ) → length (new_vouchers here.me J (unvouched here.me J [])) ≤ n
unfolding unvouched sent_foreign new_vouchers groups_of
none_few here J n = omega arith

kept_by : (here : Setting) (J : List Record) (b : Bounds) (xs : List Parcel) → IsTested (may_follow here J b) [] xs → KeepsBounds here J b xs
unfolding may_follow
kept_by here J b xs (tests_none none) = subst (λ (ys : List Parcel). KeepsBounds here J b ys) (sym none) (record { bytes = inl (omega arith); vouchers = λ most is. none_few here J (min most (leaves_left here J)) })
kept_by here J b xs (tests_last ys y is e) =
    let all = ys ++ y ∷ [] in
    let p = last_part (fit_a_bundle all) (eqb (bytes_of_parcels ys) 0 || leb (bytes_of_parcels all) b.bytes) (has_few_vouchers here J b.vouchers all) e in
    subst (λ (zs : List Parcel). KeepsBounds here J b zs) (sym is) (record {
      bytes = elim (either (eqb (bytes_of_parcels ys) 0) (leb (bytes_of_parcels all) b.bytes) p.0) [
        | inl alone ↦ inr (ys, (y, (refl, eqb-true _ _ alone)))
        | inr short ↦ inl (leb-true _ _ short)
      ];
      vouchers = λ most o. few_told here J b.vouchers all most o p.1;
    })

pub keeps_bounds : (here : Setting) (sign : Signs) (J : List Record) (h : Hello) (b : Bounds) → KeepsBounds here J b (bounded_sent here sign J h b)
unfolding bounded_sent
keeps_bounds here sign J h b = kept_by here J b (longest_front (may_follow here J b) [] (parcels_of here.me sign J h b.own)) (longest_tested (may_follow here J b) [] (parcels_of here.me sign J h b.own))

pub sends_first : (here : Setting) (sign : Signs) (J : List Record) (h : Hello) (b : Bounds) → SendsFirst here sign J h b
unfolding bounded_sent longest_front may_follow
sends_first here sign J h b x rest is fits few =
    let goes : may_follow here J b [] x ≡ true = and_from _ _ (and_from _ _ fits refl) few in
    let first : longest_front (may_follow here J b) [] (x ∷ rest) ≡ x ∷ longest_front (may_follow here J b) (x ∷ []) rest = ap (λ (c : Bool). cond c (x ∷ longest_front (may_follow here J b) (x ∷ []) rest) []) goes in
    subst (λ (ys : List Parcel). IsIn x ys) (sym (ap (longest_front (may_follow here J b) []) is ∙ first)) (inl refl)
