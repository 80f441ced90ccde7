-- The ids that a bundle makes vouchers for are distinct, and each is that of an accepted update of another writer.
use Rattle.std.proofs.Common.{◌≡◌, ℕ, List, [], ◌∷◌, ◌++◌, map, Bool, true, false, not, cond, eqb, ◌&&◌, sym, ap, subst, ◌∙◌, inl, inr}
use Rattle.std.specs.List.{AllByRecursion, filter, flat_map}
use Rattle.std.specs.Str.{bytes_eq}
use Rattle.std.proofs.lemmas.List.{map-append}
use Rattle.std.proofs.lemmas.Grind.{flat_map-append}
use Rattle.std.proofs.lemmas.Bool.{and_from}
use Rattle.std.proofs.lemmas.Slice.Eq.{bytes_eq-Decides}
use Rattle.depot_base.specs.declared.update.Update.{Update}
use Rattle.depot_base.specs.declared.statement.Signed.{Signed}
use Rattle.depot_base.specs.declared.record.Record.{Record}
use Rattle.depot_model.specs.declared.hello.Hello.{Hello}
use Rattle.depot_model.specs.lists.Lists.{IsIn, AreApart}
use Rattle.depot_model.specs.texts.Texts.{id_of_update}
use Rattle.depot_model.specs.updates.Order.{IsCausal}
use Rattle.depot_model.specs.journals.Journal.{accepted, accepted_by, update_in, is_foreign}
use Rattle.depot_model.specs.checks.Checks.{Setting}
use Rattle.depot_model.specs.journals.Lawful.{IsLawful}
use Rattle.depot_model.specs.checks.Vouching.{is_mine_vouched}
use Rattle.depot_model.specs.exchange.Bundle.{Signs, Parcel, has_candidate, candidates, parcels, sent_foreign, unvouched}
use Rattle.depot_model.proofs.of_updates.Orders.{fresh, causal_behind}
use Rattle.depot_model.proofs.lists.Members.{in_left, in_right, in_parts, in_map, from_map, all_from, any_from, from_filter}
use Rattle.depot_laws.specs.Rejoin.{updates_of}
use Rattle.depot_laws.proofs.lists.Splits.{given_by, flat_gives}
use Rattle.depot_laws.proofs.lists.Tests.{fails_from_not}
use Rattle.depot_laws.proofs.records.Causes.{lawful_is_causal}
use Rattle.depot_laws.proofs.of_worlds.Worlds.{giver_in}
use Rattle.depot_laws.proofs.exchanges.Parcels.{IsFront, candidates_for, told_of_parcels}

-- ---- lists of which no element occurs twice

apart_filter : {X : Type 0} (test : X → Bool) (xs : List X) → AreApart xs → AreApart (filter test xs)
apart_filter test [] a = tt
apart_filter {X = X} test (x ∷ xs) a = by_test (test x) (apart_filter test xs a.1) where
  by_test : (b : Bool) → AreApart (filter test xs) → AreApart (cond b (x ∷ filter test xs) (filter test xs))
  by_test true rest = (λ on. a.0 (from_filter test x xs on).0, rest)
  by_test false rest = rest

apart_front : {X : Type 0} (xs ys : List X) → AreApart (xs ++ ys) → AreApart xs
apart_front [] ys a = tt
apart_front (x ∷ xs) ys a = (λ on. a.0 (in_left x xs ys on), apart_front xs ys a.1)

apart_behind : {X : Type 0} (xs ys : List X) → AreApart (xs ++ ys) → AreApart ys
apart_behind [] ys a = a
apart_behind (x ∷ xs) ys a = apart_behind xs ys a.1

-- the images of those that pass a test
mapped_filter : {X Y : Type 0} (f : X → Y) (test : X → Bool) (xs : List X) → AreApart (map f xs) → AreApart (map f (filter test xs))
mapped_filter f test [] a = tt
mapped_filter f test (x ∷ xs) a = by_test (test x) (mapped_filter f test xs a.1) where
  by_test : (b : Bool) → AreApart (map f (filter test xs)) → AreApart (map f (cond b (x ∷ filter test xs) (filter test xs)))
  by_test false rest = rest
  by_test true rest = (λ on. let m = from_map f (f x) (filter test xs) on in a.0 (subst (λ (y : _). IsIn y (map f xs)) m.1.1 (in_map f m.0 xs (from_filter test m.0 xs m.1.0).0)), rest)

parts_apart : {R X Y : Type 0} (f : X → Y) (give : R → List X) (r : R) (rs : List R) → AreApart (map f (flat_map give (r ∷ rs))) → AreApart (map f (give r) ++ map f (flat_map give rs))
parts_apart {Y = Y} f give r rs a = subst (λ (ys : List Y). AreApart ys) (map-append f (give r) (flat_map give rs)) a

-- the images of what those give that pass a test
given_filter : {R X Y : Type 0} (f : X → Y) (give : R → List X) (test : R → Bool) (rs : List R) → AreApart (map f (flat_map give rs)) → AreApart (map f (flat_map give (filter test rs)))
given_filter f give test [] a = tt
given_filter {X = X} {Y = Y} f give test (r ∷ rs) a = by_test (test r) (given_filter f give test rs (apart_behind (map f (give r)) (map f (flat_map give rs)) (parts_apart f give r rs a))) where
  within : (y : Y) → IsIn y (map f (flat_map give (filter test rs))) → IsIn y (map f (flat_map give rs))
  within y on =
      let m = from_map f y (flat_map give (filter test rs)) on in
      let g = given_by give m.0 (filter test rs) m.1.0 in
      subst (λ (z : Y). IsIn z (map f (flat_map give rs))) m.1.1 (in_map f m.0 (flat_map give rs) (flat_gives give m.0 g.by rs (from_filter test g.by rs (giver_in give m.0 (filter test rs) g)).0 g.given))

  joined : (xs ys zs : List Y) → ((y : Y) → IsIn y zs → IsIn y ys) → AreApart (xs ++ ys) → AreApart zs → AreApart (xs ++ zs)
  joined [] ys zs each a b = b
  joined (x ∷ xs) ys zs each a b = (λ on. elim (in_parts x xs zs on) [ inl front ↦ a.0 (in_left x xs ys front) | inr back ↦ a.0 (in_right x xs ys (each x back)) ], joined xs ys zs each a.1 b)

  by_test : (b : Bool) → AreApart (map f (flat_map give (filter test rs))) → AreApart (map f (flat_map give (cond b (r ∷ filter test rs) (filter test rs))))
  by_test false rest = rest
  by_test true rest = subst (λ (ys : List Y). AreApart ys) (sym (map-append f (give r) (flat_map give (filter test rs)))) (joined (map f (give r)) (map f (flat_map give rs)) (map f (flat_map give (filter test rs))) within (parts_apart f give r rs a) rest)

-- ---- ids

ids_apart : (ids : List (List ℕ)) (us : List Update) → IsCausal ids us → AreApart (map id_of_update us)
ids_apart ids [] c = tt
ids_apart ids (u ∷ us) c =
    let behind = causal_behind ids u us c in
    (λ on. let m = from_map id_of_update (id_of_update u) us on in fresh (id_of_update u ∷ ids) us m.0 behind m.1.0 (inl (sym m.1.1)), ids_apart (id_of_update u ∷ ids) us behind)

-- what is sent precedes what the candidates accept
sent_front : (sign : Signs) (J : List Record) (h : Hello) (xs : List Parcel) → IsFront (parcels sign J h) xs → (more : List Update) × (accepted (candidates_for J h) ≡ updates_of xs ++ more)
sent_front sign J h xs f =
    (updates_of f.left, sym (told_of_parcels sign J h) ∙ ap updates_of f.is ∙ flat_map-append (λ (x : Parcel). flat_map (λ (s : Signed). update_in s.statement) x.told) xs f.left)

pub unvouched_apart : (here : Setting) (sign : Signs) (J : List Record) (h : Hello) (xs : List Parcel) → IsFront (parcels sign J h) xs → IsLawful here J → AreApart (unvouched here.me J xs)
unfolding unvouched sent_foreign candidates
unvouched_apart here sign J h xs f l =
    let s = sent_front sign J h xs f in
    let all = given_filter id_of_update accepted_by (has_candidate J (map (λ l. l.id) h.leaves) h.node) J (ids_apart [] (accepted J) (lawful_is_causal here J l)) in
    let parts : map id_of_update (accepted (candidates_for J h)) ≡ map id_of_update (updates_of xs) ++ map id_of_update s.0 = ap (map id_of_update) s.1 ∙ map-append id_of_update (updates_of xs) s.0 in
    let sent = apart_front (map id_of_update (updates_of xs)) (map id_of_update s.0) (subst (λ (hs : List (List ℕ)). AreApart hs) parts all) in
    apart_filter (λ (i : List ℕ). not (is_mine_vouched J i)) _ (mapped_filter id_of_update (λ (u : Update). not (eqb u.writer here.me)) (updates_of xs) sent)

pub foreign_one : (here : Setting) (sign : Signs) (J : List Record) (h : Hello) (xs : List Parcel) → IsFront (parcels sign J h) xs → (i : List ℕ) → IsIn i (unvouched here.me J xs) → is_foreign here.me (accepted J) i ≡ true
unfolding unvouched sent_foreign candidates
foreign_one here sign J h xs front i on =
    let other = λ (u : Update). not (eqb u.writer here.me) in
    let f = from_filter (λ (k : List ℕ). not (is_mine_vouched J k)) i (map id_of_update (filter other (updates_of xs))) on in
    let m = from_map id_of_update i (filter other (updates_of xs)) f.0 in
    let u = from_filter other m.0 (updates_of xs) m.1.0 in
    let s = sent_front sign J h xs front in
    let given : IsIn m.0 (accepted (candidates_for J h)) = subst (λ (us : List Update). IsIn m.0 us) (sym s.1) (in_left m.0 (updates_of xs) s.0 u.0) in
    let g = given_by accepted_by m.0 (candidates_for J h) given in
    let accepts : IsIn m.0 (accepted J) = flat_gives accepted_by m.0 g.by J (from_filter (has_candidate J (map (λ l. l.id) h.leaves) h.node) g.by J (giver_in accepted_by m.0 (candidates_for J h) g)).0 g.given in
    any_from (λ (t : Update). bytes_eq (id_of_update t) i && not (eqb t.writer here.me)) m.0 (accepted J) accepts (and_from _ _ ((bytes_eq-Decides (id_of_update m.0) i).1 m.1.1) u.1)

fresh_one : (me : ℕ) (J : List Record) (xs : List Parcel) (i : List ℕ) → IsIn i (unvouched me J xs) → is_mine_vouched J i ≡ false
unfolding unvouched
fresh_one me J xs i on = fails_from_not _ (from_filter (λ (k : List ℕ). not (is_mine_vouched J k)) i (sent_foreign me xs) on).1

pub unvouched_fresh : (me : ℕ) (J : List Record) (xs : List Parcel) → AllByRecursion (λ i. is_mine_vouched J i ≡ false) (unvouched me J xs)
unvouched_fresh me J xs = all_from (λ i. is_mine_vouched J i ≡ false) (unvouched me J xs) (fresh_one me J xs)
