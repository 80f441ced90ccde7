-- Sets of ids, with more of them.
use Rattle.std.proofs.Common.{◌≡◌, ℕ, ◌<◌, Result, Ok, Err, IsOk, IfOk, OnOk, rules, OnErr, IsSome, is_some, List, [], ◌∷◌, get_or, length, Bool, true, false, cond, Option, Some, None, ◌||◌, refl, sym, ap, subst, ◌∙◌, inl, inr}
use Rattle.std.specs.List.{AllByRecursion}
use Rattle.std.specs.List.Sorted.{IsStrictlySortedBy}
use Rattle.std.specs.Map.{keys_of, lookup}
use Rattle.std.specs.BTreeMap.{insert_entry}
use Rattle.std.specs.Str.{bytes_eq}
use Rattle.std.specs.declared.cmp.Ordering.{Ordering}
use Rattle.std.specs.declared.cmp.Ordering.TheVariants.{Less, Equal, Greater}
use Rattle.std.specs.Ordering.{nat_cmp, is_eq, match_ordering}
use Rattle.std.specs.Cmp.Lexicographic.{slice_cmp}
use Rattle.std.proofs.lemmas.Bool.{or_left, or_right, or_cases}
use Rattle.std.proofs.lemmas.Map.Text.{is_eq-slice_cmp}
use Rattle.std.proofs.lemmas.Slice.Eq.{bytes_eq-Decides}
use Rattle.std.proofs.lemmas.Option.{slice_get-get_or}
use Rattle.std.proofs.Math.Bool.{or_assoc}
use Rattle.std.proofs.lemmas.Map.Lookups.{exact_bytes}
use Rattle.depot_model.specs.lists.Lists.{is_among, AreTogether}
use Rattle.depot_model.proofs.lists.Elements.{in_at}
use Rattle.depot_model.proofs.lists.Members.{all_at, among_from, among_to}
use Rattle.depot_base.proofs.GeneralLaws.{or_again}
use Rattle.depot_kept.specs.VouchedView.{AreWithin}
use Rattle.depot_kept.specs.IdSlots.{vouched_in, DoAscend}

abbrev Entries : Type 0
Entries = List (List ℕ × Bool)

-- the order of the ids
abbrev id_cmp : List ℕ → List ℕ → Ordering
id_cmp a b = slice_cmp nat_cmp a b

-- what a look-up finds
abbrev pub found_in : List ℕ → Entries → Option Bool
found_in id es = lookup (λ (k : List ℕ). is_eq (slice_cmp nat_cmp id k)) es

-- ---- tests

or_turn : (a b : Bool) → (a || b) ≡ (b || (a || false))
or_turn true true = refl
or_turn true false = refl
or_turn false true = refl
or_turn false false = refl

-- ---- look-ups

-- an id has a place where a look-up finds something
pub place_is_found : (id : List ℕ) (es : Entries) → is_among id (keys_of es) ≡ is_some (found_in id es)
place_is_found id [] = refl
place_is_found id (e ∷ es) = go (bytes_eq id e.0) _ (sym (is_eq-slice_cmp id e.0)) (place_is_found id es) where
  go : (b c : Bool) → b ≡ c → is_among id (keys_of es) ≡ is_some (found_in id es) → (b || is_among id (keys_of es)) ≡ is_some (cond c (Some e.1) (found_in id es))
  go true true e h = refl
  go false false e h = h
  go true false e h = absurd cc
  go false true e h = absurd cc

pub place_of_found : (id : List ℕ) (es : Entries) → is_some (found_in id es) ≡ true → is_among id (keys_of es) ≡ true
place_of_found id es e = place_is_found id es ∙ e

-- what is vouched has a place
vouched_place : (h : List ℕ) (es : Entries) → is_among h (vouched_in es) ≡ true → is_among h (keys_of es) ≡ true
vouched_place h [] e = absurd cc
vouched_place h (e ∷ es) on = go e.1 on (vouched_place h es) where
  go : (b : Bool) → is_among h (cond b (e.0 ∷ vouched_in es) (vouched_in es)) ≡ true → (is_among h (vouched_in es) ≡ true → is_among h (keys_of es) ≡ true) → (bytes_eq h e.0 || is_among h (keys_of es)) ≡ true
  go true on later = elim (or_cases (bytes_eq h e.0) (is_among h (vouched_in es)) on) [
    | inl here ↦ or_left (bytes_eq h e.0) (is_among h (keys_of es)) here
    | inr there ↦ or_right (bytes_eq h e.0) (is_among h (keys_of es)) (later there)
  ]
  go false on later = or_right (bytes_eq h e.0) (is_among h (keys_of es)) (later on)

-- an id isn't one of those that it is below
not_below : (h : List ℕ) (ks : List (List ℕ)) → AllByRecursion (λ k. slice_cmp nat_cmp h k ≡ Less) ks → is_among h ks ≡ true → ⊥
not_below h ks all on =
    let less : slice_cmp nat_cmp h h ≡ Less = all_at (λ k. slice_cmp nat_cmp h k ≡ Less) ks h all (among_to h ks on) in
    let none : is_eq (slice_cmp nat_cmp h h) ≡ false = ap is_eq less in
    let same : is_eq (slice_cmp nat_cmp h h) ≡ true = is_eq-slice_cmp h h ∙ (bytes_eq-Decides h h).1 refl in
    cc

none_if_not : (b : Bool) → (b ≡ true → ⊥) → false ≡ b
none_if_not true h = absurd (h refl)
none_if_not false h = refl

-- what a look-up finds is whether the id is vouched
pub found_is_vouched : (h : List ℕ) (es : Entries) (b : Bool) → DoAscend (keys_of es) → Some b ≡ found_in h es → b ≡ is_among h (vouched_in es)
unfolding IsStrictlySortedBy
found_is_vouched h [] b up e = absurd cc
found_is_vouched h (e ∷ es) b up found = go (bytes_eq h e.0) refl (subst (λ (c : Bool). Some b ≡ cond c (Some e.1) (found_in h es)) (is_eq-slice_cmp h e.0) found) (found_is_vouched h es b up.1) where
  here : (m : Bool) → bytes_eq h e.0 ≡ true → m ≡ is_among h (cond m (e.0 ∷ vouched_in es) (vouched_in es))
  here true same = sym (or_left (bytes_eq h e.0) (is_among h (vouched_in es)) same)
  here false same =
      let one : h ≡ e.0 = (bytes_eq-Decides h e.0).0 same in
      let below : AllByRecursion (λ k. slice_cmp nat_cmp h k ≡ Less) (keys_of es) = subst (λ (x : List ℕ). AllByRecursion (λ k. slice_cmp nat_cmp x k ≡ Less) (keys_of es)) (sym one) up.0 in
      none_if_not (is_among h (vouched_in es)) (λ on. not_below h (keys_of es) below (vouched_place h es on))

  there : (m : Bool) → bytes_eq h e.0 ≡ false → is_among h (vouched_in es) ≡ is_among h (cond m (e.0 ∷ vouched_in es) (vouched_in es))
  there true differs = ap (λ (c : Bool). c || is_among h (vouched_in es)) (sym differs)
  there false differs = refl

  go : (c : Bool) → bytes_eq h e.0 ≡ c → Some b ≡ cond c (Some e.1) (found_in h es) → (Some b ≡ found_in h es → b ≡ is_among h (vouched_in es)) → b ≡ is_among h (vouched_in (e ∷ es))
  go true same found later = let is : b ≡ e.1 = cc in is ∙ here e.1 same
  go false differs found later = later found ∙ there e.1 differs

-- and an id of which it finds nothing isn't
pub missing_is_not_vouched : (h : List ℕ) (es : Entries) → None ≡ found_in h es → false ≡ is_among h (vouched_in es)
missing_is_not_vouched h es e = none_if_not (is_among h (vouched_in es)) (λ on.
    let there = vouched_place h es on in
    let found = place_is_found h es in
    let nothing : is_some (found_in h es) ≡ false = ap is_some (sym e) in
    cc)

-- ---- one id is put in

-- it has a place then
pub places_then : (es : Entries) (id : List ℕ) (b : Bool) → AreTogether (keys_of es) (id ∷ []) (keys_of (insert_entry (slice_cmp nat_cmp) es id b))
places_then [] id b h = refl
places_then (e ∷ es) id b h = go (id_cmp id e.0) refl (places_then es id b h) where
  go : (o : Ordering) → id_cmp id e.0 ≡ o → is_among h (keys_of (insert_entry (slice_cmp nat_cmp) es id b)) ≡ (is_among h (keys_of es) || (bytes_eq h id || false))
      → is_among h (keys_of (match_ordering o ((id, b) ∷ e ∷ es) ((e.0, b) ∷ es) (e ∷ insert_entry (slice_cmp nat_cmp) es id b))) ≡ ((bytes_eq h e.0 || is_among h (keys_of es)) || (bytes_eq h id || false))
  go Less is later = or_turn (bytes_eq h id) (bytes_eq h e.0 || is_among h (keys_of es))
  go Equal is later = or_again (bytes_eq h e.0 || is_among h (keys_of es)) (bytes_eq h id) (λ same. or_left (bytes_eq h e.0) (is_among h (keys_of es)) (subst (λ (k : List ℕ). bytes_eq h k ≡ true) (exact_bytes id e.0 is) same))
  go Greater is later = ap (λ (c : Bool). bytes_eq h e.0 || c) later ∙ sym (or_assoc (bytes_eq h e.0) (is_among h (keys_of es)) (bytes_eq h id || false))

pub placed : (es new : Entries) (id : List ℕ) (b : Bool) → new ≡ insert_entry (slice_cmp nat_cmp) es id b → AreTogether (keys_of es) (id ∷ []) (keys_of new)
placed es new id b e h = ap (λ (l : Entries). is_among h (keys_of l)) e ∙ places_then es id b h

-- an empty slot for an id that has none leaves the ids as they are
pub vouched_same : (es : Entries) (id : List ℕ) → is_some (found_in id es) ≡ false → vouched_in (insert_entry (slice_cmp nat_cmp) es id false) ≡ vouched_in es
vouched_same [] id absent = refl
vouched_same (e ∷ es) id absent = go (id_cmp id e.0) refl absent (vouched_same es id) where
  go : (o : Ordering) → id_cmp id e.0 ≡ o → is_some (cond (is_eq o) (Some e.1) (found_in id es)) ≡ false → (is_some (found_in id es) ≡ false → vouched_in (insert_entry (slice_cmp nat_cmp) es id false) ≡ vouched_in es)
      → vouched_in (match_ordering o ((id, false) ∷ e ∷ es) ((e.0, false) ∷ es) (e ∷ insert_entry (slice_cmp nat_cmp) es id false)) ≡ vouched_in (e ∷ es)
  go Less is absent later = refl
  go Equal is absent later = absurd cc
  go Greater is absent later = ap (λ (hs : List (List ℕ)). cond e.1 (e.0 ∷ hs) hs) (later absent)

-- one that is marked is vouched
pub vouched_then : (es : Entries) (id : List ℕ) → AreTogether (vouched_in es) (id ∷ []) (vouched_in (insert_entry (slice_cmp nat_cmp) es id true))
vouched_then [] id h = refl
vouched_then (e ∷ es) id h = go (id_cmp id e.0) refl (vouched_then es id h) where
  replaced : (b : Bool) → bytes_eq h e.0 ≡ bytes_eq h id → (bytes_eq h e.0 || is_among h (vouched_in es)) ≡ (is_among h (cond b (e.0 ∷ vouched_in es) (vouched_in es)) || (bytes_eq h id || false))
  replaced true same = or_again (bytes_eq h e.0 || is_among h (vouched_in es)) (bytes_eq h id) (λ one. or_left (bytes_eq h e.0) (is_among h (vouched_in es)) (same ∙ one))
  replaced false same = or_turn (bytes_eq h e.0) (is_among h (vouched_in es)) ∙ ap (λ (c : Bool). is_among h (vouched_in es) || (c || false)) same

  behind : (b : Bool) → is_among h (vouched_in (insert_entry (slice_cmp nat_cmp) es id true)) ≡ (is_among h (vouched_in es) || (bytes_eq h id || false))
      → is_among h (cond b (e.0 ∷ vouched_in (insert_entry (slice_cmp nat_cmp) es id true)) (vouched_in (insert_entry (slice_cmp nat_cmp) es id true))) ≡ (is_among h (cond b (e.0 ∷ vouched_in es) (vouched_in es)) || (bytes_eq h id || false))
  behind true later = ap (λ (c : Bool). bytes_eq h e.0 || c) later ∙ sym (or_assoc (bytes_eq h e.0) (is_among h (vouched_in es)) (bytes_eq h id || false))
  behind false later = later

  go : (o : Ordering) → id_cmp id e.0 ≡ o → is_among h (vouched_in (insert_entry (slice_cmp nat_cmp) es id true)) ≡ (is_among h (vouched_in es) || (bytes_eq h id || false))
      → is_among h (vouched_in (match_ordering o ((id, true) ∷ e ∷ es) ((e.0, true) ∷ es) (e ∷ insert_entry (slice_cmp nat_cmp) es id true))) ≡ (is_among h (vouched_in (e ∷ es)) || (bytes_eq h id || false))
  go Less is later = or_turn (bytes_eq h id) (is_among h (vouched_in (e ∷ es)))
  go Equal is later = replaced e.1 (ap (bytes_eq h) (sym (exact_bytes id e.0 is)))
  go Greater is later = behind e.1 later

pub marked : (es new : Entries) (id : List ℕ) → new ≡ insert_entry (slice_cmp nat_cmp) es id true → AreTogether (vouched_in es) (id ∷ []) (vouched_in new)
marked es new id e h = ap (λ (l : Entries). is_among h (vouched_in l)) e ∙ vouched_then es id h

-- ---- the same places, and more

-- an id that is there
pub none_new : (ks : List (List ℕ)) (id : List ℕ) → is_among id ks ≡ true → AreTogether ks (id ∷ []) ks
none_new ks id there h = or_again (is_among h ks) (bytes_eq h id) (λ e. let same : h ≡ id = (bytes_eq-Decides h id).0 e in subst (λ (x : List ℕ). is_among x ks ≡ true) (sym same) there)

-- what was there stays
pub stays_together : (old more new : List (List ℕ)) → AreTogether old more new → AreWithin old new
stays_together old more new together h on = together h ∙ or_left (is_among h old) (is_among h more) on

-- and what was added is there
pub added_together : (old more new : List (List ℕ)) → AreTogether old more new → AreWithin more new
added_together old more new together h on = together h ∙ or_right (is_among h old) (is_among h more) on

-- an id that was read is one of them
pub read_is_within : (xs all : List (List ℕ)) (i : ℕ) (x : List ℕ) → AreWithin xs all → i < length xs → x ≡ get_or xs i x → is_among x all ≡ true
read_is_within xs all i x within low is = within x (among_from x xs (in_at xs i x (slice_get-get_or xs i x low ∙ ap (λ (y : List ℕ). Some y) (sym is))))

-- the same, of what is seen
pub within_keys : (some xs keys room : List (List ℕ)) → xs ≡ some → keys ≡ room → AreWithin some room → AreWithin xs keys
within_keys some xs keys room same seen within h on = subst (λ (ks : List (List ℕ)). is_among h ks ≡ true) (sym seen) (within h (subst (λ (ys : List (List ℕ)). is_among h ys ≡ true) same on))

-- ---- answers

-- an error isn't good
pub not_ok : {A E : Type 0} (r : Result A E) (e : E) → r ≡ Err e → IsOk r → ⊥
not_ok (Ok x) e is ok = cc
not_ok (Err x) e is ok = absurd (search rules)

-- an answer that can't be an error gives what is said of a good one
pub unless_absent : {A E : Type 0} (r : Result A E) (P : Type 0) (id : List ℕ) (es : Entries) → is_among id (keys_of es) ≡ true → OnErr r (found_in id es ≡ None) → OnOk r P → P
unless_absent (Ok x) P id es there absent on = on
unless_absent (Err e) P id es there absent on = absurd (let found = place_is_found id es in let nothing : is_some (found_in id es) ≡ false = ap is_some absent in cc)

-- and the keys stay, since the id was one of them
pub keys_unless : {E : Type 0} (r : Result (Option Bool) E) (P : Type 0) (id : List ℕ) (es : Entries) → is_among id (keys_of es) ≡ true → OnErr r (found_in id es ≡ None) → IfOk r (λ old. old ≡ found_in id es) → IfOk r (λ old. IsSome old → P) → P
keys_unless (Ok x) P id es there absent is stay = stay (ap is_some is ∙ sym (place_is_found id es) ∙ there)
keys_unless (Err e) P id es there absent is stay = absurd (let found = place_is_found id es in let nothing : is_some (found_in id es) ≡ false = ap is_some absent in cc)
