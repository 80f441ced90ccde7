-- Names scanned in their order give their hashes in rising order.
use Rattle.std.proofs.Common.{◌≡◌, ℕ, ◌≤◌, Bool, true, false, cond, not, ◌&&◌, List, [], ◌∷◌, ◌++◌, length, map, take, Option, Some, None, refl, sym, ap, subst, ◌∙◌, append_assoc, inl, inr, ◌⊎◌}
use Rattle.std.specs.Map.{keys_of, lookup}
use Rattle.std.specs.List.{AllByRecursion}
use Rattle.std.specs.List.Sorted.{IsStrictlySortedBy}
use Rattle.std.specs.Ordering.{is_eq, is_lt, nat_cmp, ordering_reverse, ordering_then}
use Rattle.std.specs.Cmp.Lexicographic.{slice_cmp}
use Rattle.std.specs.declared.cmp.Ordering.{Ordering}
use Rattle.std.specs.declared.cmp.Ordering.TheVariants.{Less, Equal, Greater}
use Rattle.std.specs.Str.{bytes_eq}
use Rattle.std.proofs.lemmas.Bool.{and_parts}
use Rattle.std.proofs.lemmas.Cmp.{nat_list_cmp_total}
use Rattle.std.proofs.lemmas.List.{append-nil, take_all, take_at}
use Rattle.std.proofs.lemmas.Slice.Eq.{bytes_eq-Decides}
use Rattle.depot_base.specs.Format.{last_of}
use Rattle.depot_base.specs.Parts.{is_below}
use Rattle.depot_base.proofs.EntryLists.{last_pushed}
use Rattle.depot_base.proofs.GeneralLaws.{bytes_eq_comm, less_is}
use Rattle.depot_model.specs.texts.Contents.{NamedValue}
use Rattle.depot_model.specs.lists.Lists.{IsIn}
use Rattle.depot_model.specs.checks.Vouching.{rising}
use Rattle.depot_model.proofs.of_updates.ContradictionLaws.{below_or_above}
use Rattle.depot_model.proofs.lists.Members.{all_at, all_from, any_from, any_to, in_map, from_map}
use Rattle.depot_model.proofs.lists.RisingLists.{RisesByTest, one_rising, less_one_way}
use Rattle.depot_laws.proofs.lists.Groups.{rising_keeps, from_rising}
use Rattle.depot_laws.proofs.lists.RisingBytes.{rising_rises}
use Rattle.depot_readings.specs.Lacking.{is_next, is_same, hashes_behind}
use Rattle.depot_readings.specs.Named.{compare_names, is_marked, is_value_named, is_name, has_named_value}
use Rattle.depot_readings.specs.declared.named.NamedValues.{NamedValues}
use Rattle.depot_readings.proofs.NamedLaws.{same_name, name_is, own_name}

-- names with their marks
abbrev pub Entries : Type 0
Entries = List (NamedValue × Bool)

-- ---- in order

-- of two names in their order the second has no lower hash
not_lower : (a b : NamedValue) → compare_names a b ≡ Less → is_below b.hash a.hash ≡ false
not_lower a b e = by_order (slice_cmp nat_cmp a.hash b.hash) (slice_cmp nat_cmp b.hash a.hash) (nat_list_cmp_total.antisymm b.hash a.hash) e where
  by_order : (o p : Ordering) → p ≡ ordering_reverse o → ordering_then o (nat_cmp a.size b.size) ≡ Less → is_lt p ≡ false
  by_order Less p is e = rw is refl
  by_order Equal p is e = rw is refl
  by_order Greater p is e = absurd cc

-- no hash of these is below this one
abbrev StandAbove : List ℕ → Entries → Type 0
StandAbove hash es = AllByRecursion (λ e. is_below e.0.hash hash ≡ false) es

above_first : (e : NamedValue × Bool) (es : Entries) → AllByRecursion (λ k. compare_names e.0 k ≡ Less) (keys_of es) → StandAbove e.0.hash es
above_first e [] low = tt
above_first e (x ∷ xs) low = (not_lower e.0 x.0 low.0, above_first e xs low.1)

-- What is found after a hash rises above it.
record RisesAbove (hash : List ℕ) (found : List (List ℕ)) : Type 0 where
  above : AllByRecursion (λ x. is_below hash x ≡ true) found
  rises : RisesByTest is_below found

put_above : (hash first : List ℕ) (found : List (List ℕ)) → is_below hash first ≡ true → RisesAbove first found → RisesAbove hash (first ∷ found)
put_above hash first found low r = record {
  above = (low, all_from (λ (x : List ℕ). is_below hash x ≡ true) found (λ x on. ap is_lt (nat_list_cmp_total.trans hash first x (less_is _ low) (less_is _ (all_at (λ (y : List ℕ). is_below first y ≡ true) found x r.above on)))));
  rises = (r.above, r.rises);
}

rises_behind : (hash : List ℕ) (es : Entries) → IsStrictlySortedBy compare_names (keys_of es) → StandAbove hash es → RisesAbove hash (hashes_behind (Some hash) es)
unfolding hashes_behind IsStrictlySortedBy
rises_behind hash [] sorted above = record { above = tt; rises = tt }
rises_behind hash (e ∷ es) sorted above = by_tests e.1 (bytes_eq hash e.0.hash) refl (rises_behind e.0.hash es sorted.1 (above_first e es sorted.0)) (rises_behind hash es sorted.1 above.1) where
  by_tests : (mark same : Bool) → bytes_eq hash e.0.hash ≡ same → RisesAbove e.0.hash (hashes_behind (Some e.0.hash) es) → RisesAbove hash (hashes_behind (Some hash) es) → RisesAbove hash (cond (mark && not same) (e.0.hash ∷ hashes_behind (Some e.0.hash) es) (hashes_behind (Some hash) es))
  by_tests true false is here rest = put_above hash e.0.hash (hashes_behind (Some e.0.hash) es) (below_or_above e.0.hash hash above.0 (bytes_eq_comm e.0.hash hash ∙ is)) here
  by_tests true true is here rest = rest
  by_tests false same is here rest = rest

all_rise : (es : Entries) → IsStrictlySortedBy compare_names (keys_of es) → RisesByTest is_below (hashes_behind None es)
unfolding hashes_behind IsStrictlySortedBy
all_rise [] sorted = tt
all_rise (e ∷ es) sorted = by_mark e.1 (all_rise es sorted.1) where
  by_mark : (mark : Bool) → RisesByTest is_below (hashes_behind None es) → RisesByTest is_below (cond (mark && true) (e.0.hash ∷ hashes_behind (Some e.0.hash) es) (hashes_behind None es))
  by_mark true rest = let r = rises_behind e.0.hash es sorted.1 (above_first e es sorted.0) in (r.above, r.rises)
  by_mark false rest = rest

-- ---- the same members

-- a name that is marked, of this hash
record HasName (es : Entries) (hash : List ℕ) : Type 0 where
  name : NamedValue
  on : IsIn (name, true) es
  is : name.hash ≡ hash

later_name : (e : NamedValue × Bool) (es : Entries) (hash : List ℕ) → HasName es hash → HasName (e ∷ es) hash
later_name e es hash h = record { name = h.name; on = inr h.on; is = h.is }

found_is_named : (before : Option (List ℕ)) (es : Entries) (hash : List ℕ) → IsIn hash (hashes_behind before es) → HasName es hash
unfolding hashes_behind
found_is_named before [] hash never = absurd never
found_is_named before ((n, mark) ∷ es) hash on = by_tests mark (is_same before n.hash) (λ b. found_is_named b es hash) on where
  by_tests : (m same : Bool) → ((b : Option (List ℕ)) → IsIn hash (hashes_behind b es) → HasName es hash) → IsIn hash (cond (m && not same) (n.hash ∷ hashes_behind (Some n.hash) es) (hashes_behind before es)) → HasName ((n, m) ∷ es) hash
  by_tests true false rest (inl here) = record { name = n; on = inl refl; is = here }
  by_tests true false rest (inr there) = later_name (n, true) es hash (rest (Some n.hash) there)
  by_tests true true rest there = later_name (n, true) es hash (rest before there)
  by_tests false same rest there = later_name (n, false) es hash (rest before there)

same_is : (before : Option (List ℕ)) (hash : List ℕ) → is_same before hash ≡ true → before ≡ Some hash
same_is None hash e = absurd cc
same_is (Some k) hash e = ap (λ (x : List ℕ). Some x) ((bytes_eq-Decides k hash).0 e)

named_is_found : (before : Option (List ℕ)) (es : Entries) (n : NamedValue) → IsIn (n, true) es → IsIn n.hash (hashes_behind before es) ⊎ (before ≡ Some n.hash)
unfolding hashes_behind
named_is_found before [] n never = absurd never
named_is_found before ((k, mark) ∷ es) n on = by_tests mark (is_same before k.hash) refl (λ b. named_is_found b es n) on where
  first : IsIn n.hash (hashes_behind (Some k.hash) es) ⊎ (Some k.hash ≡ Some n.hash) → IsIn n.hash (k.hash ∷ hashes_behind (Some k.hash) es)
  first (inl there) = inr there
  first (inr is) = inl (cc)

  by_tests : (m same : Bool) → is_same before k.hash ≡ same → ((b : Option (List ℕ)) → IsIn (n, true) es → IsIn n.hash (hashes_behind b es) ⊎ (b ≡ Some n.hash)) → IsIn (n, true) ((k, m) ∷ es)
      → IsIn n.hash (cond (m && not same) (k.hash ∷ hashes_behind (Some k.hash) es) (hashes_behind before es)) ⊎ (before ≡ Some n.hash)
  by_tests true false is rest (inl here) = inl (inl (ap (λ (e : NamedValue × Bool). e.0.hash) here))
  by_tests true false is rest (inr there) = inl (first (rest (Some k.hash) there))
  by_tests true true is rest (inl here) = inr (same_is before k.hash is ∙ ap (λ (e : NamedValue × Bool). Some e.0.hash) here)
  by_tests true true is rest (inr there) = rest before there
  by_tests false same is rest (inl here) = absurd (let differ : false ≡ true = ap (λ (e : NamedValue × Bool). e.1) here in cc)
  by_tests false same is rest (inr there) = rest before there

-- ---- by the map

-- a name after a lower one
key_at : (es : Entries) (n k : NamedValue) → AllByRecursion (λ q. compare_names k q ≡ Less) (keys_of es) → IsIn (n, true) es → compare_names k n ≡ Less
key_at [] n k all never = absurd never
key_at (e ∷ es) n k all (inl here) = ap (λ (x : NamedValue × Bool). compare_names k x.0) (sym here) ∙ all.0
key_at (e ∷ es) n k all (inr there) = key_at es n k all.1 there

-- what is marked is found
pub looked_up : (es : Entries) (n : NamedValue) → IsStrictlySortedBy compare_names (keys_of es) → IsIn (n, true) es → is_marked (lookup (λ k. is_eq (compare_names n k)) es) ≡ true
unfolding IsStrictlySortedBy
looked_up [] n sorted never = absurd never
looked_up (e ∷ es) n sorted (inl here) = rw here (ap (λ (b : Bool). is_marked (cond b (Some true) (lookup (λ (k : NamedValue). is_eq (compare_names n k)) es))) (same_name n n ∙ own_name n))
looked_up (e ∷ es) n sorted (inr there) = by_test (is_eq (compare_names n e.0)) refl (looked_up es n sorted.1 there) where
  by_test : (b : Bool) → is_eq (compare_names n e.0) ≡ b → is_marked (lookup (λ k. is_eq (compare_names n k)) es) ≡ true → is_marked (cond b (Some e.1) (lookup (λ (k : NamedValue). is_eq (compare_names n k)) es)) ≡ true
  by_test false is rest = rest
  by_test true is rest =
      let one : n ≡ e.0 = name_is n e.0.hash e.0.size (sym (same_name n e.0) ∙ is) in
      let low : compare_names e.0 n ≡ Less = key_at es n e.0 sorted.0 there in
      let same : is_eq (compare_names e.0 n) ≡ true = ap (λ (x : NamedValue). is_eq (compare_names x n)) (sym one) ∙ same_name n n ∙ own_name n in
      absurd (let differ : is_eq Less ≡ true = ap is_eq (sym low) ∙ same in cc)

-- and what is found is marked
pub looked_at : (es : Entries) (n : NamedValue) → is_marked (lookup (λ k. is_eq (compare_names n k)) es) ≡ true → IsIn (n, true) es
looked_at [] n e = absurd cc
looked_at ((k, mark) ∷ es) n e = by_tests mark (is_eq (compare_names n k)) refl e (looked_at es n) where
  by_tests : (m b : Bool) → is_eq (compare_names n k) ≡ b → is_marked (cond b (Some m) (lookup (λ (q : NamedValue). is_eq (compare_names n q)) es)) ≡ true → (is_marked (lookup (λ (q : NamedValue). is_eq (compare_names n q)) es) ≡ true → IsIn (n, true) es) → IsIn (n, true) ((k, m) ∷ es)
  by_tests true true is e rest = inl (ap (λ (q : NamedValue). (q, true)) (sym (name_is n k.hash k.size (sym (same_name n k) ∙ is))))
  by_tests false true is e rest = absurd cc
  by_tests m false is e rest = inr (rest e)

-- ---- all hashes

below_one_way : (a b : List ℕ) → is_below a b ≡ true → is_below b a ≡ true → ⊥
below_one_way a b one two = less_one_way (slice_cmp nat_cmp a b) (slice_cmp nat_cmp b a) (nat_list_cmp_total.antisymm a b) two one

-- the hashes that are scanned are those of all names with the same names, in rising order
pub hashes_are : (named : NamedValues) (ns : List NamedValue) → IsStrictlySortedBy compare_names (keys_of named.marks.entries) → ((hash : List ℕ) (size : ℕ) → has_named_value named hash size ≡ is_name ns hash size)
    → hashes_behind None named.marks.entries ≡ rising (map (λ n. n.hash) ns)
unfolding has_named_value
hashes_are named ns sorted are = one_rising is_below _ _ below_one_way (all_rise named.marks.entries sorted) (rising_rises (map (λ (n : NamedValue). n.hash) ns)) (record { to = to; back = back }) where
  es : Entries
  es = named.marks.entries

  to : (x : List ℕ) → IsIn x (hashes_behind None es) → IsIn x (rising (map (λ n. n.hash) ns))
  to x on =
      let h = found_is_named None es x on in
      let m = any_to (λ (k : NamedValue). is_value_named k h.name.hash h.name.size) ns (sym (are h.name.hash h.name.size) ∙ looked_up es h.name sorted h.on) in
      let same : m.0.hash ≡ x = (bytes_eq-Decides m.0.hash h.name.hash).0 (and_parts _ _ m.1.1).0 ∙ h.is in
      rising_keeps x (map (λ (n : NamedValue). n.hash) ns) (subst (λ (y : List ℕ). IsIn y (map (λ (n : NamedValue). n.hash) ns)) same (in_map (λ (n : NamedValue). n.hash) m.0 ns m.1.0))

  there : (x : List ℕ) → IsIn x (hashes_behind None es) ⊎ (None ≡ Some x) → IsIn x (hashes_behind None es)
  there x (inl on) = on
  there x (inr differ) = absurd cc

  back : (x : List ℕ) → IsIn x (rising (map (λ n. n.hash) ns)) → IsIn x (hashes_behind None es)
  back x on =
      let n = from_map (λ (k : NamedValue). k.hash) x ns (from_rising x (map (λ (k : NamedValue). k.hash) ns) on) in
      let marked = looked_at es n.0 (are n.0.hash n.0.size ∙ any_from (λ (k : NamedValue). is_value_named k n.0.hash n.0.size) n.0 ns n.1.0 (own_name n.0)) in
      subst (λ (y : List ℕ). IsIn y (hashes_behind None es)) n.1.1 (there n.0.hash (named_is_found None es n.0 marked))

-- ---- one after another

-- the next is found after those before
pub hash_found : (found : List (List ℕ)) (e : NamedValue × Bool) (left rest : Entries) (all : List (List ℕ)) → left ≡ e ∷ rest → is_next found e ≡ true → found ++ hashes_behind (last_of found) left ≡ all
    → (found ++ e.0.hash ∷ []) ++ hashes_behind (last_of (found ++ e.0.hash ∷ [])) rest ≡ all
unfolding hashes_behind
hash_found found e left rest all next is before =
    ap (λ (o : Option (List ℕ)). (found ++ e.0.hash ∷ []) ++ hashes_behind o rest) (last_pushed found e.0.hash) ∙ append_assoc found (e.0.hash ∷ []) (hashes_behind (Some e.0.hash) rest)
    ∙ ap (λ (b : Bool). found ++ cond b (e.0.hash ∷ hashes_behind (Some e.0.hash) rest) (hashes_behind (last_of found) rest)) (sym is) ∙ ap (λ (es : Entries). found ++ hashes_behind (last_of found) es) (sym next) ∙ before

-- or left out
pub hash_left : (found : List (List ℕ)) (e : NamedValue × Bool) (left rest : Entries) (all : List (List ℕ)) → left ≡ e ∷ rest → is_next found e ≡ false → found ++ hashes_behind (last_of found) left ≡ all → found ++ hashes_behind (last_of found) rest ≡ all
unfolding hashes_behind
hash_left found e left rest all next is before =
    ap (λ (b : Bool). found ++ cond b (e.0.hash ∷ hashes_behind (Some e.0.hash) rest) (hashes_behind (last_of found) rest)) (sym is) ∙ ap (λ (es : Entries). found ++ hashes_behind (last_of found) es) (sym next) ∙ before

-- where all were scanned these are all, and fewer than asked for; where enough were found, these are the first
pub all_hashes : (found all : List (List ℕ)) (left : Entries) (most : ℕ) → left ≡ [] → length found ≤ most → found ++ hashes_behind (last_of found) left ≡ all → found ≡ take most all
unfolding hashes_behind
all_hashes found all left most none few before =
    let are : found ≡ all = sym (append-nil found) ∙ ap (λ (es : Entries). found ++ hashes_behind (last_of found) es) (sym none) ∙ before in
    sym (take_all most found few) ∙ ap (take most) are

pub first_hashes : (found all : List (List ℕ)) (left : Entries) (most : ℕ) → length found ≡ most → found ++ hashes_behind (last_of found) left ≡ all → found ≡ take most all
first_hashes found all left most many before = sym (take_at found (hashes_behind (last_of found) left) most many) ∙ ap (take most) before
