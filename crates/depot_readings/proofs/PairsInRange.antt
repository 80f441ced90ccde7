-- The numbers that are named with one hash are adjacent in the order of names.
use Rattle.std.proofs.Common.{◌≡◌, ℕ, ◌<◌, ◌≤◌, Bool, true, false, cond, not, eqb, eq-eqb, List, [], ◌∷◌, ◌++◌, nat_lt, refl, sym, ap, subst, ◌∙◌, append_assoc, arith, inl, inr}
use Rattle.std.specs.BTreeMap.Range.{entries_between, range_contains}
use Rattle.std.specs.List.Sorted.{IsStrictlySortedBy}
use Rattle.std.specs.Map.{keys_of}
use Rattle.std.specs.Ordering.{is_eq, is_gt, is_le, is_lt, nat_cmp, ordering_then}
use Rattle.std.specs.Cmp.Lexicographic.{slice_cmp}
use Rattle.std.specs.declared.cmp.Ordering.{Ordering}
use Rattle.std.specs.declared.cmp.Ordering.TheVariants.{Less, Equal, Greater}
use Rattle.std.specs.declared.ops.Bound.TheVariants.{Included}
use Rattle.std.proofs.lemmas.Bool.{and_from, and_parts, ltb-true, ltb-false}
use Rattle.std.proofs.lemmas.List.{append-nil}
use Rattle.std.proofs.lemmas.Map.Lookups.{exact_bytes}
use Rattle.std.proofs.lemmas.Map.Text.{is_eq-slice_cmp}
use Rattle.depot_base.proofs.GeneralLaws.{same_bytes}
use Rattle.depot_model.specs.texts.Contents.{NamedValue}
use Rattle.depot_model.specs.lists.Lists.{IsIn}
use Rattle.depot_model.proofs.lists.Members.{from_filter, in_filter}
use Rattle.depot_readings.specs.Named.{compare_names, has_named_value}
use Rattle.depot_readings.specs.declared.named.NamedValues.{NamedValues}
use Rattle.depot_readings.proofs.HashesOfNames.{Entries, looked_at, looked_up}

-- a hash with the least number, and with the greatest
abbrev pub least_of : List ℕ → NamedValue
least_of hash = record { hash = hash; size = 0 }

abbrev pub greatest_of : List ℕ → NamedValue
greatest_of hash = record { hash = hash; size = 4294967295 }

-- the names between these two
abbrev pub names_between : List ℕ → Entries → Entries
names_between hash es = entries_between compare_names (Included (least_of hash)) (Included (greatest_of hash)) es

-- the numbers of those that are marked
unfoldable pub sizes_in : Entries → List ℕ
sizes_in [] = []
sizes_in (e ∷ es) = cond e.1 (e.0.size ∷ sizes_in es) (sizes_in es)

-- ---- the order

up_to : (a b : ℕ) → a ≤ b → is_le (nat_cmp a b) ≡ true
up_to a b low = by_tests (nat_lt a b) (eqb a b) refl refl where
  by_tests : (s t : Bool) → nat_lt a b ≡ s → eqb a b ≡ t → is_le (cond s Less (cond t Equal Greater)) ≡ true
  by_tests true t below same = refl
  by_tests false true below same = refl
  by_tests false false below same = absurd (let high : b ≤ a = ltb-false a b below in let one = eq-eqb a b (omega (arith, low, high)) in cc)

not_past : (a b : ℕ) → b ≤ a → not (is_lt (nat_cmp a b)) ≡ true
not_past a b low = by_tests (nat_lt a b) (eqb a b) refl where
  by_tests : (s t : Bool) → nat_lt a b ≡ s → not (is_lt (cond s Less (cond t Equal Greater))) ≡ true
  by_tests true t below = absurd (let high : a < b = ltb-true a b below in omega (arith, low, high))
  by_tests false true below = refl
  by_tests false false below = refl

same_hash : (hash : List ℕ) → slice_cmp nat_cmp hash hash ≡ Equal
same_hash hash = by_order (slice_cmp nat_cmp hash hash) (is_eq-slice_cmp hash hash ∙ same_bytes hash) where
  by_order : (o : Ordering) → is_eq o ≡ true → o ≡ Equal
  by_order Less e = absurd cc
  by_order Equal e = refl
  by_order Greater e = absurd cc

-- the least comes before the greatest
pub runs_forward : (hash : List ℕ) (a b : NamedValue) → a ≡ least_of hash → b ≡ greatest_of hash → is_gt (compare_names a b) ≡ false
runs_forward hash a b least greatest =
    ap (λ (n : NamedValue). is_gt (compare_names n b)) least ∙ ap (λ (n : NamedValue). is_gt (compare_names (least_of hash) n)) greatest ∙ ap (λ (o : Ordering). is_gt (ordering_then o (nat_cmp 0 4294967295))) (same_hash hash)

-- a name of the hash is one of those between
is_between : (hash : List ℕ) (size : ℕ) → size ≤ 4294967295 → range_contains compare_names (Included (least_of hash)) (Included (greatest_of hash)) (record { hash = hash; size = size }) ≡ true
is_between hash size low = and_from _ _
    (ap (λ (o : Ordering). is_le (ordering_then o (nat_cmp 0 size))) (same_hash hash) ∙ up_to 0 size (omega arith))
    (ap (λ (o : Ordering). not (is_lt (ordering_then o (nat_cmp 4294967295 size)))) (same_hash hash) ∙ not_past 4294967295 size low)

-- and one between has the hash
between_is : (hash : List ℕ) (n : NamedValue) → range_contains compare_names (Included (least_of hash)) (Included (greatest_of hash)) n ≡ true → hash ≡ n.hash
between_is hash n e = by_order (slice_cmp nat_cmp hash n.hash) refl (and_parts _ _ e) where
  by_order : (o : Ordering) → slice_cmp nat_cmp hash n.hash ≡ o → (is_le (ordering_then o (nat_cmp 0 n.size)) ≡ true) × (not (is_lt (ordering_then o (nat_cmp 4294967295 n.size))) ≡ true) → hash ≡ n.hash
  by_order Less is parts = absurd (let never = parts.1 in cc)
  by_order Equal is parts = exact_bytes hash n.hash is
  by_order Greater is parts = absurd (let never = parts.0 in cc)

-- ---- members

in_sizes : (es : Entries) (n : NamedValue) → IsIn (n, true) es → IsIn n.size (sizes_in es)
unfolding sizes_in
in_sizes [] n never = absurd never
in_sizes ((k, mark) ∷ es) n (inl here) =
    let marked : mark ≡ true = ap (λ (e : NamedValue × Bool). e.1) here in
    subst (λ (b : Bool). IsIn n.size (cond b (k.size ∷ sizes_in es) (sizes_in es))) (sym marked) (inl (ap (λ (e : NamedValue × Bool). e.0.size) here))
in_sizes ((k, mark) ∷ es) n (inr there) = by_mark mark (in_sizes es n there) where
  by_mark : (m : Bool) → IsIn n.size (sizes_in es) → IsIn n.size (cond m (k.size ∷ sizes_in es) (sizes_in es))
  by_mark true on = inr on
  by_mark false on = on

from_sizes : (es : Entries) (size : ℕ) → IsIn size (sizes_in es) → (n : NamedValue) × (IsIn (n, true) es × (n.size ≡ size))
unfolding sizes_in
from_sizes [] size never = absurd never
from_sizes ((k, mark) ∷ es) size on = by_mark mark on (from_sizes es size) where
  by_mark : (m : Bool) → IsIn size (cond m (k.size ∷ sizes_in es) (sizes_in es)) → (IsIn size (sizes_in es) → (n : NamedValue) × (IsIn (n, true) es × (n.size ≡ size))) → (n : NamedValue) × (IsIn (n, true) ((k, m) ∷ es) × (n.size ≡ size))
  by_mark true (inl here) rest = (k, (inl refl, here))
  by_mark true (inr there) rest = let n = rest there in (n.0, (inr n.1.0, n.1.1))
  by_mark false there rest = let n = rest there in (n.0, (inr n.1.0, n.1.1))

-- a number that is named with the hash is one of those between
pub named_between : (named : NamedValues) (hash : List ℕ) (size : ℕ) → size ≤ 4294967295 → has_named_value named hash size ≡ true → IsIn size (sizes_in (names_between hash named.marks.entries))
unfolding has_named_value
named_between named hash size low e =
    let n : NamedValue = record { hash = hash; size = size } in
    in_sizes (names_between hash named.marks.entries) n (in_filter (λ x. range_contains compare_names (Included (least_of hash)) (Included (greatest_of hash)) x.0) (n, true) named.marks.entries (looked_at named.marks.entries n e) (is_between hash size low))

-- and each of these is named with it
pub between_named : (named : NamedValues) (hash : List ℕ) (size : ℕ) → IsStrictlySortedBy compare_names (keys_of named.marks.entries) → IsIn size (sizes_in (names_between hash named.marks.entries)) → has_named_value named hash size ≡ true
unfolding has_named_value
between_named named hash size sorted on =
    let es : Entries = named.marks.entries in
    let n = from_sizes (names_between hash es) size on in
    let inside = from_filter (λ (x : NamedValue × Bool). range_contains compare_names (Included (least_of hash)) (Included (greatest_of hash)) x.0) (n.0, true) es n.1.0 in
    let same : hash ≡ n.0.hash = between_is hash n.0 inside.1 in
    let is : n.0 ≡ record { hash = hash; size = size } = ap (λ (h : List ℕ). record { hash = h; size = n.0.size }) (sym same) ∙ ap (λ (k : ℕ). record { hash = hash; size = k }) n.1.1 in
    subst (λ (k : NamedValue). has_named_value named k.hash k.size ≡ true) is (looked_up es n.0 sorted inside.0)

-- ---- one after another

pub size_found : (found : List ℕ) (e : NamedValue × Bool) (left rest : Entries) (all : List ℕ) → left ≡ e ∷ rest → e.1 ≡ true → found ++ sizes_in left ≡ all → (found ++ e.0.size ∷ []) ++ sizes_in rest ≡ all
unfolding sizes_in
size_found found e left rest all next marked before =
    append_assoc found (e.0.size ∷ []) (sizes_in rest) ∙ ap (λ (b : Bool). found ++ cond b (e.0.size ∷ sizes_in rest) (sizes_in rest)) (sym marked) ∙ ap (λ (es : Entries). found ++ sizes_in es) (sym next) ∙ before

pub size_left : (found : List ℕ) (e : NamedValue × Bool) (left rest : Entries) (all : List ℕ) → left ≡ e ∷ rest → e.1 ≡ false → found ++ sizes_in left ≡ all → found ++ sizes_in rest ≡ all
unfolding sizes_in
size_left found e left rest all next unmarked before =
    ap (λ (b : Bool). found ++ cond b (e.0.size ∷ sizes_in rest) (sizes_in rest)) (sym unmarked) ∙ ap (λ (es : Entries). found ++ sizes_in es) (sym next) ∙ before

-- where all were scanned, all are found
pub all_sizes : (found old : List ℕ) (left all : Entries) → left ≡ [] → found ++ sizes_in left ≡ old ++ sizes_in all → found ≡ old ++ sizes_in all
unfolding sizes_in
all_sizes found old left all none before = sym (append-nil found) ∙ ap (λ (es : Entries). found ++ sizes_in es) (sym none) ∙ before
