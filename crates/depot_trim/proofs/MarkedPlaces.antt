-- The first mark by a name, by one of two, and by what a statement names.
use Rattle.std.proofs.Common.{◌≡◌, ℕ, suc, ◌+◌, ◌<◌, ◌≤◌, Bool, true, false, cond, eqb, ltb, ◌||◌, ◌&&◌, List, [], ◌∷◌, ◌++◌, length, map, take, get_or, Option, Some, None, is_some, refl, sym, ap, ◌∙◌, subst, arith}
use Rattle.std.specs.Prelude.{find, slice_get, option_map, option_and_then}
use Rattle.std.specs.BTreeMap.{BTreeMap, get}
use Rattle.std.specs.Cmp.Lexicographic.{slice_cmp}
use Rattle.std.specs.List.{list_any}
use Rattle.std.specs.Option.{option_or}
use Rattle.std.specs.Ordering.{nat_cmp, is_eq}
use Rattle.std.specs.Str.{bytes_eq}
use Rattle.std.proofs.lemmas.Bool.{and_parts, and_from, eqb-true, eq-eqb}
use Rattle.std.proofs.lemmas.Bool.Decides.{nat_tests}
use Rattle.std.proofs.lemmas.List.{length-take-le, map-append}
use Rattle.std.proofs.lemmas.List.Folds.{list_any-append}
use Rattle.std.proofs.lemmas.Map.Text.{is_eq-slice_cmp}
use Rattle.std.proofs.lemmas.Slice.Eq.{bytes_eq-Decides}
use Rattle.depot_base.proofs.GeneralLaws.{is_eq-nat_cmp, is_eq-then, same_test, take_next}
use Rattle.depot_base.specs.declared.statement.Statement.{Statement}
use Rattle.depot_base.specs.declared.statement.Statement.TheVariants as statement
use Rattle.depot_base.specs.declared.update.Dep.{Dep}
use Rattle.depot_base.specs.declared.update.Update.{Update}
use Rattle.depot_base.specs.declared.voucher.Voucher.{Voucher}
use Rattle.depot_model.specs.lists.Lists.{when, is_among}
use Rattle.depot_model.specs.updates.Order.{prevs, parents}
use Rattle.depot_model.specs.texts.Texts.{id_of_update}
use Rattle.depot_model.specs.readers.Trimming.{names}
use Rattle.depot_trim.specs.declared.marks.UpdateMark.{UpdateMark}
use Rattle.depot_trim.specs.declared.marks.Name.{Name}
use Rattle.depot_trim.specs.declared.marks.Name.TheVariants as name
use Rattle.depot_trim.specs.MarkedNames.{name_cmp, same_name, has_name, first_place, earlier_of}
use Rattle.depot_trim.specs.Naming.{names_mark}
use Rattle.depot_trim.specs.ReaderView.{mark_of}
use Rattle.depot_trim.proofs.NamedMarks.{first_is, parent_is}

abbrev Firsts : Type 0
Firsts = BTreeMap Name ℕ

-- ---- names

-- names that compare as equal are those that are found equal
pub cmp_is_same : (m k : Name) → is_eq (name_cmp m k) ≡ same_name m k
cmp_is_same (name.Number w n) (name.Number v l) = is_eq-then (nat_cmp w v) (nat_cmp n l) ∙ ap (λ (b : Bool). b && is_eq (nat_cmp n l)) (is_eq-nat_cmp w v) ∙ ap (λ (b : Bool). eqb w v && b) (is_eq-nat_cmp n l)
cmp_is_same (name.Number w n) (name.Prev v h) = refl
cmp_is_same (name.Number w n) (name.Id h) = refl
cmp_is_same (name.Prev w g) (name.Number v l) = refl
cmp_is_same (name.Prev w g) (name.Prev v h) = is_eq-then (nat_cmp w v) (slice_cmp nat_cmp g h) ∙ ap (λ (b : Bool). b && is_eq (slice_cmp nat_cmp g h)) (is_eq-nat_cmp w v) ∙ ap (λ (b : Bool). eqb w v && b) (is_eq-slice_cmp g h)
cmp_is_same (name.Prev w g) (name.Id h) = refl
cmp_is_same (name.Id g) (name.Number v l) = refl
cmp_is_same (name.Id g) (name.Prev v h) = refl
cmp_is_same (name.Id g) (name.Id h) = is_eq-slice_cmp g h

-- names that are found equal are one
one_name : (m k : Name) → same_name m k ≡ true → m ≡ k
one_name (name.Number w n) (name.Number v l) e =
    let parts = and_parts (eqb w v) (eqb n l) e in
    let writers : w ≡ v = eqb-true w v parts.0 in
    let seqs : n ≡ l = eqb-true n l parts.1 in
    cc
one_name (name.Number w n) (name.Prev v h) e = absurd cc
one_name (name.Number w n) (name.Id h) e = absurd cc
one_name (name.Prev w g) (name.Number v l) e = absurd cc
one_name (name.Prev w g) (name.Prev v h) e =
    let parts = and_parts (eqb w v) (bytes_eq g h) e in
    let writers : w ≡ v = eqb-true w v parts.0 in
    let prevs : g ≡ h = (bytes_eq-Decides g h).0 parts.1 in
    cc
one_name (name.Prev w g) (name.Id h) e = absurd cc
one_name (name.Id g) (name.Number v l) e = absurd cc
one_name (name.Id g) (name.Prev v h) e = absurd cc
one_name (name.Id g) (name.Id h) e = let ids : g ≡ h = (bytes_eq-Decides g h).0 e in cc

same_name-refl : (m : Name) → same_name m m ≡ true
same_name-refl (name.Number w n) = and_from (eqb w w) (eqb n n) (eq-eqb w w refl) (eq-eqb n n refl)
same_name-refl (name.Prev w h) = and_from (eqb w w) (bytes_eq h h) (eq-eqb w w refl) ((bytes_eq-Decides h h).1 refl)
same_name-refl (name.Id h) = (bytes_eq-Decides h h).1 refl

same_either_way : (m k : Name) → same_name m k ≡ same_name k m
same_either_way m k = same_test (same_name m k) (same_name k m) (λ e. subst (λ (x : Name). same_name x m ≡ true) (one_name m k e) (same_name-refl m)) (λ e. subst (λ (x : Name). same_name x k ≡ true) (one_name k m e) (same_name-refl k))

-- ---- what is found first

or_nothing : (o : Option ℕ) → o ≡ option_or o None
or_nothing None = refl
or_nothing (Some x) = refl

-- where a name has no place, it gets one
pub name_added : (old new : Firsts) (n : Name) (place : ℕ) → is_some (get name_cmp old n) ≡ false → ((q : Name) → get name_cmp new q ≡ cond (is_eq (name_cmp n q)) (Some place) (get name_cmp old q))
    → (asked : Name) → get name_cmp new asked ≡ option_or (get name_cmp old asked) (when (same_name asked n) place)
name_added old new n place free updates asked =
    updates asked ∙ ap (λ (b : Bool). cond b (Some place) (get name_cmp old asked)) (cmp_is_same n asked ∙ same_either_way n asked) ∙ by_test (same_name asked n) refl where
      none : (o : Option ℕ) → is_some o ≡ false → Some place ≡ option_or o (Some place)
      none None e = refl
      none (Some x) e = absurd cc

      by_test : (b : Bool) → same_name asked n ≡ b → cond b (Some place) (get name_cmp old asked) ≡ option_or (get name_cmp old asked) (when b place)
      by_test true e = none (get name_cmp old asked) (subst (λ (x : Name). is_some (get name_cmp old x) ≡ false) (sym (one_name asked n e)) free)
      by_test false e = or_nothing (get name_cmp old asked)

-- and where it has one, that stays
pub name_there : (old : Firsts) (n : Name) (place : ℕ) → is_some (get name_cmp old n) ≡ true → (asked : Name) → get name_cmp old asked ≡ option_or (get name_cmp old asked) (when (same_name asked n) place)
name_there old n place there asked = by_test (same_name asked n) refl where
  one : (o : Option ℕ) → is_some o ≡ true → o ≡ option_or o (Some place)
  one None e = absurd cc
  one (Some x) e = refl

  by_test : (b : Bool) → same_name asked n ≡ b → get name_cmp old asked ≡ option_or (get name_cmp old asked) (when b place)
  by_test true e = one (get name_cmp old asked) (subst (λ (x : Name). is_some (get name_cmp old x) ≡ true) (sym (one_name asked n e)) there)
  by_test false e = or_nothing (get name_cmp old asked)

-- one more after the others
place_behind : {X : Type 0} (test : X → Bool) (xs : List X) (x : X) → first_place test (xs ++ x ∷ []) ≡ option_or (first_place test xs) (when (test x) (length xs))
unfolding first_place
place_behind test [] x = by_test (test x) where
  by_test : (b : Bool) → cond {A = Option ℕ} b (Some 0) None ≡ when b 0
  by_test true = refl
  by_test false = refl
place_behind test (y ∷ ys) x = by_test (test y) (place_behind test ys x) where
  later : (o : Option ℕ) (b : Bool) (n : ℕ) → option_map suc (option_or o (when b n)) ≡ option_or (option_map suc o) (when b (suc n))
  later None true n = refl
  later None false n = refl
  later (Some p) b n = refl

  by_test : (b : Bool) → first_place test (ys ++ x ∷ []) ≡ option_or (first_place test ys) (when (test x) (length ys))
      → cond b (Some 0) (option_map suc (first_place test (ys ++ x ∷ []))) ≡ option_or (cond b (Some 0) (option_map suc (first_place test ys))) (when (test x) (suc (length ys)))
  by_test true rest = refl
  by_test false rest = ap (option_map suc) rest ∙ later (first_place test ys) (test x) (length ys)

pub firsts_more : (ms : List UpdateMark) (i : ℕ) (m : UpdateMark) (old new : Firsts) → i < length ms → m ≡ get_or ms i m → ((n : Name) → get name_cmp old n ≡ first_place (λ k. has_name k n) (take i ms))
    → ((n : Name) → get name_cmp new n ≡ option_or (get name_cmp old n) (when (has_name m n) i)) → (n : Name) → get name_cmp new n ≡ first_place (λ k. has_name k n) (take (i + 1) ms)
firsts_more ms i m old new low is so_far one n =
    let test : UpdateMark → Bool = λ k. has_name k n in
    one n ∙ ap (λ (o : Option ℕ). option_or o (when (has_name m n) i)) (so_far n)
    ∙ ap (λ (k : ℕ). option_or (first_place test (take i ms)) (when (has_name m n) k)) (sym (length-take-le i ms (omega (arith, low))))
    ∙ sym (place_behind test (take i ms) m) ∙ ap (first_place test) (sym (take_next ms i m low is))

pub none_first : (firsts : Firsts) → firsts.entries ≡ [] → (n : Name) → get name_cmp firsts n ≡ first_place (λ k. has_name k n) []
unfolding first_place
none_first firsts empty n = rw empty refl

place_alike : {X : Type 0} (f g : X → Bool) → ((x : X) → f x ≡ g x) → (xs : List X) → first_place f xs ≡ first_place g xs
unfolding first_place
place_alike f g same [] = refl
place_alike f g same (x ∷ xs) = ap (λ (b : Bool). cond b (Some 0) (option_map suc (first_place f xs))) (same x) ∙ ap (λ (o : Option ℕ). cond (g x) (Some 0) (option_map suc o)) (place_alike f g same xs)

some_place : {X : Type 0} (test : X → Bool) (xs : List X) → is_some (first_place test xs) ≡ list_any test xs
unfolding first_place
some_place test [] = refl
some_place test (x ∷ xs) = by_test (test x) (first_place test xs) (some_place test xs) where
  by_test : (b : Bool) (o : Option ℕ) → is_some o ≡ list_any test xs → is_some (cond b (Some 0) (option_map suc o)) ≡ (b || list_any test xs)
  by_test true o e = refl
  by_test false None e = e
  by_test false (Some p) e = e

-- of two places that are both one further, the same comes first
shifted : (l k : ℕ) → ltb (suc l) (suc k) ≡ ltb l k
shifted l k = by_test (ltb l k) refl where
  by_test : (b : Bool) → ltb l k ≡ b → ltb (suc l) (suc k) ≡ b
  by_test true e = let low : l < k = grind (arith, nat_tests) in grind (arith, nat_tests)
  by_test false e = let low : k ≤ l = grind (arith, nat_tests) in grind (arith, nat_tests)

-- the first place is before each further one
zero_first : (k : ℕ) → ltb 0 (suc k) ≡ true
zero_first k = grind (arith, nat_tests)

none_before : (l : ℕ) → ltb (suc l) 0 ≡ false
none_before l = grind (arith, nat_tests)

-- by one test or another
either_place : {X : Type 0} (p q : X → Bool) (xs : List X) → earlier_of (first_place p xs) (first_place q xs) ≡ first_place (λ x. p x || q x) xs
unfolding first_place
either_place p q [] = refl
either_place p q (x ∷ xs) = by_tests (p x) (q x) (first_place p xs) (first_place q xs) (either_place p q xs) where
  by_tests : (a b : Bool) (n m : Option ℕ) → earlier_of n m ≡ first_place (λ y. p y || q y) xs → earlier_of (cond a (Some 0) (option_map suc n)) (cond b (Some 0) (option_map suc m)) ≡ cond (a || b) (Some 0) (option_map suc (first_place (λ y. p y || q y) xs))
  by_tests true true n m e = refl
  by_tests true false n None e = refl
  by_tests true false n (Some l) e = ap (λ (b : Bool). cond b (Some (suc l)) (Some 0)) (none_before l)
  by_tests false true None m e = refl
  by_tests false true (Some k) m e = ap (λ (b : Bool). cond b (Some 0) (Some (suc k))) (zero_first k)
  by_tests false false None m e = ap (option_map suc) e
  by_tests false false (Some k) None e = ap (option_map suc) e
  by_tests false false (Some k) (Some l) e = ap (λ (b : Bool). cond b (Some (suc l)) (Some (suc k))) (shifted l k) ∙ later (ltb l k) ∙ ap (option_map suc) e where
    later : (b : Bool) → cond b (Some (suc l)) (Some (suc k)) ≡ option_map suc (cond b (Some l) (Some k))
    later true = refl
    later false = refl

-- what is in place of two that are compared
pub both_earlier : (r a b x y z : Option ℕ) → r ≡ earlier_of a b → a ≡ x → b ≡ y → earlier_of x y ≡ z → r ≡ z
both_earlier r a b x y z is one other all = is ∙ ap (λ (o : Option ℕ). earlier_of o b) one ∙ ap (λ (o : Option ℕ). earlier_of x o) other ∙ all

-- what is there
found_at : {X : Type 0} (test : X → Bool) (xs : List X) → find test xs ≡ option_and_then (λ n. slice_get xs n) (first_place test xs)
unfolding first_place
found_at test [] = refl
found_at test (x ∷ xs) = by_test (test x) (first_place test xs) (found_at test xs) where
  by_test : (b : Bool) (o : Option ℕ) → find test xs ≡ option_and_then (λ n. slice_get xs n) o → cond b (Some x) (find test xs) ≡ option_and_then (λ n. slice_get (x ∷ xs) n) (cond b (Some 0) (option_map suc o))
  by_test true o e = refl
  by_test false None e = e
  by_test false (Some n) e = e

-- ---- what a statement names

or_false : (b : Bool) → (b || false) ≡ b
or_false true = refl
or_false false = refl

-- a mark by its id
by_id : (h : List ℕ) (m : UpdateMark) → has_name m (name.Id h) ≡ bytes_eq m.id h
by_id h m = same_either_way (name.Id h) (name.Id m.id)

pub has_of_id : (ms : List UpdateMark) (h : List ℕ) → is_some (first_place (λ m. has_name m (name.Id h)) ms) ≡ list_any (λ m. bytes_eq m.id h) ms
has_of_id ms h = ap (λ (o : Option ℕ). is_some o) (place_alike (λ m. has_name m (name.Id h)) (λ m. bytes_eq m.id h) (by_id h) ms) ∙ some_place (λ (m : UpdateMark). bytes_eq m.id h) ms

-- of a writer, by a seq or by a prev
pub of_numbers : (w s : ℕ) (h : List ℕ) (ms : List UpdateMark) → earlier_of (first_place (λ m. has_name m (name.Number w s)) ms) (first_place (λ m. has_name m (name.Prev w h)) ms) ≡ first_place (λ m. eqb w m.writer && (eqb s m.seq || bytes_eq h m.prev)) ms
of_numbers w s h ms = either_place (λ m. has_name m (name.Number w s)) (λ m. has_name m (name.Prev w h)) ms ∙ place_alike _ (λ m. eqb w m.writer && (eqb s m.seq || bytes_eq h m.prev)) (λ m. by_tests (eqb w m.writer) (eqb s m.seq) (bytes_eq h m.prev)) ms where
  by_tests : (a b c : Bool) → ((((a && b) || false) || false) || ((false || (a && c)) || false)) ≡ (a && (b || c))
  by_tests true true c = refl
  by_tests true false true = refl
  by_tests true false false = refl
  by_tests false b c = refl

-- a voucher, by its writer and its seq
pub of_voucher : (v : Voucher) (ms : List UpdateMark) → first_place (λ m. has_name m (name.Number v.node v.seq)) ms ≡ first_place (names_mark (statement.Voucher v)) ms
unfolding names_mark
of_voucher v ms = place_alike (λ m. has_name m (name.Number v.node v.seq)) (names_mark (statement.Voucher v)) (λ m. by_tests (eqb v.node m.writer) (eqb v.seq m.seq)) ms where
  by_tests : (a b : Bool) → (((a && b) || false) || false) ≡ (a && (b || false))
  by_tests true true = refl
  by_tests true false = refl
  by_tests false b = refl

pub of_update : (u : Update) (ms : List UpdateMark) → earlier_of (first_place (λ m. is_among m.id (parents u)) ms) (first_place (λ m. eqb u.writer m.writer && (eqb u.seq m.seq || bytes_eq u.prev m.prev)) ms) ≡ first_place (names_mark (statement.Update u)) ms
unfolding names_mark
of_update u ms = either_place (λ (m : UpdateMark). is_among m.id (parents u)) (λ m. eqb u.writer m.writer && (eqb u.seq m.seq || bytes_eq u.prev m.prev)) ms

pub of_parents : (u : Update) (ms : List UpdateMark) → earlier_of (first_place (λ m. is_among m.id (prevs u)) ms) (first_place (λ m. is_among m.id (map (λ d. d.id) u.deps)) ms) ≡ first_place (λ m. is_among m.id (parents u)) ms
of_parents u ms = either_place (λ (m : UpdateMark). is_among m.id (prevs u)) (λ m. is_among m.id (map (λ d. d.id) u.deps)) ms ∙ place_alike _ (λ m. is_among m.id (parents u)) (λ m. parent_is m.id u) ms

-- no id names nothing, and one names its mark
pub none_of : (ms : List UpdateMark) → None ≡ first_place (λ m. is_among m.id []) ms
unfolding first_place
none_of [] = refl
none_of (m ∷ ms) = ap (option_map suc) (none_of ms)

pub of_none : (hs : List (List ℕ)) (ms : List UpdateMark) → hs ≡ [] → None ≡ first_place (λ m. is_among m.id hs) ms
of_none hs ms none = none_of ms ∙ ap (λ (xs : List (List ℕ)). first_place (λ (m : UpdateMark). is_among m.id xs) ms) (sym none)

pub of_one : (h : List ℕ) (hs : List (List ℕ)) (ms : List UpdateMark) → hs ≡ h ∷ [] → first_place (λ m. has_name m (name.Id h)) ms ≡ first_place (λ m. is_among m.id hs) ms
of_one h hs ms one =
    place_alike (λ m. has_name m (name.Id h)) (λ m. is_among m.id (h ∷ [])) (λ m. by_id h m ∙ sym (or_false (bytes_eq m.id h))) ms ∙ ap (λ (xs : List (List ℕ)). first_place (λ (m : UpdateMark). is_among m.id xs) ms) (sym one)

-- and of one entry more
pub of_more : (ds : List Dep) (i : ℕ) (d : Dep) (ms : List UpdateMark) (old new : Option ℕ) → i < length ds → d ≡ get_or ds i d → old ≡ first_place (λ m. is_among m.id (map (λ x. x.id) (take i ds))) ms
    → new ≡ earlier_of old (first_place (λ m. has_name m (name.Id d.id)) ms) → new ≡ first_place (λ m. is_among m.id (map (λ x. x.id) (take (i + 1) ds))) ms
of_more ds i d ms old new low is so_far one =
    let front : List (List ℕ) = map (λ x. x.id) (take i ds) in
    one ∙ ap (λ (o : Option ℕ). earlier_of o (first_place (λ m. has_name m (name.Id d.id)) ms)) so_far
    ∙ either_place (λ (m : UpdateMark). is_among m.id front) (λ m. has_name m (name.Id d.id)) ms
    ∙ place_alike _ (λ m. is_among m.id (front ++ d.id ∷ [])) (λ m. ap (λ (b : Bool). is_among m.id front || b) (by_id d.id m ∙ sym (or_false (bytes_eq m.id d.id))) ∙ sym (list_any-append (bytes_eq m.id) front (d.id ∷ []))) ms
    ∙ ap (λ (hs : List (List ℕ)). first_place (λ m. is_among m.id hs) ms) (sym (ap (map (λ x. x.id)) (take_next ds i d low is) ∙ map-append (λ (x : Dep). x.id) (take i ds) (d ∷ [])))

-- the id of the first mark is that of the first update
pub named_at : (s : Statement) (ms : List UpdateMark) (ts : List Update) (place : Option ℕ) (found : Option (List ℕ)) → found ≡ option_map (λ m. m.id) (option_and_then (λ n. slice_get ms n) place) → place ≡ first_place (names_mark s) ms → ms ≡ map mark_of ts
    → found ≡ option_map id_of_update (find (names s) ts)
named_at s ms ts place found is first are =
    is ∙ ap (λ (o : Option ℕ). option_map (λ (m : UpdateMark). m.id) (option_and_then (λ n. slice_get ms n) o)) first ∙ ap (option_map (λ (m : UpdateMark). m.id)) (sym (found_at (names_mark s) ms))
    ∙ ap (λ (xs : List UpdateMark). option_map (λ (m : UpdateMark). m.id) (find (names_mark s) xs)) are ∙ first_is s ts
