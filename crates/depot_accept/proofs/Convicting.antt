-- No more nodes are convicted than the roster has.
use Rattle.std.proofs.Common.{◌≡◌, ℕ, suc, ◌+◌, ◌<◌, ◌≤◌, List, [], ◌∷◌, ◌++◌, length, Bool, true, false, cond, eqb, refl, sym, ap, subst, ◌∙◌, arith, inl, inr, ◌⊎◌}
use Rattle.std.specs.List.{AllByRecursion}
use Rattle.std.specs.Prelude.{Some, is_some}
use Rattle.std.proofs.lemmas.Bool.Decides.{nat_tests}
use Rattle.depot_base.specs.declared.key.RosterEntry.{RosterEntry}
use Rattle.depot_model.specs.lists.Lists.{IsIn, is_one_of}
use Rattle.depot_model.specs.lists.Items.{AreDistinct}
use Rattle.depot_model.specs.texts.Roster.{key_of, has_node}
use Rattle.depot_model.proofs.lists.Members.{all_at, all_from, any_from, in_pushed}
use Rattle.depot_kept.specs.VouchedView.{with_node}
use Rattle.depot_accept.specs.Convicts.{AreConvicts}

-- ---- lists without a number

-- the numbers but one
abbrev but : ℕ → List ℕ → List ℕ
but n [] = []
but n (m ∷ ms) = cond (eqb m n) (but n ms) (m ∷ but n ms)

in_but : (n x : ℕ) (ms : List ℕ) → IsIn x (but n ms) → IsIn x ms × (x ≡ n → ⊥)
in_but n x [] never = absurd never
in_but n x (m ∷ ms) on = by_test (eqb m n) refl on (in_but n x ms) where
  by_test : (b : Bool) → eqb m n ≡ b → IsIn x (cond b (but n ms) (m ∷ but n ms)) → (IsIn x (but n ms) → IsIn x ms × (x ≡ n → ⊥)) → IsIn x (m ∷ ms) × (x ≡ n → ⊥)
  by_test true is there more = let w = more there in (inr w.0, w.1)
  by_test false is (inl here) more = (inl here, λ same. let both : m ≡ n = here ∙ same in absurd (grind (arith, nat_tests)))
  by_test false is (inr there) more = let w = more there in (inr w.0, w.1)

but_distinct : (n : ℕ) (ms : List ℕ) → AreDistinct ms → AreDistinct (but n ms)
but_distinct n [] d = tt
but_distinct n (m ∷ ms) d = by_test (eqb m n) (but_distinct n ms d.1) where
  by_test : (b : Bool) → AreDistinct (but n ms) → AreDistinct (cond b (but n ms) (m ∷ but n ms))
  by_test true more = more
  by_test false more = (all_from (λ x. x ≡ m → ⊥) (but n ms) (λ x on. all_at (λ y. y ≡ m → ⊥) ms x d.0 (in_but n x ms on).0), more)

-- a number that isn't there takes nothing away
but_none : (n : ℕ) (ms : List ℕ) → AllByRecursion (λ m. m ≡ n → ⊥) ms → length (but n ms) ≡ length ms
but_none n [] apart = refl
but_none n (m ∷ ms) apart = by_test (eqb m n) refl (but_none n ms apart.1) where
  by_test : (b : Bool) → eqb m n ≡ b → length (but n ms) ≡ length ms → length (cond b (but n ms) (m ∷ but n ms)) ≡ suc (length ms)
  by_test true is more = absurd (apart.0 (grind (arith, nat_tests)))
  by_test false is more = ap suc more

-- at most one is taken away
but_one : (n : ℕ) (ms : List ℕ) → AreDistinct ms → length ms ≤ length (but n ms) + 1
but_one n [] d = omega arith
but_one n (m ∷ ms) d = by_test (eqb m n) refl (but_one n ms d.1) where
  by_test : (b : Bool) → eqb m n ≡ b → length ms ≤ length (but n ms) + 1 → suc (length ms) ≤ length (cond b (but n ms) (m ∷ but n ms)) + 1
  by_test true is more =
      let same : m ≡ n = grind (arith, nat_tests) in
      let all = but_none n ms (subst (λ (k : ℕ). AllByRecursion (λ x. x ≡ k → ⊥) ms) same d.0) in
      omega arith
  by_test false is more = omega arith

-- ---- the roster

later_by : (e : RosterEntry) (es : List RosterEntry) (n : ℕ) (b : Bool) → eqb e.node n ≡ b → is_some (cond b (Some e.key) (key_of es n)) ≡ true → (n ≡ e.node → ⊥) → is_some (key_of es n) ≡ true
later_by e es n true is h other = let same : n ≡ e.node = grind (arith, nat_tests) in absurd (other same)
later_by e es n false is h other = h

-- a node of the roster is that of the first entry, or one of the others
later_node : (e : RosterEntry) (es : List RosterEntry) (n : ℕ) → has_node (e ∷ es) n ≡ true → (n ≡ e.node → ⊥) → has_node es n ≡ true
unfolding key_of
later_node e es n h other = later_by e es n (eqb e.node n) refl h other

-- nobody is a node of no entries
no_node : (n : ℕ) → has_node [] n ≡ true → ⊥
unfolding key_of
no_node n e = absurd cc

-- distinct nodes of a roster are no more than its entries
pub no_more : (es : List RosterEntry) (ns : List ℕ) → AreDistinct ns → ((n : ℕ) → IsIn n ns → has_node es n ≡ true) → length ns ≤ length es
no_more [] [] d known = omega arith
no_more [] (n ∷ ns) d known = absurd (no_node n (known n (inl refl)))
no_more (e ∷ es) ns d known =
    let rest = no_more es (but e.node ns) (but_distinct e.node ns d) (λ n on. let w = in_but e.node n ns on in later_node e es n (known n w.0) w.1) in
    let one = but_one e.node ns d in
    omega arith

-- ---- one conviction more

none_of : (n : ℕ) (ns : List ℕ) → is_one_of n ns ≡ false → AllByRecursion (λ m. m ≡ n → ⊥) ns
none_of n ns e = all_from (λ m. m ≡ n → ⊥) ns (λ m on same. let equal : eqb m n ≡ true = grind (arith, nat_tests) in let yes = any_from (λ k. eqb k n) m ns on equal in absurd cc)

-- a node of the roster that isn't convicted finds room
pub has_place : (listed : List RosterEntry) (ns : List ℕ) (nodes node : ℕ) → AreConvicts listed ns nodes → has_node listed node ≡ true → (length ns < nodes) ⊎ (is_one_of node ns ≡ true)
has_place listed ns nodes node c known = by_test (is_one_of node ns) refl where
  by_test : (b : Bool) → is_one_of node ns ≡ b → (length ns < nodes) ⊎ (is_one_of node ns ≡ true)
  by_test true is = inr is
  by_test false is =
      let of_roster : (n : ℕ) → IsIn n (node ∷ ns) → has_node listed n ≡ true = λ n on. elim on [
        | inl here ↦ subst (λ (k : ℕ). has_node listed k ≡ true) here known
        | inr there ↦ c.of_roster n there
      ] in
      let most = no_more listed (node ∷ ns) (none_of node ns is, c.once) of_roster in
      inl (omega (arith, c.all))

distinct_push : (ns : List ℕ) (n : ℕ) → AreDistinct ns → AllByRecursion (λ m. m ≡ n → ⊥) ns → AreDistinct (ns ++ n ∷ [])
distinct_push [] n d apart = (tt, tt)
distinct_push (m ∷ ms) n d apart = (all_push_apart m ms d.0, distinct_push ms n d.1 apart.1) where
  all_push_apart : (k : ℕ) (ks : List ℕ) → AllByRecursion (λ x. x ≡ m → ⊥) ks → AllByRecursion (λ x. x ≡ m → ⊥) (ks ++ n ∷ [])
  all_push_apart k [] all = ((λ same. apart.0 (sym same)), tt)
  all_push_apart k (x ∷ xs) all = (all.0, all_push_apart x xs all.1)

-- with one more they are convicts again
pub convicts_more : (listed : List RosterEntry) (ns : List ℕ) (nodes node : ℕ) → AreConvicts listed ns nodes → has_node listed node ≡ true → AreConvicts listed (with_node ns node) nodes
convicts_more listed ns nodes node c known = by_test (is_one_of node ns) refl where
  by_test : (b : Bool) → is_one_of node ns ≡ b → AreConvicts listed (cond b ns (ns ++ node ∷ [])) nodes
  by_test true is = c
  by_test false is = record {
    of_roster = λ n on. elim (in_pushed n ns node on) [
      | inl there ↦ c.of_roster n there
      | inr here ↦ subst (λ (k : ℕ). has_node listed k ≡ true) here known
    ];
    once = distinct_push ns node c.once (none_of node ns is);
    all = c.all;
  }
