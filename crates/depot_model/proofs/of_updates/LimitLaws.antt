-- A put that meets no limit is one that a correct node may make, and the other way round.
use Rattle.std.proofs.Common.{◌≡◌, ℕ, ◌+◌, ◌<◌, ◌≤◌, List, [], ◌∷◌, length, Bool, true, false, ◌||◌, Option, Some, None, option_map, nat_lt, ◌∙◌, refl, sym, ap, arith}
use Rattle.std.specs.Str.{bytes_eq}
use Rattle.std.proofs.lemmas.Slice.Eq.{bytes_eq-Decides}
use Rattle.std.proofs.lemmas.Bool.{le-ltb, lt-ltb, or_parts}
use Rattle.std.proofs.lemmas.Bool.Decides.{nat_tests}
use Rattle.depot_base.specs.Zeros.{zeros}
use Rattle.depot_base.specs.declared.check.Full.{Full}
use Rattle.depot_base.specs.declared.update.Update.{Update}
use Rattle.depot_base.specs.declared.record.Record.{Record}
use Rattle.depot_base.proofs.GeneralLaws.{mapped-none}
use Rattle.depot_model.specs.lists.Lists.{when, first}
use Rattle.depot_model.specs.texts.Texts.{id_of_update}
use Rattle.depot_model.specs.journals.Journal.{accepted, own, has_id}
use Rattle.depot_model.specs.checks.Checks.{Setting}
use Rattle.depot_model.specs.checks.Own.{IsFresh, leaf_count}
use Rattle.depot_model.specs.checks.Room.{full_by}
use Rattle.depot_model.proofs.lists.FirstLaws.{when-none}
use Rattle.depot_model.specs.checks.Limits.{spent, tips, collides, full, spent_by, tips_of, collides_by, limit_of_own}

-- where the first of some is none, none of them is there
front_none : {X : Type 0} (o : Option X) (os : List (Option X)) → first (o ∷ os) ≡ None → (o ≡ None) × (first os ≡ None)
front_none None os e = (refl, e)
front_none (Some x) os e = absurd cc

-- what no limit means
pub record IsUnlimited (here : Setting) (J : List Record) (u : Update) (new : List Record) : Type 0 where
  pub leaf : length (own J) < leaf_count here.listed here.me
  pub tips : length u.deps ≤ 1024
  pub fresh : IsFresh J (id_of_update u)
  pub room : full_by here.me J new ≡ None

pub unlimited_from : (here : Setting) (J : List Record) (u : Update) (new : List Record) → limit_of_own here J u new ≡ None → IsUnlimited here J u new
unfolding limit_of_own spent_by tips_of collides_by
unlimited_from here J u new e =
    let a = front_none (spent_by here J 1) (tips_of u ∷ collides_by J u ∷ option_map full (full_by here.me J new) ∷ []) e in
    let b = front_none (tips_of u) (collides_by J u ∷ option_map full (full_by here.me J new) ∷ []) a.1 in
    let c = front_none (collides_by J u) (option_map full (full_by here.me J new) ∷ []) b.1 in
    let d = front_none (option_map full (full_by here.me J new)) [] c.1 in
    let few = when-none (nat_lt (leaf_count here.listed here.me) (length (own J) + 1)) (spent (length (own J))) a.0 in
    let narrow = when-none (nat_lt 1024 (length u.deps)) (tips (length u.deps)) b.0 in
    let new_id = or_parts (bytes_eq (id_of_update u) zeros) (has_id (accepted J) (id_of_update u)) (when-none (bytes_eq (id_of_update u) zeros || has_id (accepted J) (id_of_update u)) (collides (id_of_update u)) c.0) in
    record {
      leaf = grind (arith, nat_tests, few);
      tips = grind (arith, nat_tests, narrow);
      fresh = record { named = λ same. absurd (let yes_no : true ≡ false = sym ((bytes_eq-Decides (id_of_update u) zeros).1 same) ∙ new_id.0 in cc); new = new_id.1 };
      room = mapped-none full (full_by here.me J new) d.0;
    }

-- ---- each limit from what it says

passed_by : {X : Type 0} (b : Bool) (x : X) (os : List (Option X)) → b ≡ false → first (when b x ∷ os) ≡ first os
passed_by true x os e = absurd cc
passed_by false x os e = refl

met_by : {X : Type 0} (b : Bool) (x : X) (os : List (Option X)) → b ≡ true → first (when b x ∷ os) ≡ Some x
met_by true x os e = refl
met_by false x os e = absurd cc

leaf_there : (here : Setting) (J : List Record) → length (own J) < leaf_count here.listed here.me → nat_lt (leaf_count here.listed here.me) (length (own J) + 1) ≡ false
leaf_there here J some = le-ltb _ _ (omega (arith, some))

narrow_enough : (u : Update) → length u.deps ≤ 1024 → nat_lt 1024 (length u.deps) ≡ false
narrow_enough u few = le-ltb _ _ few

fresh_test : (J : List Record) (h : List ℕ) → IsFresh J h → (bytes_eq h zeros || has_id (accepted J) h) ≡ false
fresh_test J h f = by_tests (bytes_eq h zeros) (has_id (accepted J) h) (λ e. f.named ((bytes_eq-Decides h zeros).0 e)) f.new where
  by_tests : (a b : Bool) → (a ≡ true → ⊥) → b ≡ false → (a || b) ≡ false
  by_tests true b no_zeros e = absurd (no_zeros refl)
  by_tests false b no_zeros e = e

stale_test : (J : List Record) (h : List ℕ) → (IsFresh J h → ⊥) → (bytes_eq h zeros || has_id (accepted J) h) ≡ true
stale_test J h stale = by_tests (bytes_eq h zeros) (has_id (accepted J) h) refl refl where
  by_tests : (a b : Bool) → bytes_eq h zeros ≡ a → has_id (accepted J) h ≡ b → (a || b) ≡ true
  by_tests true b p q = refl
  by_tests false true p q = refl
  by_tests false false p q = absurd (stale (record { named = λ same. absurd (let yes_no : true ≡ false = sym ((bytes_eq-Decides h zeros).1 same) ∙ p in cc); new = q }))

-- no leaf is left
pub limit_spent : (here : Setting) (J : List Record) (u : Update) (new : List Record) → leaf_count here.listed here.me ≤ length (own J) → limit_of_own here J u new ≡ Some (spent (length (own J)))
unfolding limit_of_own spent_by
limit_spent here J u new none = met_by (nat_lt (leaf_count here.listed here.me) (length (own J) + 1)) (spent (length (own J))) (tips_of u ∷ collides_by J u ∷ option_map full (full_by here.me J new) ∷ []) (lt-ltb _ _ (omega (arith, none)))

-- a leaf is left, and the entries are too many
pub limit_tips : (here : Setting) (J : List Record) (u : Update) (new : List Record) → length (own J) < leaf_count here.listed here.me → 1024 < length u.deps → limit_of_own here J u new ≡ Some (tips (length u.deps))
unfolding limit_of_own spent_by tips_of
limit_tips here J u new some many =
    passed_by (nat_lt (leaf_count here.listed here.me) (length (own J) + 1)) (spent (length (own J))) (tips_of u ∷ collides_by J u ∷ option_map full (full_by here.me J new) ∷ []) (leaf_there here J some)
    ∙ met_by (nat_lt 1024 (length u.deps)) (tips (length u.deps)) (collides_by J u ∷ option_map full (full_by here.me J new) ∷ []) (lt-ltb _ _ many)

-- a leaf is left, the entries are few enough, and the id isn't fresh
pub limit_collides : (here : Setting) (J : List Record) (u : Update) (new : List Record) → length (own J) < leaf_count here.listed here.me → length u.deps ≤ 1024 → (IsFresh J (id_of_update u) → ⊥) → limit_of_own here J u new ≡ Some (collides (id_of_update u))
unfolding limit_of_own spent_by tips_of collides_by
limit_collides here J u new some few stale =
    passed_by (nat_lt (leaf_count here.listed here.me) (length (own J) + 1)) (spent (length (own J))) (tips_of u ∷ collides_by J u ∷ option_map full (full_by here.me J new) ∷ []) (leaf_there here J some)
    ∙ passed_by (nat_lt 1024 (length u.deps)) (tips (length u.deps)) (collides_by J u ∷ option_map full (full_by here.me J new) ∷ []) (narrow_enough u few)
    ∙ met_by (bytes_eq (id_of_update u) zeros || has_id (accepted J) (id_of_update u)) (collides (id_of_update u)) (option_map full (full_by here.me J new) ∷ []) (stale_test J (id_of_update u) stale)

-- with all of these, the room decides
limit_by_room : (here : Setting) (J : List Record) (u : Update) (new : List Record) → length (own J) < leaf_count here.listed here.me → length u.deps ≤ 1024 → IsFresh J (id_of_update u) → limit_of_own here J u new ≡ first (option_map full (full_by here.me J new) ∷ [])
unfolding limit_of_own spent_by tips_of collides_by
limit_by_room here J u new some few fresh =
    passed_by (nat_lt (leaf_count here.listed here.me) (length (own J) + 1)) (spent (length (own J))) (tips_of u ∷ collides_by J u ∷ option_map full (full_by here.me J new) ∷ []) (leaf_there here J some)
    ∙ passed_by (nat_lt 1024 (length u.deps)) (tips (length u.deps)) (collides_by J u ∷ option_map full (full_by here.me J new) ∷ []) (narrow_enough u few)
    ∙ passed_by (bytes_eq (id_of_update u) zeros || has_id (accepted J) (id_of_update u)) (collides (id_of_update u)) (option_map full (full_by here.me J new) ∷ []) (fresh_test J (id_of_update u) fresh)

-- there is no room
pub limit_full : (here : Setting) (J : List Record) (u : Update) (new : List Record) (what : Full) → length (own J) < leaf_count here.listed here.me → length u.deps ≤ 1024 → IsFresh J (id_of_update u) → full_by here.me J new ≡ Some what → limit_of_own here J u new ≡ Some (full what)
limit_full here J u new what some few fresh is = limit_by_room here J u new some few fresh ∙ ap (λ (o : Option Full). first (option_map full o ∷ [])) is

-- no limit is met
pub limit_none : (here : Setting) (J : List Record) (u : Update) (new : List Record) → length (own J) < leaf_count here.listed here.me → length u.deps ≤ 1024 → IsFresh J (id_of_update u) → full_by here.me J new ≡ None → limit_of_own here J u new ≡ None
limit_none here J u new some few fresh is = limit_by_room here J u new some few fresh ∙ ap (λ (o : Option Full). first (option_map full o ∷ [])) is
