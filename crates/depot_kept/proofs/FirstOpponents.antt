-- The first statement, of those at some places, that a statement contradicts.
use Rattle.std.proofs.Common.{◌≡◌, ℕ, ◌<◌, ◌≤◌, List, ◌++◌, Bool, true, false, ltb, Option, Some, None, refl, arith, inl, inr, ◌⊎◌, if◌then◌else◌}
use Rattle.std.specs.List.{slice_get}
use Rattle.std.proofs.lemmas.Bool.Decides.{nat_tests}
use Rattle.depot_base.specs.declared.statement.Statement.{Statement}
use Rattle.depot_model.specs.lists.Lists.{IsIn}
use Rattle.depot_model.specs.updates.Contradictions.{kind_of}
use Rattle.depot_model.proofs.lists.Members.{in_parts}
use Rattle.depot_kept.specs.declared.seen_statements.Found.{Found}
use Rattle.depot_kept.specs.declared.kept_statement.KeptStatement.{KeptStatement}
use Rattle.depot_kept.specs.Firsts.{IsContradictedAt, IsBefore, IsFirstOf, earlier_kept}

-- a place before that of the two is before each
before_earlier : (place : ℕ) (a b : Option Found) → IsBefore place (earlier_kept a b) → IsBefore place a × IsBefore place b
before_earlier place None None before = (tt, tt)
before_earlier place None (Some y) before = (tt, before)
before_earlier place (Some x) None before = (before, tt)
before_earlier place (Some x) (Some y) before = by_test (ltb y.index x.index) refl before
  where
    by_test : (r : Bool) → ltb y.index x.index ≡ r → IsBefore place (if r then Some y else Some x) → (place < x.index) × (place < y.index)
    by_test true e less = let low : y.index < x.index = grind (arith, nat_tests) in (omega arith, less)
    by_test false e less = let low : x.index ≤ y.index = grind (arith, nat_tests) in (less, omega arith)

-- that of the two is one of them
either : (a b : Option Found) (f : Found) → earlier_kept a b ≡ Some f → (a ≡ Some f) ⊎ (b ≡ Some f)
either None b f e = inr e
either (Some x) None f e = inl e
either (Some x) (Some y) f e = by_test (ltb y.index x.index) e
  where
    by_test : (r : Bool) → (if r then Some y else Some x) ≡ Some f → (Some x ≡ Some f) ⊎ (Some y ≡ Some f)
    by_test true is = inr is
    by_test false is = inl is

-- the first at the places of two lists
pub first_of_both : (es : List KeptStatement) (xs ys : List ℕ) (s : Statement) (a b : Option Found) → IsFirstOf es xs s a → IsFirstOf es ys s b → IsFirstOf es (xs ++ ys) s (earlier_kept a b)
first_of_both es xs ys s a b one other = record { here = here; before = before }
  where
    here : (f : Found) → earlier_kept a b ≡ Some f → IsContradictedAt es s f
    here f e = elim (either a b f e) [
      | inl is ↦ one.here f is
      | inr is ↦ other.here f is
    ]

    before : (place : ℕ) (e : KeptStatement) → IsIn place (xs ++ ys) → IsBefore place (earlier_kept a b) → slice_get es place ≡ Some e → kind_of e.statement s ≡ None
    before place e known low at =
        let lows : IsBefore place a × IsBefore place b = before_earlier place a b low in
        elim (in_parts place xs ys known) [
          | inl in_xs ↦ one.before place e in_xs lows.0 at
          | inr in_ys ↦ other.before place e in_ys lows.1 at
        ]
