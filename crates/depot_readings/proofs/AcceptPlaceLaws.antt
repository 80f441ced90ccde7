-- The places of the records that accept the updates, and what is there.
use Rattle.std.proofs.Common.{◌≡◌, ℕ, ◌+◌, ◌≤◌, Bool, true, false, ltb, cond, List, [], ◌∷◌, ◌++◌, length, refl, ap, ◌∙◌, arith}
use Rattle.depot_base.specs.declared.record.Record.{Record}
use Rattle.depot_base.specs.declared.update.Update.{Update}
use Rattle.depot_model.specs.exchange.Bundle.{records_where}
use Rattle.depot_model.specs.journals.Journal.{accepted, accepted_by}
use Rattle.depot_readings.specs.Places.{accepts, accept_places}
use Rattle.depot_readings.proofs.LeafLaws.{one_update}

-- ---- with more records

-- the places of two lists of records are those of the first, and after them those of the second
pub records_where-append : (test : Record → Bool) (n : ℕ) (J new : List Record) → records_where test n (J ++ new) ≡ records_where test n J ++ records_where test (n + length J) new
unfolding records_where
records_where-append test n [] new = ap (λ (k : ℕ). records_where test k new) (omega arith)
records_where-append test n (r ∷ J) new = by_test (test r) (records_where-append test (n + 1) J new ∙ ap (λ (k : ℕ). records_where test (n + 1) J ++ records_where test k new) (omega arith)) where
  by_test : (b : Bool) → records_where test (n + 1) (J ++ new) ≡ records_where test (n + 1) J ++ records_where test (n + length (r ∷ J)) new
      → cond b (n ∷ records_where test (n + 1) (J ++ new)) (records_where test (n + 1) (J ++ new)) ≡ cond b (n ∷ records_where test (n + 1) J) (records_where test (n + 1) J) ++ records_where test (n + length (r ∷ J)) new
  by_test true rest = ap (λ (ns : List ℕ). n ∷ ns) rest
  by_test false rest = rest

-- a journal with more records: after its places those of what is accepted by them
pub accept_places-append : (J new : List Record) → accept_places (J ++ new) ≡ accept_places J ++ records_where accepts (length J) new
accept_places-append J new = records_where-append accepts 0 J new ∙ ap (λ (k : ℕ). accept_places J ++ records_where accepts k new) (omega arith)

-- ---- what is at the places

-- there are as many places as accepted updates
many_from : (n : ℕ) (J : List Record) → length (records_where accepts n J) ≡ length (accepted J)
unfolding records_where
many_from n [] = refl
many_from n (r ∷ J) = step (accepted_by r) (one_update r) (many_from (n + 1) J) where
  step : (us : List Update) → length us ≤ 1 → length (records_where accepts (n + 1) J) ≡ length (accepted J) → length (cond (ltb 0 (length us)) (n ∷ records_where accepts (n + 1) J) (records_where accepts (n + 1) J)) ≡ length (us ++ accepted J)
  step [] few rest = rest
  step (u ∷ []) few rest = omega (arith, rest)
  step (u ∷ v ∷ us) few rest = absurd (omega (arith, few))

pub as_many_places : (J : List Record) → length (accept_places J) ≡ length (accepted J)
as_many_places J = many_from 0 J
