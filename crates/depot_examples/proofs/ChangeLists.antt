-- The changes that writes and values make, and what a judge looks at last, in words.
use Rattle.std.proofs.Common.{◌≡◌, ℕ, List, [], ◌∷◌, ◌++◌, length, map, take, not, Option, refl, ap, arith}
use Rattle.depot_base.specs.Shown.{kind_shown}
use Rattle.depot_base.specs.Writes.{values_in}
use Rattle.depot_base.specs.declared.key.RosterEntry.{RosterEntry}
use Rattle.depot_base.specs.declared.proof.Proof.{Proof}
use Rattle.depot_base.specs.declared.proof.Proof.TheVariants.{Hollow, Pair}
use Rattle.depot_base.specs.declared.write.Write.{Write}
use Rattle.depot_base.specs.declared.write.Wrote.{Wrote}
use Rattle.depot_base.specs.declared.write.Wrote.TheVariants.{Gone, Put}
use Rattle.depot_model.specs.updates.Judgement.{is_contrary, points}
use Rattle.depot_model.specs.lists.Lists.{when}
use Rattle.depot_model.specs.checks.Own.{changes_of, values_of}
use Rattle.depot_model.specs.texts.Roster.{Verifies}
use Rattle.depot_model.specs.declared.judgement.JudgeError.{JudgeError}
use Rattle.depot_model.specs.declared.judgement.JudgeError.TheVariants as point

-- ---- changes

abbrev HasKeys : List Write → Type 0
HasKeys ws = (values : List (List ℕ)) → map (λ c. c.key) (changes_of ws values) ≡ map (λ (w : Write). w.key) ws

one_more_key : (key : List ℕ) (what : Wrote) (ws : List Write) → HasKeys ws → HasKeys (record { key = key; what = what } ∷ ws)
one_more_key key (Put hash size) ws rest [] = ap (λ (keys : List (List ℕ)). key ∷ keys) (rest [])
one_more_key key (Put hash size) ws rest (v ∷ vs) = ap (λ (keys : List (List ℕ)). key ∷ keys) (rest vs)
one_more_key key Gone ws rest values = ap (λ (keys : List (List ℕ)). key ∷ keys) (rest values)

pub have_keys : (ws : List Write) → HasKeys ws
have_keys [] values = refl
have_keys (w ∷ ws) values = one_more_key w.key w.what ws (have_keys ws) values

abbrev HasValues : List Write → Type 0
HasValues ws = (values : List (List ℕ)) → length values ≡ length (values_in ws) → values_of (changes_of ws values) ≡ values

one_more_value : (key : List ℕ) (what : Wrote) (ws : List Write) → HasValues ws → HasValues (record { key = key; what = what } ∷ ws)
one_more_value key (Put hash size) ws rest [] same = absurd (omega (arith, same))
one_more_value key (Put hash size) ws rest (v ∷ vs) same = ap (λ (values : List (List ℕ)). v ∷ values) (rest vs (omega (arith, same)))
one_more_value key Gone ws rest values same = rest values same

pub have_values : (ws : List Write) → HasValues ws
have_values [] [] same = refl
have_values [] (v ∷ vs) same = absurd (omega (arith, same))
have_values (w ∷ ws) values same = one_more_value w.key w.what ws (have_values ws) values same

-- ---- proofs

pub last_point : (verifies : Verifies) (r : List RosterEntry) (p : Proof) → (before : List (Option JudgeError)) × (points verifies r p ≡ before ++ when (not (is_contrary p)) (point.NotContradictory (kind_shown p)) ∷ [])
unfolding points
last_point verifies r (Pair kind a b) = (take 7 (points verifies r (Pair kind a b)), refl)
last_point verifies r (Hollow voucher text) = (take 2 (points verifies r (Hollow voucher text)), refl)
