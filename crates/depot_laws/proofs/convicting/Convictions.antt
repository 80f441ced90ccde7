-- Convicted nodes and the proofs that name them.
use Rattle.std.proofs.Common.{◌≡◌, ℕ, ◌==◌, List, ◌++◌, true, false, ◌∙◌}
use Rattle.std.specs.List.{flat_map}
use Rattle.std.proofs.lemmas.Bool.{eqb-true, eq-eqb, both_ways, false_from_ne_true}
use Rattle.depot_base.specs.declared.proof.Proof.{Proof}
use Rattle.depot_base.specs.declared.record.Record.{Record}
use Rattle.depot_model.specs.lists.Lists.{IsIn}
use Rattle.depot_model.specs.journals.Journal.{accused, convicted, proof_by, is_convicted}
use Rattle.depot_model.proofs.lists.Members.{in_map, from_map, any_from, any_to}
use Rattle.depot_laws.proofs.lists.Splits.{flat_left}

-- a convicted node is named by a proof
pub convicted_by : (J : List Record) (n : ℕ) → is_convicted J n ≡ true → (p : Proof) × (IsIn p (flat_map proof_by J) × (accused p ≡ n))
unfolding is_convicted
convicted_by J n e =
    let m = any_to (λ m. m == n) (convicted J) e in
    let p = from_map accused m.0 (flat_map proof_by J) m.1.0 in
    (p.0, (p.1.0, p.1.1 ∙ eqb-true _ _ m.1.1))

-- the node that a proof names is convicted
pub convicts_accused : (J : List Record) (p : Proof) (n : ℕ) → IsIn p (flat_map proof_by J) → accused p ≡ n → is_convicted J n ≡ true
unfolding is_convicted
convicts_accused J p n on e = any_from (λ m. m == n) (accused p) (convicted J) (in_map accused p (flat_map proof_by J) on) (eq-eqb (accused p) n e)

-- a convicted node stays convicted
pub convicted_before : (J K : List Record) (n : ℕ) → is_convicted J n ≡ true → is_convicted (J ++ K) n ≡ true
convicted_before J K n e = let p = convicted_by J n e in convicts_accused (J ++ K) p.0 n (flat_left proof_by p.0 J K p.1.0) p.1.1

-- a node that isn't convicted wasn't before
pub unconvicted_before : (J K : List Record) (n : ℕ) → is_convicted (J ++ K) n ≡ false → is_convicted J n ≡ false
unconvicted_before J K n free = false_from_ne_true (is_convicted J n) (λ e. both_ways _ free (convicted_before J K n e))
