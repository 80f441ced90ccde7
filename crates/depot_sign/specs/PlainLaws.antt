-- The laws of the plain scheme, which its signer cites.
use Rattle.std.specs.Prelude.{◌≡◌, ℕ, ◌^◌, ◌∷◌, ◌++◌, ◌<◌, ◌≤◌, List, true, length, refl}
use Rattle.std.specs.Int.{w32}
use Rattle.std.proofs.Common.{subst, sym, lit≤}
use Rattle.std.proofs.lemmas.Bool.{lt-ltb, and_from}
use Rattle.std.proofs.lemmas.Slice.Eq.{bytes_eq-Decides}
use Rattle.sha2.proofs.Facts256.{length-sha256}
use Rattle.depot_base.specs.declared.limits.TheConstants.{MOST_SIGNATURE}
use Rattle.depot_base.specs.Cursor.{numeral}
use Rattle.depot_base.specs.declared.key.PublicKey.{PublicKey}
use Rattle.depot_model.specs.texts.Plain.{plain_signature, plain_verifies}

-- the signature by a leaf of the tree verifies
pub signed_by_plain_verifies : (key : PublicKey) (seq : ℕ) (body : List ℕ) → seq < 2 ^ key.height → plain_verifies key seq body (plain_signature key.root seq body) ≡ true
unfolding plain_verifies
signed_by_plain_verifies key seq body lt =
    let signature = plain_signature key.root seq body in
    and_from _ _ (lt-ltb _ _ lt) ((bytes_eq-Decides signature signature).1 refl)

-- a signature has 32 bytes, which is at most 8,192
pub length-plain_signature : (root : List ℕ) (seq : ℕ) (body : List ℕ) → length (plain_signature root seq body) ≤ MOST_SIGNATURE
unfolding plain_signature
length-plain_signature root seq body =
    subst (λ (n : ℕ). n ≤ MOST_SIGNATURE) (sym (length-sha256 (6 ∷ (root ++ (numeral w32 seq ++ body))))) (lit≤ tt)
