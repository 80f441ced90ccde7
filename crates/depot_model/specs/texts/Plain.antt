-- The plain scheme, which anyone can forge: it serves tests and replays alone.
use Rattle.std.specs.Prelude.{ℕ, ◌^◌, List, ◌∷◌, ◌++◌, Bool, ◌&&◌, nat_lt}
use Rattle.std.specs.Str.{bytes_eq}
use Rattle.std.specs.Int.{w32}
use Rattle.sha2.specs.Sha256.{sha256}
use Rattle.depot_base.specs.Cursor.{numeral}
use Rattle.depot_base.specs.declared.key.PublicKey.{PublicKey}

-- the root of the key that is made of a seed
unfoldable pub plain_root : List ℕ → List ℕ
plain_root seed = sha256 seed

-- the signature by the leaf i of a body
unfoldable pub plain_signature : List ℕ → ℕ → List ℕ → List ℕ
plain_signature root i body = sha256 (6 ∷ (root ++ (numeral w32 i ++ body)))

-- the signature is that of the key's root, and the leaf is one of the tree
unfoldable pub plain_verifies : PublicKey → ℕ → List ℕ → List ℕ → Bool
plain_verifies key i body signature = nat_lt i (2 ^ key.height) && bytes_eq signature (plain_signature key.root i body)
