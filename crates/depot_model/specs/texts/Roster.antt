-- What a roster says of its nodes.
use Rattle.std.specs.Prelude.{ℕ, List, [], ◌∷◌, Bool, false, ◌==◌, is_some, Option, Some, None, if◌then◌else◌}
use Rattle.std.specs.Option.{option_map_or}
use Rattle.depot_base.specs.Statement.{writer_of, seq_of}
use Rattle.depot_base.specs.declared.statement.Signed.{Signed}
use Rattle.depot_base.specs.declared.key.PublicKey.{PublicKey}
use Rattle.depot_base.specs.declared.key.RosterEntry.{RosterEntry}

-- whether a signature of a body by a leaf verifies under a key: the answer of a scheme
abbrev pub Verifies : Type 0
Verifies = PublicKey → ℕ → List ℕ → List ℕ → Bool

-- the key of a node, where the roster has it
unfoldable pub key_of : List RosterEntry → ℕ → Option PublicKey
key_of [] n = None
key_of (e ∷ es) n = if e.node == n then Some e.key else key_of es n

-- the roster has the node
abbrev pub has_node : List RosterEntry → ℕ → Bool
has_node r n = is_some (key_of r n)

-- the signature verifies under the key that the roster has for the writer
unfoldable pub is_signed : Verifies → List RosterEntry → Signed → Bool
is_signed verifies r s = option_map_or (λ key. verifies key (seq_of s.statement) s.body s.signature) (key_of r (writer_of s.statement)) false
