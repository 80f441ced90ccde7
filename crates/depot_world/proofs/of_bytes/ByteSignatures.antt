-- The signatures of both schemes are bytes.
use Rattle.std.proofs.Common.{ℕ, zero, suc, ◌+◌, ◌-◌, ◌/◌, Bool, true, false, nat_le, if◌then◌else◌, List, [], ◌∷◌}
use Rattle.std.specs.Int.{w32}
use Rattle.depot_base.specs.Cursor.{numeral}
use Rattle.depot_base.specs.declared.statement.Statement.{Statement}
use Rattle.depot_base.specs.Statement.{seq_of}
use Rattle.depot_model.specs.exchange.Bundle.{Signs, signed_with}
use Rattle.depot_model.specs.texts.Plain.{plain_signature}
use Rattle.depot_model.specs.texts.Texts.{text_of_statement, text_of_signed}
use Rattle.depot_model.specs.declared.layer.Layer.{Layer}
use Rattle.depot_model.specs.declared.layer.Layer.TheVariants.{Bottom, Top}
use Rattle.depot_model.specs.texts.Winternitz.{secret, step, walk, value_at, values_from, leaf, leaf_of, inner_node, node, sibling, siblings_from, digits_of, digest_of, layer_part, both_parts, parts_of_signature, root_of, winternitz_signature}
use Rattle.depot_schedule.specs.declared.schedule.Schedule.{Schedule}
use Rattle.depot_world.specs.Setups.{suite_of, seed_of, setup_of, signs_on}
use Rattle.depot_world.proofs.of_bytes.OnlyBytes.{OnlyBytes, only_both, only_numeral, only_sha256}
use Rattle.depot_world.proofs.of_bytes.ByteTexts.{only_signed}

-- what signs gives bytes
abbrev pub SignsBytes : Signs → Type 0
SignsBytes sign = (seq : ℕ) (body : List ℕ) → OnlyBytes (sign seq body)

-- ---- Winternitz

only_walk : (L : Layer) (i j p n : ℕ) (value : List ℕ) → OnlyBytes value → OnlyBytes (walk L i j p n value)
unfolding walk step
only_walk L i j p zero value only = only
only_walk L i j p (suc n) value only = only_walk L i j (p + 1) n (step L i j p value) (only_sha256 _)

only_secret : (L : Layer) (seed : List ℕ) (i j : ℕ) → OnlyBytes (secret L seed i j)
unfolding secret
only_secret L seed i j = only_sha256 _

only_values : (L : Layer) (seed : List ℕ) (i j : ℕ) (ds : List ℕ) → OnlyBytes (values_from L seed i j ds)
unfolding values_from
only_values L seed i j [] = tt
only_values L seed i j (d ∷ ds) = only_both (value_at L seed i j d) (values_from L seed i (j + 1) ds) (only_walk L i j 0 d (secret L seed i j) (only_secret L seed i j)) (only_values L seed i (j + 1) ds)

only_node : (L : Layer) (seed : List ℕ) (level k : ℕ) → OnlyBytes (node L seed level k)
unfolding node leaf_of leaf inner_node
only_node L seed zero k = only_sha256 _
only_node L seed (suc n) k = only_sha256 _

only_siblings : (L : Layer) (seed : List ℕ) (level k n : ℕ) → OnlyBytes (siblings_from L seed level k n)
unfolding siblings_from
only_siblings L seed level k zero = tt
only_siblings L seed level k (suc n) = only_both (node L seed level (sibling k)) (siblings_from L seed (level + 1) (k / 2) n) (only_node L seed level (sibling k)) (only_siblings L seed (level + 1) (k / 2) n)

-- one layer's part
only_part : (L : Layer) (seed : List ℕ) (i : ℕ) (digest : List ℕ) (height : ℕ) → OnlyBytes (layer_part L seed i digest height)
unfolding layer_part
only_part L seed i digest height =
    only_both (values_from L seed i 0 (digits_of digest)) (siblings_from L seed 0 i height) (only_values L seed i 0 (digits_of digest)) (only_siblings L seed 0 i height)

-- the parts of both layers
only_both_parts : (seed root : List ℕ) (top_height i : ℕ) (body : List ℕ) → OnlyBytes (both_parts seed root top_height i body)
unfolding both_parts
only_both_parts seed root top_height i body = only_both (layer_part Bottom seed i _ 8) (layer_part Top seed (i / 256) _ top_height) (only_part Bottom seed i _ 8) (only_part Top seed (i / 256) _ top_height)

only_parts : (one : Bool) (seed root : List ℕ) (height i : ℕ) (body : List ℕ) →
    OnlyBytes (if one then layer_part Bottom seed i (digest_of Bottom root i body) height else both_parts seed root (height - 8) i body)
only_parts true seed root height i body = only_part Bottom seed i (digest_of Bottom root i body) height
only_parts false seed root height i body = only_both_parts seed root (height - 8) i body

winter_signs_bytes : (seed : List ℕ) (height : ℕ) → SignsBytes (winternitz_signature seed height)
unfolding winternitz_signature
winter_signs_bytes seed height i body =
    only_both (numeral w32 i) (parts_of_signature seed (root_of seed height) height i body) (only_numeral w32 i) (only_parts (nat_le height 12) seed (root_of seed height) height i body)

-- ---- both

plain_signs_bytes : (root : List ℕ) → SignsBytes (plain_signature root)
unfolding plain_signature
plain_signs_bytes root i body = only_sha256 _

suite_signs_bytes : (winter : Bool) (seed : List ℕ) (height : ℕ) → SignsBytes ((suite_of winter).sign seed height)
unfolding suite_of
suite_signs_bytes true seed height = winter_signs_bytes seed height
suite_signs_bytes false seed height = plain_signs_bytes _

-- each member of a schedule
pub members_sign_bytes : (s : Schedule) (node : ℕ) → SignsBytes (signs_on (setup_of s) node)
unfolding setup_of
members_sign_bytes s node = suite_signs_bytes s.winter (seed_of node) s.height

-- a statement with its signature
pub only_signed_with : (sign : Signs) (s : Statement) → SignsBytes sign → OnlyBytes (text_of_statement s) → OnlyBytes (text_of_signed (signed_with sign s))
unfolding signed_with
only_signed_with sign s signs only = only_signed (signed_with sign s) only (signs (seq_of s) (text_of_statement s))
