-- Bytes of numbers and nodes of a signature's tree have their lengths.
use Rattle.std.proofs.Common.{◌≡◌, ℕ, zero, suc, ◌<◌, List, length, arith}
use Rattle.std.specs.Int.{byte_at}
use Rattle.sha2.proofs.Facts256.{length-sha256}
use Rattle.depot_model.specs.declared.layer.Layer.{Layer}
use Rattle.depot_model.specs.texts.Winternitz.{leaf, leaf_of, inner_node, node}

pub byte_small : (i n : ℕ) → byte_at i n < 256
byte_small zero n = omega arith
byte_small (suc i) n = omega arith

pub length-node : (L : Layer) (seed : List ℕ) (level k : ℕ) → length (node L seed level k) ≡ 32
unfolding node leaf_of leaf inner_node
length-node L seed zero k = length-sha256 _
length-node L seed (suc level) k = length-sha256 _
