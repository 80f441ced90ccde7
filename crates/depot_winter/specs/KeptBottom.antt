-- A bottom tree that is kept from one signature to the next.
use Rattle.std.specs.Prelude.{ℕ, ◌-◌, List}
use Rattle.depot_base.specs.declared.limits.TheConstants.{BOTTOM_HEIGHT}
use Rattle.depot_model.specs.declared.layer.Layer.TheVariants.{Top}
use Rattle.depot_model.specs.texts.Winternitz.{bottom_root, digest_of, layer_part, root_of}

-- the top layer's part of each signature by a leaf of bottom tree q: it signs that tree's root
abbrev pub top_part : List ℕ → ℕ → ℕ → List ℕ
top_part seed height q = layer_part Top seed q (digest_of Top (root_of seed height) q (bottom_root seed q)) (height - BOTTOM_HEIGHT)
