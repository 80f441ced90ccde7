-- The top part of a signature of two layers depends only on the seed, the key and the number of the bottom tree.
use Rattle.std.proofs.Common.{◌≡◌, ◌<◌, ◌/◌, ◌-◌, ℕ, Bool, true, false, cond, List, ◌++◌, drop, refl, sym, ap, ◌∙◌, arith, append_assoc, nat_le}
use Rattle.std.specs.Int.{w32}
use Rattle.std.proofs.lemmas.Bool.{leb-true}
use Rattle.std.proofs.lemmas.List.{drop_at, length-append}
use Rattle.depot_base.specs.Cursor.{numeral}
use Rattle.depot_base.proofs.CallLaws.{numeral_long}
use Rattle.depot_model.specs.declared.layer.Layer.TheVariants.{Bottom, Top}
use Rattle.depot_model.specs.texts.Winternitz.{bottom_root, both_parts, digest_of, layer_part, root_of, winternitz_signature}
use Rattle.depot_winter.proofs.Lengths.{digest_of_digest, length-layer_part}

-- what the leaf of a bottom tree's root signs, for a key whose top tree has this height
top_part : (seed root : List ℕ) (top_height q : ℕ) → List ℕ
top_part seed root top_height q = layer_part Top seed q (digest_of Top root q (bottom_root seed q)) top_height

-- after the leaf's number and the bottom part nothing else follows
behind_both : (seed root : List ℕ) (top_height i : ℕ) (body : List ℕ) → drop 2404 (numeral w32 i ++ both_parts seed root top_height i body) ≡ top_part seed root top_height (i / 256)
unfolding both_parts top_part
behind_both seed root top_height i body =
    let below = digest_of Bottom root i body in
    let bottom = layer_part Bottom seed i below 8 in
    let top = layer_part Top seed (i / 256) (digest_of Top root (i / 256) (bottom_root seed (i / 256))) top_height in
    ap (drop 2404) (sym (append_assoc (numeral w32 i) bottom top))
    ∙ drop_at (numeral w32 i ++ bottom) top 2404 (omega (arith, length-append (numeral w32 i) bottom, numeral_long i, length-layer_part Bottom seed i below 8 (digest_of_digest Bottom root i body)))

-- a key above height 12 has two layers
two_layers : (seed : List ℕ) (height i : ℕ) (body : List ℕ) → 12 < height → drop 2404 (winternitz_signature seed height i body) ≡ top_part seed (root_of seed height) (height - 8) (i / 256)
unfolding winternitz_signature
two_layers seed height i body high = by_test (nat_le height 12) refl where
  by_test : (one : Bool) → nat_le height 12 ≡ one → drop 2404 (numeral w32 i ++ cond one (layer_part Bottom seed i (digest_of Bottom (root_of seed height) i body) height) (both_parts seed (root_of seed height) (height - 8) i body)) ≡ top_part seed (root_of seed height) (height - 8) (i / 256)
  by_test true is = absurd (omega (arith, high, leb-true height 12 is))
  by_test false is = behind_both seed (root_of seed height) (height - 8) i body

pub one_text : (seed body other : List ℕ) (height i j : ℕ) → 12 < height → i / 256 ≡ j / 256 → drop 2404 (winternitz_signature seed height i body) ≡ drop 2404 (winternitz_signature seed height j other)
one_text seed body other height i j high same = two_layers seed height i body high ∙ ap (top_part seed (root_of seed height) (height - 8)) same ∙ sym (two_layers seed height j other high)
