-- Places among leaves that rise.
use Rattle.std.specs.Prelude.{ℕ, List, length, Bool, true, Some, slice_get, take_while}
use Rattle.std.specs.Option.{option_map_or}
use Rattle.depot_model.specs.declared.hello.HelloLeaf.{HelloLeaf}
use Rattle.depot_model.specs.exchange.Hello.{hello_leaf_rises}

-- the first place with a leaf that isn't lower, or the list's end
abbrev pub leaf_place : HelloLeaf → List HelloLeaf → ℕ
leaf_place l ks = length (take_while (λ k. hello_leaf_rises (Some k) l) ks)

-- at this place is a higher leaf, or none
abbrev pub is_new_at : HelloLeaf → List HelloLeaf → ℕ → Bool
is_new_at l ks place = option_map_or (λ k. hello_leaf_rises (Some l) k) (slice_get ks place) true
