-- The holders of each id, in a map.
use Rattle.std.specs.Prelude.{ℕ, List, [], Bool, false, Option, Vec}
use Rattle.std.specs.Option.{option_map_or}
use Rattle.std.specs.BTreeMap.{get}
use Rattle.std.specs.Cmp.Lexicographic.{slice_cmp}
use Rattle.std.specs.Ordering.{nat_cmp}
use Rattle.std.specs.declared.alloc.Global.{Global}
use Rattle.depot_queries.specs.RisingPlaces.{has_place_in}
use Rattle.depot_queries.specs.declared.holders.Holders.{Holders}

-- what is kept for an id
abbrev pub kept_for : Holders → List ℕ → Option (Vec ℕ Global)
kept_for holders id = get (slice_cmp nat_cmp) holders.lists id

-- the holders of an id, none where nothing is kept for it
unfoldable pub holders_of : Holders → List ℕ → List ℕ
holders_of holders id = option_map_or (λ list. list.items) (kept_for holders id) []

-- a node is a holder of an id, or there is memory for it
unfoldable pub has_place : Holders → List ℕ → ℕ → Bool
has_place holders id node = option_map_or (λ list. has_place_in list node) (kept_for holders id) false
