-- The places of the latest writes of each key, changed update by update.
use Rattle.std.specs.Prelude.{ℕ, List, [], ◌∷◌, ◌++◌, length, filter, Bool, false, true, not, slice_get, if◌then◌else◌}
use Rattle.std.specs.Option.{option_map_or}
use Rattle.std.specs.Ordering.{is_lt}
use Rattle.depot_base.specs.declared.update.Update.{Update}
use Rattle.depot_model.specs.texts.Contents.{writes}
use Rattle.depot_model.specs.updates.Order.{listed, past}
use Rattle.depot_model.specs.journals.Journal.{has_id}
use Rattle.depot_model.specs.texts.Texts.{id_of_update}

-- u comes before the update at a place, in the listed order
abbrev pub stands_before : Update → List Update → ℕ → Bool
stands_before u us n = option_map_or (λ t. is_lt (listed u t)) (slice_get us n) false

-- the place of u, which follows us, put before the first before which u comes
unfoldable pub put_place : Update → List Update → List ℕ → List ℕ
put_place u us [] = length us ∷ []
put_place u us (n ∷ ns) = if stands_before u us n then length us ∷ n ∷ ns else n ∷ put_place u us ns

-- the update at a place isn't in the past of u
abbrev pub is_apart : Update → List Update → ℕ → Bool
is_apart u us n = option_map_or (λ t. not (has_id (past u us) (id_of_update t))) (slice_get us n) true

-- the latest writes once u is written after us: those that u doesn't follow, and u itself
abbrev pub mended : Update → List Update → List ℕ → List ℕ
mended u us ns = put_place u us (filter (is_apart u us) ns)

-- from the latest writes of a key at the front, those once these updates follow
unfoldable pub latest_behind : List ℕ → List Update → List ℕ → List Update → List ℕ
latest_behind key front ns [] = ns
latest_behind key front ns (u ∷ us) = latest_behind key (front ++ u ∷ []) (if writes key u then mended u front ns else ns) us

-- the places of the latest writes of a key
abbrev pub latest_places : List ℕ → List Update → List ℕ
latest_places key us = latest_behind key [] [] us
