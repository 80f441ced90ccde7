-- The leaves of a set of updates, and the history hash.
use Rattle.std.specs.Prelude.{ℕ, max, List, [], ◌∷◌, ◌++◌, Bool, not, filter, if◌then◌else◌}
use Rattle.std.specs.List.{flat_map, list_any}
use Rattle.std.specs.Int.{w16, w64}
use Rattle.std.specs.Ordering.{nat_cmp, is_lt}
use Rattle.std.specs.Cmp.Lexicographic.{slice_cmp}
use Rattle.sha2.specs.Sha256.{sha256}
use Rattle.depot_base.specs.Cursor.{numeral}
use Rattle.depot_base.specs.declared.update.Update.{Update}
use Rattle.depot_model.specs.lists.Lists.{is_among}
use Rattle.depot_model.specs.texts.Texts.{id_of_update}
use Rattle.depot_model.specs.updates.Order.{prevs}

-- an update of these has this id as its prev
abbrev pub is_prev_in : List Update → List ℕ → Bool
is_prev_in us h = list_any (λ u. is_among h (prevs u)) us

-- the updates whose id none of them has as its prev
unfoldable pub leaves_of : List Update → List Update
leaves_of us = filter (λ t. not (is_prev_in us (id_of_update t))) us

-- by writer, and then by id
abbrev pub is_lower : Update → Update → Bool
is_lower t u = is_lt (slice_cmp nat_cmp (t.writer ∷ id_of_update t) (u.writer ∷ id_of_update u))

-- t put before the first that isn't lower
unfoldable pub put_by_id : Update → List Update → List Update
put_by_id t [] = t ∷ []
put_by_id t (u ∷ us) = if is_lower u t then u ∷ put_by_id t us else t ∷ u ∷ us

-- in rising order of (writer, id)
unfoldable pub by_id : List Update → List Update
by_id [] = []
by_id (t ∷ ts) = put_by_id t (by_id ts)

-- a leaf in the history text: writer, clock, id
abbrev pub leaf_text : Update → List ℕ
leaf_text t = numeral w16 t.writer ++ (numeral w64 t.clock ++ id_of_update t)

-- the leaves in rising order of (writer, id)
unfoldable pub history_text : List Update → List ℕ
history_text us = flat_map leaf_text (by_id (leaves_of us))

-- SHA-256 of the history text
unfoldable pub history_hash : List Update → List ℕ
history_hash us = sha256 (history_text us)

-- the greatest clock, 0 where there is none
abbrev pub greatest_clock : List Update → ℕ
greatest_clock [] = 0
greatest_clock (u ∷ us) = max u.clock (greatest_clock us)
