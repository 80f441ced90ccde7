-- The limits that a node's own writes may meet, and what remains of a call that its disk cut short.
use Rattle.std.specs.Prelude.{◌≡◌, ℕ, ◌+◌, ◌<◌, List, [], ◌∷◌, ◌++◌, length, take, ◌||◌, nat_lt, Option, option_map}
use Rattle.std.specs.Str.{bytes_eq}
use Rattle.depot_base.specs.declared.limits.TheConstants.{MOST_ENTRIES}
use Rattle.depot_base.specs.Zeros.{zeros}
use Rattle.depot_base.specs.declared.update.Update.{Update}
use Rattle.depot_base.specs.declared.write.Change.{Change}
use Rattle.depot_base.specs.declared.record.Record.{Record}
use Rattle.depot_base.specs.declared.record.Record.TheVariants.{OwnPut}
use Rattle.depot_base.specs.declared.check.Full.{Full}
use Rattle.depot_model.specs.lists.Lists.{when, first}
use Rattle.depot_model.specs.texts.Texts.{id_of_update}
use Rattle.depot_model.specs.journals.Journal.{accepted, own, has_id}
use Rattle.depot_model.specs.checks.Checks.{Setting}
use Rattle.depot_model.specs.checks.Own.{next_own, values_of, leaf_count}
use Rattle.depot_model.specs.checks.Room.{full_by}

-- why a node writes nothing, in the order in which it is looked for
pub data Limit : Type 0 where
  -- this many own statements were made, and the call's would pass the leaves of the tree
  spent : ℕ → Limit
  -- the update would have this many entries, more than 1,024
  tips : ℕ → Limit
  -- the update's id is 32 zero bytes or that of an accepted update
  collides : List ℕ → Limit
  -- there is no room for the call's records
  full : Full → Limit

-- with this many more own statements a node would have more of them than its tree has leaves
unfoldable pub spent_by : Setting → List Record → ℕ → Option Limit
spent_by here J more = when (nat_lt (leaf_count here.listed here.me) (length (own J) + more)) (spent (length (own J)))

-- an update has more than 1,024 entries
unfoldable pub tips_of : Update → Option Limit
tips_of u = when (nat_lt MOST_ENTRIES (length u.deps)) (tips (length u.deps))

-- the id of an update isn't fresh
unfoldable pub collides_by : List Record → Update → Option Limit
collides_by J u = when (bytes_eq (id_of_update u) zeros || has_id (accepted J) (id_of_update u)) (collides (id_of_update u))

-- the first limit that an own update, put by these records, meets
unfoldable pub limit_of_own : Setting → List Record → Update → List Record → Option Limit
limit_of_own here J u new = first (spent_by here J 1 ∷ tips_of u ∷ collides_by J u ∷ option_map full (full_by here.me J new) ∷ [])

-- the first limit that a put of these changes meets, or none
unfoldable pub limit_of_put : Setting → List Record → List Change → Option Limit
limit_of_put here J changes =
    let u = next_own here.me J changes in
    limit_of_own here J u (OwnPut u (values_of changes) ∷ [])

-- Of the records of a call whose disk failed, those before the failing one were appended: fewer than all. Where nothing
-- is to be appended the disk isn't accessed.
pub record IsCutShort (J new then : List Record) : Type 0 where
  pub count : ℕ
  pub fewer : count < length new
  pub grown : then ≡ J ++ take count new
