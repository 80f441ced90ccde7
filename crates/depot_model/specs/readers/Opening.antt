-- The checkpoint that a node makes, and what it makes of a checkpoint's text.
use Rattle.std.specs.Prelude.{ℕ, List, length, map, find, Bool, false, not, ◌==◌, nat_lt, Option, Some, None, option_map, Result, Ok, Err, if◌then◌else◌}
use Rattle.std.specs.Option.{option_map_or}
use Rattle.std.specs.Str.{bytes_eq}
use Rattle.depot_base.specs.Format.{whole}
use Rattle.depot_base.specs.declared.record.Record.{Record}
use Rattle.depot_base.specs.declared.update.Update.{Update}
use Rattle.depot_model.specs.declared.hello.HelloLeaf.{HelloLeaf}
use Rattle.depot_model.specs.readers.Checkpoints.{Checkpoint, checkpoint, text_of_checkpoint}
use Rattle.depot_model.specs.checks.Checks.{Setting}
use Rattle.depot_model.specs.exchange.Hello.{named_leaf}
use Rattle.depot_model.specs.updates.History.{leaves_of, by_id}
use Rattle.depot_model.specs.journals.Journal.{accepted, named}
use Rattle.depot_model.specs.checks.Taking.{at_start}
use Rattle.depot_model.specs.texts.Texts.{hash_of_roster}

-- ---- making one

-- the roster, and all leaves of what was accepted
unfoldable pub checkpoint_of : Setting → List Record → Checkpoint
checkpoint_of here J = record { roster = hash_of_roster here.listed; leaves = map named_leaf (by_id (leaves_of (accepted J))) }

-- what a node answers when asked to make a checkpoint
pub data MadeCheckpoint : Type 0 where
  -- nothing was accepted
  no_leaves : MadeCheckpoint
  -- there are this many leaves, more than 1,024
  many_leaves : ℕ → MadeCheckpoint
  -- the checkpoint's text
  made_text : List ℕ → MadeCheckpoint

unfoldable pub make_of : Setting → List Record → MadeCheckpoint
make_of here J =
    if length (accepted J) == 0 then no_leaves
    else (if nat_lt 1024 (length (leaves_of (accepted J))) then many_leaves (length (leaves_of (accepted J)))
    else made_text (text_of_checkpoint (checkpoint_of here J)))

-- ---- its leaves

-- an accepted update of the leaf's writer has its id
abbrev pub is_update_of : List Update → HelloLeaf → Bool
is_update_of us l = option_map_or (λ t. t.writer == l.writer) (named us l.id) false

-- the first of these leaves that no accepted update of its writer is, by its id
unfoldable pub unknown_leaf : List Update → List HelloLeaf → Option (List ℕ)
unknown_leaf us leaves = option_map (λ l. l.id) (find (λ l. not (is_update_of us l)) leaves)

-- the ids that a checkpoint lists
abbrev pub ids_of : Checkpoint → List (List ℕ)
ids_of c = map (λ l. l.id) c.leaves

-- ---- opening one

-- what a node answers to a text that is given as a checkpoint's
pub data Opened : Type 0 where
  -- it is none, and goes wrong at this offset
  ill_at : ℕ → Opened
  -- it is of the roster with this hash, another one than the node's
  of_roster : List ℕ → Opened
  -- this is the first listed id that isn't that of an accepted update of its writer
  with_unknown : List ℕ → Opened
  -- all is well: the listed ids
  opened : List (List ℕ) → Opened

-- the result for the leaves of a checkpoint of the node's roster
abbrev pub opened_unless : List (List ℕ) → Option (List ℕ) → Opened
opened_unless ids (Some id) = with_unknown id
opened_unless ids None = opened ids

abbrev pub opened_as : Setting → List Record → Result Checkpoint ℕ → Opened
opened_as here J (Err at) = ill_at at
opened_as here J (Ok c) = if bytes_eq c.roster (hash_of_roster here.listed) then opened_unless (ids_of c) (unknown_leaf (accepted J) c.leaves) else of_roster c.roster

-- The first that holds: the text goes wrong; its roster is another; a leaf isn't accepted. Else the ids that it lists.
unfoldable pub opened_text : Setting → List Record → List ℕ → Opened
opened_text here J text = opened_as here J (whole checkpoint (at_start text))
