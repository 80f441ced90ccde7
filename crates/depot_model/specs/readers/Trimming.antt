-- What a checkpoint lets a reader trim, and which statements name what it trimmed.
use Rattle.std.specs.Prelude.{ℕ, List, filter, Bool, false, not, ◌&&◌, ◌||◌, ◌==◌}
use Rattle.std.specs.List.{list_any, list_all}
use Rattle.std.specs.Str.{bytes_eq}
use Rattle.depot_base.specs.Statement.{writer_of, seq_of}
use Rattle.depot_base.specs.declared.update.Update.{Update}
use Rattle.depot_base.specs.declared.statement.Statement.{Statement}
use Rattle.depot_base.specs.declared.statement.Statement.TheVariants as statement
use Rattle.depot_base.specs.declared.record.Record.{Record}
use Rattle.depot_model.specs.lists.Lists.{is_among}
use Rattle.depot_model.specs.texts.Texts.{id_of_update}
use Rattle.depot_model.specs.updates.Order.{parents, past}
use Rattle.depot_model.specs.journals.Journal.{accepted, has_id}
use Rattle.depot_model.specs.exchange.Bundle.{is_covered}
use Rattle.depot_model.specs.texts.Contents.{keys_written}
use Rattle.depot_model.specs.updates.LatestList.{latest_in}
use Rattle.depot_model.specs.worlds.ReadTests.{is_value_of}
use Rattle.depot_model.specs.readers.Checkpoints.{checkpoint_key}

-- ---- below a checkpoint

-- the accepted updates that are, or precede, one with a listed id
abbrev pub below : List Record → List (List ℕ) → List Update
below J ids = filter (is_covered (accepted J) ids) (accepted J)

-- an accepted update of the node puts the checkpoint's text under its key, and each listed id is in its past
unfoldable pub is_signed_by : List Record → List ℕ → List (List ℕ) → ℕ → Bool
is_signed_by J text ids n = list_any (λ u. (u.writer == n) && (is_value_of (checkpoint_key text) u text && list_all (λ h. has_id (past u (accepted J)) h) ids)) (accepted J)

-- ---- what is trimmed

-- an update of these is a latest write of one of its keys among them
abbrev pub is_latest_below : List Update → Update → Bool
is_latest_below us u = list_any (λ key. has_id (latest_in key us) (id_of_update u)) (keys_written u)

-- it is below, and of none of its keys a latest write there
unfoldable pub is_trimmed : List Record → List (List ℕ) → Update → Bool
is_trimmed J ids u = is_covered (accepted J) ids u && not (is_latest_below (below J ids) u)

-- the trimmed updates, in the order of the journal
abbrev pub trimmed : List Record → List (List ℕ) → List Update
trimmed J ids = filter (is_trimmed J ids) (accepted J)

-- ---- statements that name an update

-- the update is a parent of it; a voucher has none
abbrev pub names_parent : Statement → Update → Bool
names_parent (statement.Update u) t = is_among (id_of_update t) (parents u)
names_parent (statement.Voucher v) t = false

-- it is an update with this prev
abbrev pub has_prev : Statement → List ℕ → Bool
has_prev (statement.Update u) h = bytes_eq u.prev h
has_prev (statement.Voucher v) h = false

-- a statement names an update: as a parent, or they are of one writer and have one seq or one prev, 32 zero bytes too
unfoldable pub names : Statement → Update → Bool
names s t = names_parent s t || ((writer_of s == t.writer) && ((seq_of s == t.seq) || has_prev s t.prev))
