-- What a correct node writes next.
use Rattle.std.specs.Prelude.{◌≡◌, ℕ, ◌+◌, ◌^◌, List, [], ◌∷◌, length, map, drop, slice_get, filter, None, if◌then◌else◌, Bool, false, not, ◌&&◌, ◌==◌}
use Rattle.std.specs.Option.{option_map_or}
use Rattle.std.specs.List.{flat_map}
use Rattle.sha2.specs.Sha256.{sha256}
use Rattle.depot_base.specs.Zeros.{zeros}
use Rattle.depot_base.specs.declared.update.Update.{Update}
use Rattle.depot_base.specs.declared.update.Dep.{Dep}
use Rattle.depot_base.specs.declared.write.Wrote.TheVariants.{Put, Gone}
use Rattle.depot_base.specs.declared.write.Write.{Write}
use Rattle.depot_base.specs.declared.write.Change.{Change}
use Rattle.depot_base.specs.Writes.{is_put, value_in_change}
use Rattle.depot_base.specs.declared.key.RosterEntry.{RosterEntry}
use Rattle.depot_base.specs.declared.record.Record.{Record}
use Rattle.depot_model.specs.texts.Texts.{id_of_update}
use Rattle.depot_model.specs.updates.Order.{past}
use Rattle.depot_model.specs.updates.History.{leaves_of, by_id, history_hash, greatest_clock}
use Rattle.depot_model.specs.texts.Roster.{key_of}
use Rattle.depot_model.specs.journals.Journal.{accepted, own, has_id, prev_of, last_own}

-- an entry that names an update
abbrev pub entry_of : Update → Dep
entry_of t = record { writer = t.writer; clock = t.clock; id = id_of_update t }

-- t precedes the update that a prev names, if it names one
unfoldable pub precedes_named : List Update → List ℕ → Update → Bool
precedes_named us h t = option_map_or (λ p. has_id (past p us) (id_of_update t)) (prev_of us h) false

-- t is of another writer, and doesn't precede the update that a prev names
abbrev pub is_unseen : ℕ → List Update → List ℕ → Update → Bool
is_unseen me us prev t = not (t.writer == me) && not (precedes_named us prev t)

-- the updates that the next own one names: the leaves of other writers that don't precede the last own update
unfoldable pub next_entries : ℕ → List Update → List ℕ → List Update
next_entries me us prev = by_id (filter (is_unseen me us prev) (leaves_of us))

-- the write that a change makes: one with a value names its hash and its length, one without is a deletion
abbrev pub write_of : Change → Write
write_of c = record { key = c.key; what = option_map_or (λ v. Put (sha256 v) (length v)) c.value Gone }

-- the values of changes, in their order
abbrev pub values_of : List Change → List (List ℕ)
values_of changes = flat_map value_in_change changes

-- the changes that writes and values make, one value for each write that is no deletion, in their order
abbrev pub changes_of : List Write → List (List ℕ) → List Change
changes_of [] values = []
changes_of (w ∷ ws) values =
    if is_put w.what
    then record { key = w.key; value = slice_get values 0 } ∷ changes_of ws (drop 1 values)
    else record { key = w.key; value = None } ∷ changes_of ws values

-- an update of a correct node but for what it writes: the next one with these writes
abbrev pub next_with : ℕ → List Record → List Write → Update
next_with me J ws = record {
  writer = me;
  seq = length (own J);
  clock = greatest_clock (accepted J) + 1;
  prev = last_own J;
  writes = ws;
  deps = map entry_of (next_entries me (accepted J) (last_own J));
  history = history_hash (accepted J);
}

-- the one update that a correct node makes next, for these changes
unfoldable pub next_own : ℕ → List Record → List Change → Update
next_own me J changes = next_with me J (map write_of changes)

-- neither 32 zero bytes nor the id of an accepted update
pub record IsFresh (J : List Record) (h : List ℕ) : Type 0 where
  pub named : h ≡ zeros → ⊥
  pub new : has_id (accepted J) h ≡ false

-- how many statements a node may sign: the leaves of its tree
unfoldable pub leaf_count : List RosterEntry → ℕ → ℕ
leaf_count listed me = option_map_or (λ key. 2 ^ key.height) (key_of listed me) 0
