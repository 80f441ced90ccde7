-- A run of a schedule as it is between two events.
use Rattle.std.specs.Prelude.{ℕ, ◌==◌, List, [], ◌∷◌, ◌++◌, map, filter, Bool, Option, Some, None, option_map, option_and_then, if◌then◌else◌}
use Rattle.std.specs.List.{flat_map}
use Rattle.std.specs.Option.{option_map_or}
use Rattle.std.specs.Str.{bytes_eq}
use Rattle.sha2.specs.Sha256.{sha256}
use Rattle.depot_base.specs.declared.update.Update.{Update}
use Rattle.depot_base.specs.declared.statement.Signed.{Signed}
use Rattle.depot_base.specs.declared.proof.Proof.{Proof}
use Rattle.depot_base.specs.declared.record.Record.{Record}
use Rattle.depot_base.specs.declared.record.Record.TheVariants.{Birth}
use Rattle.depot_model.specs.journals.Journal.{accepted, own, update_in, has_id}
use Rattle.depot_model.specs.lists.Lists.{when}
use Rattle.depot_model.specs.readers.Readers.{Reader}
use Rattle.depot_model.specs.texts.Texts.{id_of_update, hash_of_roster}
use Rattle.depot_model.specs.worlds.World.{World, Correct}
use Rattle.depot_schedule.specs.declared.event.Ref.{Ref}
use Rattle.depot_schedule.specs.declared.event.Ref.TheVariants as ref
use Rattle.depot_schedule.specs.declared.member.Member.{Member}
use Rattle.depot_schedule.specs.EventWords.{first_or}
use Rattle.depot_world.specs.Setups.{Setup}

-- ---- what a run keeps

-- A stop that is set on a node's disk: at which call from now on it comes, from 1, and which image the disk then holds.
pub record PendingStop : Type 0 where
  pub call : ℕ
  pub image : ℕ

-- a correct node at work, and the stop that is set on its disk, if any
pub record Host : Type 0 where
  pub correct : Correct
  pub pending : Option PendingStop

-- What an event made under a label: its bytes, the signed statement if it made one, and whether it is plain: made as
-- bytes, by `raw`, `cut`, `flip` or `join`. The label of a refused or stopped event has no bytes; a plain one may have
-- none as well.
pub record Labelled : Type 0 where
  pub label : List ℕ
  pub bytes : List ℕ
  pub signed : Option Signed
  pub plain : Bool

-- What an event made under the name of a reader: the reader, or none if it was refused.
pub record NamedReader : Type 0 where
  pub name : List ℕ
  pub reader : Option Reader

-- The nodes in the order of their lines, the labels, the proofs that were judged with a verdict, the updates that a
-- right history is computed over (those that events made and those that correct nodes accepted, each id once, in the
-- order in which they came), and the readers, in the order in which they were made. A reader is in memory alone, but
-- outlives what happens to its node.
pub record Run : Type 0 where
  pub hosts : List Host
  pub labels : List Labelled
  pub judged : List Proof
  pub seen : List Update
  pub readers : List NamedReader

-- a node that was just started on an empty disk
abbrev pub fresh_host : Setup → ℕ → Host
fresh_host setup node = record { correct = record { node = node; journal = Birth node (hash_of_roster setup.listed) ∷ []; reads = [] }; pending = None }

-- the run before its first event
unfoldable pub run_of : Setup → List Member → Run
run_of setup members = record { hosts = map (λ m. fresh_host setup m.node) (filter (λ m. m.correct) members); labels = []; judged = []; seen = []; readers = [] }

-- the world that a run has made so far
unfoldable pub world_by : Setup → Run → World
world_by setup run = record { verifies = setup.suite.verifies; listed = setup.listed; nodes = map (λ s. s.correct) run.hosts; judged = run.judged }

-- ---- what is found in a run

-- the first host of a node
unfoldable pub host_in : List Host → ℕ → Option Host
host_in [] node = None
host_in (s ∷ ss) node = if s.correct.node == node then Some s else host_in ss node

-- what a label names
unfoldable pub made_in : List Labelled → List ℕ → Option Labelled
made_in [] label = None
made_in (m ∷ ms) label = if bytes_eq m.label label then Some m else made_in ms label

-- the reader of a name, if there is one
unfoldable pub reader_in : List NamedReader → List ℕ → Option Reader
reader_in [] name = None
reader_in (r ∷ rs) name = if bytes_eq r.name name then r.reader else reader_in rs name

-- the bytes of a label
abbrev pub bytes_of_label : Run → List ℕ → List ℕ
bytes_of_label run label = option_map_or (λ m. m.bytes) (made_in run.labels label) []

-- the signed statement of a label
abbrev pub signed_of : Run → List ℕ → Option Signed
signed_of run label = option_and_then (λ m. m.signed) (made_in run.labels label)

-- the first update of a list
abbrev pub first_update : List Update → Option Update
first_update [] = None
first_update (u ∷ us) = Some u

-- the own update with this seq, if there is one
abbrev pub own_update : List Record → ℕ → Option Update
own_update J seq = first_update (filter (λ u. u.seq == seq) (flat_map update_in (own J)))

-- the update that a reference names: that of a label, or the own update of a node with a seq
unfoldable pub referred : Run → Ref → Option Update
referred run (ref.Label label) = option_and_then (λ s. first_update (update_in s.statement)) (signed_of run label)
referred run (ref.Own node seq) = option_and_then (λ s. own_update s.correct.journal seq) (host_in run.hosts node)

-- the bytes of a plain label
abbrev pub plain_bytes : Run → List ℕ → Option (List ℕ)
plain_bytes run label = option_and_then (λ m. when m.plain m.bytes) (made_in run.labels label)

-- the bytes that a reference names by a plain label
abbrev pub plain_referred : Run → Ref → Option (List ℕ)
plain_referred run (ref.Label label) = plain_bytes run label
plain_referred run (ref.Own node seq) = None

-- the id that a reference names for a voucher: SHA-256 of the bytes of a plain label, or the id of an update
unfoldable pub id_referred : Run → Ref → Option (List ℕ)
id_referred run r = first_or (option_map sha256 (plain_referred run r)) (option_map id_of_update (referred run r))

-- ---- how a run goes on

-- updates put after those that were seen, but for those whose id was
unfoldable pub seen_with : List Update → List Update → List Update
seen_with seen [] = seen
seen_with seen (u ∷ us) = seen_with (if has_id seen (id_of_update u) then seen else seen ++ u ∷ []) us

-- one more label
abbrev pub with_label : Run → Labelled → Run
with_label run m = record run { labels = run.labels ++ m ∷ [] }

-- one more reader
abbrev pub with_reader : Run → NamedReader → Run
with_reader run r = record run { readers = run.readers ++ r ∷ [] }

-- the reader of a name in place of the one before
unfoldable pub put_reader : List ℕ → Reader → List NamedReader → List NamedReader
put_reader name R [] = []
put_reader name R (r ∷ rs) = if bytes_eq r.name name then record { name = r.name; reader = Some R } ∷ rs else r ∷ put_reader name R rs

-- the same if there is one
abbrev pub readers_with : List ℕ → Option Reader → List NamedReader → List NamedReader
readers_with name None rs = rs
readers_with name (Some R) rs = put_reader name R rs

-- a node's host in place of the one before
unfoldable pub put_host : Host → List Host → List Host
put_host s [] = []
put_host s (t ∷ ts) = if t.correct.node == s.correct.node then s ∷ ts else t ∷ put_host s ts

-- the run with a host as an event left it, and with its accepted updates among those seen
unfoldable pub with_host : Run → Host → Run
with_host run s = record run { hosts = put_host s run.hosts; seen = seen_with run.seen (accepted s.correct.journal) }
