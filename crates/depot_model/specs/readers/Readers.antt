-- A reader: what it keeps of a node's journal, and the journal extended by what it takes.
use Rattle.std.specs.Prelude.{ℕ, List, [], ◌∷◌, ◌++◌, length, map, filter, find, Bool, not, ◌==◌, is_some, Option, Some, None, option_map, option_and_then, Result, Ok, Err, if◌then◌else◌}
use Rattle.std.specs.Option.{option_map_or}
use Rattle.sha2.specs.Sha256.{sha256}
use Rattle.depot_base.specs.declared.check.Check.{Check}
use Rattle.depot_base.specs.declared.check.Check.TheVariants as check
use Rattle.depot_base.specs.declared.check.Full.{Full}
use Rattle.depot_base.specs.declared.record.Record.{Record}
use Rattle.depot_base.specs.declared.statement.Signed.{Signed}
use Rattle.depot_base.specs.declared.update.Update.{Update}
use Rattle.depot_base.specs.declared.write.Wrote.{Wrote}
use Rattle.depot_base.specs.declared.write.Wrote.TheVariants.{Put, Gone}
use Rattle.depot_model.specs.declared.taken.Taken.{Taken}
use Rattle.depot_model.specs.declared.taken.Taken.TheVariants.{New, Known}
use Rattle.depot_model.specs.checks.Checks.{Setting, Given, given_statement, given_proof, given_value, answer_to, growth}
use Rattle.depot_model.specs.texts.Contents.{wrote_under, Sighting, held_value, not_held, gone}
use Rattle.depot_model.specs.journals.Journal.{accepted, held, has_id, is_wanted, value_with}
use Rattle.depot_model.specs.updates.LatestList.{latest_in}
use Rattle.depot_model.specs.lists.Lists.{when}
use Rattle.depot_model.specs.readers.Opening.{Opened, opened, opened_text}
use Rattle.depot_model.specs.readers.Pruning.{below_of}
use Rattle.depot_model.specs.checks.Room.{full_by}
use Rattle.depot_model.specs.checks.Taking.{Form, given_as}
use Rattle.depot_model.specs.texts.Texts.{id_of_update}
use Rattle.depot_model.specs.readers.Trimming.{is_signed_by, trimmed}
use Rattle.depot_model.specs.worlds.World.{Shown}

-- ---- a reader

pub record Reader : Type 0 where
  -- the setting of the node that it was made from
  pub here : Setting
  -- the node's journal when it was trimmed, and then what the reader took
  pub journal : List Record
  -- the updates that were trimmed, in the order of the journal
  pub trimmed : List Update
  -- the values that are held, in the order in which they came
  pub held : List (List ℕ)

-- the updates of these that aren't among the trimmed ones
abbrev pub left_of : List Update → List Update → List Update
left_of ts us = filter (λ u. not (has_id ts (id_of_update u))) us

-- the accepted updates that weren't trimmed
unfoldable pub kept : Reader → List Update
kept R = left_of R.trimmed (accepted R.journal)

-- one of these updates names the hash and the length of a value
abbrev pub is_named_by : List Update → List ℕ → Bool
is_named_by us v = is_wanted us (sha256 v) (length v)

-- ---- making one

-- the reader of a journal where these ids are listed: a held value is dropped where no kept update names its hash and its length
unfoldable pub reader_of : Setting → List Record → List (List ℕ) → Reader
reader_of here J ids =
    record { here = here; journal = J; trimmed = trimmed J ids; held = filter (is_named_by (left_of (trimmed J ids) (accepted J))) (held J) }

-- the first node of the roster that didn't sign a checkpoint
unfoldable pub unsigned_node : Setting → List Record → List ℕ → List (List ℕ) → Option ℕ
unsigned_node here J text ids = option_map (λ e. e.node) (find (λ e. not (is_signed_by J text ids e.node)) here.listed)

-- what a node answers when asked to make a reader
pub data TrimAnswer : Type 0 where
  -- the text isn't opened
  unopened : Opened → TrimAnswer
  -- this is the first node of the roster that didn't sign it
  unsigned : ℕ → TrimAnswer
  reading : Reader → TrimAnswer

abbrev pub trimmed_unless : Setting → List Record → List (List ℕ) → Option ℕ → TrimAnswer
trimmed_unless here J ids (Some node) = unsigned node
trimmed_unless here J ids None = reading (reader_of here J ids)

abbrev pub trimmed_as : Setting → List Record → List ℕ → Opened → TrimAnswer
trimmed_as here J text (opened ids) = trimmed_unless here J ids (unsigned_node here J text ids)
trimmed_as here J text other = unopened other

-- The first that holds: the text isn't opened; a node of the roster didn't sign it. Else the reader.
unfoldable pub trim_of : Setting → List Record → List ℕ → TrimAnswer
trim_of here J text = trimmed_as here J text (opened_text here J text)

-- ---- what it takes

-- what becomes of something that a reader is given
pub data ReaderOutcome : Type 0 where
  -- it names this trimmed update, the first in the order of the journal
  stands_below : List ℕ → ReaderOutcome
  -- there is no room for what the journal would grow by
  too_full : Full → ReaderOutcome
  -- it is answered so, and this is the reader after it
  told : Result Taken Check → Reader → ReaderOutcome

-- the same reader, whose journal has grown by these records
abbrev pub with_more : Reader → List Record → Reader
with_more R new = record R { journal = R.journal ++ new }

-- where no limit is met, the answer and what the journal grows by
abbrev pub told_unless : Reader → Option Full → Result Taken Check → List Record → ReaderOutcome
told_unless R (Some full) answer new = too_full full
told_unless R None answer new = told answer (with_more R new)

-- as a node with the whole journal does
unfoldable pub told_as_node : Reader → Given → ReaderOutcome
told_as_node R x = told_unless R (full_by R.here.me R.journal (growth R.here R.journal x)) (answer_to R.here R.journal x) (growth R.here R.journal x)

abbrev pub told_above : Reader → Signed → Option (List ℕ) → ReaderOutcome
told_above R s (Some id) = stands_below id
told_above R s None = told_as_node R (given_statement s)

-- a value of this hash is held
abbrev pub has_value : Reader → List ℕ → Bool
has_value R h = is_some (value_with h R.held)

-- a value: it is held, or a kept update names it, or it is refused; it takes no room
unfoldable pub told_of_value : Reader → List ℕ → ReaderOutcome
told_of_value R v =
    if has_value R (sha256 v) then told (Ok Known) R
    else (if is_named_by (kept R) v then told (Ok New) (record R { held = R.held ++ v ∷ [] })
    else told (Err (check.Unwanted (sha256 v))) R)

unfoldable pub reader_outcome : Reader → Given → ReaderOutcome
reader_outcome R (given_statement s) = told_above R s (below_of R.here R.journal R.trimmed s)
reader_outcome R (given_proof p) = told_as_node R (given_proof p)
reader_outcome R (given_value v) = told_of_value R v

abbrev pub told_as : Reader → Result Given ℕ → ReaderOutcome
told_as R (Err at) = told (Err (check.IllFormed at)) R
told_as R (Ok x) = reader_outcome R x

-- what becomes of a text that is given as a form: one that goes wrong is refused at its offset
unfoldable pub reader_takes : Reader → Form → List ℕ → ReaderOutcome
reader_takes R form text = told_as R (given_as form text)

-- ---- what it shows

-- what these values show of what a write says: that it is a deletion, or the value of its hash and length, or that this isn't held
abbrev pub seen_among : List (List ℕ) → Wrote → Sighting
seen_among held Gone = gone
seen_among held (Put hash size) = option_map_or held_value (option_and_then (λ v. when (length v == size) v) (value_with hash held)) not_held

-- what a reader shows of an update's write of a key; of an update that doesn't write it, no value
unfoldable pub seen_by_reader : Reader → List ℕ → Update → Sighting
seen_by_reader R key u = option_map_or (seen_among R.held) (wrote_under key u.writes) not_held

-- the latest writes of a key among all that was accepted, each with what the reader shows of it
abbrev pub shown_by_reader : Reader → List ℕ → List Shown
shown_by_reader R key = map (λ u. record { update = u; seen = seen_by_reader R key u }) (latest_in key (accepted R.journal))
