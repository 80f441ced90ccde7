-- What a schedule guarantees of its events: their keys and values are in their bounds, and all that they bring is made
-- of bytes.
use Rattle.std.proofs.Common.{ℕ, ◌<◌, ◌≤◌, List, [], ◌∷◌, length, Option, Some, None, arith}
use Rattle.std.specs.List.{AllByRecursion}
use Rattle.std.specs.Option.{option_to_list}
use Rattle.std.specs.Prelude.{IfSome}
use Rattle.std.proofs.lemmas.Bool.{leb-true}
use Rattle.depot_base.specs.Writes.{one_change}
use Rattle.depot_base.specs.declared.write.Change.{Change}
use Rattle.depot_model.specs.updates.Changes.{AreChanges}
use Rattle.depot_schedule.specs.declared.event.Event.{Event}
use Rattle.depot_schedule.specs.declared.event.Event.TheVariants as event
use Rattle.depot_lines.specs.declared.changes.Keys.{Keys}
use Rattle.depot_lines.specs.declared.changes.Keys.TheVariants as keys
use Rattle.depot_schedule.specs.declared.event.HistoryWord.{HistoryWord}
use Rattle.depot_schedule.specs.declared.event.HistoryWord.TheVariants as history_word
use Rattle.depot_schedule.specs.declared.event.Ref.{Ref}
use Rattle.depot_schedule.specs.declared.schedule.Schedule.{Schedule}
use Rattle.depot_schedule.specs.EventLines.{put_line, puts_line, give_line, update_line, updates_line, raw_line, receipt_line}
use Rattle.depot_lines.specs.Language.{FitAll, FitsOption, nothing}
use Rattle.depot_schedule.specs.Schedules.{FitsEvent}
use Rattle.depot_lines.specs.Vocabulary.{key_by, value, raw_bytes, changes, FitsChange}
use Rattle.depot_schedule.specs.EventWords.{FitsHistory}
use Rattle.depot_lines.specs.PutKeys.{WriteNoReceipts}
use Rattle.depot_lines.proofs.ChangeWords.{changes_are, one_is, put_no_receipt, puts_no_receipts}
use Rattle.depot_world.proofs.of_bytes.ByteOwn.{IsByteChange}
use Rattle.depot_world.proofs.of_bytes.OnlyBytes.{OnlyBytes, from_places}

-- changes that a node may be asked for, of bytes
pub record AreByteChanges (cs : List Change) : Type 0 where
  pub are : AreChanges cs
  pub bytes : AllByRecursion IsByteChange cs

-- a history hash that is given is bytes
abbrev pub IsByteHistory : HistoryWord → Type 0
IsByteHistory history_word.Right = Unit {0}
IsByteHistory (history_word.Given h) = OnlyBytes h

-- what an event brings is bytes; what a put brings is of no receipt's key, a piece is no empty one, and receipts are for 1 to 16 references
abbrev pub BringsBytes : Event → Type 0
BringsBytes (event.Put node k v) = AreByteChanges (one_change k v) × WriteNoReceipts (one_change k v)
BringsBytes (event.Puts node cs) = AreByteChanges cs × WriteNoReceipts cs
BringsBytes (event.Give node label size) = IfSome size (λ n. 1 ≤ n)
BringsBytes (event.Receipt node refs) = (1 ≤ length refs) × (length refs ≤ 16)
BringsBytes (event.Update label writer seq clock prev k v deps hash) = AreByteChanges (one_change k v) × IsByteHistory hash
BringsBytes (event.Updates label writer seq clock prev cs deps hash) = AreByteChanges cs × IsByteHistory hash
BringsBytes (event.Raw label bytes) = OnlyBytes bytes
BringsBytes e = Unit {0}

-- what words of a key, of a value and of changes bring
key_bytes : {C : Type 0} (c : C) (by : Keys) (k : List ℕ) → (key_by {C = C} by).fits c k → OnlyBytes k
key_bytes c keys.Any k fits = from_places k fits.1
key_bytes c keys.Put k fits = from_places k fits.0.1

value_bytes : {C : Type 0} (c : C) (v : List ℕ) → (value {C = C}).fits c v → OnlyBytes v
value_bytes c [] fits = tt
value_bytes c (b ∷ v) fits = from_places (b ∷ v) fits.1

one_brings : (s : Schedule) (by : Keys) (k v : List ℕ) → (key_by by).fits s k → value.fits s v → AreByteChanges (one_change k v)
one_brings s by k v of_key of_value = record { are = one_is s by k v of_key of_value; bytes = ((key_bytes s by k of_key, (value_bytes s v of_value, tt)), tt) }

values_bring : (o : Option (List ℕ)) → FitsOption ((value {C = Unit {0}}).fits nothing) o → AllByRecursion OnlyBytes (option_to_list o)
values_bring None fits = tt
values_bring (Some v) fits = (value_bytes nothing v fits, tt)

each_brings : (by : Keys) (cs : List Change) → FitAll (FitsChange by) cs → AllByRecursion IsByteChange cs
each_brings by [] fits = tt
each_brings by (c ∷ cs) fits = ((key_bytes nothing by c.key fits.0.0, values_bring c.value fits.0.1), each_brings by cs fits.1)

changes_bring : (by : Keys) (s : Schedule) (cs : List Change) → (changes by).fits s cs → AreByteChanges cs
changes_bring by s cs fits = record { are = changes_are s by cs fits; bytes = each_brings by cs fits.0.1 }

raw_is : (s : Schedule) (v : List ℕ) → raw_bytes.fits s v → OnlyBytes v
raw_is s [] fits = tt
raw_is s (b ∷ v) fits = from_places (b ∷ v) fits.1

history_is : (h : HistoryWord) → FitsHistory h → IsByteHistory h
history_is history_word.Right fits = tt
history_is (history_word.Given h) fits = from_places h fits.1

put_is : (s : Schedule) (node : ℕ) (k v : List ℕ) → put_line.fits s (event.Put node k v) → AreByteChanges (one_change k v) × WriteNoReceipts (one_change k v)
unfolding put_line
put_is s node k v fits = (one_brings s keys.Put k v fits.1.0 fits.1.1.0, put_no_receipt s k v fits.1.0)

update_is : (s : Schedule) (label : List ℕ) (writer seq clock : ℕ) (prev : _) (k v : List ℕ) (deps : _) (hash : HistoryWord) → update_line.fits s (event.Update label writer seq clock prev k v deps hash) → AreByteChanges (one_change k v) × IsByteHistory hash
unfolding update_line
update_is s label writer seq clock prev k v deps hash (of_label, (of_writer, (of_seq, (of_clock, (of_prev, (of_key, (of_value, (of_deps, (of_history, same))))))))) = (one_brings s keys.Any k v of_key of_value, history_is hash of_history)

puts_is : (s : Schedule) (node : ℕ) (cs : List Change) → puts_line.fits s (event.Puts node cs) → AreByteChanges cs × WriteNoReceipts cs
unfolding puts_line
puts_is s node cs fits = (changes_bring keys.Put s cs fits.1.0, puts_no_receipts s cs fits.1.0)

updates_is : (s : Schedule) (label : List ℕ) (writer seq clock : ℕ) (prev : _) (cs : List Change) (deps : _) (hash : HistoryWord) → updates_line.fits s (event.Updates label writer seq clock prev cs deps hash) → AreByteChanges cs × IsByteHistory hash
unfolding updates_line
updates_is s label writer seq clock prev cs deps hash (of_label, (of_writer, (of_seq, (of_clock, (of_prev, (of_changes, (of_deps, (of_history, same)))))))) = (changes_bring keys.Any s cs of_changes, history_is hash of_history)

raw_brings : (s : Schedule) (label bytes : List ℕ) → raw_line.fits s (event.Raw label bytes) → OnlyBytes bytes
unfolding raw_line
raw_brings s label bytes fits = raw_is s bytes fits.1.0

give_brings : (s : Schedule) (node : ℕ) (label : List ℕ) (size : Option ℕ) → give_line.fits s (event.Give node label size) → IfSome size (λ n. 1 ≤ n)
unfolding give_line
give_brings s node label None fits = tt
give_brings s node label (Some n) fits = fits.1.1.0.0

receipt_brings : (s : Schedule) (node : ℕ) (refs : List Ref) → receipt_line.fits s (event.Receipt node refs) → (1 ≤ length refs) × (length refs ≤ 16)
unfolding receipt_line
receipt_brings s node refs fits = let some : 0 < length refs = fits.1.0.0.0 in (omega (arith, some), leb-true _ _ fits.1.0.1)

-- each event of a schedule
pub events_bring_bytes : (s : Schedule) (e : Event) → FitsEvent s e → BringsBytes e
events_bring_bytes s (event.Put node k v) fits = put_is s node k v fits
events_bring_bytes s (event.Puts node cs) fits = puts_is s node cs fits
events_bring_bytes s (event.Update label writer seq clock prev k v deps hash) fits = update_is s label writer seq clock prev k v deps hash fits
events_bring_bytes s (event.Updates label writer seq clock prev cs deps hash) fits = updates_is s label writer seq clock prev cs deps hash fits
events_bring_bytes s (event.Raw label bytes) fits = raw_brings s label bytes fits
events_bring_bytes s (event.Get node k) fits = tt
events_bring_bytes s (event.Hello node label) fits = tt
events_bring_bytes s (event.Bundle node hello label) fits = tt
events_bring_bytes s (event.Give node label size) fits = give_brings s node label size fits
events_bring_bytes s (event.Restart node) fits = tt
events_bring_bytes s (event.Voucher label writer seq refs) fits = tt
events_bring_bytes s (event.Proof label kind first second) fits = tt
events_bring_bytes s (event.Hollow label voucher plain) fits = tt
events_bring_bytes s (event.Judge label) fits = tt
events_bring_bytes s (event.Cut label source start count) fits = tt
events_bring_bytes s (event.Flip label source place) fits = tt
events_bring_bytes s (event.Join label first second) fits = tt
events_bring_bytes s (event.Stop node call image) fits = tt
events_bring_bytes s (event.Receipt node refs) fits = receipt_brings s node refs fits
events_bring_bytes s (event.Settled node reference k) fits = tt
events_bring_bytes s event.Audit fits = tt
events_bring_bytes s (event.Checkpoint node label) fits = tt
events_bring_bytes s (event.Sign node label) fits = tt
events_bring_bytes s (event.Trim node label name) fits = tt
events_bring_bytes s (event.Tgive name label) fits = tt
events_bring_bytes s (event.Tget name key) fits = tt
