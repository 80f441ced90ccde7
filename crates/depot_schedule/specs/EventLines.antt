-- The lines of events: one line of this table a kind of event.
use Rattle.std.specs.Prelude.{ℕ, List, [], Option, None, codes, find}
use Rattle.std.specs.Str.{bytes_eq}
use Rattle.depot_base.specs.declared.limits.TheConstants.{MOST_ENTRIES, MOST_IDS, MOST_WRITES}
use Rattle.depot_base.specs.Writes.{one_change}
use Rattle.depot_base.specs.declared.write.Change.{Change}
use Rattle.depot_base.specs.declared.proof.Kind.{Kind}
use Rattle.depot_base.specs.declared.proof.Kind.TheVariants.{SameNumber}
use Rattle.depot_schedule.specs.declared.event.Event.{Event}
use Rattle.depot_schedule.specs.declared.event.Event.TheVariants.{Put, Puts, Get, Hello, Bundle, Give, Restart, Update, Updates, Voucher, Proof, Hollow, Judge, Raw, Cut, Flip, Join, Stop, Receipt, Settled, Audit, Checkpoint, Sign, Trim, Tgive, Tget}
use Rattle.depot_schedule.specs.declared.event.Ref.{Ref}
use Rattle.depot_schedule.specs.declared.event.Ref.TheVariants.{Own}
use Rattle.depot_schedule.specs.declared.event.HistoryWord.{HistoryWord}
use Rattle.depot_schedule.specs.declared.event.HistoryWord.TheVariants.{Right}
use Rattle.depot_lines.specs.declared.changes.Keys.TheVariants as keys
use Rattle.depot_schedule.specs.declared.schedule.Schedule.{Schedule}
use Rattle.depot_schedule.specs.declared.verb.Verb.{Verb}
use Rattle.depot_schedule.specs.declared.verb.Verb.TheVariants as verb
use Rattle.depot_schedule.specs.declared.verb.TheConstants.{VERBS}
use Rattle.depot_lines.specs.Language.{Words, word, line_made, optional, counted_words, or_none, or_empty}
use Rattle.depot_schedule.specs.EventWords.{correct, faulty, seq, piece_size, stop_call, image, new_label, made_label, signed_label, voucher_label, plain_label, reader_label, history, reference, references, vouched_references}
use Rattle.depot_lines.specs.Vocabulary.{clock, any_u32, node_count, key, put_key, value, raw_bytes, kind, changes}

-- ---- the parts of events; where an event has no such part, any value serves

abbrev pub event_node : Event → ℕ
event_node (Put node _ _) = node
event_node (Puts node _) = node
event_node (Get node _) = node
event_node (Hello node _) = node
event_node (Bundle node _ _) = node
event_node (Give node _ _) = node
event_node (Restart node) = node
event_node (Update _ writer _ _ _ _ _ _ _) = writer
event_node (Updates _ writer _ _ _ _ _ _) = writer
event_node (Voucher _ writer _ _) = writer
event_node (Stop node _ _) = node
event_node (Receipt node _) = node
event_node (Settled node _ _) = node
event_node (Checkpoint node _) = node
event_node (Sign node _) = node
event_node (Trim node _ _) = node
event_node _ = 0

abbrev pub event_key : Event → List ℕ
event_key (Put _ k _) = k
event_key (Get _ k) = k
event_key (Update _ _ _ _ _ k _ _ _) = k
event_key (Tget _ k) = k
event_key _ = []

abbrev pub event_value : Event → List ℕ
event_value (Put _ _ v) = v
event_value (Update _ _ _ _ _ _ v _ _) = v
event_value _ = []

-- what an event writes: one change for one key and value
abbrev pub event_changes : Event → List Change
event_changes (Put _ k v) = one_change k v
event_changes (Puts _ cs) = cs
event_changes (Update _ _ _ _ _ k v _ _) = one_change k v
event_changes (Updates _ _ _ _ _ cs _ _) = cs
event_changes _ = []

abbrev pub event_label : Event → List ℕ
event_label (Hello _ label) = label
event_label (Bundle _ _ label) = label
event_label (Give _ label _) = label
event_label (Update label _ _ _ _ _ _ _ _) = label
event_label (Updates label _ _ _ _ _ _ _) = label
event_label (Voucher label _ _ _) = label
event_label (Proof label _ _ _) = label
event_label (Hollow label _ _) = label
event_label (Judge label) = label
event_label (Raw label _) = label
event_label (Cut label _ _ _) = label
event_label (Flip label _ _) = label
event_label (Join label _ _) = label
event_label (Checkpoint _ label) = label
event_label (Sign _ label) = label
event_label (Trim _ label _) = label
event_label (Tgive _ label) = label
event_label _ = []

-- the label whose bytes an event starts from
abbrev pub event_source : Event → List ℕ
event_source (Bundle _ hello _) = hello
event_source (Proof _ _ first _) = first
event_source (Hollow _ voucher _) = voucher
event_source (Cut _ source _ _) = source
event_source (Flip _ source _) = source
event_source (Join _ first _) = first
event_source _ = []

-- the second of two such labels
abbrev pub event_second : Event → List ℕ
event_second (Proof _ _ _ second) = second
event_second (Hollow _ _ text) = text
event_second (Join _ _ second) = second
event_second _ = []

-- the name of a reader
abbrev pub event_reader : Event → List ℕ
event_reader (Trim _ _ name) = name
event_reader (Tgive name _) = name
event_reader (Tget name _) = name
event_reader _ = []

abbrev pub event_size : Event → Option ℕ
event_size (Give _ _ size) = size
event_size _ = None

abbrev pub event_seq : Event → ℕ
event_seq (Update _ _ n _ _ _ _ _ _) = n
event_seq (Updates _ _ n _ _ _ _ _) = n
event_seq (Voucher _ _ n _) = n
event_seq _ = 0

abbrev pub event_clock : Event → ℕ
event_clock (Update _ _ _ time _ _ _ _ _) = time
event_clock (Updates _ _ _ time _ _ _ _) = time
event_clock _ = 0

abbrev pub event_prev : Event → Option Ref
event_prev (Update _ _ _ _ prev _ _ _ _) = prev
event_prev (Updates _ _ _ _ prev _ _ _) = prev
event_prev _ = None

abbrev pub event_refs : Event → List Ref
event_refs (Update _ _ _ _ _ _ _ deps _) = deps
event_refs (Updates _ _ _ _ _ _ deps _) = deps
event_refs (Voucher _ _ _ refs) = refs
event_refs (Receipt _ refs) = refs
event_refs _ = []

abbrev pub event_history : Event → HistoryWord
event_history (Update _ _ _ _ _ _ _ _ h) = h
event_history (Updates _ _ _ _ _ _ _ h) = h
event_history _ = Right

abbrev pub event_kind : Event → Kind
event_kind (Proof _ k _ _) = k
event_kind _ = SameNumber

abbrev pub event_bytes : Event → List ℕ
event_bytes (Raw _ bytes) = bytes
event_bytes _ = []

-- a place among the bytes of a label
abbrev pub event_place : Event → ℕ
event_place (Cut _ _ start _) = start
event_place (Flip _ _ place) = place
event_place _ = 0

abbrev pub event_count : Event → ℕ
event_count (Cut _ _ _ count) = count
event_count _ = 0

abbrev pub event_call : Event → ℕ
event_call (Stop _ call _) = call
event_call _ = 0

abbrev pub event_image : Event → ℕ
event_image (Stop _ _ left) = left
event_image _ = 0

-- the update that an event asks about
abbrev pub event_reference : Event → Ref
event_reference (Settled _ update _) = update
event_reference _ = Own 0 0

-- the number of nodes that an event asks for
abbrev pub event_nodes : Event → ℕ
event_nodes (Settled _ _ k) = k
event_nodes _ = 0

-- ---- the table, by the words after the event's name

abbrev EventForm : Type 1
EventForm = Words Schedule Event

-- `put N KEY VALUE`
unfoldable pub put_line : EventForm
put_line = counted_words 3 3 (word correct event_node λ node. word put_key event_key λ k. word value event_value λ v. line_made (Put node k v))

-- `puts N WRITES`
unfoldable pub puts_line : EventForm
puts_line = counted_words 2 2 (word correct event_node λ node. word (changes keys.Put) event_changes λ cs. line_made (Puts node cs))

-- `get N KEY`
unfoldable pub get_line : EventForm
get_line = counted_words 2 2 (word correct event_node λ node. word key event_key λ k. line_made (Get node k))

-- `hello N LABEL`
unfoldable pub hello_line : EventForm
hello_line = counted_words 2 2 (word correct event_node λ node. word new_label event_label λ label. line_made (Hello node label))

-- `bundle N HELLO LABEL`
unfoldable pub bundle_line : EventForm
bundle_line = counted_words 3 3 (word correct event_node λ node. word made_label event_source λ hello. word new_label event_label λ label. line_made (Bundle node hello label))

-- `give N LABEL` or `give N LABEL SIZE`
unfoldable pub give_line : EventForm
give_line = counted_words 2 3 (word correct event_node λ node. word made_label event_label λ label. optional piece_size event_size λ size. Give node label size)

-- `restart N`
unfoldable pub restart_line : EventForm
restart_line = counted_words 1 1 (word correct event_node λ node. line_made (Restart node))

-- `update LABEL W SEQ CLOCK PREV KEY VALUE DEPS HISTORY`
unfoldable pub update_line : EventForm
update_line = counted_words 9 9 (
    word new_label event_label λ label. word faulty event_node λ writer. word seq event_seq λ n. word clock event_clock λ time. word (or_none reference) event_prev λ prev.
    word key event_key λ k. word value event_value λ v. word (or_empty (references MOST_ENTRIES)) event_refs λ deps. word history event_history λ hash.
    line_made (Update label writer n time prev k v deps hash))

-- `updates LABEL W SEQ CLOCK PREV WRITES DEPS HISTORY`
unfoldable pub updates_line : EventForm
updates_line = counted_words 8 8 (
    word new_label event_label λ label. word faulty event_node λ writer. word seq event_seq λ n. word clock event_clock λ time. word (or_none reference) event_prev λ prev.
    word (changes keys.Any) event_changes λ cs. word (or_empty (references MOST_ENTRIES)) event_refs λ deps. word history event_history λ hash.
    line_made (Updates label writer n time prev cs deps hash))

-- `voucher LABEL W SEQ REFS`
unfoldable pub voucher_line : EventForm
voucher_line = counted_words 4 4 (word new_label event_label λ label. word faulty event_node λ writer. word seq event_seq λ n. word (vouched_references MOST_IDS) event_refs λ refs. line_made (Voucher label writer n refs))

-- `proof LABEL KIND A B`
unfoldable pub proof_line : EventForm
proof_line = counted_words 4 4 (word new_label event_label λ label. word kind event_kind λ k. word signed_label event_source λ first. word signed_label event_second λ second. line_made (Proof label k first second))

-- `hollow LABEL V T`
unfoldable pub hollow_line : EventForm
hollow_line = counted_words 3 3 (word new_label event_label λ label. word voucher_label event_source λ voucher. word plain_label event_second λ text. line_made (Hollow label voucher text))

-- `judge LABEL`
unfoldable pub judge_line : EventForm
judge_line = counted_words 1 1 (word made_label event_label λ label. line_made (Judge label))

-- `raw LABEL HEX`
unfoldable pub raw_line : EventForm
raw_line = counted_words 2 2 (word new_label event_label λ label. word raw_bytes event_bytes λ bytes. line_made (Raw label bytes))

-- `cut LABEL FROM START COUNT`
unfoldable pub cut_line : EventForm
cut_line = counted_words 4 4 (word new_label event_label λ label. word made_label event_source λ source. word any_u32 event_place λ start. word any_u32 event_count λ count. line_made (Cut label source start count))

-- `flip LABEL FROM PLACE`
unfoldable pub flip_line : EventForm
flip_line = counted_words 3 3 (word new_label event_label λ label. word made_label event_source λ source. word any_u32 event_place λ place. line_made (Flip label source place))

-- `join LABEL A B`
unfoldable pub join_line : EventForm
join_line = counted_words 3 3 (word new_label event_label λ label. word made_label event_source λ first. word made_label event_second λ second. line_made (Join label first second))

-- `stop N K IMAGE`
unfoldable pub stop_line : EventForm
stop_line = counted_words 3 3 (word correct event_node λ node. word stop_call event_call λ call. word image event_image λ left. line_made (Stop node call left))

-- `receipt N REFS`
unfoldable pub receipt_line : EventForm
receipt_line = counted_words 2 2 (word correct event_node λ node. word (references MOST_WRITES) event_refs λ refs. line_made (Receipt node refs))

-- `settled N REF K`
unfoldable pub settled_line : EventForm
settled_line = counted_words 3 3 (word correct event_node λ node. word reference event_reference λ update. word node_count event_nodes λ k. line_made (Settled node update k))

-- `audit`
unfoldable pub audit_line : EventForm
audit_line = counted_words 0 0 (line_made Audit)

-- `checkpoint N LABEL`
unfoldable pub checkpoint_line : EventForm
checkpoint_line = counted_words 2 2 (word correct event_node λ node. word new_label event_label λ label. line_made (Checkpoint node label))

-- `sign N LABEL`
unfoldable pub sign_line : EventForm
sign_line = counted_words 2 2 (word correct event_node λ node. word made_label event_label λ label. line_made (Sign node label))

-- `trim N LABEL NAME`
unfoldable pub trim_line : EventForm
trim_line = counted_words 3 3 (word correct event_node λ node. word made_label event_label λ label. word new_label event_reader λ name. line_made (Trim node label name))

-- `tgive NAME LABEL`
unfoldable pub tgive_line : EventForm
tgive_line = counted_words 2 2 (word reader_label event_reader λ name. word made_label event_label λ label. line_made (Tgive name label))

-- `tget NAME KEY`
unfoldable pub tget_line : EventForm
tget_line = counted_words 2 2 (word reader_label event_reader λ name. word key event_key λ k. line_made (Tget name k))

-- ---- all kinds of events

abbrev pub verb_of : Event → Verb
verb_of (Put _ _ _) = verb.Put
verb_of (Puts _ _) = verb.Puts
verb_of (Get _ _) = verb.Get
verb_of (Hello _ _) = verb.Hello
verb_of (Bundle _ _ _) = verb.Bundle
verb_of (Give _ _ _) = verb.Give
verb_of (Restart _) = verb.Restart
verb_of (Update _ _ _ _ _ _ _ _ _) = verb.Update
verb_of (Updates _ _ _ _ _ _ _ _) = verb.Updates
verb_of (Voucher _ _ _ _) = verb.Voucher
verb_of (Proof _ _ _ _) = verb.Proof
verb_of (Hollow _ _ _) = verb.Hollow
verb_of (Judge _) = verb.Judge
verb_of (Raw _ _) = verb.Raw
verb_of (Cut _ _ _ _) = verb.Cut
verb_of (Flip _ _ _) = verb.Flip
verb_of (Join _ _ _) = verb.Join
verb_of (Stop _ _ _) = verb.Stop
verb_of (Receipt _ _) = verb.Receipt
verb_of (Settled _ _ _) = verb.Settled
verb_of Audit = verb.Audit
verb_of (Checkpoint _ _) = verb.Checkpoint
verb_of (Sign _ _) = verb.Sign
verb_of (Trim _ _ _) = verb.Trim
verb_of (Tgive _ _) = verb.Tgive
verb_of (Tget _ _) = verb.Tget

-- the first word of the line of an event, and the words after it
pub record Row : Type 1 where
  pub name : List ℕ
  pub line : EventForm

abbrev row : List ℕ → EventForm → Row
row name line = record { name = name; line = line }

abbrev pub table_row : Verb → Row
table_row verb.Put = row (codes "put") put_line
table_row verb.Puts = row (codes "puts") puts_line
table_row verb.Get = row (codes "get") get_line
table_row verb.Hello = row (codes "hello") hello_line
table_row verb.Bundle = row (codes "bundle") bundle_line
table_row verb.Give = row (codes "give") give_line
table_row verb.Restart = row (codes "restart") restart_line
table_row verb.Update = row (codes "update") update_line
table_row verb.Updates = row (codes "updates") updates_line
table_row verb.Voucher = row (codes "voucher") voucher_line
table_row verb.Proof = row (codes "proof") proof_line
table_row verb.Hollow = row (codes "hollow") hollow_line
table_row verb.Judge = row (codes "judge") judge_line
table_row verb.Raw = row (codes "raw") raw_line
table_row verb.Cut = row (codes "cut") cut_line
table_row verb.Flip = row (codes "flip") flip_line
table_row verb.Join = row (codes "join") join_line
table_row verb.Stop = row (codes "stop") stop_line
table_row verb.Receipt = row (codes "receipt") receipt_line
table_row verb.Settled = row (codes "settled") settled_line
table_row verb.Audit = row (codes "audit") audit_line
table_row verb.Checkpoint = row (codes "checkpoint") checkpoint_line
table_row verb.Sign = row (codes "sign") sign_line
table_row verb.Trim = row (codes "trim") trim_line
table_row verb.Tgive = row (codes "tgive") tgive_line
table_row verb.Tget = row (codes "tget") tget_line

abbrev pub verb_name : Verb → List ℕ
verb_name v = (table_row v).name

abbrev pub line_of : Verb → EventForm
line_of v = (table_row v).line

-- the words after the name of an event
abbrev pub behind_event_name : Event → List (List ℕ)
behind_event_name e = (line_of (verb_of e)).text e

-- the kind of event of this name
unfoldable pub verb_named : List ℕ → Option Verb
verb_named word = find (λ v. bytes_eq word (verb_name v)) VERBS
