-- The text of a trace.
use Rattle.std.specs.Prelude.{ℕ, List, [], length, Bool, true, Option, ◌==◌}
use Rattle.std.specs.Int.{w8, w16, w32}
use Rattle.depot_base.specs.declared.limits.TheConstants.{MOST_KEY, MOST_LEAVES, MOST_RECORDS, MOST_VALUE}
use Rattle.depot_base.specs.Format.{Format, number, constant, bytes_of, field, made_of_fields, choose, list_of}
use Rattle.depot_base.specs.Parts.{node_number, digest}
use Rattle.depot_traces.specs.declared.trace.TheConstants.{MOST_READS}
use Rattle.depot_traces.specs.declared.trace.Answered.{Answered}
use Rattle.depot_traces.specs.declared.trace.ReadTrace.{ReadTrace}
use Rattle.depot_traces.specs.declared.trace.Shown.{Shown}
use Rattle.depot_traces.specs.declared.trace.Shown.TheVariants.{NotHeld, Held, Gone}
use Rattle.depot_traces.specs.declared.trace.Trace.{Trace}

-- any item may follow any
abbrev pub any_follows : {E : Type 0} → Option E → E → Bool
any_follows before e = true

-- ---- records

-- the text of a record, whatever it is, after its length
unfoldable pub record_piece : Format (List ℕ)
record_piece =
    field (number w32 0 4294967295) (λ text. length text) λ size.
    field (bytes_of size) (λ text. text) λ text.
    made_of_fields text

-- ---- reads

-- the mark of what is shown
abbrev pub shown_mark : Shown → ℕ
shown_mark NotHeld = 0
shown_mark (Held value) = 1
shown_mark Gone = 2

-- the value that is shown; where none is, no bytes
abbrev pub shown_bytes : Shown → List ℕ
shown_bytes NotHeld = []
shown_bytes (Held value) = value
shown_bytes Gone = []

-- what follows the mark of a write of this id: after 1 the value's length and the value, and nothing after 0 and 2
unfoldable pub behind_mark : List ℕ → ℕ → Format Answered
behind_mark id mark =
    choose (mark == 0) (made_of_fields (record { id = id; shown = NotHeld }))
    (choose (mark == 2) (made_of_fields (record { id = id; shown = Gone }))
    (field (number w32 0 MOST_VALUE) (λ a. length (shown_bytes a.shown)) λ size.
    field (bytes_of size) (λ a. shown_bytes a.shown) λ value.
    made_of_fields (record { id = id; shown = Held value })))

-- a write that a read listed: its id, a mark, and what the mark calls for
unfoldable pub answered_text : Format Answered
answered_text =
    field digest (λ a. a.id) λ id.
    field (number w8 0 2) (λ a. shown_mark a.shown) λ mark.
    behind_mark id mark

-- a read: the number of records then, the key after its length, and the writes that it listed after their number
unfoldable pub read_text : Format ReadTrace
read_text =
    field (number w32 0 4294967295) (λ r. r.length) λ records.
    field (number w8 1 MOST_KEY) (λ r. length r.key) λ key_length.
    field (bytes_of key_length) (λ r. r.key) λ key.
    field (number w16 0 MOST_LEAVES) (λ r. length r.answer) λ count.
    field (list_of count answered_text any_follows) (λ r. r.answer) λ answer.
    made_of_fields (record { length = records; key = key; answer = answer })

-- ---- traces

-- version 1, kind 5, the node, and then its record texts and its reads, each after their number
unfoldable pub trace_text : Format Trace
trace_text =
    field (constant 1) (λ t. 1) λ version.
    field (constant 5) (λ t. 5) λ kind_byte.
    field node_number (λ t. t.node) λ node.
    field (number w32 1 MOST_RECORDS) (λ t. length t.texts) λ record_count.
    field (list_of record_count record_piece any_follows) (λ t. t.texts) λ texts.
    field (number w32 0 MOST_READS) (λ t. length t.reads) λ read_count.
    field (list_of read_count read_text any_follows) (λ t. t.reads) λ reads.
    made_of_fields (record { node = node; texts = texts; reads = reads })

-- which traces have a text, and that text
abbrev pub IsTrace : Trace → Type 0
IsTrace t = trace_text.fits t

-- the one text of a trace
abbrev pub text_of_trace : Trace → List ℕ
text_of_trace t = trace_text.text t
