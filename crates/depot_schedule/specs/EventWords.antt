-- The words that only lines of events have. Most depend on what precedes them: the schedule so far says which nodes and
-- labels there are.
use Rattle.std.specs.Prelude.{ℕ, ◌^◌, Bool, true, false, not, ◌&&◌, List, [], ◌∷◌, ◌++◌, length, Option, Some, None, is_some, Result, Ok, Err, nat_lt, nat_le, ◌==◌, codes, if◌then◌else◌}
use Rattle.std.specs.List.{list_any}
use Rattle.std.specs.Fmt.{decimal}
use Rattle.std.specs.Str.{bytes_eq}
use Rattle.depot_base.specs.declared.limits.TheConstants.{MOST_PIECE, MOST_STOP_CALL}
use Rattle.hex.specs.Hex.{encode_lower}
use Rattle.depot_model.specs.lists.Lists.{when}
use Rattle.depot_lines.specs.declared.line_fault.LineFault.{LineFault}
use Rattle.depot_lines.specs.declared.line_fault.LineFault.TheVariants as is
use Rattle.depot_schedule.specs.declared.member.Member.{Member}
use Rattle.depot_schedule.specs.declared.event.Event.{Event}
use Rattle.depot_schedule.specs.declared.event.Event.TheVariants as event
use Rattle.depot_schedule.specs.declared.event.Ref.{Ref}
use Rattle.depot_schedule.specs.declared.event.Ref.TheVariants as ref
use Rattle.depot_schedule.specs.declared.event.HistoryWord.{HistoryWord}
use Rattle.depot_schedule.specs.declared.event.HistoryWord.TheVariants.{Right, Given}
use Rattle.depot_schedule.specs.declared.schedule.Schedule.{Schedule}
use Rattle.depot_schedule.specs.declared.verb.Made.{Made}
use Rattle.depot_schedule.specs.declared.verb.Made.TheVariants as made
use Rattle.depot_schedule.specs.declared.verb.Wanted.{Wanted}
use Rattle.depot_schedule.specs.declared.verb.Wanted.TheVariants as wanted
use Rattle.depot_base.specs.Format.{◌>>=◌}
use Rattle.depot_lines.specs.Language.{split, Word, such_that, parts_of}
use Rattle.depot_lines.specs.Vocabulary.{number_or, number_between, id, any_u32, digest_word, label}

-- ---- what the schedule so far says of nodes and labels

-- whether a node is declared
abbrev pub is_declared : List Member → ℕ → Bool
is_declared members node = list_any (λ m. m.node == node) members

-- whether a node is declared as correct
abbrev pub is_correct : List Member → ℕ → Bool
is_correct members node = list_any (λ m. m.node == node && m.correct) members

-- whether a node is declared as faulty
abbrev pub is_faulty : List Member → ℕ → Bool
is_faulty members node = list_any (λ m. m.node == node && not m.correct) members

-- the label that an event makes, and what it makes it name
abbrev pub label_made : Event → Option (List ℕ × Made)
label_made (event.Put _ _ _) = None
label_made (event.Puts _ _) = None
label_made (event.Get _ _) = None
label_made (event.Hello _ label) = Some (label, made.Bytes)
label_made (event.Bundle _ _ label) = Some (label, made.Bytes)
label_made (event.Give _ _ _) = None
label_made (event.Restart _) = None
label_made (event.Update label _ _ _ _ _ _ _ _) = Some (label, made.Update)
label_made (event.Updates label _ _ _ _ _ _ _) = Some (label, made.Update)
label_made (event.Voucher label _ _ _) = Some (label, made.Voucher)
label_made (event.Proof label _ _ _) = Some (label, made.Bytes)
label_made (event.Hollow label _ _) = Some (label, made.Bytes)
label_made (event.Judge _) = None
label_made (event.Raw label _) = Some (label, made.Plain)
label_made (event.Cut label _ _ _) = Some (label, made.Plain)
label_made (event.Flip label _ _) = Some (label, made.Plain)
label_made (event.Join label _ _) = Some (label, made.Plain)
label_made (event.Stop _ _ _) = None
label_made (event.Receipt _ _) = None
label_made (event.Settled _ _ _) = None
label_made event.Audit = None
label_made (event.Checkpoint _ label) = Some (label, made.Bytes)
label_made (event.Sign _ _) = None
label_made (event.Trim _ _ name) = Some (name, made.Reader)
label_made (event.Tgive _ _) = None
label_made (event.Tget _ _) = None

-- what this label names, if it is that one
abbrev pub if_named : List ℕ → Option (List ℕ × Made) → Option Made
if_named label None = None
if_named label (Some made) = when (bytes_eq label made.0) made.1

-- the first if there is one, else the second
abbrev pub first_or : {X : Type 0} → Option X → Option X → Option X
first_or None y = y
first_or (Some x) y = Some x

-- what some events made a label name, the last of them first
unfoldable pub named_by : List Event → List ℕ → Option Made
named_by [] label = None
named_by (e ∷ es) label = first_or (named_by es label) (if_named label (label_made e))

-- whether what a label names is of the needed kind
abbrev pub is_asked_for : Wanted → Made → Bool
is_asked_for wanted.Any made.Update = true
is_asked_for wanted.Any made.Voucher = true
is_asked_for wanted.Any made.Plain = true
is_asked_for wanted.Any made.Bytes = true
is_asked_for wanted.Any made.Reader = false
is_asked_for wanted.Update made.Update = true
is_asked_for wanted.Update made.Voucher = false
is_asked_for wanted.Update made.Plain = false
is_asked_for wanted.Update made.Bytes = false
is_asked_for wanted.Update made.Reader = false
is_asked_for wanted.Signed made.Update = true
is_asked_for wanted.Signed made.Voucher = true
is_asked_for wanted.Signed made.Plain = false
is_asked_for wanted.Signed made.Bytes = false
is_asked_for wanted.Signed made.Reader = false
is_asked_for wanted.Voucher made.Update = false
is_asked_for wanted.Voucher made.Voucher = true
is_asked_for wanted.Voucher made.Plain = false
is_asked_for wanted.Voucher made.Bytes = false
is_asked_for wanted.Voucher made.Reader = false
is_asked_for wanted.Plain made.Update = false
is_asked_for wanted.Plain made.Voucher = false
is_asked_for wanted.Plain made.Plain = true
is_asked_for wanted.Plain made.Bytes = false
is_asked_for wanted.Plain made.Reader = false
is_asked_for wanted.Vouched made.Update = true
is_asked_for wanted.Vouched made.Voucher = false
is_asked_for wanted.Vouched made.Plain = true
is_asked_for wanted.Vouched made.Bytes = false
is_asked_for wanted.Vouched made.Reader = false
is_asked_for wanted.Reader made.Update = false
is_asked_for wanted.Reader made.Voucher = false
is_asked_for wanted.Reader made.Plain = false
is_asked_for wanted.Reader made.Bytes = false
is_asked_for wanted.Reader made.Reader = true

-- whether a label that names this is of the needed kind; one that wasn't made never is
abbrev pub meets : Wanted → Option Made → Bool
meets asked None = false
meets asked (Some m) = is_asked_for asked m

-- ---- numbers

-- the id of a correct node
abbrev pub correct : Word Schedule ℕ
correct = such_that id (λ s node. is_correct s.members node) is.Node

-- the id of a faulty node
abbrev pub faulty : Word Schedule ℕ
faulty = such_that id (λ s node. is_faulty s.members node) is.Node

-- the number of a statement of a node: it is below the number of its leaves
abbrev pub seq : Word Schedule ℕ
seq = such_that any_u32 (λ s n. nat_lt n (2 ^ s.height)) is.Number

-- the most bytes of a piece
abbrev pub piece_size : {C : Type 0} → Word C ℕ
piece_size = number_between 1 MOST_PIECE

-- the call on a disk in which a stop comes
abbrev pub stop_call : {C : Type 0} → Word C ℕ
stop_call = number_between 1 MOST_STOP_CALL

-- the number of an image of a disk
abbrev pub image : {C : Type 0} → Word C ℕ
image = number_or is.Label 0 2

-- ---- labels

-- a label that no event before made
abbrev pub new_label : Word Schedule (List ℕ)
new_label = such_that label (λ s l. not (is_some (named_by s.events l))) is.Label

-- a label of the needed kind that an earlier event made
abbrev pub label_for : Wanted → Word Schedule (List ℕ)
label_for asked = such_that label (λ s l. meets asked (named_by s.events l)) is.Label

-- a label of bytes that an event before made
abbrev pub made_label : Word Schedule (List ℕ)
made_label = label_for wanted.Any

-- the label of an update or of a voucher
abbrev pub signed_label : Word Schedule (List ℕ)
signed_label = label_for wanted.Signed

-- the label of a voucher
abbrev pub voucher_label : Word Schedule (List ℕ)
voucher_label = label_for wanted.Voucher

-- the label of plain bytes
abbrev pub plain_label : Word Schedule (List ℕ)
plain_label = label_for wanted.Plain

-- the name of a reader that an event before made
abbrev pub reader_label : Word Schedule (List ℕ)
reader_label = label_for wanted.Reader

-- ---- histories

abbrev pub FitsHistory : HistoryWord → Type 0
FitsHistory Right = Unit {0}
FitsHistory (Given hash) = (digest_word {C = Unit {0}}).fits tt hash

abbrev pub text_of_history : HistoryWord → List ℕ
text_of_history Right = codes "right"
text_of_history (Given hash) = encode_lower hash

-- `right`, or a digest
abbrev pub history : {C : Type 0} → Word C HistoryWord
history = record {
  fits = λ c h. FitsHistory h;
  text = text_of_history;
  read = λ c word. if bytes_eq word (codes "right") then Ok Right else (digest_word.read c word >>= λ hash. Ok (Given hash));
}

-- ---- references

-- a label is of the needed kind, an own update one of a correct node
abbrev pub FitsRef : Wanted → Schedule → Ref → Type 0
FitsRef asked s (ref.Label l) = (label_for asked).fits s l
FitsRef asked s (ref.Own node n) = correct.fits s node × seq.fits s n

-- a label as it is, and an own update as `NODE.SEQ`, with a dot (46)
abbrev pub text_of_ref : Ref → List ℕ
text_of_ref (ref.Label l) = l
text_of_ref (ref.Own node n) = decimal node ++ (46 ∷ decimal n)

-- the reference that a word without a dot is
abbrev pub label_ref : Wanted → Schedule → List ℕ → Result Ref LineFault
label_ref asked s word = (label_for asked).read s word >>= λ l. Ok (ref.Label l)

-- the reference that the words round a dot are: both numbers are checked before the node is
abbrev pub own_ref : Schedule → List ℕ → List ℕ → Result Ref LineFault
own_ref s node_word seq_word = id.read s node_word >>= λ node. seq.read s seq_word >>= λ n. if is_correct s.members node then Ok (ref.Own node n) else Err is.Node

-- the reference that the parts between dots are
abbrev pub ref_of : Wanted → Schedule → List (List ℕ) → Result Ref LineFault
ref_of asked s [] = Err is.Label
ref_of asked s (l ∷ []) = label_ref asked s l
ref_of asked s (node ∷ n ∷ []) = own_ref s node n
ref_of asked s (node ∷ n ∷ more ∷ rest) = Err is.Number

-- a label of the needed kind, or an own update of a correct node
abbrev pub reference_for : Wanted → Word Schedule Ref
reference_for asked = record {
  fits = FitsRef asked;
  text = text_of_ref;
  read = λ s word. ref_of asked s (split 46 word);
}

-- one reference or more, and at most so many, as written
abbrev pub references_for : Wanted → ℕ → Word Schedule (List Ref)
references_for asked most = such_that (parts_of (reference_for asked)) (λ s refs. nat_le (length refs) most) is.Label

-- what names an update
abbrev pub reference : Word Schedule Ref
reference = reference_for wanted.Update

-- so of lists of references
abbrev pub references : ℕ → Word Schedule (List Ref)
references most = references_for wanted.Update most

-- what names an update or plain bytes, as a voucher's references do
abbrev pub vouched_references : ℕ → Word Schedule (List Ref)
vouched_references most = references_for wanted.Vouched most
