-- The format of traces is lawful: its texts are read back, none begins another, and each fault is the first.
use Rattle.std.proofs.Common.{◌≡◌, ℕ, ◌+◌, ◌*◌, ◌≤◌, Bool, true, false, cond, eqb, List, [], ◌∷◌, Option, length, ap, ◌∙◌, arith}
use Rattle.std.proofs.lemmas.Bool.Decides.{nat_tests}
use Rattle.std.specs.Int.{w8, w16, w32}
use Rattle.std.specs.List.{AllByRecursion}
use Rattle.depot_base.specs.Format.{Format, Follows, number, bytes_of, field, made_of_fields, choose, list_of}
use Rattle.depot_base.proofs.FormatLaws.{Lawful, weaken}
use Rattle.depot_base.proofs.Numbers.{one_number, number_within}
use Rattle.depot_base.proofs.Combined.{bytes_lawful, bytes_count, made_lawful, field_lawful, choose_lawful}
use Rattle.depot_base.proofs.EntryLists.{list_lawful, list_count}
use Rattle.depot_base.proofs.PartLaws.{u8_lawful, u16_lawful, u32_lawful, constant_lawful, node_lawful, digest_lawful}
use Rattle.depot_traces.specs.TraceTexts.{any_follows, record_piece, shown_mark, shown_bytes, behind_mark, answered_text, read_text, trace_text, IsTrace}
use Rattle.depot_traces.specs.declared.trace.Answered.{Answered}
use Rattle.depot_traces.specs.declared.trace.ReadTrace.{ReadTrace}
use Rattle.depot_traces.specs.declared.trace.Shown.TheVariants.{NotHeld, Held, Gone}
use Rattle.depot_traces.specs.declared.trace.Trace.{Trace}

-- ---- lists

-- each entry of a list that has a text has one
each_fits : {E : Type 0} (entry : Format E) (may_follow : Option E → E → Bool) (front es : List E) → Follows entry may_follow front es → AllByRecursion entry.fits es
each_fits entry may_follow front [] h = tt
each_fits entry may_follow front (e ∷ es) h = (h.0, each_fits entry may_follow _ es h.2)

all_fit : {E : Type 0} (count : ℕ) (entry : Format E) (es : List E) → (list_of count entry any_follows).fits es → AllByRecursion entry.fits es
unfolding list_of
all_fit count entry es h = each_fits entry any_follows [] es h.0

-- ---- records

pub record_piece_lawful : Lawful record_piece 4294967299
unfolding record_piece
record_piece_lawful =
    field_lawful _ _ _ 4 _ (u32_lawful 0 4294967295 (omega arith)) (λ a b f h. bytes_count a b h.0) λ size range.
    field_lawful _ _ _ 4294967295 0 (weaken _ size 4294967295 (let r = number_within w32 0 4294967295 size range in omega arith) (bytes_lawful size)) (λ a b f h. h) λ text _.
    made_lawful _

-- ---- reads

-- after a mark, a write has this id, and the mark is its own
abbrev behind : Bool → Bool → List ℕ → Format Answered
behind none gone id =
    choose none (made_of_fields (record { id = id; shown = NotHeld }))
    (choose gone (made_of_fields (record { id = id; shown = Gone }))
    (field (number w32 0 65536) (λ a. length (shown_bytes a.shown)) λ size.
    field (bytes_of size) (λ a. shown_bytes a.shown) λ value.
    made_of_fields (record { id = id; shown = Held value })))

id_behind : (none gone : Bool) (id : List ℕ) (a : Answered) → (behind none gone id).fits a → a.id ≡ id
id_behind true gone id a h = ap (λ (x : Answered). x.id) h
id_behind false true id a h = ap (λ (x : Answered). x.id) h
id_behind false false id a h = ap (λ (x : Answered). x.id) h.1.1

mark_behind : (none gone : Bool) (id : List ℕ) (a : Answered) → (behind none gone id).fits a → shown_mark a.shown ≡ cond none 0 (cond gone 2 1)
mark_behind true gone id a h = ap (λ (x : Answered). shown_mark x.shown) h
mark_behind false true id a h = ap (λ (x : Answered). shown_mark x.shown) h
mark_behind false false id a h = ap (λ (x : Answered). shown_mark x.shown) h.1.1

none_or_one_or_two : (mark : ℕ) → mark ≤ 2 → cond (eqb mark 0) 0 (cond (eqb mark 2) 2 1) ≡ mark
none_or_one_or_two mark high = grind (arith, nat_tests)

held_lawful : (id : List ℕ) → Lawful {V = Answered} (field (number w32 0 65536) (λ a. length (shown_bytes a.shown)) λ size. field (bytes_of size) (λ a. shown_bytes a.shown) λ value. made_of_fields (record { id = id; shown = Held value })) 65540
held_lawful id =
    field_lawful _ _ _ 4 _ (u32_lawful 0 65536 (omega arith)) (λ size a f h. bytes_count size (shown_bytes a.shown) h.0) λ size range.
    field_lawful _ _ _ 65536 0 (weaken _ size 65536 (let r = number_within w32 0 65536 size range in omega arith) (bytes_lawful size)) (λ value a f h. ap (λ (x : Answered). shown_bytes x.shown) h) λ value _.
    made_lawful _

pub behind_mark_lawful : (id : List ℕ) (mark : ℕ) → Lawful (behind_mark id mark) 65540
unfolding behind_mark
behind_mark_lawful id mark = choose_lawful (eqb mark 0) _ _ 65540 (weaken _ 0 65540 (omega arith) (made_lawful _)) (choose_lawful (eqb mark 2) _ _ 65540 (weaken _ 0 65540 (omega arith) (made_lawful _)) (held_lawful id))

id_of_marked : (id : List ℕ) (mark : ℕ) (a : Answered) → (behind_mark id mark).fits a → a.id ≡ id
unfolding behind_mark
id_of_marked id mark a h = id_behind (eqb mark 0) (eqb mark 2) id a h

mark_of_marked : (id : List ℕ) (mark : ℕ) (a : Answered) → mark ≤ 2 → (behind_mark id mark).fits a → shown_mark a.shown ≡ mark
unfolding behind_mark
mark_of_marked id mark a high h = mark_behind (eqb mark 0) (eqb mark 2) id a h ∙ none_or_one_or_two mark high

pub answered_text_lawful : Lawful answered_text 65573
unfolding answered_text
answered_text_lawful =
    field_lawful _ _ _ 32 _ digest_lawful (λ id a f h. id_of_marked id _ a h.1) λ id _.
    field_lawful _ _ _ 1 65540 (u8_lawful 0 2 (omega arith)) (λ mark a f h. mark_of_marked id mark a (let r = number_within w8 0 2 mark f in r.1) h) λ mark _.
    behind_mark_lawful id mark

pub read_text_lawful : Lawful read_text 268652843
unfolding read_text
read_text_lawful =
    field_lawful _ _ _ 4 _ (u32_lawful 0 4294967295 (omega arith)) (λ a r f h. cc) λ records _.
    field_lawful _ _ _ 1 _ (u8_lawful 1 255 (omega arith)) (λ a r f h. bytes_count a r.key h.0) λ key_length range.
    field_lawful _ _ _ 255 _ (weaken _ key_length 255 (let r = number_within w8 1 255 key_length range in omega arith) (bytes_lawful key_length)) (λ a r f h. cc) λ key _.
    field_lawful _ _ _ 2 _ (u16_lawful 0 4097 (omega arith)) (λ a r f h. list_count a answered_text any_follows r.answer h.0) λ count n.
    field_lawful _ _ _ 268652581 0 (weaken _ (count * 65573) 268652581 (let r = number_within w16 0 4097 count n in omega arith) (list_lawful count answered_text any_follows 65573 answered_text_lawful)) (λ a r f h. cc) λ answer _.
    made_lawful _

-- each write that a read lists has a text
pub answers_fit : (r : ReadTrace) → read_text.fits r → AllByRecursion answered_text.fits r.answer
unfolding read_text
answers_fit r h = all_fit _ answered_text r.answer h.1.1.1.1.0

-- ---- traces

-- each record text of a trace has its piece, and each read its text
pub texts_fit : (t : Trace) → IsTrace t → AllByRecursion record_piece.fits t.texts
unfolding trace_text
texts_fit t h = all_fit _ record_piece t.texts h.1.1.1.1.0

pub reads_fit : (t : Trace) → IsTrace t → AllByRecursion read_text.fits t.reads
unfolding trace_text
reads_fit t h = all_fit _ read_text t.reads h.1.1.1.1.1.1.0

pub trace_text_lawful : Lawful trace_text (1 + (1 + (2 + (4 + (562949953814528 + (4 + (268652843000000 + 0)))))))
unfolding trace_text
trace_text_lawful =
    field_lawful _ _ _ 1 _ (constant_lawful 1 (omega arith)) (λ a v f h. one_number w8 1 a f) λ version _.
    field_lawful _ _ _ 1 _ (constant_lawful 5 (omega arith)) (λ a v f h. one_number w8 5 a f) λ kind_byte _.
    field_lawful _ _ _ 2 _ node_lawful (λ a v f h. cc) λ node _.
    field_lawful _ _ _ 4 _ (u32_lawful 1 131072 (omega arith)) (λ a v f h. list_count a record_piece any_follows v.texts h.0) λ record_count n.
    field_lawful _ _ _ 562949953814528 _ (weaken _ (record_count * 4294967299) 562949953814528 (let r = number_within w32 1 131072 record_count n in omega arith) (list_lawful record_count record_piece any_follows 4294967299 record_piece_lawful)) (λ a v f h. cc) λ texts _.
    field_lawful _ _ _ 4 _ (u32_lawful 0 1000000 (omega arith)) (λ a v f h. list_count a read_text any_follows v.reads h.0) λ read_count m.
    field_lawful _ _ _ 268652843000000 0 (weaken _ (read_count * 268652843) 268652843000000 (let r = number_within w32 0 1000000 read_count m in omega arith) (list_lawful read_count read_text any_follows 268652843 read_text_lawful)) (λ a v f h. cc) λ reads _.
    made_lawful _
