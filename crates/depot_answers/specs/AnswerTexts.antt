-- What is printed of answers.
use Rattle.std.specs.Prelude.{ℕ, List, [], ◌∷◌, ◌++◌, length, Bool, true, false, Option, Some, None, codes}
use Rattle.std.specs.Fmt.{decimal}
use Rattle.hex.specs.Hex.{encode_lower}
use Rattle.depot_base.specs.declared.check.Check.{Check}
use Rattle.depot_base.specs.declared.check.Check.TheVariants as check
use Rattle.depot_base.specs.declared.check.Full.{Full}
use Rattle.depot_base.specs.declared.check.FullOf.{FullOf}
use Rattle.depot_base.specs.declared.check.FullOf.TheVariants as full_of
use Rattle.depot_base.specs.declared.record.Record.{Record}
use Rattle.depot_base.specs.declared.update.Update.{Update}
use Rattle.depot_model.specs.declared.record_fault.RecordFault.{RecordFault}
use Rattle.depot_model.specs.declared.record_fault.RecordFault.TheVariants as record_fault
use Rattle.depot_model.specs.declared.bundle.Counts.{Counts}
use Rattle.depot_model.specs.declared.bundle.Refusal.{Refusal}
use Rattle.depot_model.specs.declared.bundle.Report.{Report}
use Rattle.depot_model.specs.declared.hello.Hello.{Hello}
use Rattle.depot_model.specs.worlds.Audit.{Op, the_write, the_read, Finding, yes_found, unlawful, answer_found, circle_found, unordered_found, unseen_found, wrong_found, split_found, named_found}
use Rattle.depot_model.specs.texts.Contents.{Sighting, held_value, not_held, gone}
use Rattle.depot_model.specs.exchange.Feeding.{Feeding, Closing, ill_formed, out_of_room, report_of}
use Rattle.depot_model.specs.declared.bundle.Ending.{Ending}
use Rattle.depot_model.specs.declared.bundle.Ending.TheVariants as ending
use Rattle.depot_model.specs.checks.Limits.{Limit, spent, tips, collides, full}
use Rattle.depot_model.specs.texts.Lines.{name_of_kind}
use Rattle.depot_model.specs.worlds.Receipts.{NoReceipt, unknown, lacks_value}
use Rattle.depot_model.specs.worlds.World.{Shown}
use Rattle.depot_answers.specs.declared.reader_answers.ReaderCounts.{ReaderCounts}
use Rattle.depot_lines.specs.declared.line_fault.LineFault.{LineFault}
use Rattle.depot_lines.specs.declared.line_fault.LineFault.TheVariants as line_fault

-- a text after a space
abbrev pub spaced : List ℕ → List ℕ
spaced text = 32 ∷ text

-- a name, and a number after it
abbrev pub text_of_number : List ℕ → ℕ → List ℕ
text_of_number name n = name ++ spaced (decimal n)

-- ---- checks

-- a check by its number, its name, and what it carries where that is a number or a kind
unfoldable pub text_of_check : Check → List ℕ
text_of_check (check.IllFormed at) = text_of_number (codes "1 IllFormed") at
text_of_check (check.UnknownWriter node) = text_of_number (codes "2 UnknownWriter") node
text_of_check (check.NotMine id) = codes "3 NotMine"
text_of_check (check.BadSignature node) = text_of_number (codes "4 BadSignature") node
text_of_check (check.Missing id) = codes "5 Missing"
text_of_check (check.WrongDep place) = text_of_number (codes "6 WrongDep") place
text_of_check (check.Backward id) = codes "7 Backward"
text_of_check (check.ClockLow id) = codes "8 ClockLow"
text_of_check (check.ClockFar greatest) = text_of_number (codes "9 ClockFar") greatest
text_of_check (check.BadHistory given right) = codes "10 BadHistory"
text_of_check (check.Forked kept came kind) = codes "11 Forked" ++ spaced (name_of_kind kind)
text_of_check (check.Convicted node) = text_of_number (codes "12 Convicted") node
text_of_check (check.VoucherConvicted node) = text_of_number (codes "13 VoucherConvicted") node
text_of_check (check.Unwanted hash) = codes "14 Unwanted"
text_of_check check.NotContradictory = codes "15 NotContradictory"
text_of_check check.AgainstMe = codes "16 AgainstMe"

-- ---- faulty records

-- what is wrong with a record: the fault's name, and the offset or the check that it carries
abbrev pub text_of_record_fault : RecordFault → List ℕ
text_of_record_fault (record_fault.Ill at) = text_of_number (codes "Ill") at
text_of_record_fault record_fault.Birth = codes "Birth"
text_of_record_fault record_fault.NotNext = codes "NotNext"
text_of_record_fault record_fault.OwnVoucher = codes "OwnVoucher"
text_of_record_fault (record_fault.Refused failed) = text_of_check failed
text_of_record_fault record_fault.ProofDue = codes "ProofDue"
text_of_record_fault record_fault.Idle = codes "Idle"
text_of_record_fault record_fault.NoRoom = codes "NoRoom"

-- ---- limits

abbrev pub name_of_full : FullOf → List ℕ
name_of_full full_of.Records = codes "full records"
name_of_full full_of.Bytes = codes "full bytes"
name_of_full full_of.Writers = codes "full writers"

-- what is full, and the number now
abbrev pub text_of_full : Full → List ℕ
text_of_full f = text_of_number (name_of_full f.what) f.number

unfoldable pub text_of_limit : Limit → List ℕ
text_of_limit (spent n) = text_of_number (codes "Spent") n
text_of_limit (tips n) = text_of_number (codes "Tips") n
text_of_limit (collides id) = codes "Collides"
text_of_limit (full f) = text_of_full f

-- ---- receipts

-- why no receipt is given, whatever the id
abbrev pub text_of_no_receipt : NoReceipt → List ℕ
text_of_no_receipt (unknown id) = codes "Unknown"
text_of_no_receipt (lacks_value id) = codes "NoValue"

-- whether enough nodes gave receipts
abbrev pub name_of_settled : Bool → List ℕ
name_of_settled true = codes "yes"
name_of_settled false = codes "no"

-- ---- writes and reads

-- what a put made: the update's seq and clock
abbrev pub text_of_put : Update → List ℕ
text_of_put u = decimal u.seq ++ codes "/" ++ decimal u.clock

-- what a write shows of its key: the value, `?` where that isn't held, or that the key was deleted
abbrev pub text_of_sighting : Sighting → List ℕ
text_of_sighting (held_value value) = codes "=" ++ encode_lower value
text_of_sighting not_held = codes "=?"
text_of_sighting gone = codes "!"

-- a write that a read shows: `WRITER/SEQ/CLOCK=VALUE`, or of a deletion `WRITER/SEQ/CLOCK!`
abbrev pub text_of_write : Shown → List ℕ
text_of_write s = decimal s.update.writer ++ codes "/" ++ decimal s.update.seq ++ codes "/" ++ decimal s.update.clock ++ text_of_sighting s.seen

-- ---- journals

-- how many records a journal has
abbrev pub text_of_records : List Record → List ℕ
text_of_records J = text_of_number (codes "records") (length J)

-- ---- hellos, bundles, reports

-- how many nodes are convicted, and how many leaves and wanted values are named
abbrev pub text_of_named : Hello → List ℕ
text_of_named h = text_of_number (codes "convicted") (length h.convicted) ++ spaced (text_of_number (codes "leaves") (length h.leaves)) ++ spaced (text_of_number (codes "wanted") (length h.wanted))

abbrev pub name_of_more : Bool → List ℕ
name_of_more true = codes "more"
name_of_more false = codes "whole"

abbrev pub text_of_counts : Counts → List ℕ
text_of_counts c = text_of_number (codes "proofs") c.proofs ++ spaced (text_of_number (codes "vouchers") c.vouchers) ++ spaced (text_of_number (codes "updates") c.updates) ++ spaced (text_of_number (codes "values") c.values)

-- why a feed was closed: at an offset there is no frame, or what is full
abbrev pub text_of_closing : Closing → List ℕ
text_of_closing (ill_formed at) = text_of_number (codes "ill-formed") at
text_of_closing (out_of_room f) = text_of_full f

-- how a stream ended; where there are no words for why its feed was closed, only that it was
abbrev pub text_of_ending : Ending → List ℕ
text_of_ending ending.Closed = codes "closed"
text_of_ending ending.Whole = codes "whole"
text_of_ending ending.More = codes "more"
text_of_ending ending.Bare = codes "bare"
text_of_ending (ending.Cut bytes) = text_of_number (codes "cut") bytes

-- why a feed was closed, or else how its stream ended
abbrev pub text_of_end : Option Closing → Ending → List ℕ
text_of_end (Some why) how = text_of_closing why
text_of_end None how = text_of_ending how

-- how many frames were new, known and refused, and how the stream ended
abbrev pub report_text : Report → Option Closing → List ℕ
report_text r closed = text_of_number (codes "accepted") r.accepted ++ spaced (text_of_number (codes "known") r.known) ++ spaced (text_of_number (codes "refused") (length r.refused)) ++ spaced (text_of_end closed r.ending)

-- what became of a stream that was fed
unfoldable pub text_of_report : Feeding → List ℕ
text_of_report s = report_text (report_of s) s.closed

-- a refusal, on a line of its own: the number of the frame, and the check
abbrev pub text_of_refused : Refusal → List ℕ
text_of_refused r = spaced (text_of_number (codes "refused") r.frame ++ spaced (text_of_check r.check))

-- ---- audits

-- how many records and reads a trace has
abbrev pub text_of_traced : ℕ → ℕ → List ℕ
text_of_traced records reads = text_of_number (codes "records") records ++ spaced (text_of_number (codes "reads") reads)

-- the place of a node's record or read after a space: `NODE PLACE`
abbrev pub text_of_spot : ℕ → ℕ → List ℕ
text_of_spot node place = spaced (text_of_number (decimal node) place)

-- an operation after a space: `wNODE.PLACE` of a write, `rNODE.PLACE` of a read
abbrev pub text_of_op : Op → List ℕ
text_of_op (the_write node place) = codes " w" ++ decimal node ++ codes "." ++ decimal place
text_of_op (the_read node place) = codes " r" ++ decimal node ++ codes "." ++ decimal place

-- what an audit finds
unfoldable pub text_of_finding : Finding → List ℕ
text_of_finding yes_found = codes "yes"
text_of_finding (unlawful node place fault) = codes "no record" ++ text_of_spot node place ++ spaced (text_of_record_fault fault)
text_of_finding (answer_found node place) = codes "no answer" ++ text_of_spot node place
text_of_finding (circle_found o) = codes "no fjc 1" ++ text_of_op o
text_of_finding (unordered_found first second) = codes "no fjc 2" ++ text_of_op first ++ text_of_op second
text_of_finding (unseen_found first second) = codes "no fjc 3" ++ text_of_op first ++ text_of_op second
text_of_finding (wrong_found node place) = codes "no fjc 4" ++ text_of_op (the_read node place)
text_of_finding (split_found node place) = codes "no fjc 5" ++ text_of_spot node place
text_of_finding (named_found node place) = codes "no named" ++ text_of_spot node place

-- ---- checkpoints and readers

-- nothing was accepted that a checkpoint could list
abbrev pub text_of_empty : List ℕ
text_of_empty = codes "Empty"

-- there are so many leaves, more than a checkpoint lists
abbrev pub text_of_many : ℕ → List ℕ
text_of_many n = text_of_number (codes "Many") n

-- the first node of the roster that didn't sign a checkpoint
abbrev pub text_of_unsigned : ℕ → List ℕ
text_of_unsigned node = text_of_number (codes "Unsigned") node

-- how many updates a reader keeps, and how many were accepted, the trimmed ones too
abbrev pub text_of_kept : ℕ → ℕ → List ℕ
text_of_kept left all = text_of_number (codes "kept") left ++ spaced (text_of_number (codes "of") all)

-- what is full, after a space, where something is
abbrev pub text_where_full : Option Full → List ℕ
text_where_full None = []
text_where_full (Some f) = spaced (text_of_full f)

-- how many frames of a stream were new, known, refused and below; and what was full, if one found no room
unfoldable pub text_of_reader_feed : ReaderCounts → Option Full → List ℕ
text_of_reader_feed c met =
    text_of_number (codes "accepted") c.accepted ++ spaced (text_of_number (codes "known") c.known) ++ spaced (text_of_number (codes "refused") c.refused) ++ spaced (text_of_number (codes "below") c.below) ++ text_where_full met

-- ---- texts of lines

abbrev pub name_of_line_fault : LineFault → List ℕ
name_of_line_fault line_fault.End = codes "End"
name_of_line_fault line_fault.Long = codes "Long"
name_of_line_fault line_fault.Header = codes "Header"
name_of_line_fault line_fault.Word = codes "Word"
name_of_line_fault line_fault.Fields = codes "Fields"
name_of_line_fault line_fault.Number = codes "Number"
name_of_line_fault line_fault.Hex = codes "Hex"
name_of_line_fault line_fault.Node = codes "Node"
name_of_line_fault line_fault.Label = codes "Label"

-- which line of a text isn't in its form, and why
abbrev pub text_of_faulty_line : ℕ → LineFault → List ℕ
text_of_faulty_line number fault = text_of_number (codes "line") number ++ spaced (name_of_line_fault fault)
