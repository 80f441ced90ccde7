-- The texts of the contents of replies: what was put, counted, refused and met.
use Rattle.std.specs.Prelude.{ℕ, zero, suc, List, [], length, Bool, true, false, Option, Some, None, ◌==◌}
use Rattle.std.specs.Int.{w8, w16, w32, w64}
use Rattle.depot_answers.specs.declared.exchange_answers.Closing.{Closing}
use Rattle.depot_answers.specs.declared.exchange_answers.Closing.TheVariants as closing
use Rattle.depot_base.specs.declared.check.Check.{Check}
use Rattle.depot_base.specs.declared.check.Check.TheVariants as check
use Rattle.depot_base.specs.declared.check.Full.{Full}
use Rattle.depot_base.specs.declared.check.FullOf.{FullOf}
use Rattle.depot_base.specs.declared.check.FullOf.TheVariants as full_of
use Rattle.depot_base.specs.declared.limits.TheConstants.{MOST_FRAMES}
use Rattle.depot_base.specs.declared.proof.Kind.{Kind}
use Rattle.depot_base.specs.declared.proof.Kind.TheVariants.{SameNumber}
use Rattle.depot_base.specs.Format.{Format, number, field, made_of_fields, choose, list_of}
use Rattle.depot_base.specs.Parts.{node_number, digest}
use Rattle.depot_model.specs.texts.Texts.{kind_of_number, number_of_kind}
use Rattle.depot_model.specs.declared.bundle.Counts.{Counts}
use Rattle.depot_model.specs.declared.bundle.Ending.{Ending}
use Rattle.depot_model.specs.declared.bundle.Ending.TheVariants as ending
use Rattle.depot_model.specs.declared.bundle.Refusal.{Refusal}
use Rattle.depot_model.specs.declared.bundle.Report.{Report}
use Rattle.depot_model.specs.declared.put_answers.PutDone.{PutDone}
use Rattle.depot_requests.specs.declared.reply.NodeLimit.{NodeLimit}
use Rattle.depot_requests.specs.declared.reply.NodeLimit.TheVariants as limit
use Rattle.depot_requests.specs.declared.reply.Reason.{Reason}
use Rattle.depot_requests.specs.declared.reply.Reason.TheVariants as reason

-- ---- numbers

abbrev pub any_u32_text : Format ℕ
any_u32_text = number w32 0 4294967295

abbrev pub any_u64_text : Format ℕ
any_u64_text = number w64 0 18446744073709551615

-- a byte of whether: 0 of no, 1 of yes
abbrev pub flag_byte : Bool → ℕ
flag_byte false = 0
flag_byte true = 1

unfoldable pub flag_text : Format Bool
flag_text = field (number w8 0 1) flag_byte λ byte. made_of_fields (byte == 1)

-- ---- an update that was put: id, seq, clock

unfoldable pub done_text : Format PutDone
done_text =
    field digest (λ d. d.id) λ id.
    field any_u32_text (λ d. d.seq) λ seq.
    field any_u64_text (λ d. d.clock) λ clock.
    made_of_fields (record { id = id; seq = seq; clock = clock })

-- ---- what is full: which limit, and the number now

abbrev pub full_byte : FullOf → ℕ
full_byte full_of.Records = 1
full_byte full_of.Bytes = 2
full_byte full_of.Writers = 3

abbrev pub full_of_byte : ℕ → FullOf
full_of_byte zero = full_of.Records
full_of_byte (suc zero) = full_of.Records
full_of_byte (suc (suc zero)) = full_of.Bytes
full_of_byte (suc (suc (suc n))) = full_of.Writers

unfoldable pub full_text : Format Full
full_text =
    field (number w8 1 3) (λ f. full_byte f.what) λ byte.
    field any_u32_text (λ f. f.number) λ number.
    made_of_fields (record { what = full_of_byte byte; number = number })

-- ---- a check that failed: its number, and what it carries

-- the number, the node, the ids and the kind that a check carries; else 0, 1, no bytes and the first kind
abbrev pub number_carried : Check → ℕ
number_carried (check.IllFormed at) = at
number_carried (check.WrongDep place) = place
number_carried (check.ClockFar greatest) = greatest
number_carried other = 0

abbrev pub node_carried : Check → ℕ
node_carried (check.UnknownWriter node) = node
node_carried (check.BadSignature node) = node
node_carried (check.Convicted node) = node
node_carried (check.VoucherConvicted node) = node
node_carried other = 1

abbrev pub id_carried : Check → List ℕ
id_carried (check.NotMine id) = id
id_carried (check.Missing id) = id
id_carried (check.Backward id) = id
id_carried (check.ClockLow id) = id
id_carried (check.BadHistory given right) = given
id_carried (check.Forked kept came kind) = kept
id_carried (check.Unwanted hash) = hash
id_carried other = []

abbrev pub second_carried : Check → List ℕ
second_carried (check.BadHistory given right) = right
second_carried (check.Forked kept came kind) = came
second_carried other = []

abbrev pub kind_carried : Check → Kind
kind_carried (check.Forked kept came kind) = kind
kind_carried other = SameNumber

abbrev pub check_byte : Check → ℕ
check_byte (check.IllFormed at) = 1
check_byte (check.UnknownWriter node) = 2
check_byte (check.NotMine id) = 3
check_byte (check.BadSignature node) = 4
check_byte (check.Missing id) = 5
check_byte (check.WrongDep place) = 6
check_byte (check.Backward id) = 7
check_byte (check.ClockLow id) = 8
check_byte (check.ClockFar greatest) = 9
check_byte (check.BadHistory given right) = 10
check_byte (check.Forked kept came kind) = 11
check_byte (check.Convicted node) = 12
check_byte (check.VoucherConvicted node) = 13
check_byte (check.Unwanted hash) = 14
check_byte check.NotContradictory = 15
check_byte check.AgainstMe = 16

-- a check that carries one number, node or id
abbrev pub carries_u32 : (ℕ → Check) → Format Check
carries_u32 make = field any_u32_text number_carried λ n. made_of_fields (make n)

abbrev pub carries_u64 : (ℕ → Check) → Format Check
carries_u64 make = field any_u64_text number_carried λ n. made_of_fields (make n)

abbrev pub carries_node : (ℕ → Check) → Format Check
carries_node make = field node_number node_carried λ n. made_of_fields (make n)

abbrev pub carries_id : (List ℕ → Check) → Format Check
carries_id make = field digest id_carried λ id. made_of_fields (make id)

-- one that carries two ids, and the kind of a contradiction after them
abbrev pub carries_two : Format Check
carries_two =
    field digest id_carried λ given.
    field digest second_carried λ right.
    made_of_fields (check.BadHistory given right)

abbrev pub carries_fork : Format Check
carries_fork =
    field digest id_carried λ kept.
    field digest second_carried λ came.
    field (number w8 1 4) (λ c. number_of_kind (kind_carried c)) λ kind.
    made_of_fields (check.Forked kept came (kind_of_number kind))

-- what follows the number of a check
unfoldable pub check_behind : ℕ → Format Check
check_behind byte =
    choose (byte == 1) (carries_u32 (λ at. check.IllFormed at))
    (choose (byte == 2) (carries_node (λ node. check.UnknownWriter node))
    (choose (byte == 3) (carries_id (λ id. check.NotMine id))
    (choose (byte == 4) (carries_node (λ node. check.BadSignature node))
    (choose (byte == 5) (carries_id (λ id. check.Missing id))
    (choose (byte == 6) (carries_u32 (λ place. check.WrongDep place))
    (choose (byte == 7) (carries_id (λ id. check.Backward id))
    (choose (byte == 8) (carries_id (λ id. check.ClockLow id))
    (choose (byte == 9) (carries_u64 (λ greatest. check.ClockFar greatest))
    (choose (byte == 10) carries_two
    (choose (byte == 11) carries_fork
    (choose (byte == 12) (carries_node (λ node. check.Convicted node))
    (choose (byte == 13) (carries_node (λ node. check.VoucherConvicted node))
    (choose (byte == 14) (carries_id (λ hash. check.Unwanted hash))
    (choose (byte == 15) (made_of_fields check.NotContradictory)
    (made_of_fields check.AgainstMe)))))))))))))))

unfoldable pub check_text : Format Check
check_text = field (number w8 1 16) check_byte check_behind

-- ---- what became of a stream

-- how it ended; after 5 the bytes that are open
abbrev pub ending_byte : Ending → ℕ
ending_byte ending.Closed = 1
ending_byte ending.Whole = 2
ending_byte ending.More = 3
ending_byte ending.Bare = 4
ending_byte (ending.Cut open_bytes) = 5

abbrev pub bytes_open : Ending → ℕ
bytes_open (ending.Cut open_bytes) = open_bytes
bytes_open other = 0

abbrev pub ending_of_byte : ℕ → Ending
ending_of_byte zero = ending.Closed
ending_of_byte (suc zero) = ending.Closed
ending_of_byte (suc (suc zero)) = ending.Whole
ending_of_byte (suc (suc (suc zero))) = ending.More
ending_of_byte (suc (suc (suc (suc n)))) = ending.Bare

unfoldable pub ending_behind : ℕ → Format Ending
ending_behind byte = choose (byte == 5) (field any_u32_text bytes_open λ n. made_of_fields (ending.Cut n)) (made_of_fields (ending_of_byte byte))

unfoldable pub ending_text : Format Ending
ending_text = field (number w8 1 5) ending_byte ending_behind

-- why its feed was closed: 0 if it wasn't, 1 and the offset of what is no frame, 2 and what was full
abbrev pub closing_byte : Option Closing → ℕ
closing_byte None = 0
closing_byte (Some (closing.IllFormed at)) = 1
closing_byte (Some (closing.Full what)) = 2

abbrev pub offset_closing : Option Closing → ℕ
offset_closing (Some (closing.IllFormed at)) = at
offset_closing other = 0

abbrev pub full_closing : Option Closing → Full
full_closing (Some (closing.Full what)) = what
full_closing other = record { what = full_of.Records; number = 0 }

unfoldable pub closing_behind : ℕ → Format (Option Closing)
closing_behind byte =
    choose (byte == 0) (made_of_fields None)
    (choose (byte == 1) (field any_u64_text offset_closing λ at. made_of_fields (Some (closing.IllFormed at)))
    (field full_text full_closing λ what. made_of_fields (Some (closing.Full what))))

unfoldable pub closing_text : Format (Option Closing)
closing_text = field (number w8 0 2) closing_byte closing_behind

-- a refused frame: its place, and the check that failed
unfoldable pub refusal_text : Format Refusal
refusal_text =
    field any_u32_text (λ r. r.frame) λ frame.
    field check_text (λ r. r.check) λ check.
    made_of_fields (record { frame = frame; check = check })

-- refused frames may occur in any order
abbrev pub refusal_follows : Option Refusal → Refusal → Bool
refusal_follows before r = true

-- how many frames were new, and known; the ending; and the refused frames preceded by their count
unfoldable pub stream_report : Format Report
stream_report =
    field any_u32_text (λ r. r.accepted) λ accepted.
    field any_u32_text (λ r. r.known) λ known.
    field ending_text (λ r. r.ending) λ ending.
    field (number w32 0 MOST_FRAMES) (λ r. length r.refused) λ count.
    field (list_of count refusal_text refusal_follows) (λ r. r.refused) λ refused.
    made_of_fields (record { accepted = accepted; known = known; refused = refused; ending = ending })

-- ---- how many frames of each sort a bundle has

unfoldable pub counts_text : Format Counts
counts_text =
    field any_u32_text (λ c. c.proofs) λ proofs.
    field any_u32_text (λ c. c.vouchers) λ vouchers.
    field any_u32_text (λ c. c.updates) λ updates.
    field any_u32_text (λ c. c.values) λ values.
    made_of_fields (record { proofs = proofs; vouchers = vouchers; updates = updates; values = values })

-- ---- why something isn't done

abbrev pub limit_byte : NodeLimit → ℕ
limit_byte (limit.Spent n) = 1
limit_byte (limit.Tips n) = 2
limit_byte (limit.Collides id) = 3
limit_byte (limit.Full what) = 4

abbrev pub number_met : NodeLimit → ℕ
number_met (limit.Spent n) = n
number_met (limit.Tips n) = n
number_met other = 0

abbrev pub id_met : NodeLimit → List ℕ
id_met (limit.Collides id) = id
id_met other = []

abbrev pub full_met : NodeLimit → Full
full_met (limit.Full what) = what
full_met other = record { what = full_of.Records; number = 0 }

unfoldable pub limit_behind : ℕ → Format NodeLimit
limit_behind byte =
    choose (byte == 1) (field any_u32_text number_met λ n. made_of_fields (limit.Spent n))
    (choose (byte == 2) (field any_u32_text number_met λ n. made_of_fields (limit.Tips n))
    (choose (byte == 3) (field digest id_met λ id. made_of_fields (limit.Collides id))
    (field full_text full_met λ what. made_of_fields (limit.Full what))))

unfoldable pub limit_text : Format NodeLimit
limit_text = field (number w8 1 4) limit_byte limit_behind

abbrev pub reason_byte : Reason → ℕ
reason_byte (reason.Limit met) = 1
reason_byte (reason.IllFormed at) = 2
reason_byte (reason.OtherRoster given) = 3
reason_byte (reason.Unknown id) = 4
reason_byte (reason.NoValue id) = 5
reason_byte reason.Empty = 6
reason_byte (reason.Many n) = 7

abbrev pub limit_said : Reason → NodeLimit
limit_said (reason.Limit met) = met
limit_said other = limit.Spent 0

abbrev pub number_said : Reason → ℕ
number_said (reason.IllFormed at) = at
number_said (reason.Many n) = n
number_said other = 0

abbrev pub id_said : Reason → List ℕ
id_said (reason.OtherRoster given) = given
id_said (reason.Unknown id) = id
id_said (reason.NoValue id) = id
id_said other = []

unfoldable pub reason_behind : ℕ → Format Reason
reason_behind byte =
    choose (byte == 1) (field limit_text limit_said λ met. made_of_fields (reason.Limit met))
    (choose (byte == 2) (field any_u32_text number_said λ at. made_of_fields (reason.IllFormed at))
    (choose (byte == 3) (field digest id_said λ given. made_of_fields (reason.OtherRoster given))
    (choose (byte == 4) (field digest id_said λ id. made_of_fields (reason.Unknown id))
    (choose (byte == 5) (field digest id_said λ id. made_of_fields (reason.NoValue id))
    (choose (byte == 6) (made_of_fields reason.Empty)
    (field any_u32_text number_said λ n. made_of_fields (reason.Many n)))))))

unfoldable pub reason_text : Format Reason
reason_text = field (number w8 1 7) reason_byte reason_behind
