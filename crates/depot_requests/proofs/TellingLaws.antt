-- The texts of the contents of replies are lawful.
use Rattle.std.proofs.Common.{◌≡◌, ℕ, zero, suc, ◌+◌, ◌*◌, ◌≤◌, Bool, true, false, eqb, List, length, Option, Some, None, refl, sym, ap, subst, ◌∙◌, arith}
use Rattle.std.specs.Int.{w8, w32, w64}
use Rattle.depot_answers.specs.declared.exchange_answers.Closing.{Closing}
use Rattle.depot_answers.specs.declared.exchange_answers.Closing.TheVariants as closing
use Rattle.depot_base.specs.Format.{Format, number, field, made_of_fields, choose}
use Rattle.depot_base.specs.declared.check.Check.{Check}
use Rattle.depot_base.specs.declared.check.Check.TheVariants as check
use Rattle.depot_base.specs.declared.check.Full.{Full}
use Rattle.depot_base.specs.declared.proof.Kind.{Kind}
use Rattle.depot_base.proofs.Combined.{choose_lawful, field_lawful, made_lawful}
use Rattle.depot_base.proofs.EntryLists.{list_count, list_lawful}
use Rattle.depot_base.proofs.FormatLaws.{Lawful, weaken}
use Rattle.depot_base.specs.Parts.{digest, node_number}
use Rattle.depot_base.proofs.Numbers.{number_within}
use Rattle.depot_base.proofs.PartLaws.{digest_lawful, node_lawful, u32_lawful, u64_lawful, u8_lawful}
use Rattle.depot_model.specs.texts.Texts.{kind_of_number, number_of_kind}
use Rattle.depot_model.specs.declared.bundle.Counts.{Counts}
use Rattle.depot_model.specs.declared.bundle.Ending.{Ending}
use Rattle.depot_model.specs.declared.bundle.Ending.TheVariants as ending
use Rattle.depot_model.specs.declared.bundle.Refusal.{Refusal}
use Rattle.depot_model.specs.declared.bundle.Report.{Report}
use Rattle.depot_model.specs.declared.put_answers.PutDone.{PutDone}
use Rattle.depot_requests.specs.declared.reply.NodeLimit.{NodeLimit}
use Rattle.depot_requests.specs.declared.reply.NodeLimit.TheVariants as limit
use Rattle.depot_requests.specs.declared.reply.Reason.{Reason}
use Rattle.depot_requests.specs.declared.reply.Reason.TheVariants as reason
use Rattle.depot_requests.specs.TellingTexts.{any_u32_text, any_u64_text, bytes_open, carries_fork, carries_two, check_behind, check_byte, check_text, closing_behind, closing_byte, closing_text, counts_text, done_text, ending_behind, ending_byte, ending_of_byte, ending_text, flag_byte, flag_text, full_byte, full_closing, full_met, full_of_byte, full_text, id_carried, id_met, id_said, kind_carried, limit_behind, limit_byte, limit_said, limit_text, node_carried, number_carried, number_met, number_said, offset_closing, reason_behind, reason_byte, reason_text, refusal_text, second_carried, stream_report}

-- ---- a value that is made of one field

one_field : {A V : Type 0} (f : Format A) (part : V → A) (make : A → V) (m : ℕ) → Lawful f m → ((a : A) → part (make a) ≡ a) → Lawful (field f part (λ a. made_of_fields (make a))) m
one_field f part make m l there = weaken _ (m + 0) m (omega arith) (field_lawful f part (λ a. made_of_fields (make a)) m 0 l (λ a v fits h. ap part h ∙ there a) λ a _. made_lawful (make a))

-- ---- numbers

any_u32_lawful : Lawful any_u32_text 4
any_u32_lawful = u32_lawful 0 4294967295 (omega arith)

any_u64_lawful : Lawful any_u64_text 8
any_u64_lawful = u64_lawful 0 18446744073709551615 (omega arith)

flag_is : (byte : ℕ) → byte ≤ 1 → flag_byte (eqb byte 1) ≡ byte
flag_is zero high = refl
flag_is (suc zero) high = refl
flag_is (suc (suc n)) high = absurd (omega (arith, high))

pub flag_text_lawful : Lawful flag_text 1
unfolding flag_text
flag_text_lawful =
    field_lawful _ _ _ 1 0 (u8_lawful 0 1 (omega arith)) (λ byte b f h. ap flag_byte h ∙ flag_is byte (number_within w8 0 1 byte f).1) λ byte _.
    made_lawful _

pub done_text_lawful : Lawful done_text 44
unfolding done_text
done_text_lawful =
    field_lawful _ _ _ 32 12 digest_lawful (λ a d f h. ap (λ (x : PutDone). x.id) h.1.1) λ id _.
    field_lawful _ _ _ 4 8 any_u32_lawful (λ a d f h. ap (λ (x : PutDone). x.seq) h.1) λ seq _.
    field_lawful _ _ _ 8 0 any_u64_lawful (λ a d f h. ap (λ (x : PutDone). x.clock) h) λ clock _.
    made_lawful _

full_is : (byte : ℕ) → 1 ≤ byte → byte ≤ 3 → full_byte (full_of_byte byte) ≡ byte
full_is zero low high = absurd (omega arith)
full_is (suc zero) low high = refl
full_is (suc (suc zero)) low high = refl
full_is (suc (suc (suc zero))) low high = refl
full_is (suc (suc (suc (suc n)))) low high = absurd (omega arith)

full_text_lawful : Lawful full_text 5
unfolding full_text
full_text_lawful =
    field_lawful _ _ _ 1 4 (u8_lawful 1 3 (omega arith)) (λ byte v f h. ap (λ (x : Full). full_byte x.what) h.1 ∙ (let w = number_within w8 1 3 byte f in full_is byte w.0 w.1)) λ byte _.
    field_lawful _ _ _ 4 0 any_u32_lawful (λ a v f h. ap (λ (x : Full). x.number) h) λ number _.
    made_lawful _

-- ---- checks

two_carried : Lawful carries_two 64
two_carried =
    field_lawful _ _ _ 32 32 digest_lawful (λ a c f h. ap id_carried h.1) λ given _.
    field_lawful _ _ _ 32 0 digest_lawful (λ a c f h. ap second_carried h) λ right _.
    made_lawful _

kind_is : (n : ℕ) → 1 ≤ n → n ≤ 4 → number_of_kind (kind_of_number n) ≡ n
kind_is zero low high = absurd (omega arith)
kind_is (suc zero) low high = refl
kind_is (suc (suc zero)) low high = refl
kind_is (suc (suc (suc zero))) low high = refl
kind_is (suc (suc (suc (suc zero)))) low high = refl
kind_is (suc (suc (suc (suc (suc n))))) low high = absurd (omega arith)

fork_carried : Lawful carries_fork 65
fork_carried =
    field_lawful _ _ _ 32 33 digest_lawful (λ a c f h. ap id_carried h.1.1) λ kept _.
    field_lawful _ _ _ 32 1 digest_lawful (λ a c f h. ap second_carried h.1) λ came _.
    field_lawful _ _ _ 1 0 (u8_lawful 1 4 (omega arith)) (λ n c f h. ap (λ (x : Check). number_of_kind (kind_carried x)) h ∙ (let w = number_within w8 1 4 n f in kind_is n w.0 w.1)) λ kind _.
    made_lawful _

check_is : (byte : ℕ) (c : Check) → 1 ≤ byte → byte ≤ 16 → (check_behind byte).fits c → check_byte c ≡ byte
unfolding check_behind
check_is zero c low high h = absurd (omega arith)
check_is (suc zero) c low high h = ap check_byte h.1
check_is (suc (suc zero)) c low high h = ap check_byte h.1
check_is (suc (suc (suc zero))) c low high h = ap check_byte h.1
check_is (suc (suc (suc (suc zero)))) c low high h = ap check_byte h.1
check_is (suc (suc (suc (suc (suc zero))))) c low high h = ap check_byte h.1
check_is (suc (suc (suc (suc (suc (suc zero)))))) c low high h = ap check_byte h.1
check_is (suc (suc (suc (suc (suc (suc (suc zero))))))) c low high h = ap check_byte h.1
check_is (suc (suc (suc (suc (suc (suc (suc (suc zero)))))))) c low high h = ap check_byte h.1
check_is (suc (suc (suc (suc (suc (suc (suc (suc (suc zero))))))))) c low high h = ap check_byte h.1
check_is (suc (suc (suc (suc (suc (suc (suc (suc (suc (suc zero)))))))))) c low high h = ap check_byte h.1.1
check_is (suc (suc (suc (suc (suc (suc (suc (suc (suc (suc (suc zero))))))))))) c low high h = ap check_byte h.1.1.1
check_is (suc (suc (suc (suc (suc (suc (suc (suc (suc (suc (suc (suc zero)))))))))))) c low high h = ap check_byte h.1
check_is (suc (suc (suc (suc (suc (suc (suc (suc (suc (suc (suc (suc (suc zero))))))))))))) c low high h = ap check_byte h.1
check_is (suc (suc (suc (suc (suc (suc (suc (suc (suc (suc (suc (suc (suc (suc zero)))))))))))))) c low high h = ap check_byte h.1
check_is (suc (suc (suc (suc (suc (suc (suc (suc (suc (suc (suc (suc (suc (suc (suc zero))))))))))))))) c low high h = ap check_byte h
check_is (suc (suc (suc (suc (suc (suc (suc (suc (suc (suc (suc (suc (suc (suc (suc (suc zero)))))))))))))))) c low high h = ap check_byte h
check_is (suc (suc (suc (suc (suc (suc (suc (suc (suc (suc (suc (suc (suc (suc (suc (suc (suc n))))))))))))))))) c low high h = absurd (omega arith)

-- what carries no more than a fork carries
short : (f : Format Check) (m : ℕ) → m ≤ 65 → Lawful f m → Lawful f 65
short f m le l = weaken f m 65 le l

behind_lawful : (byte : ℕ) → Lawful (check_behind byte) 65
unfolding check_behind
behind_lawful byte =
    choose_lawful (eqb byte 1) _ _ 65 (short _ 4 (omega arith) (one_field any_u32_text number_carried (λ n. check.IllFormed n) 4 any_u32_lawful (λ n. refl)))
    (choose_lawful (eqb byte 2) _ _ 65 (short _ 2 (omega arith) (one_field node_number node_carried (λ n. check.UnknownWriter n) 2 node_lawful (λ n. refl)))
    (choose_lawful (eqb byte 3) _ _ 65 (short _ 32 (omega arith) (one_field digest id_carried (λ id. check.NotMine id) 32 digest_lawful (λ id. refl)))
    (choose_lawful (eqb byte 4) _ _ 65 (short _ 2 (omega arith) (one_field node_number node_carried (λ n. check.BadSignature n) 2 node_lawful (λ n. refl)))
    (choose_lawful (eqb byte 5) _ _ 65 (short _ 32 (omega arith) (one_field digest id_carried (λ id. check.Missing id) 32 digest_lawful (λ id. refl)))
    (choose_lawful (eqb byte 6) _ _ 65 (short _ 4 (omega arith) (one_field any_u32_text number_carried (λ n. check.WrongDep n) 4 any_u32_lawful (λ n. refl)))
    (choose_lawful (eqb byte 7) _ _ 65 (short _ 32 (omega arith) (one_field digest id_carried (λ id. check.Backward id) 32 digest_lawful (λ id. refl)))
    (choose_lawful (eqb byte 8) _ _ 65 (short _ 32 (omega arith) (one_field digest id_carried (λ id. check.ClockLow id) 32 digest_lawful (λ id. refl)))
    (choose_lawful (eqb byte 9) _ _ 65 (short _ 8 (omega arith) (one_field any_u64_text number_carried (λ n. check.ClockFar n) 8 any_u64_lawful (λ n. refl)))
    (choose_lawful (eqb byte 10) _ _ 65 (short _ 64 (omega arith) two_carried)
    (choose_lawful (eqb byte 11) _ _ 65 fork_carried
    (choose_lawful (eqb byte 12) _ _ 65 (short _ 2 (omega arith) (one_field node_number node_carried (λ n. check.Convicted n) 2 node_lawful (λ n. refl)))
    (choose_lawful (eqb byte 13) _ _ 65 (short _ 2 (omega arith) (one_field node_number node_carried (λ n. check.VoucherConvicted n) 2 node_lawful (λ n. refl)))
    (choose_lawful (eqb byte 14) _ _ 65 (short _ 32 (omega arith) (one_field digest id_carried (λ id. check.Unwanted id) 32 digest_lawful (λ id. refl)))
    (choose_lawful (eqb byte 15) _ _ 65 (short _ 0 (omega arith) (made_lawful check.NotContradictory)) (short _ 0 (omega arith) (made_lawful check.AgainstMe))))))))))))))))

check_text_lawful : Lawful check_text 66
unfolding check_text
check_text_lawful = field_lawful _ _ _ 1 65 (u8_lawful 1 16 (omega arith)) (λ byte c f h. let w = number_within w8 1 16 byte f in check_is byte c w.0 w.1 h) λ byte _. behind_lawful byte

-- ---- streams

ending_is : (byte : ℕ) (e : Ending) → 1 ≤ byte → byte ≤ 5 → (ending_behind byte).fits e → ending_byte e ≡ byte
unfolding ending_behind
ending_is zero e low high h = absurd (omega arith)
ending_is (suc zero) e low high h = ap ending_byte h
ending_is (suc (suc zero)) e low high h = ap ending_byte h
ending_is (suc (suc (suc zero))) e low high h = ap ending_byte h
ending_is (suc (suc (suc (suc zero)))) e low high h = ap ending_byte h
ending_is (suc (suc (suc (suc (suc zero))))) e low high h = ap ending_byte h.1
ending_is (suc (suc (suc (suc (suc (suc n)))))) e low high h = absurd (omega arith)

ending_behind_lawful : (byte : ℕ) → Lawful (ending_behind byte) 4
unfolding ending_behind
ending_behind_lawful byte =
    choose_lawful (eqb byte 5) _ _ 4 (one_field any_u32_text bytes_open (λ n. ending.Cut n) 4 any_u32_lawful (λ n. refl))
    (weaken _ 0 4 (omega arith) (made_lawful (ending_of_byte byte)))

ending_text_lawful : Lawful ending_text 5
unfolding ending_text
ending_text_lawful = field_lawful _ _ _ 1 4 (u8_lawful 1 5 (omega arith)) (λ byte e f h. let w = number_within w8 1 5 byte f in ending_is byte e w.0 w.1 h) λ byte _. ending_behind_lawful byte

closing_is : (byte : ℕ) (c : Option Closing) → byte ≤ 2 → (closing_behind byte).fits c → closing_byte c ≡ byte
unfolding closing_behind
closing_is zero c high h = ap closing_byte h
closing_is (suc zero) c high h = ap closing_byte h.1
closing_is (suc (suc zero)) c high h = ap closing_byte h.1
closing_is (suc (suc (suc n))) c high h = absurd (omega arith)

closing_behind_lawful : (byte : ℕ) → Lawful (closing_behind byte) 8
unfolding closing_behind
closing_behind_lawful byte =
    choose_lawful (eqb byte 0) _ _ 8 (weaken _ 0 8 (omega arith) (made_lawful None))
    (choose_lawful (eqb byte 1) _ _ 8 (one_field any_u64_text offset_closing (λ n. Some (closing.IllFormed n)) 8 any_u64_lawful (λ n. refl))
    (weaken _ 5 8 (omega arith) (one_field full_text full_closing (λ what. Some (closing.Full what)) 5 full_text_lawful (λ what. refl))))

pub closing_text_lawful : Lawful closing_text 9
unfolding closing_text
closing_text_lawful = field_lawful _ _ _ 1 8 (u8_lawful 0 2 (omega arith)) (λ byte c f h. closing_is byte c (number_within w8 0 2 byte f).1 h) λ byte _. closing_behind_lawful byte

refusal_text_lawful : Lawful refusal_text 70
unfolding refusal_text
refusal_text_lawful =
    field_lawful _ _ _ 4 66 any_u32_lawful (λ a r f h. ap (λ (x : Refusal). x.frame) h.1) λ frame _.
    field_lawful _ _ _ 66 0 check_text_lawful (λ a r f h. ap (λ (x : Refusal). x.check) h) λ check _.
    made_lawful _

pub stream_report_lawful : Lawful stream_report 36700177
unfolding stream_report
stream_report_lawful =
    field_lawful _ _ _ 4 36700173 any_u32_lawful (λ a r f h. ap (λ (x : Report). x.accepted) h.1.1.1.1) λ accepted _.
    field_lawful _ _ _ 4 36700169 any_u32_lawful (λ a r f h. ap (λ (x : Report). x.known) h.1.1.1) λ known _.
    field_lawful _ _ _ 5 36700164 ending_text_lawful (λ a r f h. ap (λ (x : Report). x.ending) h.1.1) λ ending _.
    field_lawful _ _ _ 4 36700160 (u32_lawful 0 524288 (omega arith)) (λ a r f h. list_count a _ _ r.refused h.0) λ count range.
    field_lawful _ _ _ 36700160 0 (weaken _ (count * 70) 36700160 (let r = number_within w32 0 524288 count range in omega arith) (list_lawful count _ _ 70 refusal_text_lawful)) (λ a r f h. ap (λ (x : Report). x.refused) h) λ refused _.
    made_lawful _

pub counts_text_lawful : Lawful counts_text 16
unfolding counts_text
counts_text_lawful =
    field_lawful _ _ _ 4 12 any_u32_lawful (λ a c f h. ap (λ (x : Counts). x.proofs) h.1.1.1) λ proofs _.
    field_lawful _ _ _ 4 8 any_u32_lawful (λ a c f h. ap (λ (x : Counts). x.vouchers) h.1.1) λ vouchers _.
    field_lawful _ _ _ 4 4 any_u32_lawful (λ a c f h. ap (λ (x : Counts). x.updates) h.1) λ updates _.
    field_lawful _ _ _ 4 0 any_u32_lawful (λ a c f h. ap (λ (x : Counts). x.values) h) λ values _.
    made_lawful _

-- ---- reasons

limit_is : (byte : ℕ) (m : NodeLimit) → 1 ≤ byte → byte ≤ 4 → (limit_behind byte).fits m → limit_byte m ≡ byte
unfolding limit_behind
limit_is zero m low high h = absurd (omega arith)
limit_is (suc zero) m low high h = ap limit_byte h.1
limit_is (suc (suc zero)) m low high h = ap limit_byte h.1
limit_is (suc (suc (suc zero))) m low high h = ap limit_byte h.1
limit_is (suc (suc (suc (suc zero)))) m low high h = ap limit_byte h.1
limit_is (suc (suc (suc (suc (suc n))))) m low high h = absurd (omega arith)

limit_behind_lawful : (byte : ℕ) → Lawful (limit_behind byte) 32
unfolding limit_behind
limit_behind_lawful byte =
    choose_lawful (eqb byte 1) _ _ 32 (weaken _ 4 32 (omega arith) (one_field any_u32_text number_met (λ n. limit.Spent n) 4 any_u32_lawful (λ n. refl)))
    (choose_lawful (eqb byte 2) _ _ 32 (weaken _ 4 32 (omega arith) (one_field any_u32_text number_met (λ n. limit.Tips n) 4 any_u32_lawful (λ n. refl)))
    (choose_lawful (eqb byte 3) _ _ 32 (one_field digest id_met (λ id. limit.Collides id) 32 digest_lawful (λ id. refl))
    (weaken _ 5 32 (omega arith) (one_field full_text full_met (λ what. limit.Full what) 5 full_text_lawful (λ what. refl)))))

limit_text_lawful : Lawful limit_text 33
unfolding limit_text
limit_text_lawful = field_lawful _ _ _ 1 32 (u8_lawful 1 4 (omega arith)) (λ byte m f h. let w = number_within w8 1 4 byte f in limit_is byte m w.0 w.1 h) λ byte _. limit_behind_lawful byte

reason_is : (byte : ℕ) (r : Reason) → 1 ≤ byte → byte ≤ 7 → (reason_behind byte).fits r → reason_byte r ≡ byte
unfolding reason_behind
reason_is zero r low high h = absurd (omega arith)
reason_is (suc zero) r low high h = ap reason_byte h.1
reason_is (suc (suc zero)) r low high h = ap reason_byte h.1
reason_is (suc (suc (suc zero))) r low high h = ap reason_byte h.1
reason_is (suc (suc (suc (suc zero)))) r low high h = ap reason_byte h.1
reason_is (suc (suc (suc (suc (suc zero))))) r low high h = ap reason_byte h.1
reason_is (suc (suc (suc (suc (suc (suc zero)))))) r low high h = ap reason_byte h
reason_is (suc (suc (suc (suc (suc (suc (suc zero))))))) r low high h = ap reason_byte h.1
reason_is (suc (suc (suc (suc (suc (suc (suc (suc n)))))))) r low high h = absurd (omega arith)

reason_behind_lawful : (byte : ℕ) → Lawful (reason_behind byte) 33
unfolding reason_behind
reason_behind_lawful byte =
    choose_lawful (eqb byte 1) _ _ 33 (one_field limit_text limit_said (λ met. reason.Limit met) 33 limit_text_lawful (λ met. refl))
    (choose_lawful (eqb byte 2) _ _ 33 (weaken _ 4 33 (omega arith) (one_field any_u32_text number_said (λ at. reason.IllFormed at) 4 any_u32_lawful (λ at. refl)))
    (choose_lawful (eqb byte 3) _ _ 33 (weaken _ 32 33 (omega arith) (one_field digest id_said (λ given. reason.OtherRoster given) 32 digest_lawful (λ given. refl)))
    (choose_lawful (eqb byte 4) _ _ 33 (weaken _ 32 33 (omega arith) (one_field digest id_said (λ id. reason.Unknown id) 32 digest_lawful (λ id. refl)))
    (choose_lawful (eqb byte 5) _ _ 33 (weaken _ 32 33 (omega arith) (one_field digest id_said (λ id. reason.NoValue id) 32 digest_lawful (λ id. refl)))
    (choose_lawful (eqb byte 6) _ _ 33 (weaken _ 0 33 (omega arith) (made_lawful reason.Empty))
    (weaken _ 4 33 (omega arith) (one_field any_u32_text number_said (λ n. reason.Many n) 4 any_u32_lawful (λ n. refl))))))))

pub reason_text_lawful : Lawful reason_text 34
unfolding reason_text
reason_text_lawful = field_lawful _ _ _ 1 33 (u8_lawful 1 7 (omega arith)) (λ byte r f h. let w = number_within w8 1 7 byte f in reason_is byte r w.0 w.1 h) λ byte _. reason_behind_lawful byte
