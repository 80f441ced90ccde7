-- Worked examples of contradictions, proofs and what a judge says of them.
use Rattle.std.proofs.Common.{◌≡◌, [], ◌∷◌, true, false, Option, Some, None, Ok, refl, sym, rules}
use Rattle.sha2.specs.Sha256.{sha256, first_words, schedule, rounds, compress, hash_after, digest_bytes}
use Rattle.depot_base.specs.Cursor.{numeral}
use Rattle.depot_base.specs.Format.{number, bytes_of, inner, list_of}
use Rattle.depot_base.specs.Parts.{dep}
use Rattle.depot_base.specs.Zeros.{zeros}
use Rattle.depot_base.specs.declared.key.PublicKey.{PublicKey}
use Rattle.depot_base.specs.declared.proof.Kind.TheVariants.{SameNumber, SamePrev, Backward}
use Rattle.depot_base.specs.declared.proof.Proof.{Proof}
use Rattle.depot_base.specs.declared.statement.Signed.{Signed}
use Rattle.depot_base.specs.declared.statement.Statement.TheVariants as statement
use Rattle.depot_base.specs.declared.statement.Statement.{Statement}
use Rattle.depot_base.specs.declared.update.Update.{Update}
use Rattle.depot_model.specs.updates.Contradictions.{is_of_kind, contradicts, kind_of}
use Rattle.depot_model.specs.updates.Conviction.{proof_of, Convicts}
use Rattle.depot_model.specs.updates.Judgement.{points, first_failed_point, verdict_of, IsTextOfProof, IsJudgementOf}
use Rattle.depot_model.specs.texts.Roster.{key_of, is_signed}
use Rattle.depot_model.specs.texts.Texts.{update_fields, voucher_fields, update_body, statement, signed, proof, text_of_proof, id_of_update}
use Rattle.depot_model.specs.declared.judgement.Half.TheVariants.{First, Second}
use Rattle.depot_model.specs.declared.judgement.JudgeError.TheVariants as point
use Rattle.depot_model.specs.declared.judgement.JudgeError.{JudgeError}
use Rattle.depot_model.proofs.examples.Cast.{mark, member, members, is_written, signed_update, forged, first_of, one, two, nine, nine_more, nine_other, vouch, pair, against_nine}

abbrev of_update : Update → Statement
of_update u = statement.Update u

abbrev voucher : Statement
voucher = statement.Voucher (vouch 9 0 (zeros ∷ []))

-- the update of node 9 after its first, with the seq of the first; with its clock
abbrev same_seq : Update
same_seq = record nine_more { seq = 0 }

abbrev same_clock : Update
same_clock = record nine_more { clock = 1 }

record EachKind : Type 0 where
  -- one seq, also of a voucher and an update, and of two vouchers
  pub same_number : contradicts SameNumber (of_update nine) (of_update nine_other) ≡ true
  pub other_number : contradicts SameNumber (of_update nine) (of_update nine_more) ≡ false
  pub voucher_number : contradicts SameNumber (of_update nine) voucher ≡ true
  pub vouchers_number : contradicts SameNumber voucher (statement.Voucher (vouch 9 0 (mark 1 ∷ []))) ≡ true
  -- one prev, be it zeros or an update's; never a voucher's
  pub same_prev : contradicts SamePrev (of_update nine) (of_update (record nine_other { seq = 1 })) ≡ true
  pub same_later_prev : contradicts SamePrev (of_update nine_more) (of_update (record nine_more { seq = 2 })) ≡ true
  pub other_prev : contradicts SamePrev (of_update nine) (of_update nine_more) ≡ false
  pub voucher_prev : contradicts SamePrev (of_update nine) voucher ≡ false
  -- the one names the other as its prev without rising above it, in seq or in clock; whichever is reported first
  pub back_in_seq : contradicts Backward (of_update nine) (of_update same_seq) ≡ true
  pub back_in_clock : contradicts Backward (of_update nine) (of_update same_clock) ≡ true
  pub back_turned : contradicts Backward (of_update same_clock) (of_update nine) ≡ true
  pub forward : contradicts Backward (of_update nine) (of_update nine_more) ≡ false
  -- after no prev nothing steps back
  pub apart : contradicts Backward (of_update nine) (of_update nine_other) ≡ false

each_kind : EachKind
unfolding sha256 first_words schedule rounds compress hash_after digest_bytes numeral bytes_of list_of number dep contradicts is_of_kind id_of_update statement update_body update_fields voucher_fields
each_kind = record { same_number = refl; other_number = refl; voucher_number = refl; vouchers_number = refl; same_prev = refl; same_later_prev = refl; other_prev = refl; voucher_prev = refl; back_in_seq = refl; back_in_clock = refl; back_turned = refl; forward = refl; apart = refl }

record WhichContradict : Type 0 where
  -- never two writers, nor one body
  pub two_writers : contradicts SameNumber (of_update two) (of_update nine) ≡ false
  pub one_body : contradicts SameNumber (of_update nine) (of_update nine) ≡ false
  -- the first kind of the table
  pub number_first : kind_of (of_update nine) (of_update nine_other) ≡ Some SameNumber
  pub number_before_back : kind_of (of_update nine) (of_update same_seq) ≡ Some SameNumber
  pub then_prev : kind_of (of_update nine) (of_update (record nine_other { seq = 1 })) ≡ Some SamePrev
  pub then_back : kind_of (of_update nine) (of_update same_clock) ≡ Some Backward
  pub none : kind_of (of_update nine) (of_update nine_more) ≡ None

which_contradict : WhichContradict
unfolding sha256 first_words schedule rounds compress hash_after digest_bytes numeral bytes_of list_of number dep contradicts is_of_kind kind_of id_of_update statement update_body update_fields voucher_fields
which_contradict = record { two_writers = refl; one_body = refl; number_first = refl; number_before_back = refl; then_prev = refl; then_back = refl; none = refl }

record MakingAProof : Type 0 where
  -- the smaller body first, whichever is given first
  pub in_order : proof_of SameNumber (signed_update nine) (signed_update nine_other) ≡ against_nine
  pub turned : proof_of SameNumber (signed_update nine_other) (signed_update nine) ≡ against_nine

making_a_proof : MakingAProof
unfolding numeral bytes_of list_of number dep proof_of statement update_fields voucher_fields
making_a_proof = record { in_order = refl; turned = refl }

-- ---- a judge

abbrev judged : Proof → Option JudgeError
judged p = first_failed_point is_written members p

abbrev seven : Signed
seven = signed_update (first_of 7 55)

record EachPoint : Type 0 where
  pub good : judged against_nine ≡ None
  pub first_unknown : judged (pair SameNumber seven (signed_update nine)) ≡ Some (point.UnknownWriter 7)
  pub second_unknown : judged (pair SameNumber (forged nine) seven) ≡ Some (point.UnknownWriter 7)
  pub first_unsigned : judged (pair SameNumber (forged nine) (forged nine_other)) ≡ Some (point.BadSignature First)
  pub second_unsigned : judged (pair SameNumber (signed_update two) (forged nine)) ≡ Some (point.BadSignature Second)
  -- the two writers, as they are
  pub two_writers : judged (pair SameNumber (signed_update nine) (signed_update two)) ≡ Some (point.TwoWriters 9 2)
  pub same : judged (pair Backward (signed_update nine) (signed_update nine)) ≡ Some point.Same
  pub wrong_order : judged (pair Backward (signed_update nine_other) (signed_update nine)) ≡ Some point.WrongOrder
  pub wrong_kind : judged (pair Backward (signed_update nine) (signed_update nine_other)) ≡ Some (point.NotContradictory Backward)
  -- a judge is no node: each may be accused
  pub any_node : judged (pair SameNumber (signed_update one) (signed_update (first_of 1 50))) ≡ None
  pub verdict : verdict_of against_nine ≡ record { node = 9; kind = SameNumber }

each_point : EachPoint
unfolding sha256 first_words schedule rounds compress hash_after digest_bytes numeral bytes_of list_of number dep contradicts is_of_kind points is_signed key_of id_of_update statement update_body update_fields voucher_fields
each_point = record { good = refl; first_unknown = refl; second_unknown = refl; first_unsigned = refl; second_unsigned = refl; two_writers = refl; same = refl; wrong_order = refl; wrong_kind = refl; any_node = refl; verdict = refl }

-- ---- texts of proofs

against_nine_is_a_proof : IsTextOfProof (text_of_proof against_nine) against_nine
unfolding numeral bytes_of inner list_of number dep proof signed statement update_fields voucher_fields
against_nine_is_a_proof = record { fits = search rules; is = refl }

-- a judge gives its verdict, and no other
judgement : IsJudgementOf is_written members (text_of_proof against_nine) (Ok (record { node = 9; kind = SameNumber }))
unfolding sha256 first_words schedule rounds compress hash_after digest_bytes numeral bytes_of inner list_of number dep contradicts is_of_kind points is_signed key_of id_of_update proof signed statement update_body update_fields voucher_fields
judgement = (against_nine, (against_nine_is_a_proof, (refl, refl)))

-- what the verdict says is shown
shown : Convicts is_written members (text_of_proof against_nine) (record { node = 9; kind = SameNumber })
unfolding sha256 first_words schedule rounds compress hash_after digest_bytes numeral bytes_of inner list_of number dep contradicts is_of_kind key_of id_of_update proof signed statement update_body update_fields voucher_fields
shown = record {
  proof = against_nine;
  key = record { root = mark 9; height = 2 };
  shown = against_nine_is_a_proof;
  of_roster = refl;
  shows = (refl, (record { writer = refl; verified = refl }, (record { writer = refl; verified = refl }, refl)));
}

-- the same text shows nothing of a node that the roster doesn't have
not_of_a_stranger : Convicts is_written (member 1 ∷ member 2 ∷ []) (text_of_proof against_nine) (record { node = 9; kind = SameNumber }) → ⊥
unfolding key_of
not_of_a_stranger c = key_is_not_none c.key (sym c.of_roster) where
  key_is_not_none : (key : PublicKey) → Some key ≡ None → ⊥
  key_is_not_none key met = absurd cc
