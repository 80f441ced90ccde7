-- Worked examples of hollow proofs: when a voucher and a text are one, what a judge and a node say of them, and their text.
use Rattle.std.proofs.Common.{◌≡◌, ℕ, List, [], ◌∷◌, ◌++◌, true, false, Option, Some, None, Ok, Err, refl, rules}
use Rattle.sha2.specs.Sha256.{sha256, first_words, schedule, rounds, compress, hash_after, digest_bytes}
use Rattle.depot_base.specs.Cursor.{numeral}
use Rattle.depot_base.specs.Format.{number, bytes_of, inner, list_of}
use Rattle.depot_base.specs.Parts.{dep, write, marked}
use Rattle.depot_base.specs.declared.check.Check.TheVariants as check
use Rattle.depot_base.specs.declared.check.Check.{Check}
use Rattle.depot_base.specs.declared.statement.Statement.TheVariants as statements
use Rattle.depot_base.specs.declared.update.Update.{Update}
use Rattle.depot_base.specs.declared.voucher.Voucher.{Voucher}
use Rattle.depot_base.specs.declared.write.Wrote.TheVariants.{Gone}
use Rattle.depot_base.specs.declared.proof.Kind.TheVariants.{NotUpdate}
use Rattle.depot_base.specs.declared.proof.Proof.{Proof}
use Rattle.depot_base.specs.declared.proof.Proof.TheVariants.{Hollow}
use Rattle.depot_base.specs.declared.record.Record.TheVariants.{Conviction}
use Rattle.depot_model.specs.declared.judgement.JudgeError.{JudgeError}
use Rattle.depot_model.specs.declared.judgement.JudgeError.TheVariants as point
use Rattle.depot_model.specs.declared.judgement.Half.TheVariants.{First}
use Rattle.depot_model.specs.declared.taken.Taken.TheVariants.{New, Known}
use Rattle.depot_model.specs.texts.Texts.{update_fields, voucher_fields, update_body, statement, signed, proof, id_of_update, id_of_statement, text_of_update, text_of_statement, text_of_proof}
use Rattle.depot_model.specs.updates.Order.{past}
use Rattle.depot_model.specs.updates.History.{leaves_of, put_by_id, by_id, history_text, history_hash}
use Rattle.depot_model.specs.texts.Roster.{key_of, is_signed}
use Rattle.depot_model.specs.updates.Contradictions.{is_of_kind, contradicts, kind_of, is_update_text, is_hollow}
use Rattle.depot_model.specs.updates.Judgement.{points, first_failed_point, verdict_of, IsTextOfProof, IsJudgementOf}
use Rattle.depot_model.specs.updates.Conviction.{Convicts}
use Rattle.depot_model.specs.journals.Journal.{first_values, has_id, named, is_convicted, is_vouched, holds_hash, is_wanted}
use Rattle.depot_model.specs.checks.Checks.{sight, content_checks, opponent, forked, refused_as_convicted, statement_checks, proof_checks, first_failed_check, is_known, answer_to, due, named_opponent, added, growth, given_statement, given_proof}
use Rattle.depot_model.proofs.examples.Cast.{members, is_written, here, mark, signed_update, signed_voucher, two, nine, vouch, born, nine_convicted}

-- node 9 vouches for SHA-256 of one zero byte
abbrev for_nothing : Voucher
for_nothing = vouch 9 0 (sha256 (0 ∷ []) ∷ [])

abbrev hollow : Voucher → List ℕ → Proof
hollow v text = Hollow (signed_voucher v) text

abbrev against : Proof
against = hollow for_nothing (0 ∷ [])

-- a voucher of node 9 for one text
abbrev naming : List ℕ → Voucher
naming text = vouch 9 0 (sha256 text ∷ [])

-- an update with the text of version 2
abbrev deletion : Update
deletion = record two { writes = record { key = 107 ∷ []; what = Gone } ∷ [] }

-- ---- a voucher and a text

record WhichAreHollow : Type 0 where
  pub named : is_hollow (statements.Voucher for_nothing) (0 ∷ []) ≡ true
  -- the text of no bytes too, and that of a voucher
  pub empty : is_hollow (statements.Voucher (naming [])) [] ≡ true
  pub voucher : is_hollow (statements.Voucher (naming (text_of_statement (statements.Voucher for_nothing)))) (text_of_statement (statements.Voucher for_nothing)) ≡ true
  -- one of several
  pub second : is_hollow (statements.Voucher (vouch 9 0 (id_of_update two ∷ sha256 (0 ∷ []) ∷ []))) (0 ∷ []) ≡ true
  -- a text that it doesn't name
  pub other : is_hollow (statements.Voucher for_nothing) (1 ∷ []) ≡ false
  -- that of an update, in either version
  pub update : is_hollow (statements.Voucher (naming (text_of_update two))) (text_of_update two) ≡ false
  pub later : is_hollow (statements.Voucher (naming (text_of_update deletion))) (text_of_update deletion) ≡ false
  -- a statement that is no voucher
  pub no_voucher : is_hollow (statements.Update nine) (0 ∷ []) ≡ false

which_are_hollow : WhichAreHollow
unfolding sha256 first_words schedule rounds compress hash_after digest_bytes numeral bytes_of list_of number dep write marked is_update_text is_hollow id_of_update statement update_body update_fields voucher_fields
which_are_hollow = record { named = refl; empty = refl; voucher = refl; second = refl; other = refl; update = refl; later = refl; no_voucher = refl }

-- ---- a judge

abbrev judged : Proof → Option JudgeError
judged p = first_failed_point is_written members p

record EachPoint : Type 0 where
  pub good : judged against ≡ None
  pub unknown : judged (hollow (vouch 7 0 (sha256 (0 ∷ []) ∷ [])) (0 ∷ [])) ≡ Some (point.UnknownWriter 7)
  pub unsigned : judged (Hollow (record (signed_voucher for_nothing) { signature = [] }) (0 ∷ [])) ≡ Some (point.BadSignature First)
  pub unnamed : judged (hollow for_nothing []) ≡ Some (point.NotContradictory NotUpdate)
  pub an_update : judged (hollow (naming (text_of_update two)) (text_of_update two)) ≡ Some (point.NotContradictory NotUpdate)
  pub no_voucher : judged (Hollow (signed_update nine) (0 ∷ [])) ≡ Some (point.NotContradictory NotUpdate)
  -- the signature before the text
  pub unsigned_first : judged (Hollow (record (signed_voucher for_nothing) { signature = [] }) []) ≡ Some (point.BadSignature First)
  pub verdict : verdict_of against ≡ record { node = 9; kind = NotUpdate }

each_point : EachPoint
unfolding sha256 first_words schedule rounds compress hash_after digest_bytes numeral bytes_of list_of number dep write marked is_update_text is_hollow points is_signed key_of id_of_update statement update_body update_fields voucher_fields
each_point = record { good = refl; unknown = refl; unsigned = refl; unnamed = refl; an_update = refl; no_voucher = refl; unsigned_first = refl; verdict = refl }

-- ---- its text

against_is_a_proof : IsTextOfProof (text_of_proof against) against
unfolding sha256 first_words schedule rounds compress hash_after digest_bytes numeral bytes_of inner list_of number dep proof signed statement update_fields voucher_fields
against_is_a_proof = record { fits = search rules; is = refl }

judgement : IsJudgementOf is_written members (text_of_proof against) (Ok (record { node = 9; kind = NotUpdate }))
unfolding sha256 first_words schedule rounds compress hash_after digest_bytes numeral bytes_of inner list_of number dep is_update_text is_hollow points is_signed key_of proof signed statement update_body update_fields voucher_fields
judgement = (against, (against_is_a_proof, (refl, refl)))

-- what the verdict says is shown
shows_it : Convicts is_written members (text_of_proof against) (record { node = 9; kind = NotUpdate })
unfolding sha256 first_words schedule rounds compress hash_after digest_bytes numeral bytes_of inner list_of number dep is_update_text is_hollow key_of proof signed statement update_body update_fields voucher_fields
shows_it = record { proof = against; key = record { root = mark 9; height = 2 }; shown = against_is_a_proof; of_roster = refl; shows = (refl, (record { writer = refl; verified = refl }, refl)) }

-- ---- a node

abbrev says : Proof → Option Check
says p = first_failed_check here born (given_proof p)

record WhatANodeSays : Type 0 where
  pub taken : answer_to here born (given_proof against) ≡ Ok New
  pub grows : growth here born (given_proof against) ≡ Conviction against ∷ []
  -- what its node then signs is refused
  pub then_refused : answer_to here (born ++ Conviction against ∷ []) (given_statement (signed_update nine)) ≡ Err (check.Convicted 9)
  -- against a convicted node it is known
  pub known : answer_to here nine_convicted (given_proof against) ≡ Ok Known
  pub unknown : says (hollow (vouch 7 0 (sha256 (0 ∷ []) ∷ [])) (0 ∷ [])) ≡ Some (check.UnknownWriter 7)
  pub unsigned : says (Hollow (record (signed_voucher for_nothing) { signature = [] }) (0 ∷ [])) ≡ Some (check.BadSignature 9)
  pub unnamed : says (hollow for_nothing []) ≡ Some check.NotContradictory
  pub against_me : says (hollow (vouch 1 0 (sha256 (0 ∷ []) ∷ [])) (0 ∷ [])) ≡ Some check.AgainstMe
  -- a bad one against this node isn't hollow first
  pub bad_against_me : says (hollow (vouch 1 0 (sha256 (0 ∷ []) ∷ [])) []) ≡ Some check.NotContradictory

what_a_node_says : WhatANodeSays
unfolding sha256 first_words schedule rounds compress hash_after digest_bytes numeral bytes_of inner list_of number dep write marked is_update_text is_hollow added answer_to content_checks due first_failed_check forked growth is_known named_opponent opponent proof_checks points refused_as_convicted sight statement_checks contradicts is_of_kind kind_of by_id history_hash history_text leaves_of put_by_id first_values has_id holds_hash is_convicted is_vouched is_wanted named past is_signed key_of id_of_statement id_of_update statement update_body update_fields voucher_fields
what_a_node_says = record { taken = refl; grows = refl; then_refused = refl; known = refl; unknown = refl; unsigned = refl; unnamed = refl; against_me = refl; bad_against_me = refl }
