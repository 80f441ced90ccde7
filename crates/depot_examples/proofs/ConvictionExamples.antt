-- Worked examples of what a verdict shows: each where it does, and the same with one part wrong, which shows nothing.
use Rattle.std.proofs.Common.{◌≡◌, [], ◌∷◌, true, false, refl, arith}
use Rattle.sha2.specs.Sha256.{sha256, first_words, schedule, rounds, compress, hash_after, digest_bytes}
use Rattle.depot_base.specs.Closed.{rest_of}
use Rattle.depot_base.specs.Cursor.{numeral}
use Rattle.depot_base.specs.Format.{number, bytes_of, inner, list_of}
use Rattle.depot_base.specs.Parts.{dep, write, marked}
use Rattle.depot_base.specs.declared.key.PublicKey.{PublicKey}
use Rattle.depot_base.specs.declared.voucher.Voucher.{Voucher}
use Rattle.depot_base.specs.declared.proof.Kind.{Kind}
use Rattle.depot_base.specs.declared.proof.Kind.TheVariants.{SameNumber, SamePrev, NotUpdate}
use Rattle.depot_base.specs.declared.proof.Proof.{Proof}
use Rattle.depot_base.specs.declared.proof.Proof.TheVariants.{Pair, Hollow}
use Rattle.depot_model.specs.declared.judgement.Verdict.{Verdict}
use Rattle.depot_model.specs.updates.Contradictions.{contradicts, is_of_kind, is_update_text, is_hollow}
use Rattle.depot_model.specs.updates.Conviction.{Shows}
use Rattle.depot_model.specs.texts.Texts.{statement, update_body, update_fields, voucher_fields}
use Rattle.depot_model.proofs.examples.Cast.{is_written, mark, signed_update, signed_voucher, forged, nine, nine_other, nine_more, two, vouch}

abbrev key_of_nine : PublicKey
key_of_nine = record { root = mark 9; height = 2 }

-- a verdict against node 9 of this kind
abbrev against : Kind → Verdict
against k = record { node = 9; kind = k }

abbrev IsShown : Kind → Proof → Type 0
IsShown k p = Shows is_written key_of_nine (against k) p

not_false : false ≡ true → ⊥
not_false met = absurd cc

-- ---- two statements

two_firsts : IsShown SameNumber (Pair SameNumber (signed_update nine) (signed_update nine_other))
unfolding contradicts is_of_kind statement update_body update_fields voucher_fields number bytes_of list_of dep numeral sha256 first_words schedule rounds compress hash_after digest_bytes
two_firsts = (refl, (record { writer = refl; verified = refl }, (record { writer = refl; verified = refl }, refl)))

-- two that don't contradict each other
not_agreeing : IsShown SameNumber (Pair SameNumber (signed_update nine) (signed_update nine_more)) → ⊥
unfolding contradicts is_of_kind statement update_body update_fields voucher_fields number bytes_of list_of dep numeral sha256 first_words schedule rounds compress hash_after digest_bytes
not_agreeing s = not_false s.1.1.1

-- nor ones of another kind than the verdict's
not_of_kind : IsShown SamePrev (Pair SameNumber (signed_update nine) (signed_update nine_other)) → ⊥
not_of_kind s = let same : SameNumber ≡ SamePrev = s.0 in cc

-- the first or the second isn't signed
first_unsigned : IsShown SameNumber (Pair SameNumber (forged nine) (signed_update nine_other)) → ⊥
unfolding statement update_body update_fields voucher_fields number bytes_of list_of dep numeral sha256 first_words schedule rounds compress hash_after digest_bytes
first_unsigned s = not_false s.1.0.verified

second_unsigned : IsShown SameNumber (Pair SameNumber (signed_update nine) (forged nine_other)) → ⊥
unfolding statement update_body update_fields voucher_fields number bytes_of list_of dep numeral sha256 first_words schedule rounds compress hash_after digest_bytes
second_unsigned s = not_false s.1.1.0.verified

-- the second is another node's
second_of_another : IsShown SameNumber (Pair SameNumber (signed_update nine) (signed_update two)) → ⊥
second_of_another s = let met : 2 ≡ 9 = s.1.1.0.writer in omega (arith, met)

-- ---- a voucher and a text

-- node 9 vouches for a text of one byte
abbrev for_nothing : Voucher
for_nothing = vouch 9 0 (sha256 (0 ∷ []) ∷ [])

no_update : IsShown NotUpdate (Hollow (signed_voucher for_nothing) (0 ∷ []))
unfolding is_hollow is_update_text rest_of inner write marked statement update_body update_fields voucher_fields number bytes_of list_of dep numeral sha256 first_words schedule rounds compress hash_after digest_bytes
no_update = (refl, (record { writer = refl; verified = refl }, refl))

-- a text that the voucher doesn't name
not_named : IsShown NotUpdate (Hollow (signed_voucher for_nothing) (1 ∷ [])) → ⊥
unfolding is_hollow is_update_text rest_of inner write marked statement update_body update_fields voucher_fields number bytes_of list_of dep numeral sha256 first_words schedule rounds compress hash_after digest_bytes
not_named s = not_false s.1.1

-- a voucher that isn't signed
voucher_unsigned : IsShown NotUpdate (Hollow (record (signed_voucher for_nothing) { signature = [] }) (0 ∷ [])) → ⊥
unfolding statement update_fields voucher_fields number bytes_of list_of dep numeral sha256 first_words schedule rounds compress hash_after digest_bytes
voucher_unsigned s = not_false s.1.0.verified

-- one of another node
voucher_of_another : IsShown NotUpdate (Hollow (signed_voucher (vouch 2 0 (sha256 (0 ∷ []) ∷ []))) (0 ∷ [])) → ⊥
voucher_of_another s = let met : 2 ≡ 9 = s.1.0.writer in omega (arith, met)
