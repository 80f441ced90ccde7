-- Worked receipts: whose values are held, who gave one, and which keys are theirs.
use Rattle.std.proofs.Common.{◌≡◌, ℕ, List, [], ◌∷◌, ◌++◌, Some, None, refl, sym, inl, inr, replicate}
use Rattle.std.specs.Prelude.{codes}
use Rattle.sha2.specs.Sha256.{sha256, first_words, schedule, rounds, compress, hash_after, digest_bytes}
use Rattle.depot_base.specs.Cursor.{numeral}
use Rattle.depot_base.specs.Format.{number, bytes_of, list_of}
use Rattle.depot_base.specs.Parts.{dep}
use Rattle.depot_base.specs.Zeros.{zeros}
use Rattle.depot_base.specs.Writes.{put_one}
use Rattle.depot_base.specs.declared.update.Update.{Update}
use Rattle.depot_base.specs.declared.statement.Statement.TheVariants as statements
use Rattle.depot_base.specs.declared.record.Record.{Record}
use Rattle.depot_base.specs.declared.record.Record.TheVariants.{Birth, OwnPut, Foreign, Held}
use Rattle.depot_model.specs.journals.Journal.{first_values, has_id, holds}
use Rattle.depot_model.specs.texts.Texts.{update_fields, update_body, id_of_update}
use Rattle.depot_model.specs.worlds.Receipts.{receipt_key, receipt_of, put_number, numbers_rising, receipts, no_receipt, unknown, lacks_value, AreReceiptsTrue}
use Rattle.depot_laws.proofs.of_audits.TrueReceipts.{no_receipts_yet, silent_is_true, receipt_put_is_true}

-- node 1 writes the value "a" under the key "k"
abbrev one : Update
one = record { writer = 1; seq = 0; clock = 1; prev = zeros; writes = put_one (107 ∷ []) (sha256 (97 ∷ [])) 1; deps = []; history = zeros }

abbrev told : Update → Record
told u = Foreign (record { statement = statements.Update u; body = []; signature = [] })

-- a receipt of a node for an id
abbrev given : ℕ → List ℕ → Update
given n h = record { writer = n; seq = 0; clock = 2; prev = zeros; writes = put_one (receipt_key h) (sha256 []) 0; deps = []; history = zeros }

-- node 2 took the update, but not its value
abbrev without : List Record
without = Birth 2 zeros ∷ told one ∷ []

-- and then its value
abbrev with_value : List Record
with_value = Birth 2 zeros ∷ told one ∷ Held (97 ∷ []) ∷ []

abbrev id : List ℕ
id = id_of_update one

-- no receipt before the value is held
lacks_its_value : no_receipt without (id ∷ []) ≡ Some (lacks_value id)
unfolding sha256 first_words schedule rounds compress hash_after digest_bytes numeral number bytes_of list_of dep update_fields update_body id_of_update no_receipt has_id holds first_values
lacks_its_value = refl

-- none for an id that no accepted update has, which is asked of all ids first
lacks_the_other : no_receipt without (id ∷ zeros ∷ []) ≡ Some (unknown zeros)
unfolding sha256 first_words schedule rounds compress hash_after digest_bytes numeral number bytes_of list_of dep update_fields update_body id_of_update no_receipt has_id holds first_values
lacks_the_other = refl

-- one when it is held
is_due : no_receipt with_value (id ∷ []) ≡ None
unfolding sha256 first_words schedule rounds compress hash_after digest_bytes numeral number bytes_of list_of dep update_fields update_body id_of_update no_receipt has_id holds first_values
is_due = refl

-- two nodes gave one for zeros, one of them twice; a receipt for another id doesn't count
givers : receipts (told (given 3 zeros) ∷ told (given 2 zeros) ∷ told (given 4 (replicate 32 1)) ∷ told (given 3 zeros) ∷ []) zeros ≡ 2 ∷ 3 ∷ []
unfolding receipt_key numbers_rising put_number
givers = refl

-- the key of zeros
its_key : receipt_of (codes "receipt:" ++ zeros) ≡ Some zeros
unfolding receipt_of
its_key = refl

-- a key of another length, and one of another word
too_short : receipt_of (codes "receipt:" ++ replicate 31 0) ≡ None
unfolding receipt_of
too_short = refl

another_word : receipt_of (codes "Receipt:" ++ zeros) ≡ None
unfolding receipt_of
another_word = refl

-- ---- true receipts

-- a receipt for what is held
true_receipt : AreReceiptsTrue (with_value ++ OwnPut (given 2 id) ([] ∷ []) ∷ [])
true_receipt = receipt_put_is_true with_value (given 2 id) ([] ∷ []) (id ∷ []) is_due (λ key on. elim on [
  | inl same ↦ (id, (inl refl, sym same))
  | inr never ↦ absurd never
]) (silent_is_true [] with_value refl no_receipts_yet)

-- not one for an update that wasn't accepted
false_receipt : AreReceiptsTrue (Birth 2 zeros ∷ OwnPut (given 2 zeros) ([] ∷ []) ∷ []) → ⊥
unfolding receipt_key
false_receipt a = (a.each (Birth 2 zeros ∷ []) (OwnPut (given 2 zeros) ([] ∷ [])) [] (given 2 zeros) zeros refl (inl refl) refl refl).known

-- the same put under another node's name asks nothing: what a node took may speak of anything
taken_receipt : AreReceiptsTrue (Birth 2 zeros ∷ told (given 3 zeros) ∷ [])
taken_receipt = silent_is_true [] (Birth 2 zeros ∷ told (given 3 zeros) ∷ []) refl no_receipts_yet
