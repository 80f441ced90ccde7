-- Worked examples of receipts that aren't true: for an update whose value isn't held, and for another than the accepted one.
use Rattle.std.proofs.Common.{◌≡◌, ℕ, List, [], ◌∷◌, ◌++◌, true, false, refl, ap, subst, ◌∙◌, inl, inr, length}
use Rattle.std.specs.Str.{bytes_eq}
use Rattle.std.proofs.lemmas.Bool.{iff_false}
use Rattle.std.proofs.lemmas.Slice.Eq.{bytes_eq-Decides}
use Rattle.sha2.specs.Sha256.{sha256, first_words, schedule, rounds, compress, hash_after, digest_bytes}
use Rattle.sha2.proofs.Facts256.{length-sha256}
use Rattle.depot_base.specs.Cursor.{numeral}
use Rattle.depot_base.specs.Format.{number, bytes_of, list_of}
use Rattle.depot_base.specs.Parts.{dep}
use Rattle.depot_base.specs.Zeros.{zeros}
use Rattle.depot_base.specs.Writes.{put_one}
use Rattle.depot_base.specs.declared.update.Update.{Update}
use Rattle.depot_base.specs.declared.statement.Statement.TheVariants as statements
use Rattle.depot_base.specs.declared.record.Record.{Record}
use Rattle.depot_base.specs.declared.record.Record.TheVariants.{Birth, OwnPut, Foreign, Held}
use Rattle.depot_model.specs.lists.Lists.{IsIn}
use Rattle.depot_model.specs.texts.Contents.{values_named}
use Rattle.depot_model.specs.journals.Journal.{first_values, holds}
use Rattle.depot_model.specs.texts.Texts.{update_fields, update_body, id_of_update}
use Rattle.depot_model.specs.worlds.Receipts.{receipt_key, HoldsAllOf, AreReceiptsTrue}

-- node 1 writes the value "a" under the key "k"
abbrev one : Update
one = record { writer = 1; seq = 0; clock = 1; prev = zeros; writes = put_one (107 ∷ []) (sha256 (97 ∷ [])) 1; deps = []; history = zeros }

abbrev told : Update → Record
told u = Foreign (record { statement = statements.Update u; body = []; signature = [] })

-- node 2 took it, and then its value
abbrev without : List Record
without = Birth 2 zeros ∷ told one ∷ []

abbrev with_value : List Record
with_value = without ++ Held (97 ∷ []) ∷ []

-- its receipt for an id
abbrev given : List ℕ → Update
given h = record { writer = 2; seq = 0; clock = 2; prev = zeros; writes = put_one (receipt_key h) (sha256 []) 0; deps = []; history = zeros }

abbrev gives : List ℕ → Record
gives h = OwnPut (given h) ([] ∷ [])

-- ---- the value isn't held

lacks : HoldsAllOf without (id_of_update one) → ⊥
unfolding sha256 first_words schedule rounds compress hash_after digest_bytes holds first_values
lacks h = not_held (elim h.known [ inl same ↦ h.held (record { hash = sha256 (97 ∷ []); size = 1 }) (subst (λ (t : Update). IsIn (record { hash = sha256 (97 ∷ []); size = 1 }) (values_named t)) same (inl refl)) | inr never ↦ absurd never ]) where
  not_held : false ≡ true → ⊥
  not_held met = cc

id_is_long : length (id_of_update one) ≡ 32
unfolding id_of_update
id_is_long = length-sha256 _

not_before_value : AreReceiptsTrue (without ++ gives (id_of_update one) ∷ []) → ⊥
unfolding receipt_key sha256 first_words schedule rounds compress hash_after digest_bytes numeral number bytes_of list_of dep update_fields update_body id_of_update
not_before_value a = lacks (a.each without (gives (id_of_update one)) [] (given (id_of_update one)) (id_of_update one) refl (inl refl) id_is_long refl)

-- ---- another update is accepted

not_zeros : bytes_eq (id_of_update one) zeros ≡ false
unfolding sha256 first_words schedule rounds compress hash_after digest_bytes numeral number bytes_of list_of dep update_fields update_body id_of_update
not_zeros = refl

another : HoldsAllOf with_value zeros → ⊥
another h = elim h.known [
  | inl same ↦ iff_false (bytes_eq-Decides (id_of_update one) zeros) not_zeros (ap id_of_update same ∙ h.id)
  | inr never ↦ never
]

not_for_another : AreReceiptsTrue (with_value ++ gives zeros ∷ []) → ⊥
unfolding receipt_key
not_for_another a = another (a.each with_value (gives zeros) [] (given zeros) zeros refl (inl refl) refl refl)
