-- The records of a journal's texts.
use Rattle.std.specs.Prelude.{◌≡◌, ℕ, List, [], ◌∷◌, Result, Ok, Err, map}
use Rattle.std.specs.List.{flat_map, AllByRecursion}
use Rattle.depot_base.specs.declared.record.Record.{Record}
use Rattle.depot_model.specs.texts.Records.{record_text, IsRecord, text_of_record}

abbrev pub listed_ok : {V E : Type 0} → Result V E → List V
listed_ok (Ok v) = v ∷ []
listed_ok (Err e) = []

-- the record of a text, if it is a record's
unfoldable pub record_of : List ℕ → List Record
record_of text = listed_ok (record_text.read (record { at = 0; rest = text }))

-- the records of texts
abbrev pub records_in_texts : List (List ℕ) → List Record
records_in_texts texts = flat_map record_of texts

-- each is the text of a record
pub record AreRecordTexts (texts : List (List ℕ)) : Type 0 where
  pub fit : AllByRecursion IsRecord (records_in_texts texts)
  pub are : texts ≡ map text_of_record (records_in_texts texts)

-- these are the texts of these records
pub record AreTextsFor (new : List Record) (texts : List (List ℕ)) : Type 0 where
  pub fit : AllByRecursion IsRecord new
  pub are : texts ≡ map text_of_record new
