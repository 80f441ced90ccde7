-- The records of the texts of records.
use Rattle.std.proofs.Common.{◌≡◌, List, [], ◌∷◌, ◌++◌, map, refl, sym, ap, subst, ◌∙◌, append_assoc}
use Rattle.std.specs.List.{AllByRecursion}
use Rattle.depot_base.specs.declared.record.Record.{Record}
use Rattle.depot_model.specs.checks.Checks.{Setting}
use Rattle.depot_model.specs.journals.Lawful.{IsLawful}
use Rattle.depot_model.specs.texts.Records.{IsRecord, text_of_record}
use Rattle.depot_model.proofs.of_texts.RecordLaws.{record_text_lawful}
use Rattle.depot_node.specs.JournalRecords.{listed_ok, record_of, records_in_texts}

-- ---- one text

-- the record of a record's text
pub record_of_text : (r : Record) → IsRecord r → record_of (text_of_record r) ≡ r ∷ []
unfolding record_of
record_of_text r fits = ap listed_ok (record_text_lawful.again 0 r fits)

-- ---- many texts

-- the records of the texts of records
pub records_of_texts : (rs : List Record) → AllByRecursion IsRecord rs → records_in_texts (map text_of_record rs) ≡ rs
records_of_texts [] all = refl
records_of_texts (r ∷ rs) all = ap (λ (xs : List Record). xs ++ records_in_texts (map text_of_record rs)) (record_of_text r all.0) ∙ ap (λ (xs : List Record). r ∷ xs) (records_of_texts rs all.1)

-- ---- the records of a lawful journal

-- each has a text, also of those after some
pub all_fit : (here : Setting) (front J : List Record) → IsLawful here (front ++ J) → AllByRecursion IsRecord J
all_fit here front [] l = tt
all_fit here front (r ∷ J) l = ((l.each front r J refl).text, all_fit here (front ++ r ∷ []) J (subst (λ (x : List Record). IsLawful here x) (sym (append_assoc front (r ∷ []) J)) l))
