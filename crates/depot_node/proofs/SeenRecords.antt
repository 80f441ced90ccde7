-- What is seen of a store, and what is inside.
use Rattle.std.proofs.Common.{◌≡◌, ℕ, ◌+◌, ◌≤◌, false, List, ◌++◌, length, map, take, drop, refl, sym, ap, subst, ◌∙◌}
use Rattle.depot_base.specs.WithRest.{with_rest}
use Rattle.depot_base.specs.declared.record.Record.{Record}
use Rattle.depot_model.specs.checks.Checks.{Setting}
use Rattle.depot_model.specs.journals.Lawful.{IsLawful}
use Rattle.depot_model.specs.texts.Records.{text_of_record}
use Rattle.depot_readings.specs.ReadingsView.{Known}
use Rattle.depot_readings.specs.RecordTexts.{given_of}
use Rattle.depot_node.specs.Holdings.{Holding, known, with_records, IsWhole}
use Rattle.depot_node.specs.JournalRecords.{AreRecordTexts, AreTextsFor, records_in_texts}
use Rattle.depot_node.proofs.JournalRecordLaws.{all_fit}
use Rattle.depot_node.proofs.JournalTexts.{IsReadTo, read_more}

-- the readings inside are what is known of the store
pub readings_are : {D : Type 0} (inside seen : Holding D) (r : Known) → inside ≡ seen → r.me ≡ inside.me → r.listed ≡ inside.listed → r.records ≡ inside.records → r ≡ known seen
readings_are {D} inside seen r same me listed records =
    let is : r ≡ known inside = λ i. record { me = me i; listed = listed i; records = records i } in
    is ∙ ap (λ (v : Holding D). known v) same

-- it runs inside too
pub runs_inside : {D : Type 0} (inside seen : Holding D) → inside ≡ seen → seen.stopped ≡ false → inside.stopped ≡ false
runs_inside {D} inside seen same runs = ap (λ (x : Holding D). x.stopped) same ∙ runs

-- and every record was read
pub whole_inside : {D : Type 0} (inside seen : Holding D) → inside ≡ seen → IsWhole seen → IsWhole inside
whole_inside {D} inside seen same whole = subst (λ (x : Holding D). IsWhole x) (sym same) whole

-- ---- texts of new records

-- records after which a journal is lawful have texts
pub new_texts : (here : Setting) (J new : List Record) → IsLawful here (J ++ new) → AreTextsFor new (map text_of_record new)
new_texts here J new l = record { fit = all_fit here J new l; are = refl }

-- those that a growth gives, with the rest after the last
pub given_texts : (here : Setting) (J new : List Record) (texts : List (List ℕ)) (rest : List ℕ) → IsLawful here (J ++ new) → with_rest texts (given_of new) ≡ map text_of_record new → rest ≡ given_of new → AreTextsFor new (with_rest texts rest)
given_texts here J new texts rest l are is = record { fit = all_fit here J new l; are = ap (with_rest texts) is ∙ are }

-- ---- more is read

pub read_seen : {D : Type 0} (here : Setting) (inside seen : Holding D) (n m : ℕ) (texts : List (List ℕ)) (J new : List Record) → inside ≡ seen → inside.unread ≡ drop n texts → AreRecordTexts (take n texts) → n ≤ length texts → m ≡ length (map text_of_record new)
    → IsLawful here (J ++ new) → (rest : List (List ℕ)) × (seen.unread ≡ map text_of_record new ++ rest) → IsReadTo (n + m) texts (records_in_texts (take n texts) ++ new) (drop (length new) (drop n texts))
read_seen {D} here inside seen n m texts J new same left t within many l next =
    read_more n m texts (map text_of_record new) next.0 new t within (new_texts here J new l) many (sym left ∙ ap (λ (x : Holding D). x.unread) same ∙ next.1)

-- the store then
pub view_read : {D : Type 0} (inside seen : Holding D) (r : Known) (J : List Record) (left : List (List ℕ)) (new : List Record) → inside ≡ seen → r ≡ record { me = inside.me; listed = inside.listed; records = inside.records ++ new } → J ≡ inside.records ++ new
    → left ≡ drop (length new) inside.unread → record { me = r.me; listed = r.listed; records = J; unread = left; stopped = inside.stopped; disk = inside.disk } ≡ with_records seen (seen.records ++ new) (drop (length new) seen.unread)
view_read {D} inside seen r J left new same is read rest =
    let there : record { me = r.me; listed = r.listed; records = J; unread = left; stopped = inside.stopped; disk = inside.disk } ≡ with_records inside (inside.records ++ new) (drop (length new) inside.unread) =
    λ i. record { me = (is i).me; listed = (is i).listed; records = read i; unread = rest i; stopped = inside.stopped; disk = inside.disk } in
    there ∙ ap (λ (x : Holding D). with_records x (x.records ++ new) (drop (length new) x.unread)) same
