-- Starts from a file with the records of a lawful journal: none is refused for what is there.
use Rattle.std.proofs.Common.{◌≡◌, ℕ, Bool, IsTrue, List, [], ◌∷◌, ◌++◌, map, Some, is_some, refl, sym, ap, subst, ◌∙◌, append_assoc}
use Rattle.std.proofs.lemmas.Bool.{both_ways}
use Rattle.std.proofs.lemmas.List.{append-nil}
use Rattle.depot_base.specs.File.{IsFileOf}
use Rattle.depot_base.specs.declared.key.PublicKey.{PublicKey}
use Rattle.depot_base.specs.declared.record.Record.{Record}
use Rattle.depot_base.specs.declared.record.Record.TheVariants.{Birth}
use Rattle.depot_journal.proofs.OneList.{not_damaged, one_list}
use Rattle.depot_model.specs.declared.record_fault.RecordFault.{RecordFault}
use Rattle.depot_model.specs.checks.Checks.{Setting}
use Rattle.depot_model.specs.journals.Lawful.{IsAllowed, IsLawful}
use Rattle.depot_model.specs.checks.RecordFaults.{IsFault, HaveFaultAt}
use Rattle.depot_model.specs.texts.Records.{text_of_record}
use Rattle.depot_model.specs.texts.Roster.{key_of, has_node}
use Rattle.depot_model.specs.journals.Stops.{HasRecords}
use Rattle.depot_model.specs.texts.Texts.{hash_of_roster}
use Rattle.depot_node.specs.JournalRecords.{records_in_texts}
use Rattle.depot_node.proofs.JournalRecordLaws.{all_fit, records_of_texts}
use Rattle.depot_node.specs.Starting.{BeginWithBirth, IsNotStarted, IsStartedFrom, LeavesFile, OfFile, started}
use Rattle.depot_node.specs.declared.start_error.StartError.{StartError}
use Rattle.depot_node.specs.declared.start_error.StartError.TheVariants as refused
use Rattle.depot_laws.proofs.records.FaultLaws.{one_record, no_fault}

-- ---- births

-- the birth with which the texts of a lawful journal begin is the node's own
first_is_own : (here : Setting) (J : List Record) (node : ℕ) (roster : List ℕ) → IsLawful here J → BeginWithBirth (map text_of_record J) node roster → (node ≡ here.me) × (roster ≡ hash_of_roster here.listed)
first_is_own here [] node roster l b = let never = b.is in absurd cc
first_is_own here (r ∷ J) node roster l b =
    let allowed : IsAllowed here [] r = l.each [] r J refl in
    let texts : text_of_record r ∷ map text_of_record J ≡ text_of_record (Birth node roster) ∷ b.rest = b.is in
    let text : text_of_record r ≡ text_of_record (Birth node roster) = cc in
    let same : r ≡ Birth node roster = one_record r (Birth node roster) allowed.text b.fits text in
    (subst (λ (x : Record). IsAllowed here [] x) same allowed).may

-- ---- faults

-- where a text is among those of a journal after those of some records
record StandsBehind (J before : List Record) (text : List ℕ) : Type 0 where
  pub one : Record
  pub after : List Record
  pub is : J ≡ before ++ one ∷ after
  pub text_is : text ≡ text_of_record one

stands_behind : (here : Setting) (front before J : List Record) (text : List ℕ) (after : List (List ℕ)) → IsLawful here (front ++ J) → IsLawful here (front ++ before) → map text_of_record before ++ text ∷ after ≡ map text_of_record J → StandsBehind (front ++ J) (front ++ before) text
stands_behind here front [] [] text after l m is = absurd cc
stands_behind here front [] (r ∷ J) text after l m is = record {
  one = r;
  after = J;
  is = ap (λ (x : List Record). x ++ r ∷ J) (sym (append-nil front));
  text_is = cc;
}
stands_behind here front (b ∷ before) [] text after l m is = absurd cc
stands_behind here front (b ∷ before) (r ∷ J) text after l m is =
    let first : text_of_record b ≡ text_of_record r = cc in
    let rest : map text_of_record before ++ text ∷ after ≡ map text_of_record J = cc in
    let same : b ≡ r = one_record b r (m.each front b before refl).text (l.each front r J refl).text first in
    let behind : front ++ b ∷ J ≡ front ++ r ∷ J = ap (λ (x : Record). front ++ x ∷ J) same in
    let more : IsLawful here ((front ++ b ∷ []) ++ J) = subst (λ (x : List Record). IsLawful here x) (sym (append_assoc front (b ∷ []) J ∙ behind)) l in
    let fewer : IsLawful here ((front ++ b ∷ []) ++ before) = subst (λ (x : List Record). IsLawful here x) (sym (append_assoc front (b ∷ []) before)) m in
    let s = stands_behind here (front ++ b ∷ []) before J text after more fewer rest in
    record {
      one = s.one;
      after = s.after;
      is = sym (append_assoc front (b ∷ []) J ∙ behind) ∙ s.is ∙ ap (λ (x : List Record). x ++ s.one ∷ s.after) (append_assoc front (b ∷ []) before);
      text_is = s.text_is;
    }

-- the texts of a lawful journal have no fault
no_fault_at : (here : Setting) (J : List Record) (place : ℕ) (f : RecordFault) → IsLawful here J → HaveFaultAt here (map text_of_record J) place f → ⊥
no_fault_at here J place f l w =
    let s = stands_behind here [] w.before J w.text w.after l w.lawful (sym w.parts) in
    no_fault here w.before s.one f (l.each w.before s.one s.after s.is) (subst (λ (t : List ℕ). IsFault here w.before t f) s.text_is w.wrong)

-- where the file of a lawful journal begins with a birth, it is the node's own
own_birth : (here : Setting) (file : List ℕ) (J : List Record) (node : ℕ) (roster : List ℕ) (texts : List (List ℕ)) → HasRecords J file → IsLawful here J → IsFileOf file texts → BeginWithBirth texts node roster → (node ≡ here.me) × (roster ≡ hash_of_roster here.listed)
own_birth here file J node roster texts has l is begins = first_is_own here J node roster l (subst (λ (ts : List (List ℕ)). BeginWithBirth ts node roster) (one_list file texts (map text_of_record J) is has) begins)

-- so it isn't another node's
other_node : (here : Setting) (file : List ℕ) (J : List Record) (node : ℕ) → HasRecords J file → IsLawful here J → OfFile file (λ texts. (roster : List ℕ) × BeginWithBirth texts node roster) → node ≡ here.me
other_node here file J node has l (texts, (is, (roster, begins))) = (own_birth here file J node roster texts has l is begins).0

-- nor that under another roster
other_roster : (here : Setting) (file : List ℕ) (J : List Record) (roster : List ℕ) → HasRecords J file → IsLawful here J → OfFile file (λ texts. BeginWithBirth texts here.me roster) → roster ≡ hash_of_roster here.listed
other_roster here file J roster has l (texts, (is, begins)) = (own_birth here file J here.me roster texts has l is begins).1

-- ---- starts

-- a start from the file of a lawful journal, with the node's key, is refused for lack of memory or by the disk alone
pub lawful_file_starts : (here : Setting) (key : PublicKey) (told : Bool) (file : List ℕ) (J : List Record) (e : StartError) → IsTrue told → key_of here.listed here.me ≡ Some key → HasRecords J file → IsLawful here J → IsNotStarted here key (IsTrue told) file e → LeavesFile e → ⊥
lawful_file_starts here key told file J refused.Memory tells keyed has l w leaves = leaves
lawful_file_starts here key told file J refused.Disk tells keyed has l w leaves = leaves
lawful_file_starts here key told file J refused.UnknownMe tells keyed has l w leaves = both_ways (has_node here.listed here.me) w (ap is_some keyed)
lawful_file_starts here key told file J (refused.OtherKey other own) tells keyed has l w leaves = let both : Some other ≡ Some key = sym w.0 ∙ keyed in w.1.1 cc
lawful_file_starts here key told file J (refused.Damaged at) tells keyed has l w leaves = not_damaged file (map text_of_record J) at has (w.1 tells)
lawful_file_starts here key told file J (refused.OtherNode node) tells keyed has l w leaves =
    w.1.0 (other_node here file J node has l (w.1.1 tells))
lawful_file_starts here key told file J (refused.OtherRoster kept given) tells keyed has l (own, (is, (apart, of))) leaves =
    apart (other_roster here file J kept has l (of tells) ∙ sym is)
lawful_file_starts here key told file J (refused.NotLawful place f) tells keyed has l w leaves =
    let of = w.1 tells in
    no_fault_at here J place f l (subst (λ (texts : List (List ℕ)). HaveFaultAt here texts place f) (one_list file of.0 (map text_of_record J) of.1.0 has) of.1.1.at)

-- the node that is started has these records
pub lawful_file_is_read : (here : Setting) (file : List ℕ) (J records : List Record) → HasRecords J file → IsLawful here J → IsStartedFrom here file records → records ≡ started here J
lawful_file_is_read here file J records has l s =
    let texts : map text_of_record s.journal ≡ map text_of_record J = one_list file (map text_of_record s.journal) (map text_of_record J) s.read has in
    let same : s.journal ≡ J = sym (records_of_texts s.journal (all_fit here [] s.journal s.lawful)) ∙ ap records_in_texts texts ∙ records_of_texts J (all_fit here [] J l) in
    s.is ∙ ap (started here) same
