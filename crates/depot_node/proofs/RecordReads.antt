-- A store whose records are read one after another, and what is left on its disk.
use Rattle.std.proofs.Common.{◌≡◌, ℕ, ◌<◌, false, List, [], ◌∷◌, ◌++◌, length, map, drop, refl, sym, ap, subst, ◌∙◌, append_assoc, arith}
use Rattle.std.proofs.lemmas.List.{append-nil, map-append}
use Rattle.depot_base.specs.declared.record.Record.{Record}
use Rattle.depot_model.specs.checks.Checks.{Setting}
use Rattle.depot_model.specs.journals.Lawful.{IsLawful}
use Rattle.depot_model.specs.checks.RecordFaults.{IsFault, AreTextsOf}
use Rattle.depot_model.specs.texts.Records.{text_of_record}
use Rattle.depot_model.specs.texts.Roster.{Verifies}
use Rattle.depot_laws.proofs.lists.Splits.{lawful_none}
use Rattle.depot_node.specs.Holdings.{Holding, node_setting, with_records}
use Rattle.depot_decide.specs.ReadRecords.{IsReadFrom}
use Rattle.depot_node.specs.StartReading.{IsReadOn, IsNextWrong, AreWrong}
use Rattle.depot_node.specs.declared.start_error.StartError.{StartError}
use Rattle.depot_node.specs.declared.start_error.StartError.TheVariants as stopped

-- ---- one record

-- its text comes first among those that weren't read
pub read_stands_first : (here : Setting) (J : List Record) (text : List ℕ) (rest : List (List ℕ)) (new : List Record) → IsReadFrom here J text new → text ∷ rest ≡ map text_of_record new ++ rest
read_stands_first here J text rest new r = ap (λ (t : List ℕ). t ∷ rest) r.is ∙ ap (λ (rs : List Record). map text_of_record rs ++ rest) (sym r.alone)

-- so the first text that wasn't read is read
pub read_goes_on : {D : Type 0} (here : Setting) (old new : Holding D) (text : List ℕ) (rest : List (List ℕ)) (growth : List Record) → IsLawful here (old.records ++ growth) → IsReadFrom here old.records text growth → old.unread ≡ text ∷ rest
    → new ≡ with_records old (old.records ++ growth) (drop (length growth) old.unread) → IsReadOn here old new
read_goes_on here old new text rest growth l r next is =
    let dropped : new.unread ≡ drop 1 old.unread = ap (λ (v : Holding _). v.unread) is ∙ ap (λ (rs : List Record). drop (length rs) old.unread) r.alone in
    let left : new.unread ≡ rest = dropped ∙ ap (λ (texts : List (List ℕ)). drop 1 texts) next in
    record {
      one = r.one;
      text = next ∙ ap (λ (t : List ℕ). t ∷ rest) r.is ∙ ap (λ (texts : List (List ℕ)). text_of_record r.one ∷ texts) (sym left);
      is = is ∙ ap (λ (rs : List Record). with_records old (old.records ++ rs) (drop (length rs) old.unread)) r.alone ∙ ap (λ (texts : List (List ℕ)). with_records old (old.records ++ r.one ∷ []) texts) (sym dropped);
      lawful = subst (λ (rs : List Record). IsLawful here (old.records ++ rs)) r.alone l;
    }

-- ---- the way through the texts

-- the store is the one of the beginning, with the records of the texts that aren't left, which are lawful
pub record IsReading {D : Type 0} (here : Setting) (old now : Holding D) : Type 0 where
  pub same : now ≡ with_records old now.records now.unread
  pub texts : old.unread ≡ map text_of_record now.records ++ now.unread
  pub lawful : IsLawful here now.records

-- before the first text
pub reading_begins : {D : Type 0} (here : Setting) (old : Holding D) → old.records ≡ [] → IsReading here old old
reading_begins here old none = record {
  same = refl;
  texts = ap (λ (J : List Record). map text_of_record J ++ old.unread) (sym none);
  lawful = subst (λ (J : List Record). IsLawful here J) (sym none) (lawful_none here);
}

-- with one more
pub reading_goes_on : {D : Type 0} (here there : Setting) (old now new : Holding D) → IsReading here old now → IsReadOn there now new → there ≡ here → IsReading here old new
reading_goes_on here there old now new r on stands =
    let records : new.records ≡ now.records ++ on.one ∷ [] = ap (λ (v : Holding _). v.records) on.is in
    let is : new ≡ with_records old (now.records ++ on.one ∷ []) new.unread = on.is ∙ ap (λ (v : Holding _). with_records v (now.records ++ on.one ∷ []) new.unread) r.same in
    record {
      same = is ∙ ap (λ (J : List Record). with_records old J new.unread) (sym records);
      texts =
          r.texts
          ∙ ap (λ (texts : List (List ℕ)). map text_of_record now.records ++ texts) on.text
          ∙ sym (append_assoc (map text_of_record now.records) (text_of_record on.one ∷ []) new.unread)
          ∙ ap (λ (texts : List (List ℕ)). texts ++ new.unread) (sym (map-append text_of_record now.records (on.one ∷ [])))
          ∙ ap (λ (J : List Record). map text_of_record J ++ new.unread) (sym records);
      lawful = subst (λ (J : List Record). IsLawful here J) (sym records) (subst (λ (s : Setting). IsLawful s (now.records ++ on.one ∷ [])) stands on.lawful);
    }

-- the setting of the node stays the same
pub reading_stands : {D : Type 0} (verifies : Verifies) (here : Setting) (old now : Holding D) → IsReading here old now → node_setting verifies now ≡ node_setting verifies old
reading_stands verifies here old now r = ap (λ (v : Holding _). node_setting verifies v) r.same

-- after the last text
pub reading_ends : {D : Type 0} (here : Setting) (old now : Holding D) → IsReading here old now → now.unread ≡ [] → AreTextsOf here now.records old.unread
reading_ends here old now r none = record {
  lawful = r.lawful;
  are = r.texts ∙ ap (λ (texts : List (List ℕ)). map text_of_record now.records ++ texts) none ∙ append-nil (map text_of_record now.records);
}

-- the store runs still
pub reading_runs : {D : Type 0} (here : Setting) (old now : Holding D) → IsReading here old now → old.stopped ≡ false → now.stopped ≡ false
reading_runs here old now r runs = ap (λ (v : Holding _). v.stopped) r.same ∙ runs

-- at a text that is refused
pub reading_stops : {D : Type 0} (here there : Setting) (old now : Holding D) (e : StartError) → IsReading here old now → IsNextWrong there now.records now.unread e → there ≡ here → AreWrong here old.unread e
reading_stops here there old now stopped.Memory r w stands = tt
reading_stops here there old now (stopped.NotLawful place f) r (at, (text, (rest, (parts, wrong)))) stands = record {
  before = now.records;
  text = text;
  after = rest;
  parts = r.texts ∙ ap (λ (texts : List (List ℕ)). map text_of_record now.records ++ texts) parts;
  lawful = r.lawful;
  at = at;
  wrong = subst (λ (s : Setting). IsFault s now.records text f) stands wrong;
}
reading_stops here there old now e r w stands = absurd w

-- fewer are left
pub reading_is_shorter : {D : Type 0} (here : Setting) (now new : Holding D) → IsReadOn here now new → length new.unread < length now.unread
reading_is_shorter here now new on = omega (arith, ap length on.text)
