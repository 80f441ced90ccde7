-- Texts that are taken one after another, each the record that may follow there.
use Rattle.std.proofs.Common.{◌≡◌, ℕ, ◌+◌, ◌<◌, ◌≤◌, Bool, true, List, [], ◌∷◌, ◌++◌, length, map, take, drop, get_or, Option, Some, None, refl, sym, ap, subst, ◌∙◌, append_assoc}
use Rattle.std.specs.Prelude.{is_none}
use Rattle.std.proofs.lemmas.List.{map-append, take_all, take-append-drop}
use Rattle.depot_base.specs.declared.check.Full.{Full}
use Rattle.depot_base.specs.declared.key.RosterEntry.{RosterEntry}
use Rattle.depot_base.specs.declared.record.Record.{Record}
use Rattle.depot_model.specs.declared.record_fault.RecordFault.{RecordFault}
use Rattle.depot_model.specs.declared.record_fault.RecordFault.TheVariants as fault
use Rattle.depot_model.specs.checks.Checks.{Setting}
use Rattle.depot_model.specs.journals.Journal.{is_convicted}
use Rattle.depot_model.specs.journals.Lawful.{IsAllowed, IsLawful}
use Rattle.depot_model.specs.checks.RecordFaults.{IsFault, AreTextsOf, HaveFaultAt}
use Rattle.depot_model.specs.texts.Records.{text_of_record}
use Rattle.depot_model.specs.checks.Room.{full_by}
use Rattle.depot_model.specs.texts.Roster.{Verifies}
use Rattle.depot_base.proofs.GeneralLaws.{take_next}
use Rattle.depot_accept.specs.StateView.{View, IsStateOf}
use Rattle.depot_laws.proofs.lists.Splits.{lawful_push}
use Rattle.depot_readings.specs.ReadingsView.{Known, standing}
use Rattle.depot_decide.specs.ReadRecords.{IsFitFrom}
use Rattle.depot_decide.specs.TextFaults.{IsTakenFrom}

-- ---- no records

-- a state in which nothing was accepted is that of no records
pub none_accepted : {S : Type 0} (v : View S) (me : ℕ) (listed : List RosterEntry) (scheme : S) → v ≡ record { me = me; listed = listed; scheme = scheme; accepted = []; foreign = []; own_vouchers = []; vouched = []; convicted = []; voucher_room = 0 } → IsStateOf [] v
unfolding is_convicted
none_accepted v me listed scheme is = subst (λ (w : View _). IsStateOf [] w) (sym is) (record { accepted = refl; foreign = refl; own_vouchers = refl; vouched = λ h. refl; convicted = λ n. refl })

-- ---- one record

-- where there is room for it, it is allowed
room_allowed : (here : Setting) (J : List Record) (text : List ℕ) (new : List Record) (f : IsFitFrom here J text new) → full_by here.me J new ≡ None → IsAllowed here J f.one
room_allowed here J text new f room = record {
  first = f.place;
  text = f.fits;
  may = f.may;
  room = subst (λ (rs : List Record). full_by here.me J rs ≡ None) f.alone room;
}

pub room_left : (o : Option Full) (told : Bool) → told ≡ is_none o → told ≡ true → o ≡ None
room_left None told is left = refl
room_left (Some full) told is left = absurd cc

-- with it the journal stays lawful
pub fit_is_lawful : (here : Setting) (J : List Record) (text : List ℕ) (new : List Record) → IsLawful here J → IsFitFrom here J text new → full_by here.me J new ≡ None → IsLawful here (J ++ new)
fit_is_lawful here J text new l f room = subst (λ (rs : List Record). IsLawful here (J ++ rs)) (sym f.alone) (lawful_push here J f.one l (room_allowed here J text new f room))

-- ---- the way through the texts

-- the records are those of these texts, and lawful
pub record AreTaken (here : Setting) (texts : List (List ℕ)) (J : List Record) : Type 0 where
  pub lawful : IsLawful here J
  pub are : texts ≡ map text_of_record J

-- with one more
pub taking_goes_on : (here there : Setting) (texts : List (List ℕ)) (text : List ℕ) (J after : List Record) → there ≡ here → AreTaken here texts J → IsTakenFrom there J text after → AreTaken here (texts ++ text ∷ []) after
taking_goes_on here there texts text J after same t n = record {
  lawful = subst (λ (rs : List Record). IsLawful here rs) (sym n.grown) (lawful_push here J n.one t.lawful (subst (λ (s : Setting). IsAllowed s J n.one) same n.allowed));
  are =
      ap (λ (ts : List (List ℕ)). ts ++ text ∷ []) t.are
      ∙ ap (λ (x : List ℕ). map text_of_record J ++ x ∷ []) n.is
      ∙ sym (map-append text_of_record J (n.one ∷ []))
      ∙ ap (λ (rs : List Record). map text_of_record rs) (sym n.grown);
}

-- ---- the same for readings

-- they are of the records of these texts, and of the same node
pub record IsTaking (here : Setting) (verifies : Verifies) (texts : List (List ℕ)) (v : Known) : Type 0 where
  pub taken : AreTaken here texts v.records
  pub stands : standing verifies v ≡ here

-- with one more
pub readings_go_on : (here : Setting) (verifies : Verifies) (texts : List (List ℕ)) (i : ℕ) (text : List ℕ) (old new : Known) → i < length texts → text ≡ get_or texts i text → IsTaking here verifies (take i texts) old
    → IsTakenFrom (standing verifies old) old.records text new.records → standing verifies new ≡ standing verifies old → IsTaking here verifies (take (i + 1) texts) new
readings_go_on here verifies texts i text old new within is t n stands = record {
  taken = subst (λ (ts : List (List ℕ)). AreTaken here ts new.records) (sym (take_next texts i text within is)) (taking_goes_on here (standing verifies old) (take i texts) text old.records new.records t.stands t.taken n);
  stands = stands ∙ t.stands;
}

-- after the last text
pub readings_end : (here : Setting) (verifies : Verifies) (texts : List (List ℕ)) (i : ℕ) (v : Known) → length texts ≤ i → IsTaking here verifies (take i texts) v → AreTextsOf here v.records texts
readings_end here verifies texts i v all t = record { lawful = t.taken.lawful; are = sym (take_all i texts all) ∙ t.taken.are }

-- at a text that has a fault
pub readings_stop : (here : Setting) (verifies : Verifies) (texts : List (List ℕ)) (i : ℕ) (text : List ℕ) (old new : Known) (f : RecordFault) → i < length texts → text ≡ get_or texts i text → IsTaking here verifies (take i texts) old
    → IsFault (standing verifies old) old.records text f → new.records ≡ old.records → HaveFaultAt here texts (length new.records) f
readings_stop here verifies texts i text old new f within is t wrong same = record {
  before = old.records;
  text = text;
  after = drop (i + 1) texts;
  parts =
      sym (take-append-drop (i + 1) texts)
      ∙ ap (λ (ts : List (List ℕ)). ts ++ drop (i + 1) texts) (take_next texts i text within is)
      ∙ append_assoc (take i texts) (text ∷ []) (drop (i + 1) texts)
      ∙ ap (λ (ts : List (List ℕ)). ts ++ text ∷ drop (i + 1) texts) t.taken.are;
  lawful = t.taken.lawful;
  at = ap length same;
  wrong = subst (λ (s : Setting). IsFault s old.records text f) t.stands wrong;
}
