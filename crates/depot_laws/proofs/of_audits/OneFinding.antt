-- Traces have one finding at most.
use Rattle.std.proofs.Common.{◌≡◌, ℕ, suc, List, [], ◌∷◌, ◌++◌, length, map, refl, sym, ap, subst, ◌∙◌, inl, inr}
use Rattle.std.specs.List.{AllByRecursion}
use Rattle.depot_base.specs.declared.key.RosterEntry.{RosterEntry}
use Rattle.depot_base.specs.declared.record.Record.{Record}
use Rattle.depot_model.specs.declared.record_fault.RecordFault.{RecordFault}
use Rattle.depot_model.specs.texts.Roster.{Verifies}
use Rattle.depot_model.specs.checks.Checks.{Setting}
use Rattle.depot_model.specs.journals.Lawful.{IsLawful}
use Rattle.depot_model.specs.texts.Records.{IsRecord, text_of_record}
use Rattle.depot_model.specs.checks.RecordFaults.{IsFault, AreTextsOf, HaveFaultAt}
use Rattle.depot_model.specs.lists.Lists.{IsIn}
use Rattle.depot_model.specs.worlds.World.{Correct, World}
use Rattle.depot_model.proofs.lists.Members.{all_at, in_right}
use Rattle.depot_laws.proofs.lists.Splits.{lawful_texts}
use Rattle.depot_model.specs.worlds.Audit.{Finding, yes_found, unlawful, answer_found, circle_found, unordered_found, unseen_found, wrong_found, split_found, named_found, finding_in}
use Rattle.depot_model.specs.worlds.Traces.{Trace, ReadTrace, IsRightRead, AreRightReads, last_length, at_node, traced_node, IsLawfulTrace, HasRightReads, IsFirstBad, by_node, FirstAt, AreNodesOf, AreTraced, IsFindingOf}
use Rattle.depot_laws.proofs.records.FaultLaws.{one_record, no_fault, one_fault}

-- ---- texts

all_texts : (here : Setting) (J : List Record) → IsLawful here J → (r : Record) → IsIn r J → IsRecord r
all_texts here J l r on = lawful_texts here J r l on

same_records : (I J : List Record) → ((r : Record) → IsIn r I → IsRecord r) → ((r : Record) → IsIn r J → IsRecord r) → map text_of_record I ≡ map text_of_record J → I ≡ J
same_records [] [] fit fit_too e = refl
same_records [] (s ∷ J) fit fit_too e = absurd cc
same_records (r ∷ I) [] fit fit_too e = absurd cc
same_records (r ∷ I) (s ∷ J) fit fit_too e =
    let head : text_of_record r ≡ text_of_record s = cc in
    let rest : map text_of_record I ≡ map text_of_record J = cc in
    ap (λ (x : Record). x ∷ I) (one_record r s (fit r (inl refl)) (fit_too s (inl refl)) head) ∙ ap (λ (K : List Record). s ∷ K) (same_records I J (λ x on. fit x (inr on)) (λ x on. fit_too x (inr on)) rest)

-- texts are those of one lawful journal
one_journal : (here : Setting) (I J : List Record) (texts : List (List ℕ)) → AreTextsOf here I texts → AreTextsOf here J texts → I ≡ J
one_journal here I J texts a b = same_records I J (all_texts here I a.lawful) (all_texts here J b.lawful) (sym a.are ∙ b.are)

-- ---- faults

-- where the texts before a place end, and what is there
abbrev Ends : List Record → List ℕ → List Record → List ℕ → Type 0
Ends I text J other = (I ≡ J) × (text ≡ other)

-- one of two splits of texts begins the other, or both are one
data Meet (here : Setting) (I : List Record) (text : List ℕ) (J : List Record) (other : List ℕ) : Type 0 where
  same_place : Ends I text J other → Meet here I text J other
  first_ends : (r : Record) (more : List Record) → J ≡ I ++ r ∷ more → text ≡ text_of_record r → Meet here I text J other
  second_ends : (r : Record) (more : List Record) → I ≡ J ++ r ∷ more → other ≡ text_of_record r → Meet here I text J other

longer : (here : Setting) (r s : Record) (I J : List Record) (text other : List ℕ) → r ≡ s → Meet here I text J other → Meet here (r ∷ I) text (s ∷ J) other
longer here r s I J text other same (same_place e) = same_place (ap (λ (x : Record). x ∷ I) same ∙ ap (λ (K : List Record). s ∷ K) e.0, e.1)
longer here r s I J text other same (first_ends q more is e) = first_ends q more (ap (λ (K : List Record). s ∷ K) is ∙ ap (λ (x : Record). x ∷ (I ++ q ∷ more)) (sym same)) e
longer here r s I J text other same (second_ends q more is e) = second_ends q more (ap (λ (K : List Record). r ∷ K) is ∙ ap (λ (x : Record). x ∷ (J ++ q ∷ more)) same) e

meet : (here : Setting) (I J : List Record) (text other : List ℕ) (after behind : List (List ℕ)) → ((r : Record) → IsIn r I → IsRecord r) → ((r : Record) → IsIn r J → IsRecord r) → map text_of_record I ++ text ∷ after ≡ map text_of_record J ++ other ∷ behind → Meet here I text J other
meet here [] [] text other after behind fit fit_too e = same_place (refl, cc)
meet here [] (s ∷ J) text other after behind fit fit_too e = first_ends s J refl cc
meet here (r ∷ I) [] text other after behind fit fit_too e = second_ends r I refl cc
meet here (r ∷ I) (s ∷ J) text other after behind fit fit_too e =
    let head : text_of_record r ≡ text_of_record s = cc in
    let rest : map text_of_record I ++ text ∷ after ≡ map text_of_record J ++ other ∷ behind = cc in
    longer here r s I J text other (one_record r s (fit r (inl refl)) (fit_too s (inl refl)) head) (meet here I J text other after behind (λ x on. fit x (inr on)) (λ x on. fit_too x (inr on)) rest)

-- a text with which a lawful journal continues has no fault
no_fault_inside : (here : Setting) (I J more : List Record) (r : Record) (text : List ℕ) (f : RecordFault) → IsLawful here J → J ≡ I ++ r ∷ more → text ≡ text_of_record r → IsFault here I text f → ⊥
no_fault_inside here I J more r text f l is e w = no_fault here I r f (l.each I r more is) (subst (λ (x : List ℕ). IsFault here I x f) e w)

-- texts have one first fault
fault_once : (here : Setting) (texts : List (List ℕ)) (m n : ℕ) (f g : RecordFault) → HaveFaultAt here texts m f → HaveFaultAt here texts n g → (m ≡ n) × (f ≡ g)
fault_once here texts m n f g a b = by_meet (meet here a.before b.before a.text b.text a.after b.after (all_texts here a.before a.lawful) (all_texts here b.before b.lawful) (sym a.parts ∙ b.parts)) where
  by_meet : Meet here a.before a.text b.before b.text → (m ≡ n) × (f ≡ g)
  by_meet (same_place e) = (
    a.at ∙ ap length e.0 ∙ sym b.at,
    one_fault here b.before b.text f g (subst (λ (K : List Record). IsFault here K b.text f) e.0 (subst (λ (x : List ℕ). IsFault here a.before x f) e.1 a.wrong)) b.wrong,
  )
  by_meet (first_ends r more is e) = absurd (no_fault_inside here a.before b.before more r a.text f b.lawful is e a.wrong)
  by_meet (second_ends r more is e) = absurd (no_fault_inside here b.before a.before more r b.text g a.lawful is e b.wrong)

abbrev GoesOn : List Record → List Record → List ℕ → Type 0
GoesOn I J text = (r : Record) × ((more : List Record) × ((J ≡ I ++ r ∷ more) × (text ≡ text_of_record r)))

goes_further : (r s : Record) (I J : List Record) (text : List ℕ) (q : Record) (more : List Record) → s ≡ r → J ≡ I ++ q ∷ more → text ≡ text_of_record q → GoesOn (r ∷ I) (s ∷ J) text
goes_further r s I J text q more same is e = (q, (more, (ap (λ (K : List Record). s ∷ K) is ∙ ap (λ (x : Record). x ∷ (I ++ q ∷ more)) same, e)))

-- where a journal's texts continue with a text
goes_on : (I J : List Record) (text : List ℕ) (after : List (List ℕ)) → ((r : Record) → IsIn r I → IsRecord r) → ((r : Record) → IsIn r J → IsRecord r) → map text_of_record J ≡ map text_of_record I ++ text ∷ after
    → GoesOn I J text
goes_on [] [] text after fit fit_too e = absurd cc
goes_on [] (s ∷ J) text after fit fit_too e = let head : text_of_record s ≡ text = cc in (s, (J, (refl, sym head)))
goes_on (r ∷ I) [] text after fit fit_too e = absurd cc
goes_on (r ∷ I) (s ∷ J) text after fit fit_too e =
    let head : text_of_record s ≡ text_of_record r = cc in
    let rest : map text_of_record J ≡ map text_of_record I ++ text ∷ after = cc in
    let g = goes_on I J text after (λ x on. fit x (inr on)) (λ x on. fit_too x (inr on)) rest in
    goes_further r s I J text g.0 g.1.0 (one_record s r (fit_too s (inl refl)) (fit r (inl refl)) head) g.1.1.0 g.1.1.1

-- texts with a fault aren't those of a lawful journal
not_lawful : (here : Setting) (texts : List (List ℕ)) (m : ℕ) (f : RecordFault) (J : List Record) → HaveFaultAt here texts m f → AreTextsOf here J texts → ⊥
not_lawful here texts m f J a b =
    let g = goes_on a.before J a.text a.after (all_texts here a.before a.lawful) (all_texts here J b.lawful) (sym b.are ∙ a.parts) in
    no_fault_inside here a.before J g.1.0 g.0 a.text f b.lawful g.1.1.0 g.1.1.1 a.wrong

-- ---- reads

-- of two splits of reads one begins the other with a read as it was shown, or both are one
reads_meet : (J : List Record) (last : ℕ) (xs : List ReadTrace) (x : ReadTrace) (after : List ReadTrace) (ys : List ReadTrace) (y : ReadTrace) (behind : List ReadTrace) → xs ++ x ∷ after ≡ ys ++ y ∷ behind
    → AreRightReads J last xs → AreRightReads J last ys → (IsRightRead J (last_length last xs) x → ⊥) → (IsRightRead J (last_length last ys) y → ⊥) → length xs ≡ length ys
reads_meet J last [] x after [] y behind e told told_too bad bad_too = refl
reads_meet J last [] x after (q ∷ ys) y behind e told told_too bad bad_too = let same : q ≡ x = cc in absurd (bad (subst (λ (z : ReadTrace). IsRightRead J last z) same told_too.0))
reads_meet J last (p ∷ xs) x after [] y behind e told told_too bad bad_too = let same : p ≡ y = cc in absurd (bad_too (subst (λ (z : ReadTrace). IsRightRead J last z) same told.0))
reads_meet J last (p ∷ xs) x after (q ∷ ys) y behind e told told_too bad bad_too =
    let head : p ≡ q = cc in
    let rest : xs ++ x ∷ after ≡ ys ++ y ∷ behind = cc in
    ap suc (reads_meet J p.length xs x after ys y behind rest told.1 (subst (λ (z : ReadTrace). AreRightReads J z.length ys) (sym head) told_too.1) bad (λ is. bad_too (subst (λ (z : ReadTrace). IsRightRead J (last_length z.length ys) y) head is)))

module _ (verifies : Verifies) (listed : List RosterEntry) where
  bad_once : (t : Trace) (m n : ℕ) → IsFirstBad verifies listed t m → IsFirstBad verifies listed t n → m ≡ n
  bad_once t m n a b =
      let same = one_journal (at_node verifies listed t) b.journal a.journal t.texts b.texts a.texts in
      a.at ∙ reads_meet a.journal 0 a.before a.read a.after b.before b.read b.after (sym a.parts ∙ b.parts) a.good (subst (λ (J : List Record). AreRightReads J 0 b.before) same b.good) a.bad
      (λ is. b.bad (subst (λ (J : List Record). IsRightRead J (last_length 0 b.before) b.read) (sym same) is)) ∙ sym b.at

  split_told : (J : List Record) (last : ℕ) (xs : List ReadTrace) (x : ReadTrace) (after : List ReadTrace) → AreRightReads J last (xs ++ x ∷ after) → IsRightRead J (last_length last xs) x
  split_told J last [] x after told = told.0
  split_told J last (p ∷ xs) x after told = split_told J p.length xs x after told.1

  not_well : (t : Trace) (n : ℕ) → IsFirstBad verifies listed t n → HasRightReads verifies listed t → ⊥
  not_well t n a (J, (texts, told)) =
      let same = one_journal (at_node verifies listed t) J a.journal t.texts texts a.texts in
      a.bad (split_told a.journal 0 a.before a.read a.after (subst (λ (rs : List ReadTrace). AreRightReads a.journal 0 rs) a.parts (subst (λ (K : List Record). AreRightReads K 0 t.reads) same told)))

  -- ---- the first that isn't good

  same_first : (good : Trace → Type 0) (xs : List Trace) (x : Trace) (after ys : List Trace) (y : Trace) (behind : List Trace) → xs ++ x ∷ after ≡ ys ++ y ∷ behind → AllByRecursion good xs → AllByRecursion good ys → (good x → ⊥) → (good y → ⊥) → x ≡ y
  same_first good [] x after [] y behind e all all_too bad bad_too = cc
  same_first good [] x after (q ∷ ys) y behind e all all_too bad bad_too = let same : q ≡ x = cc in absurd (bad (subst good same all_too.0))
  same_first good (p ∷ xs) x after [] y behind e all all_too bad bad_too = let same : p ≡ y = cc in absurd (bad_too (subst good same all.0))
  same_first good (p ∷ xs) x after (q ∷ ys) y behind e all all_too bad bad_too = let rest : xs ++ x ∷ after ≡ ys ++ y ∷ behind = cc in same_first good xs x after ys y behind rest all.1 all_too.1 bad bad_too

  first_once : (good P Q : Trace → Type 0) (xs : List Trace) → ((t : Trace) → P t → good t → ⊥) → ((t : Trace) → Q t → good t → ⊥) → (a : FirstAt good xs P) → (b : FirstAt good xs Q) → a.one ≡ b.one
  first_once good P Q xs never never_too a b = same_first good a.before a.one a.after b.before b.one b.after (sym a.parts ∙ b.parts) a.all b.all (never a.one a.holds) (never_too b.one b.holds)

  first_in : (good P : Trace → Type 0) (xs : List Trace) → (a : FirstAt good xs P) → IsIn a.one xs
  first_in good P xs a = subst (λ (ys : List Trace). IsIn a.one ys) (sym a.parts) (in_right a.one a.before (a.one ∷ a.after) (inl refl))

  -- ---- worlds

  same_nodes : (ts : List Trace) (cs ds : List Correct) → AreNodesOf verifies listed ts cs → AreNodesOf verifies listed ts ds → cs ≡ ds
  same_nodes [] [] [] a b = refl
  same_nodes [] [] (d ∷ ds) a b = absurd b
  same_nodes [] (c ∷ cs) ds a b = absurd a
  same_nodes (t ∷ ts) [] ds a b = absurd a
  same_nodes (t ∷ ts) (c ∷ cs) [] a b = absurd b
  same_nodes (t ∷ ts) (c ∷ cs) (d ∷ ds) ((I, (i_texts, (i_told, i_is))), a) ((J, (j_texts, (j_told, j_is))), b) =
      let journal = one_journal (at_node verifies listed t) I J t.texts i_texts j_texts in
      let head : c ≡ d = i_is ∙ ap (traced_node t) journal ∙ sym j_is in
      ap (λ (x : Correct). x ∷ cs) head ∙ ap (λ (xs : List Correct). d ∷ xs) (same_nodes ts cs ds a b)

  well_told : (ts : List Trace) (cs : List Correct) → AreNodesOf verifies listed ts cs → (t : Trace) → IsIn t ts → HasRightReads verifies listed t
  well_told [] cs a t never = absurd never
  well_told (x ∷ ts) [] a t on = absurd a
  well_told (x ∷ ts) (c ∷ cs) ((J, (texts, (told, is))), a) t (inl here) = subst (HasRightReads verifies listed) here (J, (texts, told))
  well_told (x ∷ ts) (c ∷ cs) ((J, (texts, (told, is))), a) t (inr there) = well_told ts cs a t there

  abbrev InWorld : List Trace → Finding → Type 0
  InWorld traces f = (W : World) × (AreTraced verifies listed traces W × (finding_in W ≡ f))

  world_once : (traces : List Trace) (f g : Finding) → InWorld traces f → InWorld traces g → f ≡ g
  world_once traces f g (V, (a, f_is)) (W, (b, g_is)) =
      let nodes = same_nodes (by_node traces) a.nodes b.nodes a.are b.are in
      let same : V ≡ W = a.is ∙ ap (λ (cs : List Correct). record { verifies = verifies; listed = listed; nodes = cs; judged = [] }) nodes ∙ sym b.is in
      sym f_is ∙ ap finding_in same ∙ g_is

  -- ---- the law

  abbrev Unlawful : List Trace → ℕ → ℕ → RecordFault → Type 0
  Unlawful traces n place f = FirstAt (IsLawfulTrace verifies listed) (by_node traces) (λ t. (t.node ≡ n) × HaveFaultAt (at_node verifies listed t) t.texts place f)

  abbrev Answer : List Trace → ℕ → ℕ → Type 0
  Answer traces n place = AllByRecursion (IsLawfulTrace verifies listed) (by_node traces) × FirstAt (HasRightReads verifies listed) (by_node traces) (λ t. (t.node ≡ n) × IsFirstBad verifies listed t place)

  faulty : (n place : ℕ) (f : RecordFault) (t : Trace) → (t.node ≡ n) × HaveFaultAt (at_node verifies listed t) t.texts place f → IsLawfulTrace verifies listed t → ⊥
  faulty n place f t h l = not_lawful (at_node verifies listed t) t.texts place f l.0 h.1 l.1

  ill_told : (n place : ℕ) (t : Trace) → (t.node ≡ n) × IsFirstBad verifies listed t place → HasRightReads verifies listed t → ⊥
  ill_told n place t h w = not_well t place h.1 w

  unlawful_once : (traces : List Trace) (m p : ℕ) (f : RecordFault) (n q : ℕ) (g : RecordFault) → Unlawful traces m p f → Unlawful traces n q g → unlawful m p f ≡ unlawful n q g
  unlawful_once traces m p f n q g a b =
      let one = first_once (IsLawfulTrace verifies listed) _ _ (by_node traces) (faulty m p f) (faulty n q g) a b in
      let node : m ≡ n = sym a.holds.0 ∙ ap (λ (t : Trace). t.node) one ∙ b.holds.0 in
      let both = fault_once (at_node verifies listed b.one) b.one.texts p q f g (subst (λ (t : Trace). HaveFaultAt (at_node verifies listed t) t.texts p f) one a.holds.1) b.holds.1 in
      ap (λ (x : ℕ). unlawful x p f) node ∙ ap (λ (x : ℕ). unlawful n x f) both.0 ∙ ap (λ (x : RecordFault). unlawful n q x) both.1

  answer_once : (traces : List Trace) (m p n q : ℕ) → Answer traces m p → Answer traces n q → answer_found m p ≡ answer_found n q
  answer_once traces m p n q (all, a) (all_too, b) =
      let one = first_once (HasRightReads verifies listed) _ _ (by_node traces) (ill_told m p) (ill_told n q) a b in
      let node : m ≡ n = sym a.holds.0 ∙ ap (λ (t : Trace). t.node) one ∙ b.holds.0 in
      ap (λ (x : ℕ). answer_found x p) node ∙ ap (λ (x : ℕ). answer_found n x) (bad_once b.one p q (subst (λ (t : Trace). IsFirstBad verifies listed t p) one a.holds.1) b.holds.1)

  unlawful_not_all : (traces : List Trace) (m p : ℕ) (f : RecordFault) → Unlawful traces m p f → ((t : Trace) → IsIn t (by_node traces) → IsLawfulTrace verifies listed t) → ⊥
  unlawful_not_all traces m p f a all = faulty m p f a.one a.holds (all a.one (first_in (IsLawfulTrace verifies listed) _ (by_node traces) a))

  lawful_in_world : (traces : List Trace) (f : Finding) → InWorld traces f → (t : Trace) → IsIn t (by_node traces) → IsLawfulTrace verifies listed t
  lawful_in_world traces f (W, (a, is)) t on = let w = well_told (by_node traces) a.nodes a.are t on in (w.0, w.1.0)

  answer_not_world : (traces : List Trace) (n p : ℕ) (f : Finding) → Answer traces n p → InWorld traces f → ⊥
  answer_not_world traces n p f (all, a) (W, (b, is)) = ill_told n p a.one a.holds (well_told (by_node traces) b.nodes b.are a.one (first_in (HasRightReads verifies listed) _ (by_node traces) a))

  -- one of the three ways to be found
  data IsFoundBy (traces : List Trace) (f : Finding) : Type 0 where
    by_fault : (n p : ℕ) (fault : RecordFault) → f ≡ unlawful n p fault → Unlawful traces n p fault → IsFoundBy traces f
    by_read : (n p : ℕ) → f ≡ answer_found n p → Answer traces n p → IsFoundBy traces f
    by_world : InWorld traces f → IsFoundBy traces f

  found_by : (traces : List Trace) (f : Finding) → IsFindingOf verifies listed traces f → IsFoundBy traces f
  found_by traces (unlawful n p fault) h = by_fault n p fault refl h
  found_by traces (answer_found n p) h = by_read n p refl h
  found_by traces yes_found h = by_world h
  found_by traces (circle_found o) h = by_world h
  found_by traces (unordered_found a b) h = by_world h
  found_by traces (unseen_found a b) h = by_world h
  found_by traces (wrong_found n p) h = by_world h
  found_by traces (split_found n p) h = by_world h
  found_by traces (named_found n p) h = by_world h

  by_both : (traces : List Trace) (f g : Finding) → IsFoundBy traces f → IsFoundBy traces g → f ≡ g
  by_both traces f g (by_fault m p x f_is a) (by_fault n q y g_is b) = f_is ∙ unlawful_once traces m p x n q y a b ∙ sym g_is
  by_both traces f g (by_fault m p x f_is a) (by_read n q g_is b) = absurd (unlawful_not_all traces m p x a (λ t on. all_at (IsLawfulTrace verifies listed) (by_node traces) t b.0 on))
  by_both traces f g (by_fault m p x f_is a) (by_world b) = absurd (unlawful_not_all traces m p x a (lawful_in_world traces g b))
  by_both traces f g (by_read m p f_is a) (by_fault n q y g_is b) = absurd (unlawful_not_all traces n q y b (λ t on. all_at (IsLawfulTrace verifies listed) (by_node traces) t a.0 on))
  by_both traces f g (by_read m p f_is a) (by_read n q g_is b) = f_is ∙ answer_once traces m p n q a b ∙ sym g_is
  by_both traces f g (by_read m p f_is a) (by_world b) = absurd (answer_not_world traces m p g a b)
  by_both traces f g (by_world a) (by_fault n q y g_is b) = absurd (unlawful_not_all traces n q y b (lawful_in_world traces f a))
  by_both traces f g (by_world a) (by_read n q g_is b) = absurd (answer_not_world traces n q f b a)
  by_both traces f g (by_world a) (by_world b) = world_once traces f g a b

  -- traces have one finding
  pub one_finding : (traces : List Trace) (f g : Finding) → IsFindingOf verifies listed traces f → IsFindingOf verifies listed traces g → f ≡ g
  one_finding traces f g a b = by_both traces f g (found_by traces f a) (found_by traces g b)
