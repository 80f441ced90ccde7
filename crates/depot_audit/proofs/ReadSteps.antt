-- Reads are compared with the records as these come, one after another.
use Rattle.std.proofs.Common.{◌≡◌, ℕ, ◌+◌, ◌<◌, ◌≤◌, ◌⊎◌, leb, Bool, true, false, List, [], ◌∷◌, ◌++◌, length, map, take, drop, get_or, refl, sym, ap, subst, ◌∙◌, append_assoc, inl, inr, arith, length-append}
use Rattle.std.proofs.lemmas.Bool.{leb-true, leb-false}
use Rattle.std.proofs.lemmas.List.{append-nil, drop_more, get_or-map, length-map, length-take-le, take_all, take-append-le, take-append-drop}
use Rattle.std.proofs.lemmas.Option.{get_or_from_slice_get}
use Rattle.depot_base.proofs.GeneralLaws.{at_place, take_next}
use Rattle.depot_base.specs.declared.key.RosterEntry.{RosterEntry}
use Rattle.depot_base.specs.declared.record.Record.{Record}
use Rattle.depot_model.specs.checks.RecordFaults.{AreTextsOf}
use Rattle.depot_model.specs.texts.Roster.{Verifies}
use Rattle.depot_model.specs.journals.ShownWrites.{shown_of}
use Rattle.depot_model.specs.worlds.Traces.{ReadTrace, Trace, answered, IsRightRead, AreRightReads, IsFirstBad, last_length, at_node}
use Rattle.depot_audit.specs.OneNode.{NeverRight, IsAhead, AreRightUpTo}
use Rattle.depot_audit.specs.Shows.{IsShown}

-- ---- with more records after

right_more : (J more : List Record) (last : ℕ) (r : ReadTrace) → IsRightRead J last r → IsRightRead (J ++ more) last r
right_more J more last r h = record {
  begun = h.begun;
  later = h.later;
  within = omega (arith, h.within, length-append J more);
  answer = h.answer ∙ ap (λ (K : List Record). map answered (shown_of K r.key)) (sym (take-append-le r.length J more h.within));
}

rights_more : (J more : List Record) (last : ℕ) (rs : List ReadTrace) → AreRightReads J last rs → AreRightReads (J ++ more) last rs
rights_more J more last [] h = tt
rights_more J more last (r ∷ rs) h = (right_more J more last r h.0, rights_more J more r.length rs h.1)

-- one record more was taken
ahead_on : (J : List Record) (one : Record) (last : ℕ) (rs : List ReadTrace) → IsAhead (length J + 1) J last rs → IsAhead (length (J ++ one ∷ [])) (J ++ one ∷ []) last rs
ahead_on J one last [] h = tt
ahead_on J one last (r ∷ rs) (inl later) = inl (omega (arith, later, length-append J (one ∷ [])))
ahead_on J one last (r ∷ rs) (inr never) = inr (λ more h. never (one ∷ more) (subst (λ (K : List Record). IsRightRead K last r) (append_assoc J (one ∷ []) more) h))

pub reads_wait : (J after : List Record) (one : Record) (rs : List ReadTrace) (k : ℕ) → after ≡ J ++ one ∷ [] → AreRightUpTo (length J + 1) J rs k → AreRightUpTo (length after) after rs k
reads_wait J after one rs k grown h = subst (λ (K : List Record). AreRightUpTo (length K) K rs k) (sym grown) (record {
  within = h.within;
  good = rights_more J (one ∷ []) 0 (take k rs) h.good;
  next = ahead_on J one (last_length 0 (take k rs)) (drop k rs) h.next;
})

-- ---- one read more

rights_push : (J : List Record) (last : ℕ) (rs : List ReadTrace) (r : ReadTrace) → AreRightReads J last rs → IsRightRead J (last_length last rs) r → AreRightReads J last (rs ++ r ∷ [])
rights_push J last [] r h right = (right, tt)
rights_push J last (x ∷ rs) r h right = (h.0, rights_push J x.length rs r h.1 right)

last_pushed : (last : ℕ) (rs : List ReadTrace) (r : ReadTrace) → last_length last (rs ++ r ∷ []) ≡ r.length
last_pushed last [] r = refl
last_pushed last (x ∷ rs) r = last_pushed x.length rs r

last_within : (J : List Record) (last : ℕ) (rs : List ReadTrace) → AreRightReads J last rs → last ≤ length J → last_length last rs ≤ length J
last_within J last [] h le = le
last_within J last (r ∷ rs) h le = last_within J r.length rs h.1 h.0.within

-- after a read at all records
ahead_of_all : (J : List Record) (last : ℕ) (rs : List ReadTrace) → last ≡ length J → IsAhead (length J) J last rs
ahead_of_all J last [] all = tt
ahead_of_all J last (r ∷ rs) all = by_test (leb (length J) r.length) refl where
  by_test : (b : Bool) → leb (length J) r.length ≡ b → (length J ≤ r.length) ⊎ NeverRight J last r
  by_test true is = inl (leb-true (length J) r.length is)
  by_test false is = inr (λ more h. omega (arith, leb-false (length J) r.length is, h.later, all))

-- a read that is looked at when the journal has these records, after this many right ones
pub record IsNext (rs : List ReadTrace) (k : ℕ) (r : ReadTrace) : Type 0 where
  pub inside : k < length rs
  pub front : take (k + 1) rs ≡ take k rs ++ r ∷ []
  pub behind : drop k rs ≡ r ∷ drop (k + 1) rs

-- the read of a place is, of reads that are seen so
pub next_read : {X : Type 0} (f : X → ReadTrace) (xs : List X) (k : ℕ) (x : X) → k < length xs → x ≡ get_or xs k x → IsNext (map f xs) k (f x)
next_read f xs k x within is =
    let inside : k < length (map f xs) = omega (arith, within, length-map xs f) in
    let here : f x ≡ get_or (map f xs) k (f x) = ap f is ∙ sym (get_or-map f xs k x (f x) within) in
    record {
      inside = inside;
      front = take_next (map f xs) k (f x) inside here;
      behind = drop_more (map f xs) k (f x) inside ∙ ap (λ (r : ReadTrace). r ∷ drop (k + 1) (map f xs)) (sym here);
    }

-- it is right
pub read_goes_on : (J : List Record) (rs : List ReadTrace) (k : ℕ) (r : ReadTrace) → 0 < length J → IsNext rs k r → IsShown J r → AreRightUpTo (length J) J rs k → AreRightUpTo (length J) J rs (k + 1)
read_goes_on J rs k r some at shown h =
    let right : IsRightRead J (last_length 0 (take k rs)) r = record {
      begun = omega (arith, some, shown.all);
      later = omega (arith, last_within J 0 (take k rs) h.good (omega arith), shown.all);
      within = omega (arith, shown.all);
      answer = shown.answer ∙ ap (λ (K : List Record). map answered (shown_of K r.key)) (sym (take_all r.length J (omega (arith, shown.all))));
    } in
    record {
      within = omega (arith, at.inside);
      good = subst (λ (x : List ReadTrace). AreRightReads J 0 x) (sym at.front) (rights_push J 0 (take k rs) r h.good right);
      next = ahead_of_all J (last_length 0 (take (k + 1) rs)) (drop (k + 1) rs) (ap (last_length 0) at.front ∙ last_pushed 0 (take k rs) r ∙ shown.all);
    }

-- it isn't, or isn't reached
ahead_now : (J : List Record) (last : ℕ) (r : ReadTrace) → (IsShown J r → ⊥) → (length J ≤ r.length) ⊎ NeverRight J last r → (length J + 1 ≤ r.length) ⊎ NeverRight J last r
ahead_now J last r not (inr never) = inr never
ahead_now J last r not (inl reached) = by_test (leb (length J + 1) r.length) refl where
  by_test : (b : Bool) → leb (length J + 1) r.length ≡ b → (length J + 1 ≤ r.length) ⊎ NeverRight J last r
  by_test true is = inl (leb-true (length J + 1) r.length is)
  by_test false is =
      let all : r.length ≡ length J = omega (arith, reached, leb-false (length J + 1) r.length is) in
      inr (λ more h. not (record {
        all = all;
        answer = h.answer ∙ ap (λ (K : List Record). map answered (shown_of K r.key)) (take-append-le r.length J more (omega (arith, all)) ∙ take_all r.length J (omega (arith, all)));
      }))

pub read_stops : (J : List Record) (rs : List ReadTrace) (k : ℕ) (r : ReadTrace) → IsNext rs k r → (IsShown J r → ⊥) → AreRightUpTo (length J) J rs k → AreRightUpTo (length J + 1) J rs k
read_stops J rs k r at not h = record {
  within = h.within;
  good = h.good;
  next = subst (λ (x : List ReadTrace). IsAhead (length J + 1) J (last_length 0 (take k rs)) x) (sym at.behind) (ahead_now J (last_length 0 (take k rs)) r not (subst (λ (x : List ReadTrace). IsAhead (length J) J (last_length 0 (take k rs)) x) at.behind h.next));
}

-- ---- from the first record to the last

-- and where one wasn't
never_now : (J : List Record) (last : ℕ) (r : ReadTrace) → (length J + 1 ≤ r.length) ⊎ NeverRight J last r → IsRightRead J last r → ⊥
never_now J last r (inl later) right = omega (arith, later, right.within)
never_now J last r (inr never) right = never [] (subst (λ (K : List Record). IsRightRead K last r) (sym (append-nil J)) right)

wrong_read : (verifies : Verifies) (listed : List RosterEntry) (t : Trace) (J : List Record) (k : ℕ) (r : ReadTrace) → AreTextsOf (at_node verifies listed t) J t.texts → IsNext t.reads k r → AreRightUpTo (length J + 1) J t.reads k → IsFirstBad verifies listed t k
wrong_read verifies listed t J k r texts at h = record {
  journal = J;
  texts = texts;
  before = take k t.reads;
  read = r;
  after = drop (k + 1) t.reads;
  parts = sym (take-append-drop k t.reads) ∙ ap (λ (x : List ReadTrace). take k t.reads ++ x) at.behind;
  at = sym (length-take-le k t.reads h.within);
  good = h.good;
  bad = never_now J (last_length 0 (take k t.reads)) r (subst (λ (x : List ReadTrace). IsAhead (length J + 1) J (last_length 0 (take k t.reads)) x) at.behind h.next);
}

pub one_wrong : (verifies : Verifies) (listed : List RosterEntry) (t : Trace) (J : List Record) (k : ℕ) → AreTextsOf (at_node verifies listed t) J t.texts → k < length t.reads → AreRightUpTo (length J + 1) J t.reads k → IsFirstBad verifies listed t k
one_wrong verifies listed t J k texts within h =
    let r = at_place t.reads k within in
    let is : r.0 ≡ get_or t.reads k r.0 = sym (get_or_from_slice_get t.reads k r.0 r.0 r.1) in
    wrong_read verifies listed t J k r.0 texts (record {
      inside = within;
      front = take_next t.reads k r.0 within is;
      behind = drop_more t.reads k r.0 within ∙ ap (λ (x : ReadTrace). x ∷ drop (k + 1) t.reads) (sym is);
    }) h
