-- Whole texts are lawful where their parts are.
use Rattle.std.proofs.Common.{◌≡◌, ℕ, ◌+◌, ◌≤◌, Bool, true, false, ltb, List, ◌++◌, length, Option, Some, None, Ok, Err, refl, sym, ap, subst, ◌∙◌, arith, inl, inr}
use Rattle.std.proofs.lemmas.Bool.{ltb-false, ltb-true, le-ltb, lt-ltb}
use Rattle.depot_base.specs.Cursor.{Cursor}
use Rattle.depot_base.specs.Format.{Format, HasPart}
use Rattle.depot_base.specs.Closed.{Closed, closing, rest_of, before, closed_variant, closed_choose}
use Rattle.depot_base.proofs.FormatLaws.{IsBytes, cursor, Lawful, bind_ok, bind_err, guard_ok, guard_err, ok, ok_is, not_err}
use Rattle.depot_base.proofs.Combined.{whole_takes, whole_again, whole_faults, whole_stops, whole_early}

pub record ClosedFaulty {V : Type 0} (f : Closed V) (c : Cursor) (o : ℕ) : Type 0 where
  pub after : ℕ
  pub place : o ≡ c.at + after
  pub fault : f.fault c.rest after

pub record LawfulClosed {V : Type 0} (f : Closed V) (most : ℕ) : Type 0 where
  pub takes : (c : Cursor) (v : V) → IsBytes c.rest → f.read c ≡ Ok v → f.fits v × (c.rest ≡ f.text v)
  pub again : (at : ℕ) (v : V) → f.fits v → f.read (cursor at (f.text v)) ≡ Ok v
  pub faults : (c : Cursor) (o : ℕ) → IsBytes c.rest → f.read c ≡ Err o → ClosedFaulty f c o
  pub stops : (at : ℕ) (bytes : List ℕ) (k : ℕ) → f.fault bytes k → f.read (cursor at bytes) ≡ Err (at + k)
  pub early : (bytes : List ℕ) (k : ℕ) → f.fault bytes k → k ≤ most

pub closing_lawful : {V : Type 0} (f : Format V) (m : ℕ) → Lawful f m → LawfulClosed (closing f) m
closing_lawful f m l = record {
  takes = λ c v fits e. whole_takes f m l c v fits e;
  again = λ at v fits. whole_again f m l at v fits;
  faults = λ c o fits e. let w = whole_faults f m l c o fits e in record { after = w.after; place = w.place; fault = w.fault };
  stops = λ at bytes k fault. whole_stops f m l at bytes k fault;
  early = λ bytes k fault. whole_early f m l bytes k fault;
}

pub rest_lawful : (high : ℕ) → LawfulClosed (rest_of high) high
unfolding rest_of
rest_lawful high = record {
  takes = λ c v fits e.
      let g = guard_ok (ltb high (length c.rest)) (c.at + high) (Ok c.rest) v e in
      let le : length c.rest ≤ high = ltb-false _ _ g.0 in
      subst (λ (x : List ℕ). (length x ≤ high) × (c.rest ≡ x)) (ok_is c.rest v g.1) (le, refl);
  again = λ at v fits. rw (le-ltb _ _ fits) refl;
  faults = λ c o fits e.
      elim (guard_err (ltb high (length c.rest)) (c.at + high) (Ok c.rest) o e) [
        | inl p ↦ record { after = high; place = sym p.1; fault = (ltb-true _ _ p.0, refl) }
        | inr p ↦ absurd (not_err c.rest o p.1)
      ];
  stops = λ at bytes k fault. rw (lt-ltb _ _ fault.0, fault.1) refl;
  early = λ bytes k fault. omega (arith, fault.1);
}

before_takes : {A V : Type 0} (first : Format A) (part : V → A) (more : A → Closed V) (m n : ℕ) → Lawful first m → ((a : A) (v : V) → first.fits a → (more a).fits v → part v ≡ a) → ((a : A) → first.fits a → LawfulClosed (more a) n)
    → (c : Cursor) (v : V) → IsBytes c.rest → (before first part more).read c ≡ Ok v → (before first part more).fits v × (c.rest ≡ (before first part more).text v)
before_takes {A = A} first part more m n fl heads ml c v fits e =
    let b = bind_ok (first.read c) (λ x. (more x.0).read x.1) v e in
    let t = fl.takes c b.0.0 b.0.1 fits b.1 in
    let u = (ml b.0.0 t.fits).takes b.0.1 v t.rest_fits b.2 in
    let parts : c.rest ≡ first.text b.0.0 ++ (more b.0.0).text v = t.parts ∙ ap (λ (x : List ℕ). first.text b.0.0 ++ x) u.1 in
    let both : (c.rest ≡ first.text b.0.0 ++ (more b.0.0).text v) × first.fits b.0.0 × (more b.0.0).fits v = (parts, t.fits, u.0) in
    let P : A → Type 0 = λ x. (c.rest ≡ first.text x ++ (more x).text v) × first.fits x × (more x).fits v in
    let moved = subst P (sym (heads b.0.0 v t.fits u.0)) both in
    ((moved.1, moved.2), moved.0)

pub before_lawful : {A V : Type 0} (first : Format A) (part : V → A) (more : A → Closed V) (m n : ℕ) → Lawful first m → ((a : A) (v : V) → first.fits a → (more a).fits v → part v ≡ a) → ((a : A) → first.fits a → LawfulClosed (more a) n) → LawfulClosed (before first part more) (m + n)
before_lawful first part more m n fl heads ml = record {
  takes = λ c v fits e. before_takes first part more m n fl heads ml c v fits e;
  again = λ at v fits.
      let one = fl.again at (part v) ((more (part v)).text v) fits.0 in
      rw one ((ml (part v) fits.0).again (at + length (first.text (part v))) v fits.1);
  faults = λ c o fits e.
      elim (bind_err (first.read c) (λ x. (more x.0).read x.1) o e) [
        | inl p ↦ let f = fl.faults c o fits p in record { after = f.after; place = f.place; fault = inl f.fault }
        | inr b ↦
            let t = fl.takes c b.0.0 b.0.1 fits b.1 in
            let f = (ml b.0.0 t.fits).faults b.0.1 o t.rest_fits b.2 in
            record {
              after = length (first.text b.0.0) + f.after;
              place = omega (arith, f.place, t.place);
              fault = inr (record { value = b.0.0; rest = b.0.1.rest; later = f.after; fits = t.fits; parts = t.parts; fault = f.fault; place = refl });
            }
      ];
  stops = λ at bytes k fault.
      elim fault [
        | inl f ↦ rw (fl.stops at bytes k f) refl
        | inr l ↦
            let one = fl.again at l.value l.rest l.fits in
            let two = (ml l.value l.fits).stops (at + length (first.text l.value)) l.rest l.later l.fault in
            let place : at + k ≡ at + length (first.text l.value) + l.later = omega (arith, l.place) in
            rw (l.parts, place, one) two
      ];
  early = λ bytes k fault.
      elim fault [
        | inl f ↦ omega (arith, fl.early bytes k f)
        | inr l ↦ omega (arith, l.place, fl.short l.value l.fits, (ml l.value l.fits).early l.rest l.later l.fault)
      ];
}

-- the part of a value of this kind: it fits, the value is made of it, and they have one text
record HasMade {A V : Type 0} (make : A → V) (part : V → Option A) (f : Closed A) (v : V) : Type 0 where
  pub of : A
  pub fits : f.fits of
  pub is : v ≡ make of
  pub same_text : (closed_variant make part f).text v ≡ f.text of

made_from : {A V : Type 0} (make : A → V) (part : V → Option A) (f : Closed A) → ((v : V) (a : A) → part v ≡ Some a → v ≡ make a) → (v : V) (o : Option A) → part v ≡ o → HasPart f.fits o → HasMade make part f v
made_from make part f back v None e h = absurd h
made_from make part f back v (Some a) e h = record { of = a; fits = h; is = back v a e; same_text = rw e refl }

made_of : {A V : Type 0} (make : A → V) (part : V → Option A) (f : Closed A) → ((v : V) (a : A) → part v ≡ Some a → v ≡ make a) → (v : V) → (closed_variant make part f).fits v → HasMade make part f v
made_of make part f back v fits = made_from make part f back v (part v) refl fits

pub closed_variant_lawful : {A V : Type 0} (make : A → V) (part : V → Option A) (f : Closed A) (m : ℕ) → ((a : A) → part (make a) ≡ Some a) → ((v : V) (a : A) → part v ≡ Some a → v ≡ make a) → LawfulClosed f m → LawfulClosed (closed_variant make part f) m
closed_variant_lawful {A = A} {V = V} make part f m there back l = record {
  takes = λ c v fits e.
      let b = bind_ok (f.read c) (λ x. Ok (make x)) v e in
      let t = l.takes c b.0 fits b.1 in
      let made : (closed_variant make part f).fits (make b.0) × (c.rest ≡ (closed_variant make part f).text (make b.0)) = (rw (there b.0) t.0, rw (there b.0) t.1) in
      subst (λ (x : V). (closed_variant make part f).fits x × (c.rest ≡ (closed_variant make part f).text x)) (ok_is (make b.0) v b.2) made;
  again = λ at v fits.
      let p = made_of make part f back v fits in
      let one : f.read (cursor at (f.text p.of)) ≡ Ok p.of = l.again at p.of p.fits in
      rw (p.same_text, one) (ap (λ (x : V). ok x) (sym p.is));
  faults = λ c o fits e.
      elim (bind_err (f.read c) (λ x. Ok (make x)) o e) [
        | inl p ↦ let g = l.faults c o fits p in record { after = g.after; place = g.place; fault = g.fault }
        | inr b ↦ absurd (not_err (make b.0) o b.2)
      ];
  stops = λ at bytes k fault. rw (l.stops at bytes k fault) refl;
  early = l.early;
}

pub closed_choose_lawful : {V : Type 0} (b : Bool) (f g : Closed V) (m : ℕ) → LawfulClosed f m → LawfulClosed g m → LawfulClosed (closed_choose b f g) m
closed_choose_lawful true f g m l r = l
closed_choose_lawful false f g m l r = r

pub weaken_closed : {V : Type 0} (f : Closed V) (m n : ℕ) → m ≤ n → LawfulClosed f m → LawfulClosed f n
weaken_closed f m n le l = record {
  takes = l.takes;
  again = l.again;
  faults = l.faults;
  stops = l.stops;
  early = λ bytes k fault. omega (arith, l.early bytes k fault);
}
