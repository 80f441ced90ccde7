-- Formats made of lawful formats are lawful.
use Rattle.std.proofs.Common.{◌≡◌, ℕ, ◌+◌, ◌<◌, ◌≤◌, Bool, true, false, cond, ltb, eqb, List, [], ◌++◌, length, take, drop, Option, Some, None, Ok, Err, refl, sym, ap, subst, ◌∙◌, append_assoc, arith, inl, inr}
use Rattle.std.proofs.lemmas.Bool.{ltb-false, ltb-true, le-ltb, lt-ltb, eqb-true, eqb-false, ne_eqb}
use Rattle.std.proofs.lemmas.List.{take_at, drop_at, take-append-drop, length-append, length-take, append-nil, nil_from_length}
use Rattle.depot_base.specs.Cursor.{Cursor, advanced}
use Rattle.depot_base.specs.Format.{◌>>=◌, Format, bytes_of, field, Later, made_of_fields, whole, FirstFault, inner, with_own_text, choose, variant, HasPart}
use Rattle.depot_base.proofs.FormatLaws.{IsBytes, IsBytes-drop, IsBytes-take, cursor, Took, Faulty, Lawful, bind_ok, bind_err, guard_ok, guard_err, need_ok, need_err, ok_is, not_err}

pos_of_test : (n : ℕ) → eqb n 0 ≡ false → 0 < n
pos_of_test n e = let no : n ≡ 0 → ⊥ = eqb-false n 0 e in omega arith

test_of_pos : (n : ℕ) → 0 < n → eqb n 0 ≡ false
test_of_pos n h = ne_eqb n 0 (λ e. omega arith)

-- ---- plain bytes

pub bytes_lawful : (n : ℕ) → Lawful (bytes_of n) n
unfolding bytes_of
bytes_lawful n = record {
  takes = λ c v d fits e.
      let g = guard_ok (ltb (length c.rest) n) c.at (Ok (take n c.rest, advanced n c)) (v, d) e in
      let long : n ≤ length c.rest = ltb-false _ _ g.0 in
      let len : length (take n c.rest) ≡ n = omega (arith, length-take n c.rest) in
      let took : Took (bytes_of n) c (take n c.rest) (advanced n c) = record { fits = len; parts = sym (take-append-drop n c.rest); place = omega (arith, len); rest_fits = IsBytes-drop n c.rest fits } in
      subst (λ (p : List ℕ × Cursor). Took (bytes_of n) c p.0 p.1) (ok_is (take n c.rest, advanced n c) (v, d) g.1) took;
  again = λ at v rest fits.
      let long : ltb (length (v ++ rest)) n ≡ false = le-ltb _ _ (omega (arith, length-append v rest, fits)) in
      rw (long, take_at v rest n fits, drop_at v rest n fits, fits) refl;
  faults = λ c o fits e.
      elim (guard_err (ltb (length c.rest) n) c.at (Ok (take n c.rest, advanced n c)) o e) [
        | inl p ↦ record { after = 0; place = omega (arith, p.1); fault = (refl, ltb-true _ _ p.0) }
        | inr p ↦ absurd (not_err (take n c.rest, advanced n c) o p.1)
      ];
  stops = λ at bytes k fault.
      let place : at + k ≡ at = omega (arith, fault.0) in
      rw (place, lt-ltb _ _ fault.1) refl;
  short = λ v fits. omega (arith, fits);
  early = λ bytes k fault. omega (arith, fault.0);
}

-- ---- a field, and what follows it

pub made_lawful : {V : Type 0} (v : V) → Lawful (made_of_fields v) 0
made_lawful {V = V} v = record {
  takes = λ c w d fits e.
      subst (λ (p : V × Cursor). Took (made_of_fields v) c p.0 p.1) (ok_is (v, c) (w, d) e) (record { fits = refl; parts = refl; place = omega arith; rest_fits = fits });
  again = λ at w rest fits. let p : w ≡ v = fits in let q : at ≡ at + 0 = omega arith in rw (p, ← q) refl;
  faults = λ c o fits e. absurd (not_err (v, c) o e);
  stops = λ at bytes k fault. absurd fault;
  short = λ w fits. omega arith;
  early = λ bytes k fault. absurd fault;
}

-- The field is the part of the value that it was read as.
abbrev pub Heads : {A V : Type 0} → Format A → (V → A) → (A → Format V) → Type 0
Heads {A = A} {V = V} first part more = (a : A) (v : V) → first.fits a → (more a).fits v → part v ≡ a

field_takes : {A V : Type 0} (first : Format A) (part : V → A) (more : A → Format V) (m n : ℕ) → Lawful first m → Heads first part more → ((a : A) → first.fits a → Lawful (more a) n)
    → (c : Cursor) (v : V) (d : Cursor) → IsBytes c.rest → (field first part more).read c ≡ Ok (v, d) → Took (field first part more) c v d
field_takes {A = A} {V = V} first part more m n fl heads ml c v d fits e =
    let b = bind_ok (first.read c) (λ x. (more x.0).read x.1) (v, d) e in
    let t = fl.takes c b.0.0 b.0.1 fits b.1 in
    let u = (ml b.0.0 t.fits).takes b.0.1 v d t.rest_fits b.2 in
    let front = first.text b.0.0 in
    let back = (more b.0.0).text v in
    let parts : c.rest ≡ (front ++ back) ++ d.rest = t.parts ∙ ap (λ (x : List ℕ). front ++ x) u.parts ∙ sym (append_assoc front back d.rest) in
    let place : d.at ≡ c.at + length (front ++ back) = omega (arith, t.place, u.place, length-append front back) in
    let both : (c.rest ≡ (front ++ back) ++ d.rest) × (d.at ≡ c.at + length (front ++ back)) × first.fits b.0.0 × (more b.0.0).fits v = (parts, place, t.fits, u.fits) in
    let P : A → Type 0 = λ x. (c.rest ≡ (first.text x ++ (more x).text v) ++ d.rest) × (d.at ≡ c.at + length (first.text x ++ (more x).text v)) × first.fits x × (more x).fits v in
    let moved = subst P (sym (heads b.0.0 v t.fits u.fits)) both in
    record { fits = (moved.2, moved.3); parts = moved.0; place = moved.1; rest_fits = u.rest_fits }

field_again : {A V : Type 0} (first : Format A) (part : V → A) (more : A → Format V) (m n : ℕ) → Lawful first m → ((a : A) → first.fits a → Lawful (more a) n)
    → (at : ℕ) (v : V) (rest : List ℕ) → (field first part more).fits v → (field first part more).read (cursor at ((field first part more).text v ++ rest)) ≡ Ok (v, cursor (at + length ((field first part more).text v)) rest)
field_again first part more m n fl ml at v rest fits =
    let front = first.text (part v) in
    let back = (more (part v)).text v in
    let one : first.read (cursor at (front ++ (back ++ rest))) ≡ Ok (part v, cursor (at + length front) (back ++ rest)) = fl.again at (part v) (back ++ rest) fits.0 in
    let two : (more (part v)).read (cursor (at + length front) (back ++ rest)) ≡ Ok (v, cursor (at + length front + length back) rest) = (ml (part v) fits.0).again (at + length front) v rest fits.1 in
    let place : at + length (front ++ back) ≡ at + length front + length back = omega (arith, length-append front back) in
    rw (append_assoc front back rest, place, one) two

field_faults : {A V : Type 0} (first : Format A) (part : V → A) (more : A → Format V) (m n : ℕ) → Lawful first m → ((a : A) → first.fits a → Lawful (more a) n)
    → (c : Cursor) (o : ℕ) → IsBytes c.rest → (field first part more).read c ≡ Err o → Faulty (field first part more) c o
field_faults first part more m n fl ml c o fits e =
    elim (bind_err (first.read c) (λ x. (more x.0).read x.1) o e) [
      | inl p ↦ let f = fl.faults c o fits p in record { after = f.after; place = f.place; fault = inl f.fault }
      | inr b ↦
          let t = fl.takes c b.0.0 b.0.1 fits b.1 in
          let f = (ml b.0.0 t.fits).faults b.0.1 o t.rest_fits b.2 in
          record {
            after = length (first.text b.0.0) + f.after;
            place = omega (arith, f.place, t.place);
            fault = inr (record { value = b.0.0; rest = b.0.1.rest; later = f.after; fits = t.fits; parts = t.parts; fault = f.fault; place = refl });
          }
    ]

later_stops : {A V : Type 0} (first : Format A) (part : V → A) (more : A → Format V) (m n : ℕ) → Lawful first m → ((a : A) → first.fits a → Lawful (more a) n)
    → (at : ℕ) (bytes : List ℕ) (k : ℕ) → Later first more bytes k → (field first part more).read (cursor at bytes) ≡ Err (at + k)
later_stops first part more m n fl ml at bytes k l =
    let front = first.text l.value in
    let one : first.read (cursor at (front ++ l.rest)) ≡ Ok (l.value, cursor (at + length front) l.rest) = fl.again at l.value l.rest l.fits in
    let two : (more l.value).read (cursor (at + length front) l.rest) ≡ Err (at + length front + l.later) = (ml l.value l.fits).stops (at + length front) l.rest l.later l.fault in
    let place : at + k ≡ at + length front + l.later = omega (arith, l.place) in
    rw (l.parts, place, one) two

pub field_lawful : {A V : Type 0} (first : Format A) (part : V → A) (more : A → Format V) (m n : ℕ) → Lawful first m → Heads first part more → ((a : A) → first.fits a → Lawful (more a) n) → Lawful (field first part more) (m + n)
field_lawful first part more m n fl heads ml = record {
  takes = λ c v d fits e. field_takes first part more m n fl heads ml c v d fits e;
  again = λ at v rest fits. field_again first part more m n fl ml at v rest fits;
  faults = λ c o fits e. field_faults first part more m n fl ml c o fits e;
  stops = λ at bytes k fault.
      elim fault [
        | inl f ↦ rw (fl.stops at bytes k f) refl
        | inr l ↦ later_stops first part more m n fl ml at bytes k l
      ];
  short = λ v fits. omega (arith, fl.short (part v) fits.0, (ml (part v) fits.0).short v fits.1, length-append (first.text (part v)) ((more (part v)).text v));
  early = λ bytes k fault.
      elim fault [
        | inl f ↦ omega (arith, fl.early bytes k f)
        | inr l ↦ omega (arith, l.place, fl.short l.value l.fits, (ml l.value l.fits).early l.rest l.later l.fault)
      ];
}

-- ---- one kind of several

part_of : {A : Type 0} (fits : A → Type 0) (o : Option A) → HasPart fits o → (a : A) × (o ≡ Some a) × fits a
part_of fits None h = absurd h
part_of fits (Some a) h = (a, refl, h)

pub variant_lawful : {A V : Type 0} (make : A → V) (part : V → Option A) (f : Format A) (m : ℕ) → ((a : A) → part (make a) ≡ Some a) → ((v : V) (a : A) → part v ≡ Some a → v ≡ make a) → Lawful f m → Lawful (variant make part f) m
variant_lawful {A = A} {V = V} make part f m is_part is_made l = record {
  takes = λ c v d fits e.
      let b = bind_ok (f.read c) (λ x. Ok (make x.0, x.1)) (v, d) e in
      let t = l.takes c b.0.0 b.0.1 fits b.1 in
      let took : Took (variant make part f) c (make b.0.0) b.0.1 = record {
        fits = rw (is_part b.0.0) t.fits;
        parts = rw (is_part b.0.0) t.parts;
        place = rw (is_part b.0.0) t.place;
        rest_fits = t.rest_fits;
      } in
      subst (λ (p : V × Cursor). Took (variant make part f) c p.0 p.1) (ok_is (make b.0.0, b.0.1) (v, d) b.2) took;
  again = λ at v rest fits.
      let p = part_of f.fits (part v) fits in
      let is : make p.0 ≡ v = sym (is_made v p.0 p.1) in
      rw (p.1, l.again at p.0 rest p.2, is) refl;
  faults = λ c o fits e.
      elim (bind_err (f.read c) (λ x. Ok (make x.0, x.1)) o e) [
        | inl p ↦ let g = l.faults c o fits p in record { after = g.after; place = g.place; fault = g.fault }
        | inr b ↦ absurd (not_err (make b.0.0, b.0.1) o b.2)
      ];
  stops = λ at bytes k fault. rw (l.stops at bytes k fault) refl;
  short = λ v fits. let p = part_of f.fits (part v) fits in rw p.1 (l.short p.0 p.2);
  early = l.early;
}

-- ---- a whole text

pub whole_takes : {V : Type 0} (f : Format V) (m : ℕ) → Lawful f m → (c : Cursor) (v : V) → IsBytes c.rest → whole f c ≡ Ok v → f.fits v × (c.rest ≡ f.text v)
whole_takes {V = V} f m l c v fits e =
    let b = bind_ok (f.read c) (λ x. cond (eqb (length x.1.rest) 0) (Ok x.0) (Err x.1.at)) v e in
    let g = need_ok (eqb (length b.0.1.rest) 0) (Ok b.0.0) b.0.1.at v b.2 in
    let t = l.takes c b.0.0 b.0.1 fits b.1 in
    let none : b.0.1.rest ≡ [] = nil_from_length _ (eqb-true _ _ g.0) in
    let parts : c.rest ≡ f.text b.0.0 = t.parts ∙ ap (λ (x : List ℕ). f.text b.0.0 ++ x) none ∙ append-nil (f.text b.0.0) in
    subst (λ (x : V). f.fits x × (c.rest ≡ f.text x)) (ok_is b.0.0 v g.1) (t.fits, parts)

pub whole_again : {V : Type 0} (f : Format V) (m : ℕ) → Lawful f m → (at : ℕ) (v : V) → f.fits v → whole f (cursor at (f.text v)) ≡ Ok v
whole_again f m l at v fits =
    let one : f.read (cursor at (f.text v)) ≡ Ok (v, cursor (at + length (f.text v)) []) = ap (λ (x : List ℕ). f.read (cursor at x)) (sym (append-nil (f.text v))) ∙ l.again at v [] fits in
    rw one refl

pub record FirstFaulty {V : Type 0} (f : Format V) (c : Cursor) (o : ℕ) : Type 0 where
  pub after : ℕ
  pub place : o ≡ c.at + after
  pub fault : FirstFault f c.rest after

pub whole_faults : {V : Type 0} (f : Format V) (m : ℕ) → Lawful f m → (c : Cursor) (o : ℕ) → IsBytes c.rest → whole f c ≡ Err o → FirstFaulty f c o
whole_faults f m l c o fits e =
    elim (bind_err (f.read c) (λ x. cond (eqb (length x.1.rest) 0) (Ok x.0) (Err x.1.at)) o e) [
      | inl p ↦ let g = l.faults c o fits p in record { after = g.after; place = g.place; fault = inl g.fault }
      | inr b ↦
          let t = l.takes c b.0.0 b.0.1 fits b.1 in
          elim (need_err (eqb (length b.0.1.rest) 0) (Ok b.0.0) b.0.1.at o b.2) [
            | inl q ↦ absurd (not_err b.0.0 o q.1)
            | inr q ↦ record {
              after = length (f.text b.0.0);
              place = omega (arith, t.place, q.1);
              fault = inr (record { value = b.0.0; rest = b.0.1.rest; fits = t.fits; parts = t.parts; more = pos_of_test (length b.0.1.rest) q.0; place = refl });
            }
          ]
    ]

pub whole_stops : {V : Type 0} (f : Format V) (m : ℕ) → Lawful f m → (at : ℕ) (bytes : List ℕ) (k : ℕ) → FirstFault f bytes k → whole f (cursor at bytes) ≡ Err (at + k)
whole_stops f m l at bytes k fault =
    elim fault [
      | inl p ↦ rw (l.stops at bytes k p) refl
      | inr t ↦
          let one : f.read (cursor at (f.text t.value ++ t.rest)) ≡ Ok (t.value, cursor (at + length (f.text t.value)) t.rest) = l.again at t.value t.rest t.fits in
          let more : eqb (length t.rest) 0 ≡ false = test_of_pos (length t.rest) t.more in
          rw (t.parts, t.place, one, more) refl
    ]

pub whole_early : {V : Type 0} (f : Format V) (m : ℕ) → Lawful f m → (bytes : List ℕ) (k : ℕ) → FirstFault f bytes k → k ≤ m
whole_early f m l bytes k fault =
    elim fault [
      | inl p ↦ l.early bytes k p
      | inr t ↦ omega (arith, t.place, l.short t.value t.fits)
    ]

-- no text of a good value begins another
pub prefix_free : {V : Type 0} (f : Format V) (m : ℕ) → Lawful f m → (v w : V) (x y : List ℕ) → f.fits v → f.fits w → f.text v ++ x ≡ f.text w ++ y → (v ≡ w) × (x ≡ y)
prefix_free {V = V} f m l v w x y fv fw e =
    let one = l.again 0 v x fv in
    let two = l.again 0 w y fw in
    let both : f.read (cursor 0 (f.text v ++ x)) ≡ f.read (cursor 0 (f.text w ++ y)) = ap (λ (t : List ℕ). f.read (cursor 0 t)) e in
    let same = ok_is (v, cursor (0 + length (f.text v)) x) (w, cursor (0 + length (f.text w)) y) (sym one ∙ both ∙ two) in
    (ap (λ (p : V × Cursor). p.0) same, ap (λ (p : V × Cursor). p.1.rest) same)

-- ---- a text inside another

inner_takes : {V : Type 0} (f : Format V) (m n : ℕ) → Lawful f m → (c : Cursor) (v : V) (d : Cursor) → IsBytes c.rest → (inner n f).read c ≡ Ok (v, d) → Took (inner n f) c v d
unfolding inner
inner_takes {V = V} f m n l c v d fits e =
    let g = guard_ok (ltb (length c.rest) n) c.at (whole f (cursor c.at (take n c.rest)) >>= λ v. Ok (v, advanced n c)) (v, d) e in
    let long : n ≤ length c.rest = ltb-false _ _ g.0 in
    let b = bind_ok (whole f (cursor c.at (take n c.rest))) (λ v. Ok (v, advanced n c)) (v, d) g.1 in
    let t = whole_takes f m l (cursor c.at (take n c.rest)) b.0 (IsBytes-take n c.rest fits) b.1 in
    let len : length (f.text b.0) ≡ n = omega (arith, length-take n c.rest, ap length t.1) in
    let took : Took (inner n f) c b.0 (advanced n c) = record {
      fits = (t.0, len);
      parts = sym (take-append-drop n c.rest) ∙ ap (λ (x : List ℕ). x ++ drop n c.rest) t.1;
      place = omega (arith, len);
      rest_fits = IsBytes-drop n c.rest fits;
    } in
    subst (λ (p : V × Cursor). Took (inner n f) c p.0 p.1) (ok_is (b.0, advanced n c) (v, d) b.2) took

inner_again : {V : Type 0} (f : Format V) (m n : ℕ) → Lawful f m → (at : ℕ) (v : V) (rest : List ℕ) → (inner n f).fits v → (inner n f).read (cursor at (f.text v ++ rest)) ≡ Ok (v, cursor (at + length (f.text v)) rest)
unfolding inner
inner_again f m n l at v rest fits =
    let len : length (f.text v) ≡ n = fits.1 in
    let long : ltb (length (f.text v ++ rest)) n ≡ false = le-ltb _ _ (omega (arith, length-append (f.text v) rest)) in
    let one : whole f (cursor at (f.text v)) ≡ Ok v = whole_again f m l at v fits.0 in
    rw (long, take_at (f.text v) rest n len, drop_at (f.text v) rest n len, one, len) refl

inner_faults : {V : Type 0} (f : Format V) (m n : ℕ) → Lawful f m → (c : Cursor) (o : ℕ) → IsBytes c.rest → (inner n f).read c ≡ Err o → Faulty (inner n f) c o
unfolding inner
inner_faults f m n l c o fits e =
    elim (guard_err (ltb (length c.rest) n) c.at (whole f (cursor c.at (take n c.rest)) >>= λ v. Ok (v, advanced n c)) o e) [
      | inl p ↦ record { after = 0; place = omega (arith, p.1); fault = inl (ltb-true _ _ p.0, refl) }
      | inr p ↦ elim (bind_err (whole f (cursor c.at (take n c.rest))) (λ v. Ok (v, advanced n c)) o p.1) [
        | inl q ↦ let g = whole_faults f m l (cursor c.at (take n c.rest)) o (IsBytes-take n c.rest fits) q in record { after = g.after; place = g.place; fault = inr (ltb-false _ _ p.0, g.fault) }
        | inr q ↦ absurd (not_err (q.0, advanced n c) o q.2)
      ]
    ]

inner_stops : {V : Type 0} (f : Format V) (m n : ℕ) → Lawful f m → (at : ℕ) (bytes : List ℕ) (k : ℕ) → (inner n f).fault bytes k → (inner n f).read (cursor at bytes) ≡ Err (at + k)
unfolding inner
inner_stops f m n l at bytes k fault =
    elim fault [
      | inl p ↦ let place : at + k ≡ at = omega (arith, p.1) in rw (place, lt-ltb _ _ p.0) refl
      | inr p ↦ rw (le-ltb _ _ p.0, whole_stops f m l at (take n bytes) k p.1) refl
    ]

pub inner_lawful : {V : Type 0} (f : Format V) (m n : ℕ) → Lawful f m → Lawful (inner n f) m
unfolding inner
inner_lawful f m n l = record {
  takes = λ c v d fits e. inner_takes f m n l c v d fits e;
  again = λ at v rest fits. inner_again f m n l at v rest fits;
  faults = λ c o fits e. inner_faults f m n l c o fits e;
  stops = λ at bytes k fault. inner_stops f m n l at bytes k fault;
  short = λ v fits. l.short v fits.0;
  early = λ bytes k fault.
      elim fault [
        | inl p ↦ omega (arith, p.1)
        | inr p ↦ whole_early f m l (take n bytes) k p.1
      ];
}

-- ---- a text that is kept, and a choice

kept_took : {V : Type 0} (f : Format V) (m n : ℕ) → Lawful f m → (c : Cursor) (v : V) (d : Cursor) → Took (inner n f) c v d → take n c.rest ≡ f.text v
unfolding inner
kept_took f m n l c v d t = rw (t.parts, take_at (f.text v) d.rest n t.fits.1) refl

kept_takes : {V : Type 0} (f : Format V) (m n : ℕ) → Lawful f m → (c : Cursor) (v : List ℕ × V) (d : Cursor) → IsBytes c.rest → (with_own_text n f).read c ≡ Ok (v, d) → Took (with_own_text n f) c v d
unfolding inner
kept_takes {V = V} f m n l c v d fits e =
    let b = bind_ok ((inner n f).read c) (λ x. Ok ((take n c.rest, x.0), x.1)) (v, d) e in
    let t = inner_takes f m n l c b.0.0 b.0.1 fits b.1 in
    let took : Took (with_own_text n f) c (take n c.rest, b.0.0) b.0.1 = record { fits = (t.fits, kept_took f m n l c b.0.0 b.0.1 t); parts = t.parts; place = t.place; rest_fits = t.rest_fits } in
    subst (λ (p : (List ℕ × V) × Cursor). Took (with_own_text n f) c p.0 p.1) (ok_is ((take n c.rest, b.0.0), b.0.1) (v, d) b.2) took

kept_again : {V : Type 0} (f : Format V) (m n : ℕ) → Lawful f m → (at : ℕ) (v : List ℕ × V) (rest : List ℕ) → (with_own_text n f).fits v → (with_own_text n f).read (cursor at (f.text v.1 ++ rest)) ≡ Ok (v, cursor (at + length (f.text v.1)) rest)
unfolding inner
kept_again f m n l at v rest fits =
    let one = inner_again f m n l at v.1 rest fits.0 in
    let same : take n (f.text v.1 ++ rest) ≡ v.0 = take_at (f.text v.1) rest n fits.0.1 ∙ sym fits.1 in
    rw (one, same) refl

pub kept_lawful : {V : Type 0} (f : Format V) (m n : ℕ) → Lawful f m → Lawful (with_own_text n f) m
unfolding inner
kept_lawful f m n l = record {
  takes = λ c v d fits e. kept_takes f m n l c v d fits e;
  again = λ at v rest fits. kept_again f m n l at v rest fits;
  faults = λ c o fits e.
      elim (bind_err ((inner n f).read c) (λ x. Ok ((take n c.rest, x.0), x.1)) o e) [
        | inl p ↦ let g = inner_faults f m n l c o fits p in record { after = g.after; place = g.place; fault = g.fault }
        | inr b ↦ absurd (not_err ((take n c.rest, b.0.0), b.0.1) o b.2)
      ];
  stops = λ at bytes k fault. rw (inner_stops f m n l at bytes k fault) refl;
  short = λ v fits. l.short v.1 fits.0.0;
  early = λ bytes k fault. (inner_lawful f m n l).early bytes k fault;
}

pub choose_lawful : {V : Type 0} (b : Bool) (f g : Format V) (m : ℕ) → Lawful f m → Lawful g m → Lawful (choose b f g) m
choose_lawful true f g m l r = l
choose_lawful false f g m l r = r

pub bytes_count : (n : ℕ) (v : List ℕ) → (bytes_of n).fits v → length v ≡ n
unfolding bytes_of
bytes_count n v f = f

pub inner_count : {V : Type 0} (n : ℕ) (f : Format V) (v : V) → (inner n f).fits v → length (f.text v) ≡ n
unfolding inner
inner_count n f v h = h.1
