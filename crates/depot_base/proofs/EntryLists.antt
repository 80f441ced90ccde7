-- A list of entries that follow one another is lawful.
use Rattle.std.proofs.Common.{◌≡◌, ℕ, zero, suc, ◌+◌, ◌*◌, ◌<◌, ◌≤◌, ◌⊎◌, Bool, false, cond, List, [], ◌∷◌, ◌++◌, ◌-◌, length, Option, Some, Ok, Err, refl, sym, ap, subst, ◌∙◌, append_assoc, arith, inl, inr}
use Rattle.std.specs.List.{flat_map}
use Rattle.std.proofs.Math.Nat.{suc-mul, mul-le-mul_right}
use Rattle.std.proofs.lemmas.List.{length-append, length_push, append-nil, get_or_push}
use Rattle.std.proofs.lemmas.Option.{slice_get-get_or}
use Rattle.depot_base.specs.Cursor.{Cursor}
use Rattle.depot_base.specs.Format.{Format, Follows, last_of, read_entries, Misplaced, BadEntry, list_of}
use Rattle.depot_base.proofs.FormatLaws.{IsBytes, cursor, Took, Lawful, bind_ok, bind_err, need_ok, need_err, ok_is, not_err}

-- the last of a list with one more
pub last_pushed : {E : Type 0} (front : List E) (e : E) → last_of (front ++ e ∷ []) ≡ Some e
last_pushed front e =
    let long = length_push front e in
    let at : length (front ++ e ∷ []) - 1 ≡ length front = omega arith in
    let here : length front < length (front ++ e ∷ []) = omega arith in
    rw (at, slice_get-get_or (front ++ e ∷ []) (length front) e here, get_or_push front e e (length front) refl) refl

-- some entries were taken after front
record Taken {E : Type 0} (entry : Format E) (may_follow : Option E → E → Bool) (n : ℕ) (front : List E) (c : Cursor) (all : List E) (d : Cursor) : Type 0 where
  pub more : List E
  pub all_is : all ≡ front ++ more
  pub follows : Follows entry may_follow front more
  pub count : length more ≡ n
  pub parts : c.rest ≡ flat_map entry.text more ++ d.rest
  pub place : d.at ≡ c.at + length (flat_map entry.text more)
  pub rest_fits : IsBytes d.rest

entries_take : {E : Type 0} (entry : Format E) (may_follow : Option E → E → Bool) (m : ℕ) → Lawful entry m
    → (n : ℕ) (front : List E) (c : Cursor) (all : List E) (d : Cursor) → IsBytes c.rest → read_entries entry.read may_follow n front c ≡ Ok (all, d) → Taken entry may_follow n front c all d
entries_take {E = E} entry may_follow m l zero front c all d fits e =
    let start : Taken entry may_follow zero front c front c = record { more = []; all_is = sym (append-nil front); follows = tt; count = refl; parts = refl; place = omega arith; rest_fits = fits } in
    subst (λ (p : List E × Cursor). Taken entry may_follow zero front c p.0 p.1) (ok_is (front, c) (all, d) e) start
entries_take {E = E} entry may_follow m l (suc n) front c all d fits e =
    let b = bind_ok (entry.read c) (λ x. cond (may_follow (last_of front) x.0) (read_entries entry.read may_follow n (front ++ x.0 ∷ []) x.1) (Err c.at)) (all, d) e in
    let x = b.0.0 in
    let g = need_ok (may_follow (last_of front) b.0.0) (read_entries entry.read may_follow n (front ++ b.0.0 ∷ []) b.0.1) c.at (all, d) b.2 in
    let t = l.takes c b.0.0 b.0.1 fits b.1 in
    let u = entries_take entry may_follow m l n (front ++ b.0.0 ∷ []) b.0.1 all d t.rest_fits g.1 in
    record {
      more = b.0.0 ∷ u.more;
      all_is = u.all_is ∙ append_assoc front (b.0.0 ∷ []) u.more;
      follows = (t.fits, g.0, u.follows);
      count = omega (arith, u.count);
      parts = t.parts ∙ ap (λ (r : List ℕ). entry.text b.0.0 ++ r) u.parts ∙ sym (append_assoc (entry.text b.0.0) (flat_map entry.text u.more) d.rest);
      place = omega (arith, t.place, u.place, length-append (entry.text b.0.0) (flat_map entry.text u.more));
      rest_fits = u.rest_fits;
    }

entries_again : {E : Type 0} (entry : Format E) (may_follow : Option E → E → Bool) (m : ℕ) → Lawful entry m
    → (front es : List E) (at : ℕ) (rest : List ℕ) (n : ℕ) → length es ≡ n → Follows entry may_follow front es
    → read_entries entry.read may_follow n front (cursor at (flat_map entry.text es ++ rest)) ≡ Ok (front ++ es, cursor (at + length (flat_map entry.text es)) rest)
entries_again entry may_follow m l front [] at rest zero len follows = let q : at + 0 ≡ at = omega arith in rw (append-nil front, q) refl
entries_again entry may_follow m l front [] at rest (suc n) len follows = absurd (omega arith)
entries_again entry may_follow m l front (e ∷ es) at rest zero len follows = absurd (omega arith)
entries_again entry may_follow m l front (e ∷ es) at rest (suc n) len follows =
    let one : entry.read (cursor at (entry.text e ++ (flat_map entry.text es ++ rest))) ≡ Ok (e, cursor (at + length (entry.text e)) (flat_map entry.text es ++ rest)) = l.again at e (flat_map entry.text es ++ rest) follows.0 in
    let two = entries_again entry may_follow m l (front ++ e ∷ []) es (at + length (entry.text e)) rest n (omega arith) follows.2 in
    let place : at + length (entry.text e ++ flat_map entry.text es) ≡ at + length (entry.text e) + length (flat_map entry.text es) = omega (arith, length-append (entry.text e) (flat_map entry.text es)) in
    rw (append_assoc (entry.text e) (flat_map entry.text es) rest, place, one, follows.1) (two ∙ ap (λ (r : List _). Ok (r, cursor (at + length (entry.text e) + length (flat_map entry.text es)) rest)) (append_assoc front (e ∷ []) es))

record Stopped {E : Type 0} (entry : Format E) (may_follow : Option E → E → Bool) (n : ℕ) (front : List E) (c : Cursor) (o : ℕ) : Type 0 where
  pub after : ℕ
  pub place : o ≡ c.at + after
  pub fault : BadEntry entry may_follow n front c.rest after

entries_fault : {E : Type 0} (entry : Format E) (may_follow : Option E → E → Bool) (m : ℕ) → Lawful entry m
    → (n : ℕ) (front : List E) (c : Cursor) (o : ℕ) → IsBytes c.rest → read_entries entry.read may_follow n front c ≡ Err o → Stopped entry may_follow n front c o
entries_fault entry may_follow m l zero front c o fits e = absurd (not_err (front, c) o e)
entries_fault {E = E} entry may_follow m l (suc n) front c o fits e =
    let none : last_of (front ++ []) ≡ last_of front = ap (λ (es : List E). last_of es) (append-nil front) in
    elim (bind_err (entry.read c) (λ x. cond (may_follow (last_of front) x.0) (read_entries entry.read may_follow n (front ++ x.0 ∷ []) x.1) (Err c.at)) o e) [
      | inl p ↦
          let f = l.faults c o fits p in
          record { after = f.after; place = f.place; fault = record { good = []; rest = c.rest; later = f.after; follows = tt; fewer = omega arith; parts = refl; bad = inl f.fault; place = omega arith } }
      | inr b ↦
          let t = l.takes c b.0.0 b.0.1 fits b.1 in
          elim (need_err (may_follow (last_of front) b.0.0) (read_entries entry.read may_follow n (front ++ b.0.0 ∷ []) b.0.1) c.at o b.2) [
            | inl p ↦
                let u = entries_fault entry may_follow m l n (front ++ b.0.0 ∷ []) b.0.1 o t.rest_fits p.1 in
                let g = u.fault in
                let regroup : (front ++ b.0.0 ∷ []) ++ g.good ≡ front ++ b.0.0 ∷ g.good = append_assoc front (b.0.0 ∷ []) g.good in
                record {
                  after = length (entry.text b.0.0) + u.after;
                  place = omega (arith, u.place, t.place);
                  fault = record {
                    good = b.0.0 ∷ g.good;
                    rest = g.rest;
                    later = g.later;
                    follows = (t.fits, p.0, g.follows);
                    fewer = omega (arith, g.fewer);
                    parts = t.parts ∙ ap (λ (r : List ℕ). entry.text b.0.0 ++ r) g.parts ∙ sym (append_assoc (entry.text b.0.0) (flat_map entry.text g.good) g.rest);
                    bad = subst (λ (es : List E). (entry.fault g.rest g.later) ⊎ ((g.later ≡ 0) × Misplaced entry may_follow (last_of es) g.rest)) regroup g.bad;
                    place = omega (arith, g.place, length-append (entry.text b.0.0) (flat_map entry.text g.good));
                  };
                }
            | inr p ↦ record {
              after = 0;
              place = omega (arith, p.1);
              fault = record {
                good = [];
                rest = c.rest;
                later = 0;
                follows = tt;
                fewer = omega arith;
                parts = refl;
                bad = inr (refl, record { value = b.0.0; rest = b.0.1.rest; fits = t.fits; parts = t.parts; refused = rw none p.0 });
                place = omega arith;
              };
            }
          ]
    ]

entries_stop : {E : Type 0} (entry : Format E) (may_follow : Option E → E → Bool) (m : ℕ) → Lawful entry m
    → (good front : List E) (n at : ℕ) (rest : List ℕ) (later : ℕ) → length good < n → Follows entry may_follow front good
    → (entry.fault rest later) ⊎ ((later ≡ 0) × Misplaced entry may_follow (last_of (front ++ good)) rest)
    → read_entries entry.read may_follow n front (cursor at (flat_map entry.text good ++ rest)) ≡ Err (at + length (flat_map entry.text good) + later)
entries_stop entry may_follow m l good front zero at rest later fewer follows bad = absurd (omega arith)
entries_stop {E = E} entry may_follow m l [] front (suc n) at rest later fewer follows bad =
    let none : last_of (front ++ []) ≡ last_of front = ap (λ (es : List E). last_of es) (append-nil front) in
    let place : at + 0 + later ≡ at + later = omega arith in
    elim bad [
      | inl f ↦ rw (place, l.stops at rest later f) refl
      | inr p ↦
          let q = p.1 in
          let same : at + 0 + later ≡ at = omega (arith, p.0) in
          let one : entry.read (cursor at (entry.text q.value ++ q.rest)) ≡ Ok (q.value, cursor (at + length (entry.text q.value)) q.rest) = l.again at q.value q.rest q.fits in
          let refused : may_follow (last_of front) q.value ≡ false = rw (← none) q.refused in
          rw (same, q.parts, one, refused) refl
    ]
entries_stop {E = E} entry may_follow m l (e ∷ good) front (suc n) at rest later fewer follows bad =
    let regroup : front ++ e ∷ good ≡ (front ++ e ∷ []) ++ good = sym (append_assoc front (e ∷ []) good) in
    let one : entry.read (cursor at (entry.text e ++ (flat_map entry.text good ++ rest))) ≡ Ok (e, cursor (at + length (entry.text e)) (flat_map entry.text good ++ rest)) = l.again at e (flat_map entry.text good ++ rest) follows.0 in
    let two = entries_stop entry may_follow m l good (front ++ e ∷ []) n (at + length (entry.text e)) rest later (omega arith) follows.2 (subst (λ (es : List E). (entry.fault rest later) ⊎ ((later ≡ 0) × Misplaced entry may_follow (last_of es) rest)) regroup bad) in
    let place : at + length (entry.text e ++ flat_map entry.text good) + later ≡ at + length (entry.text e) + length (flat_map entry.text good) + later = omega (arith, length-append (entry.text e) (flat_map entry.text good)) in
    rw (append_assoc (entry.text e) (flat_map entry.text good) rest, place, one, follows.1) two

texts_short : {E : Type 0} (entry : Format E) (may_follow : Option E → E → Bool) (m : ℕ) → Lawful entry m → (front es : List E) → Follows entry may_follow front es → length (flat_map entry.text es) ≤ length es * m
texts_short entry may_follow m l front [] follows = omega arith
texts_short entry may_follow m l front (e ∷ es) follows =
    let one = l.short e follows.0 in
    let two = texts_short entry may_follow m l (front ++ e ∷ []) es follows.2 in
    omega (arith, one, two, suc-mul (length es) m, length-append (entry.text e) (flat_map entry.text es))

pub list_lawful : {E : Type 0} (count : ℕ) (entry : Format E) (may_follow : Option E → E → Bool) (m : ℕ) → Lawful entry m → Lawful (list_of count entry may_follow) (count * m)
unfolding list_of
list_lawful {E = E} count entry may_follow m l = record {
  takes = λ c v d fits e.
      let t = entries_take entry may_follow m l count [] c v d fits e in
      let made : Took (list_of count entry may_follow) c t.more d = record { fits = (t.follows, t.count); parts = t.parts; place = t.place; rest_fits = t.rest_fits } in
      subst (λ (x : List E). Took (list_of count entry may_follow) c x d) (sym t.all_is) made;
  again = λ at v rest fits. entries_again entry may_follow m l [] v at rest count fits.1 fits.0;
  faults = λ c o fits e.
      let u = entries_fault entry may_follow m l count [] c o fits e in
      record { after = u.after; place = u.place; fault = u.fault };
  stops = λ at bytes k f.
      let place : at + k ≡ at + length (flat_map entry.text f.good) + f.later = omega (arith, f.place) in
      rw (f.parts, place) (entries_stop entry may_follow m l f.good [] count at f.rest f.later f.fewer f.follows f.bad);
  short = λ v fits. omega (arith, texts_short entry may_follow m l [] v fits.0, ap (λ (n : ℕ). n * m) fits.1);
  early = λ bytes k f.
      let one = texts_short entry may_follow m l [] f.good f.follows in
      let two : suc (length f.good) * m ≤ count * m = mul-le-mul_right m (omega (arith, f.fewer)) in
      elim f.bad [
        | inl g ↦ omega (arith, one, two, suc-mul (length f.good) m, f.place, l.early f.rest f.later g)
        | inr g ↦ omega (arith, one, two, suc-mul (length f.good) m, f.place, g.0)
      ];
}

pub list_count : {E : Type 0} (count : ℕ) (entry : Format E) (may_follow : Option E → E → Bool) (es : List E) → (list_of count entry may_follow).fits es → length es ≡ count
unfolding list_of
list_count count entry may_follow es f = f.1
