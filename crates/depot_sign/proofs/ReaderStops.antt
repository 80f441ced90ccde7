-- Where the reader of a roster stops for a count over 256, or for a node that occurs twice.
use Rattle.std.proofs.Common.{◌≡◌, ℕ, zero, suc, ◌+◌, ◌<◌, ◌≤◌, ◌⊎◌, Bool, true, false, cond, eqb, ltb, List, [], ◌∷◌, ◌++◌, length, Option, Some, None, Result, Ok, Err, refl, sym, ap, subst, ◌∙◌, append_assoc, arith, inl, inr}
use Rattle.std.specs.Int.{w16}
use Rattle.std.specs.List.{flat_map}
use Rattle.std.proofs.lemmas.Bool.{eq-eqb, eqb-true, ne_eqb, lt-ltb, ltb-true, ltb-false}
use Rattle.std.proofs.lemmas.List.{append-nil}
use Rattle.depot_base.specs.Cursor.{Cursor, numeral}
use Rattle.depot_base.specs.Format.{number, constant, last_of, Follows}
use Rattle.depot_base.specs.Parts.{roster_entry, roster_entry_rises}
use Rattle.depot_base.specs.declared.key.RosterEntry.{RosterEntry}
use Rattle.depot_base.proofs.FormatLaws.{IsBytes, cursor}
use Rattle.depot_base.proofs.PartLaws.{constant_lawful, u16_lawful, roster_entry_lawful}
use Rattle.depot_sign.specs.declared.text.RosterStop.{RosterStop}
use Rattle.depot_sign.specs.declared.text.RosterStop.TheVariants as stop
use Rattle.depot_sign.specs.RosterReading.{after_field, after_part, checked_count, count_or_stop, entry_placed, entries_or_stop, roster_or_stop, whole_or_stop}

-- the stop isn't at a field
abbrev pub IsNoField : RosterStop → Type 0
IsNoField s = (at : ℕ) → s ≡ stop.At at → ⊥

-- ---- one step

pub field_is : {A B : Type 0} (r : Result A ℕ) (f : A → Result B RosterStop) (s : RosterStop) → IsNoField s → after_field r f ≡ Err s → (x : A) × (r ≡ Ok x) × (f x ≡ Err s)
field_is (Ok x) f s other e = (x, refl, e)
field_is (Err at) f s other e = let p : stop.At at ≡ s = cc in absurd (other at (sym p))

pub field_ok : {A B : Type 0} (r : Result A ℕ) (f : A → Result B RosterStop) (y : B) → after_field r f ≡ Ok y → (x : A) × (r ≡ Ok x) × (f x ≡ Ok y)
field_ok (Ok x) f y e = (x, refl, e)
field_ok (Err at) f y e = absurd cc

pub after_good : {A B : Type 0} (r : Result A ℕ) (f : A → Result B RosterStop) (x : A) → r ≡ Ok x → after_field r f ≡ f x
after_good r f x e = rw e refl

pub part_is : {A B : Type 0} (r : Result A RosterStop) (f : A → Result B RosterStop) (s : RosterStop) → after_part r f ≡ Err s → (r ≡ Err s) ⊎ ((x : A) × (r ≡ Ok x) × (f x ≡ Err s))
part_is (Ok x) f s e = inr (x, refl, e)
part_is (Err t) f s e = let p : t ≡ s = cc in inl (ap (λ (u : RosterStop). Err u) p)

-- the end of the text is a field
end_is : {V : Type 0} (b : Bool) (v : V) (at : ℕ) (s : RosterStop) → IsNoField s → cond b (Ok v) (Err (stop.At at)) ≡ Err s → ⊥
end_is true v at s other e = cc
end_is false v at s other e = let p : stop.At at ≡ s = cc in other at (sym p)

-- ---- the version and the kind

-- a byte of one value is written as it is
byte_text : (n v : ℕ) → n < 256 → (constant n).fits v → (constant n).text v ≡ n ∷ []
unfolding number numeral
byte_text n v small fits = ap (λ (byte : ℕ). byte ∷ []) (omega (arith, fits.0, fits.1))

-- The version and the kind come first, and the reader stops after them.
pub record Headed (text : List ℕ) (s : RosterStop) : Type 0 where
  pub c : Cursor
  pub parts : text ≡ 1 ∷ 4 ∷ c.rest
  pub fits : IsBytes c.rest
  pub stopped : after_part (count_or_stop c) (λ count. entries_or_stop count.0 [] count.1) ≡ Err s

pub headed : (text : List ℕ) (s : RosterStop) → IsBytes text → IsNoField s → whole_or_stop (cursor 0 text) ≡ Err s → Headed text s
unfolding roster_or_stop
headed text s bytes other e =
    elim (part_is (roster_or_stop (cursor 0 text)) _ s e) [
      | inl p ↦
          let a = field_is ((constant 1).read (cursor 0 text)) _ s other p in
          let one = (constant_lawful 1 (omega arith)).takes (cursor 0 text) a.0.0 a.0.1 bytes a.1 in
          let b = field_is ((constant 4).read a.0.1) _ s other a.2 in
          let four = (constant_lawful 4 (omega arith)).takes a.0.1 b.0.0 b.0.1 one.rest_fits b.1 in
          record {
            c = b.0.1;
            parts = one.parts ∙ ap (λ (l : List ℕ). l ++ a.0.1.rest) (byte_text 1 a.0.0 (omega arith) one.fits) ∙ ap (λ (l : List ℕ). 1 ∷ l) (four.parts ∙ ap (λ (l : List ℕ). l ++ b.0.1.rest) (byte_text 4 b.0.0 (omega arith) four.fits));
            fits = four.rest_fits;
            stopped = b.2;
          }
      | inr p ↦ absurd (end_is _ _ _ s other p.2)
    ]

-- and where it stops after them, it stops
pub stops_behind : (bytes : List ℕ) (s : RosterStop) → after_part (count_or_stop (cursor 2 bytes)) (λ count. entries_or_stop count.0 [] count.1) ≡ Err s → whole_or_stop (cursor 0 (1 ∷ 4 ∷ bytes)) ≡ Err s
unfolding roster_or_stop number numeral
stops_behind bytes s e =
    let one : (constant 1).read (cursor 0 (1 ∷ 4 ∷ bytes)) ≡ Ok (1, cursor 1 (4 ∷ bytes)) = (constant_lawful 1 (omega arith)).again 0 1 (4 ∷ bytes) (omega arith, omega arith) in
    let two : (constant 4).read (cursor 1 (4 ∷ bytes)) ≡ Ok (4, cursor 2 bytes) = (constant_lawful 4 (omega arith)).again 1 4 bytes (omega arith, omega arith) in
    let front : roster_or_stop (cursor 0 (1 ∷ 4 ∷ bytes)) ≡ Err s = after_good _ _ _ one ∙ after_good _ _ _ two ∙ e in
    rw front refl

-- ---- the count

checked_is : (great none : Bool) (n at : ℕ) (x : ℕ × Cursor) (s : RosterStop) → IsNoField s → cond great (Err (stop.TooMany n)) (cond none (Err (stop.At at)) (Ok x)) ≡ Err s → (great ≡ true) × (s ≡ stop.TooMany n)
checked_is true none n at x s other e = let p : stop.TooMany n ≡ s = cc in (refl, sym p)
checked_is false true n at x s other e = let p : stop.At at ≡ s = cc in absurd (other at (sym p))
checked_is false false n at x s other e = absurd cc

checked_ok : (great none : Bool) (n at : ℕ) (x y : ℕ × Cursor) → cond great (Err (stop.TooMany n)) (cond none (Err (stop.At at)) (Ok x)) ≡ Ok y → (great ≡ false) × (x ≡ y)
checked_ok true none n at x y e = absurd cc
checked_ok false true n at x y e = absurd cc
checked_ok false false n at x y e = (refl, cc)

-- A count over 256 comes first.
pub record Great (bytes : List ℕ) (s : RosterStop) : Type 0 where
  pub count : ℕ
  pub rest : List ℕ
  pub parts : bytes ≡ numeral w16 count ++ rest
  pub fits : count < 65536
  pub great : 256 < count
  pub is : s ≡ stop.TooMany count

pub great_is : (c : Cursor) (s : RosterStop) → IsBytes c.rest → IsNoField s → count_or_stop c ≡ Err s → Great c.rest s
unfolding count_or_stop number
great_is c s bytes other e =
    let a = field_is ((number w16 0 65535).read c) (λ x. checked_count c.at x) s other e in
    let t = (u16_lawful 0 65535 (omega arith)).takes c a.0.0 a.0.1 bytes a.1 in
    let g = checked_is (ltb 256 a.0.0) (eqb a.0.0 0) a.0.0 c.at a.0 s other a.2 in
    record { count = a.0.0; rest = a.0.1.rest; parts = t.parts; fits = omega (arith, t.fits.1); great = ltb-true 256 a.0.0 g.0; is = g.1 }

-- A good count comes first.
pub record Counted (c : Cursor) (count : ℕ) (d : Cursor) : Type 0 where
  pub parts : c.rest ≡ numeral w16 count ++ d.rest
  pub limit : count ≤ 256
  pub fits : IsBytes d.rest

pub count_is : (c : Cursor) (count : ℕ) (d : Cursor) → IsBytes c.rest → count_or_stop c ≡ Ok (count, d) → Counted c count d
unfolding count_or_stop number
count_is c count d bytes e =
    let a = field_ok ((number w16 0 65535).read c) (λ x. checked_count c.at x) (count, d) e in
    let t = (u16_lawful 0 65535 (omega arith)).takes c a.0.0 a.0.1 bytes a.1 in
    let g = checked_ok (ltb 256 a.0.0) (eqb a.0.0 0) a.0.0 c.at a.0 (count, d) a.2 in
    let here : Counted c a.0.0 a.0.1 = record { parts = t.parts; limit = ltb-false 256 a.0.0 g.0; fits = t.rest_fits } in
    subst (λ (x : ℕ × Cursor). Counted c x.0 x.1) g.1 here

-- ---- the entries

placed_some : {B : Type 0} (same below : Bool) (node at : ℕ) (next : Result B RosterStop) (s : RosterStop) → IsNoField s → cond same (Err (stop.Twice node)) (cond below next (Err (stop.At at))) ≡ Err s
    → ((same ≡ true) × (s ≡ stop.Twice node)) ⊎ ((below ≡ true) × (next ≡ Err s))
placed_some true below node at next s other e = let p : stop.Twice node ≡ s = cc in inl (refl, sym p)
placed_some false true node at next s other e = inr (refl, e)
placed_some false false node at next s other e = let p : stop.At at ≡ s = cc in absurd (other at (sym p))

-- The entry names the node of the one before it.
record SameNode (before : Option RosterEntry) (e : RosterEntry) (s : RosterStop) : Type 0 where
  pub last : RosterEntry
  pub is_last : before ≡ Some last
  pub same : last.node ≡ e.node
  pub is : s ≡ stop.Twice e.node

placed_is : {B : Type 0} (before : Option RosterEntry) (e : RosterEntry) (at : ℕ) (next : Result B RosterStop) (s : RosterStop) → IsNoField s → entry_placed before e at next ≡ Err s
    → SameNode before e s ⊎ ((roster_entry_rises before e ≡ true) × (next ≡ Err s))
placed_is None e at next s other h = inr (refl, h)
placed_is (Some before) e at next s other h =
    elim (placed_some (eqb before.node e.node) (ltb before.node e.node) e.node at next s other h) [
      | inl p ↦ inl (record { last = before; is_last = refl; same = eqb-true before.node e.node p.0; is = p.1 })
      | inr p ↦ inr p
    ]

placed_rises : {B : Type 0} (before : Option RosterEntry) (e : RosterEntry) (at : ℕ) (next : Result B RosterStop) → roster_entry_rises before e ≡ true → entry_placed before e at next ≡ next
placed_rises None e at next rises = refl
placed_rises (Some before) e at next rises =
    let below : before.node < e.node = ltb-true before.node e.node rises in
    rw (ne_eqb before.node e.node (λ same. omega arith), lt-ltb before.node e.node below) refl

-- Good entries come first, and after them one that names the node of the last of them.
pub record Repeats (n : ℕ) (front : List RosterEntry) (bytes : List ℕ) (s : RosterStop) : Type 0 where
  pub more : List RosterEntry
  pub before : RosterEntry
  pub again : RosterEntry
  pub rest : List ℕ
  pub parts : bytes ≡ flat_map roster_entry.text more ++ (roster_entry.text again ++ rest)
  pub fewer : length more < n
  pub follow : Follows roster_entry roster_entry_rises front more
  pub fits : roster_entry.fits again
  pub last : last_of (front ++ more) ≡ Some before
  pub same : before.node ≡ again.node
  pub is : s ≡ stop.Twice again.node

pub repeats : (n : ℕ) (front : List RosterEntry) (c : Cursor) (s : RosterStop) → IsBytes c.rest → IsNoField s → entries_or_stop n front c ≡ Err s → Repeats n front c.rest s
repeats zero front c s bytes other e = absurd cc
repeats (suc n) front c s bytes other e =
    let a = field_is (roster_entry.read c) (λ x. entry_placed (last_of front) x.0 c.at (entries_or_stop n (front ++ x.0 ∷ []) x.1)) s other e in
    let t = roster_entry_lawful.takes c a.0.0 a.0.1 bytes a.1 in
    elim (placed_is (last_of front) a.0.0 c.at (entries_or_stop n (front ++ a.0.0 ∷ []) a.0.1) s other a.2) [
      | inl p ↦ record {
        more = [];
        before = p.last;
        again = a.0.0;
        rest = a.0.1.rest;
        parts = t.parts;
        fewer = omega arith;
        follow = tt;
        fits = t.fits;
        last = ap (λ (es : List RosterEntry). last_of es) (append-nil front) ∙ p.is_last;
        same = p.same;
        is = p.is;
      }
      | inr p ↦
          let r = repeats n (front ++ a.0.0 ∷ []) a.0.1 s t.rest_fits other p.1 in
          record {
            more = a.0.0 ∷ r.more;
            before = r.before;
            again = r.again;
            rest = r.rest;
            parts = t.parts ∙ ap (λ (l : List ℕ). roster_entry.text a.0.0 ++ l) r.parts ∙ sym (append_assoc (roster_entry.text a.0.0) (flat_map roster_entry.text r.more) (roster_entry.text r.again ++ r.rest));
            fewer = omega (arith, r.fewer);
            follow = (t.fits, p.0, r.follow);
            fits = r.fits;
            last = sym (ap (λ (es : List RosterEntry). last_of es) (append_assoc front (a.0.0 ∷ []) r.more)) ∙ r.last;
            same = r.same;
            is = r.is;
          }
    ]

-- and where it is so, the reader stops for it
pub stops_at_repeated : (more front : List RosterEntry) (n at : ℕ) (rest : List ℕ) (before again : RosterEntry) → length more < n → Follows roster_entry roster_entry_rises front more
    → last_of (front ++ more) ≡ Some before → before.node ≡ again.node → roster_entry.fits again
    → entries_or_stop n front (cursor at (flat_map roster_entry.text more ++ (roster_entry.text again ++ rest))) ≡ Err (stop.Twice again.node)
stops_at_repeated more front zero at rest before again fewer follow last same fits = absurd (omega arith)
stops_at_repeated [] front (suc n) at rest before again fewer follow last same fits =
    let is_last : last_of front ≡ Some before = sym (ap (λ (es : List RosterEntry). last_of es) (append-nil front)) ∙ last in
    after_good _ _ _ (roster_entry_lawful.again at again rest fits) ∙ rw (is_last, eq-eqb before.node again.node same) refl
stops_at_repeated (e ∷ more) front (suc n) at rest before again fewer follow last same fits =
    let behind = flat_map roster_entry.text more ++ (roster_entry.text again ++ rest) in
    let one = roster_entry_lawful.again at e behind follow.0 in
    let is_last : last_of ((front ++ e ∷ []) ++ more) ≡ Some before = ap (λ (es : List RosterEntry). last_of es) (append_assoc front (e ∷ []) more) ∙ last in
    let two = stops_at_repeated more (front ++ e ∷ []) n (at + length (roster_entry.text e)) rest before again (omega arith) follow.2 is_last same fits in
    rw (append_assoc (roster_entry.text e) (flat_map roster_entry.text more) (roster_entry.text again ++ rest)) (after_good _ _ _ one ∙ placed_rises (last_of front) e at _ follow.1 ∙ two)
