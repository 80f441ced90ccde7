-- Numbers and plain bytes are lawful.
use Rattle.std.proofs.Common.{◌≡◌, ℕ, ◌+◌, ◌<◌, ◌≤◌, true, false, cond, ltb, leb, List, [], ◌∷◌, ◌++◌, length, take, Ok, Err, refl, sym, ap, subst, arith, inl, inr}
use Rattle.std.specs.Int.{Width, w8, w16, w32, w64, byte_len, from_be_bytes, to_be_bytes, is_in_range}
use Rattle.std.proofs.lemmas.Bool.{ltb-false, ltb-true, le-ltb, lt-ltb, leb-true, le-leb, and_parts}
use Rattle.std.proofs.lemmas.List.{take_at, drop_at, take-append-drop, length-append, length-take}
use Rattle.std.proofs.lemmas.Nat.{be_bytes_2, be_bytes_4, be_bytes_8, from_be_bytes-to_be_bytes_2, from_be_bytes-to_be_bytes_4, from_be_bytes-to_be_bytes_8}
use Rattle.depot_base.specs.Cursor.{Cursor, advanced, numeral}
use Rattle.depot_base.specs.Format.{number}
use Rattle.depot_base.proofs.FormatLaws.{IsBytes, IsBytes-drop, IsBytes-take, cursor, Took, Faulty, Lawful, guard_ok, guard_err, need_ok, need_err, ok_is}

pub record IsWide (w : Width) (limit : ℕ) : Type 0 where
  pub len : (n : ℕ) → length (to_be_bytes w n) ≡ byte_len w
  pub back : (bytes : List ℕ) → length bytes ≡ byte_len w → IsBytes bytes → to_be_bytes w (from_be_bytes w bytes) ≡ bytes
  pub again : (n : ℕ) → n < limit → from_be_bytes w (to_be_bytes w n) ≡ n

one_byte : (bytes : List ℕ) → length bytes ≡ 1 → IsBytes bytes → to_be_bytes w8 (from_be_bytes w8 bytes) ≡ bytes
one_byte [] len fits = absurd (omega arith)
one_byte (b ∷ []) len fits = ap (λ (x : ℕ). x ∷ []) (omega (arith, fits 0))
one_byte (b ∷ c ∷ bytes) len fits = absurd (omega arith)

pub wide8 : IsWide w8 256
wide8 = record { len = λ n. refl; back = one_byte; again = λ n lt. omega arith }

pub wide16 : IsWide w16 65536
wide16 = record { len = λ n. refl; back = λ bytes len fits. be_bytes_2 bytes _ len fits refl; again = λ n lt. from_be_bytes-to_be_bytes_2 n lt }

pub wide32 : IsWide w32 4294967296
wide32 = record { len = λ n. refl; back = λ bytes len fits. be_bytes_4 bytes _ len fits refl; again = λ n lt. from_be_bytes-to_be_bytes_4 n lt }

pub wide64 : IsWide w64 18446744073709551616
wide64 = record { len = λ n. refl; back = λ bytes len fits. be_bytes_8 bytes _ len fits refl; again = λ n lt. from_be_bytes-to_be_bytes_8 n lt }

in_range : (low high n : ℕ) → is_in_range low high n ≡ true → (low ≤ n) × (n ≤ high)
in_range low high n e = let p = and_parts (leb low n) (leb n high) e in (leb-true _ _ p.0, leb-true _ _ p.1)

pub is_in : (low high n : ℕ) → low ≤ n → n ≤ high → is_in_range low high n ≡ true
is_in low high n a b = rw (le-leb _ _ a, le-leb _ _ b) refl

number_takes : (w : Width) (limit low high : ℕ) (wide : IsWide w limit) (c : Cursor) (v : ℕ) (d : Cursor) → IsBytes c.rest → (number w low high).read c ≡ Ok (v, d) → Took (number w low high) c v d
unfolding number numeral
number_takes w limit low high wide c v d fits e =
    let k = byte_len w in
    let n = from_be_bytes w (take k c.rest) in
    let g = guard_ok (ltb (length c.rest) k) c.at (cond (is_in_range low high n) (Ok (n, advanced k c)) (Err c.at)) (v, d) e in
    let h = need_ok (is_in_range low high n) (Ok (n, advanced k c)) c.at (v, d) g.1 in
    let long : k ≤ length c.rest = ltb-false _ _ g.0 in
    let len : length (take k c.rest) ≡ k = omega (arith, length-take k c.rest) in
    let range = in_range low high n h.0 in
    let text : to_be_bytes w n ≡ take k c.rest = wide.back (take k c.rest) len (IsBytes-take k c.rest fits) in
    let made : Took (number w low high) c n (advanced k c) = record {
      fits = range;
      parts = rw text (sym (take-append-drop k c.rest));
      place = rw text (omega arith);
      rest_fits = IsBytes-drop k c.rest fits;
    } in
    subst (λ (p : ℕ × Cursor). Took (number w low high) c p.0 p.1) (ok_is (n, advanced k c) (v, d) h.1) made

number_again : (w : Width) (limit low high : ℕ) (wide : IsWide w limit) → high < limit → (at n : ℕ) (rest : List ℕ) → (number w low high).fits n → (number w low high).read (cursor at (to_be_bytes w n ++ rest)) ≡ Ok (n, cursor (at + length (to_be_bytes w n)) rest)
unfolding number numeral
number_again w limit low high wide below at n rest fits =
    let len = wide.len n in
    let long : ltb (length (to_be_bytes w n ++ rest)) (byte_len w) ≡ false = le-ltb _ _ (omega (arith, length-append (to_be_bytes w n) rest)) in
    let back : from_be_bytes w (to_be_bytes w n) ≡ n = wide.again n (omega arith) in
    rw (long, take_at (to_be_bytes w n) rest (byte_len w) len, drop_at (to_be_bytes w n) rest (byte_len w) len, back, is_in low high n fits.0 fits.1, len) refl

number_faults : (w : Width) (low high : ℕ) (c : Cursor) (o : ℕ) → (number w low high).read c ≡ Err o → Faulty (number w low high) c o
unfolding number numeral
number_faults w low high c o e =
    let k = byte_len w in
    let n = from_be_bytes w (take k c.rest) in
    elim (guard_err (ltb (length c.rest) k) c.at (cond (is_in_range low high n) (Ok (n, advanced k c)) (Err c.at)) o e) [
      | inl p ↦ record { after = 0; place = omega (arith, p.1); fault = (refl, inl (ltb-true _ _ p.0)) }
      | inr p ↦ elim (need_err (is_in_range low high n) (Ok (n, advanced k c)) c.at o p.1) [
        | inl q ↦ absurd cc
        | inr q ↦ record { after = 0; place = omega (arith, q.1); fault = (refl, inr (ltb-false _ _ p.0, q.0)) }
      ]
    ]

number_stops : (w : Width) (low high : ℕ) (at : ℕ) (bytes : List ℕ) (k : ℕ) → (number w low high).fault bytes k → (number w low high).read (cursor at bytes) ≡ Err (at + k)
unfolding number numeral
number_stops w low high at bytes k fault =
    let place : at + k ≡ at = omega (arith, fault.0) in
    elim fault.1 [
      | inl lt ↦ rw (place, lt-ltb _ _ lt) refl
      | inr p ↦ rw (place, le-ltb _ _ p.0, p.1) refl
    ]

pub number_lawful : (w : Width) (limit low high : ℕ) (wide : IsWide w limit) → high < limit → Lawful (number w low high) (byte_len w)
unfolding number numeral
number_lawful w limit low high wide below = record {
  takes = λ c v d fits e. number_takes w limit low high wide c v d fits e;
  again = λ at v rest fits. number_again w limit low high wide below at v rest fits;
  faults = λ c o fits e. number_faults w low high c o e;
  stops = λ at bytes k fault. number_stops w low high at bytes k fault;
  short = λ v fits. omega (arith, wide.len v);
  early = λ bytes k fault. omega (arith, fault.0);
}

-- a number with one value
pub one_number : (w : Width) (n a : ℕ) → (number w n n).fits a → n ≡ a
unfolding number numeral
one_number w n a f = omega (arith, f.0, f.1)

pub number_within : (w : Width) (low high a : ℕ) → (number w low high).fits a → (low ≤ a) × (a ≤ high)
unfolding number numeral
number_within w low high a f = f
