-- What holds of a good format, and the tools to show it.
use Rattle.std.proofs.Common.{◌≡◌, ℕ, ◌+◌, ◌<◌, ◌≤◌, ◌⊎◌, Bool, true, false, cond, List, ◌++◌, length, get_or, take, drop, Result, Ok, Err, refl, ap, arith, inl, inr}
use Rattle.std.proofs.lemmas.Bool.{cases_lt}
use Rattle.std.proofs.lemmas.List.{length-take, get_or-drop, get_or-take, get_or_past}
use Rattle.depot_base.specs.Cursor.{Cursor}
use Rattle.depot_base.specs.Format.{◌>>=◌, Format}

abbrev pub IsBytes : List ℕ → Type 0
IsBytes bytes = (i : ℕ) → get_or bytes i 0 < 256

pub IsBytes-drop : (n : ℕ) (bytes : List ℕ) → IsBytes bytes → IsBytes (drop n bytes)
IsBytes-drop n bytes h i = rw get_or-drop (h (n + i))

pub IsBytes-take : (n : ℕ) (bytes : List ℕ) → IsBytes bytes → IsBytes (take n bytes)
IsBytes-take n bytes h i =
    elim (cases_lt i n) [
      | inl lt ↦ rw (get_or-take n bytes i 0 lt) (h i)
      | inr le ↦ rw (get_or_past (take n bytes) i 0 (omega (arith, length-take n bytes))) (omega arith)
    ]

abbrev pub cursor : ℕ → List ℕ → Cursor
cursor at rest = record { at = at; rest = rest }

-- the value was taken from the front
pub record Took {V : Type 0} (f : Format V) (c : Cursor) (v : V) (d : Cursor) : Type 0 where
  pub fits : f.fits v
  pub parts : c.rest ≡ f.text v ++ d.rest
  pub place : d.at ≡ c.at + length (f.text v)
  pub rest_fits : IsBytes d.rest

pub record Faulty {V : Type 0} (f : Format V) (c : Cursor) (o : ℕ) : Type 0 where
  pub after : ℕ
  pub place : o ≡ c.at + after
  pub fault : f.fault c.rest after

-- Reading takes texts and nothing else, and stops at faults and nowhere else; most bounds the length.
pub record Lawful {V : Type 0} (f : Format V) (most : ℕ) : Type 0 where
  pub takes : (c : Cursor) (v : V) (d : Cursor) → IsBytes c.rest → f.read c ≡ Ok (v, d) → Took f c v d
  pub again : (at : ℕ) (v : V) (rest : List ℕ) → f.fits v → f.read (cursor at (f.text v ++ rest)) ≡ Ok (v, cursor (at + length (f.text v)) rest)
  pub faults : (c : Cursor) (o : ℕ) → IsBytes c.rest → f.read c ≡ Err o → Faulty f c o
  pub stops : (at : ℕ) (bytes : List ℕ) (k : ℕ) → f.fault bytes k → f.read (cursor at bytes) ≡ Err (at + k)
  pub short : (v : V) → f.fits v → length (f.text v) ≤ most
  pub early : (bytes : List ℕ) (k : ℕ) → f.fault bytes k → k ≤ most

pub weaken : {V : Type 0} (f : Format V) (m n : ℕ) → m ≤ n → Lawful f m → Lawful f n
weaken f m n le l = record {
  takes = l.takes;
  again = l.again;
  faults = l.faults;
  stops = l.stops;
  short = λ v fits. omega (arith, l.short v fits);
  early = λ bytes k fault. omega (arith, l.early bytes k fault);
}

-- ---- steps

pub bind_ok : {A B F : Type 0} (r : Result A F) (f : A → Result B F) (y : B) → (r >>= f) ≡ Ok y → (x : A) × (r ≡ Ok x) × (f x ≡ Ok y)
bind_ok (Ok x) f y e = (x, refl, e)
bind_ok (Err d) f y e = absurd cc

pub bind_err : {A B : Type 0} (r : Result A ℕ) (f : A → Result B ℕ) (o : ℕ) → (r >>= f) ≡ Err o → (r ≡ Err o) ⊎ ((x : A) × (r ≡ Ok x) × (f x ≡ Err o))
bind_err (Ok x) f o e = inr (x, refl, e)
bind_err (Err d) f o e = let p : d ≡ o = cc in inl (ap (λ (n : ℕ). Err n) p)

-- a test that fails on true
pub guard_ok : {A F : Type 0} (b : Bool) (d : F) (x : Result A F) (y : A) → cond b (Err d) x ≡ Ok y → (b ≡ false) × (x ≡ Ok y)
guard_ok true d x y e = absurd cc
guard_ok false d x y e = (refl, e)

pub guard_err : {A : Type 0} (b : Bool) (d : ℕ) (x : Result A ℕ) (o : ℕ) → cond b (Err d) x ≡ Err o → ((b ≡ true) × (d ≡ o)) ⊎ ((b ≡ false) × (x ≡ Err o))
guard_err true d x o e = inl (refl, cc)
guard_err false d x o e = inr (refl, e)

-- a test that fails on false
pub need_ok : {A F : Type 0} (b : Bool) (x : Result A F) (d : F) (y : A) → cond b x (Err d) ≡ Ok y → (b ≡ true) × (x ≡ Ok y)
need_ok true x d y e = (refl, e)
need_ok false x d y e = absurd cc

pub need_err : {A : Type 0} (b : Bool) (x : Result A ℕ) (d : ℕ) (o : ℕ) → cond b x (Err d) ≡ Err o → ((b ≡ true) × (x ≡ Err o)) ⊎ ((b ≡ false) × (d ≡ o))
need_err true x d o e = inl (refl, e)
need_err false x d o e = inr (refl, cc)

abbrev pub ok : {A F : Type 0} → A → Result A F
ok x = Ok x

pub ok_is : {A F : Type 0} (x y : A) → ok {F = F} x ≡ ok {F = F} y → x ≡ y
ok_is x y e = cc

abbrev err : {A : Type 0} → ℕ → Result A ℕ
err {A} o = Err o

pub not_err : {A F : Type 0} (x : A) (o : F) → ok x ≡ Err o → ⊥
not_err x o e = cc

pub err_is : {A : Type 0} (m n : ℕ) → err {A = A} m ≡ err {A = A} n → m ≡ n
err_is m n e = cc
