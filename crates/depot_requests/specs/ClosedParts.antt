-- Two more ways to end a whole text.
use Rattle.std.specs.Prelude.{◌≡◌, List, ℕ, Ok}
use Rattle.depot_base.specs.Closed.{Closed}
use Rattle.depot_base.specs.Format.{Format, FirstFault, whole, ◌>>=◌}

-- the last field, which may take all remaining bytes, and the value made of it
abbrev pub last_field : {A V : Type 0} → (A → V) → (V → A) → Closed A → Closed V
last_field make part f = record {
  fits = λ v. f.fits (part v) × (v ≡ make (part v));
  text = λ v. f.text (part v);
  fault = f.fault;
  read = λ c. f.read c >>= λ a. Ok (make a);
}

-- all the bytes that are left, kept beside the value whose text they are
abbrev pub own_text : {V : Type 0} → Format V → Closed (List ℕ × V)
own_text f = record {
  fits = λ p. f.fits p.1 × (p.0 ≡ f.text p.1);
  text = λ p. p.0;
  fault = FirstFault f;
  read = λ c. whole f c >>= λ v. Ok (c.rest, v);
}
