-- What a decoder answers, from what reading gives.
use Rattle.std.proofs.Common.{◌≡◌, ℕ, ◌+◌, ◌^◌, ◌<◌, List, [], ◌++◌, Result, Ok, Err, refl, sym, ap, subst, ◌∙◌, arith, inl, inr}
use Rattle.depot_base.specs.declared.fault.Fault.{Fault}
use Rattle.depot_base.specs.declared.fault.Fault.TheVariants.{Memory, At}
use Rattle.depot_base.specs.declared.fault.DecodeError.TheVariants as errors
use Rattle.depot_base.specs.Format.{Format, whole, FirstFault}
use Rattle.depot_base.specs.Closed.{Closed}
use Rattle.depot_base.specs.Reading.{Gives, decoded, IsEarly, Decodes, DecodesClosed, IsReadInOneWay, IsClosedReadInOneWay}
use Rattle.depot_base.proofs.FormatLaws.{IsBytes, cursor, Lawful, ok_is, not_err, err_is}
use Rattle.depot_base.proofs.ClosedLaws.{LawfulClosed}
use Rattle.depot_base.proofs.Combined.{prefix_free, whole_takes, whole_again, whole_faults, whole_stops, whole_early}

pub is_early : {V : Type 0} (f : Format V) (m : ℕ) → Lawful f m → m < 2 ^ 32 → (text : List ℕ) → IsBytes text → (r : Result V Fault) → Gives r (whole f (cursor 0 text)) → IsEarly r
is_early f m l lt text fits (Ok v) h = tt
is_early f m l lt text fits (Err Memory) h = tt
is_early f m l lt text fits (Err (At at)) h =
    let w = whole_faults f m l (cursor 0 text) at fits h in
    omega (arith, w.place, whole_early f m l text w.after w.fault)

pub decodes : {V : Type 0} (f : Format V) (m : ℕ) → Lawful f m → (text : List ℕ) → IsBytes text → (r : Result V Fault) → Gives r (whole f (cursor 0 text)) → Decodes f text (decoded r)
decodes {V = V} f m l text fits (Ok v) h = record {
  found = λ w e. let p : v ≡ w = cc in subst (λ (x : V). f.fits x × (text ≡ f.text x)) p (whole_takes f m l (cursor 0 text) v fits h);
  only = λ w fw e.
      let again : whole f (cursor 0 text) ≡ Ok w = rw e (whole_again f m l 0 w fw) in
      inr (ap (λ (x : V). Ok x) (ok_is v w (sym h ∙ again)));
  ill_formed = λ at e. absurd cc;
  first = λ at e. absurd (not_err v (0 + at) (sym h ∙ whole_stops f m l 0 text at e));
}
decodes f m l text fits (Err Memory) h = record {
  found = λ w e. absurd cc;
  only = λ w fw e. inl refl;
  ill_formed = λ at e. absurd cc;
  first = λ at e. inl refl;
}
decodes {V = V} f m l text fits (Err (At at)) h = record {
  found = λ w e. absurd cc;
  only = λ w fw e.
      let again : whole f (cursor 0 text) ≡ Ok w = rw e (whole_again f m l 0 w fw) in
      absurd (not_err w at (sym again ∙ h));
  ill_formed = λ k e.
      let p : at ≡ k = cc in
      let w = whole_faults f m l (cursor 0 text) at fits h in
      let q : w.after ≡ k = omega (arith, w.place) in
      subst (λ (n : ℕ). FirstFault f text n) q w.fault;
  first = λ k e.
      let q : at ≡ k = omega (arith, err_is {A = V} at (0 + k) (sym h ∙ whole_stops f m l 0 text k e)) in
      inr (ap (λ (n : ℕ). Err (errors.IllFormed n)) q);
}

pub is_early_closed : {V : Type 0} (f : Closed V) (m : ℕ) → LawfulClosed f m → m < 2 ^ 32 → (text : List ℕ) → IsBytes text → (r : Result V Fault) → Gives r (f.read (cursor 0 text)) → IsEarly r
is_early_closed f m l lt text fits (Ok v) h = tt
is_early_closed f m l lt text fits (Err Memory) h = tt
is_early_closed f m l lt text fits (Err (At at)) h =
    let w = l.faults (cursor 0 text) at fits h in
    omega (arith, w.place, l.early text w.after w.fault)

pub decodes_closed : {V : Type 0} (f : Closed V) (m : ℕ) → LawfulClosed f m → (text : List ℕ) → IsBytes text → (r : Result V Fault) → Gives r (f.read (cursor 0 text)) → DecodesClosed f text (decoded r)
decodes_closed {V = V} f m l text fits (Ok v) h = record {
  found = λ w e. let p : v ≡ w = cc in subst (λ (x : V). f.fits x × (text ≡ f.text x)) p (l.takes (cursor 0 text) v fits h);
  only = λ w fw e.
      let again : f.read (cursor 0 text) ≡ Ok w = rw e (l.again 0 w fw) in
      inr (ap (λ (x : V). Ok x) (ok_is v w (sym h ∙ again)));
  ill_formed = λ at e. absurd cc;
  first = λ at e. absurd (not_err v (0 + at) (sym h ∙ l.stops 0 text at e));
}
decodes_closed f m l text fits (Err Memory) h = record {
  found = λ w e. absurd cc;
  only = λ w fw e. inl refl;
  ill_formed = λ at e. absurd cc;
  first = λ at e. inl refl;
}
decodes_closed {V = V} f m l text fits (Err (At at)) h = record {
  found = λ w e. absurd cc;
  only = λ w fw e.
      let again : f.read (cursor 0 text) ≡ Ok w = rw e (l.again 0 w fw) in
      absurd (not_err w at (sym again ∙ h));
  ill_formed = λ k e.
      let p : at ≡ k = cc in
      let w = l.faults (cursor 0 text) at fits h in
      let q : w.after ≡ k = omega (arith, w.place) in
      subst (λ (n : ℕ). f.fault text n) q w.fault;
  first = λ k e.
      let q : at ≡ k = omega (arith, err_is {A = V} at (0 + k) (sym h ∙ l.stops 0 text k e)) in
      inr (ap (λ (n : ℕ). Err (errors.IllFormed n)) q);
}

-- ---- one way to read a text

pub in_one_way : {V : Type 0} (f : Format V) (m : ℕ) → Lawful f m → IsReadInOneWay f
in_one_way {V = V} f m l = record {
  value = λ v w fv fw e.
      let same : f.text v ++ [] ≡ f.text w ++ [] = ap (λ (t : List ℕ). t ++ []) e in
      (prefix_free f m l v w [] [] fv fw same).0;
  good = λ v at fits fault. absurd (not_err v (0 + at) (sym (whole_again f m l 0 v fits) ∙ whole_stops f m l 0 (f.text v) at fault));
  place = λ text a b at_a at_b. omega (arith, err_is {A = V} (0 + a) (0 + b) (sym (whole_stops f m l 0 text a at_a) ∙ whole_stops f m l 0 text b at_b));
}

pub closed_in_one_way : {V : Type 0} (f : Closed V) (m : ℕ) → LawfulClosed f m → IsClosedReadInOneWay f
closed_in_one_way {V = V} f m l = record {
  value = λ v w fv fw e.
      let again : f.read (cursor 0 (f.text v)) ≡ Ok w = rw e (l.again 0 w fw) in
      ok_is v w (sym (l.again 0 v fv) ∙ again);
  good = λ v at fits fault. absurd (not_err v (0 + at) (sym (l.again 0 v fits) ∙ l.stops 0 (f.text v) at fault));
  place = λ text a b at_a at_b. omega (arith, err_is {A = V} (0 + a) (0 + b) (sym (l.stops 0 text a at_a) ∙ l.stops 0 text b at_b));
}
