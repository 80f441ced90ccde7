-- What a bundle sends is the longest prefix that fits.
use Rattle.std.proofs.Common.{◌≡◌, ℕ, ◌+◌, ◌-◌, ◌≤◌, List, [], ◌∷◌, ◌++◌, length, sum_by, Bool, true, false, cond, ◌&&◌, leb, refl, sym, ap, ◌∙◌, arith}
use Rattle.std.proofs.lemmas.Bool.{leb-true, le-leb, and_parts, and_from}
use Rattle.std.proofs.lemmas.List.Sums.{sum_by-append}
use Rattle.depot_model.specs.exchange.Bundle.{Parcel, frames_of, bytes_of_frames, fitting}

-- the bytes and the frames that parcels take
abbrev pub bytes_of : List Parcel → ℕ
bytes_of xs = sum_by (λ x. bytes_of_frames (frames_of x)) xs

abbrev pub count_of : List Parcel → ℕ
count_of xs = sum_by (λ x. length (frames_of x)) xs

-- so much fits: at most this many bytes, and at most this many frames
pub record Fits (bytes frames : ℕ) (xs : List Parcel) : Type 0 where
  pub within : bytes_of xs ≤ bytes
  pub few : count_of xs ≤ frames

-- These are the longest prefix that fits: they fit, what is left follows them, and with the next of it they don't.
pub record IsLongest (bytes frames : ℕ) (all sent : List Parcel) : Type 0 where
  pub left : List Parcel
  pub prefix : all ≡ sent ++ left
  pub fits : Fits bytes frames sent
  pub next : (x : Parcel) (more : List Parcel) → left ≡ x ∷ more → Fits bytes frames (sent ++ x ∷ []) → ⊥

front_parcel : (x y : Parcel) (xs ys : List Parcel) → x ∷ xs ≡ y ∷ ys → x ≡ y
front_parcel x y xs ys e = ap (λ (zs : List Parcel). first_or x zs) e where
  first_or : Parcel → List Parcel → Parcel
  first_or d [] = d
  first_or d (z ∷ zs) = z

bytes_more : (x : Parcel) (xs : List Parcel) → bytes_of (x ∷ xs) ≡ bytes_of_frames (frames_of x) + bytes_of xs
bytes_more x xs = sum_by-append (λ y. bytes_of_frames (frames_of y)) (x ∷ []) xs ∙ omega arith

pub count_more : (x : Parcel) (xs : List Parcel) → count_of (x ∷ xs) ≡ length (frames_of x) + count_of xs
count_more x xs = sum_by-append (λ y. length (frames_of y)) (x ∷ []) xs ∙ omega arith

-- What a bundle sends is the longest prefix that fits.
pub fitting_is_longest : (bytes frames : ℕ) (xs : List Parcel) → IsLongest bytes frames xs (fitting bytes frames xs)
unfolding fitting
fitting_is_longest bytes frames [] = record { left = []; prefix = refl; fits = record { within = omega arith; few = omega arith }; next = λ x more e f. absurd cc }
fitting_is_longest bytes frames (x ∷ xs) = by_test (fitting_is_longest (bytes - bytes_of_frames (frames_of x)) (frames - length (frames_of x)) xs) (leb (bytes_of_frames (frames_of x)) bytes && leb (length (frames_of x)) frames) refl where
  by_test : IsLongest (bytes - bytes_of_frames (frames_of x)) (frames - length (frames_of x)) xs (fitting (bytes - bytes_of_frames (frames_of x)) (frames - length (frames_of x)) xs) → (b : Bool) → (leb (bytes_of_frames (frames_of x)) bytes && leb (length (frames_of x)) frames) ≡ b → IsLongest bytes frames (x ∷ xs) (cond b (x ∷ fitting (bytes - bytes_of_frames (frames_of x)) (frames - length (frames_of x)) xs) [])
  by_test rest true e =
      let t = and_parts (leb (bytes_of_frames (frames_of x)) bytes) (leb (length (frames_of x)) frames) e in
      let small : bytes_of_frames (frames_of x) ≤ bytes = leb-true _ _ t.0 in
      let few : length (frames_of x) ≤ frames = leb-true _ _ t.1 in
      record {
        left = rest.left;
        prefix = ap (λ (ys : List Parcel). x ∷ ys) rest.prefix;
        fits = record { within = omega (arith, bytes_more x (fitting (bytes - bytes_of_frames (frames_of x)) (frames - length (frames_of x)) xs), small, rest.fits.within); few = omega (arith, count_more x (fitting (bytes - bytes_of_frames (frames_of x)) (frames - length (frames_of x)) xs), few, rest.fits.few) };
        next = λ y more is f. rest.next y more is (record { within = omega (arith, bytes_more x ((fitting (bytes - bytes_of_frames (frames_of x)) (frames - length (frames_of x)) xs) ++ y ∷ []), small, f.within); few = omega (arith, count_more x ((fitting (bytes - bytes_of_frames (frames_of x)) (frames - length (frames_of x)) xs) ++ y ∷ []), few, f.few) });
      }
  by_test rest false e = record {
    left = x ∷ xs;
    prefix = refl;
    fits = record { within = omega arith; few = omega arith };
    next = λ y more is f.
        let same : x ≡ y = front_parcel x y xs more is in
        let within : bytes_of_frames (frames_of y) ≤ bytes = omega (arith, bytes_more y [], f.within) in
        let few : length (frames_of y) ≤ frames = omega (arith, count_more y [], f.few) in
        let yes_test : (leb (bytes_of_frames (frames_of x)) bytes && leb (length (frames_of x)) frames) ≡ true =
        rw same (and_from (leb (bytes_of_frames (frames_of y)) bytes) (leb (length (frames_of y)) frames) (le-leb _ _ within) (le-leb _ _ few)) in
        absurd (let true_false : true ≡ false = sym yes_test ∙ e in cc);
  }
