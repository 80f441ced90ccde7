-- A source that reads ahead: what it has given, and what it gives yet.
use Rattle.std.proofs.Common.{◌≡◌, ◌≤◌, ℕ, ◌+◌, ◌-◌, List, [], ◌∷◌, ◌++◌, zero, suc, append_assoc, append-nil, length, length-append, take, drop, refl, sym, ap, ◌∙◌, arith}
use Rattle.std.proofs.Math.Seq.{take-append-add}
use Rattle.std.proofs.lemmas.List.{length-drop, take-append-drop, take_all, take_at}
use Rattle.std.specs.Int.{w32, from_be_bytes}
use Rattle.depot_source.specs.Ahead.{BeginsWithMessage, IsReadAhead, given_but}
use Rattle.depot_source.specs.Messages.{text_of_message}
use Rattle.depot_source.specs.declared.hearing.TheConstants.{MOST_MESSAGE}

drop_all : (xs : List ℕ) → drop (length xs) xs ≡ []
drop_all [] = refl
drop_all (x ∷ xs) = drop_all xs

drop_none : (n : ℕ) → drop {A = ℕ} n [] ≡ []
drop_none zero = refl
drop_none (suc n) = refl

next : (m k : ℕ) → suc (m + k) ≡ suc m + k
next m k = omega arith

drop_drop : (xs : List ℕ) (m k : ℕ) → drop k (drop m xs) ≡ drop (m + k) xs
drop_drop xs zero k = ap (λ (n : ℕ). drop n xs) (omega arith)
drop_drop [] (suc m) k = drop_none k ∙ sym (drop_none (suc m + k))
drop_drop (x ∷ xs) (suc m) k = drop_drop xs m k ∙ ap (λ (n : ℕ). drop n (x ∷ xs)) (next m k)

length_taken : (n : ℕ) (xs : List ℕ) → n ≤ length xs → length (take n xs) ≡ n
length_taken zero xs le = refl
length_taken (suc n) [] le = absurd (omega (arith, le))
length_taken (suc n) (x ∷ xs) le = omega (arith, length_taken n xs (omega (arith, le)))

-- with nothing ahead it has given all
pub shown_all : (read piece : List ℕ) (at : ℕ) → length piece ≤ at → given_but read piece at ≡ read
shown_all read piece at le = take_all (length read - (length piece - at)) read (omega (arith, le))

pub nothing_ahead : (read piece : List ℕ) (at : ℕ) → at ≡ length piece → IsReadAhead read piece at
nothing_ahead read piece at is =
    let none : drop at piece ≡ [] = ap (λ (n : ℕ). drop n piece) is ∙ drop_all piece in
    (omega (arith, is), sym (append-nil read) ∙ ap (λ (x : List ℕ). read ++ x) (sym none) ∙ ap (λ (x : List ℕ). x ++ drop at piece) (sym (shown_all read piece at (omega (arith, is)))))

-- a piece that was just read is ahead
pub piece_ahead : (before read piece : List ℕ) → read ≡ before ++ piece → given_but read piece 0 ≡ before
piece_ahead before read piece is =
    let long : length read - (length piece - 0) ≡ length before + 0 = omega (arith, ap length is, length-append before piece) in
    ap (λ (n : ℕ). take n read) long ∙ ap (take (length before + 0)) is ∙ take-append-add before piece 0 ∙ append-nil before

pub ahead_of_piece : (before read piece : List ℕ) → read ≡ before ++ piece → IsReadAhead read piece 0
ahead_of_piece before read piece is = (omega arith, is ∙ ap (λ (x : List ℕ). x ++ piece) (sym (piece_ahead before read piece is)))

-- some bytes of it were given
pub shown_more : (read piece : List ℕ) (at n : ℕ) → IsReadAhead read piece at → at + n ≤ length piece → given_but read piece (at + n) ≡ given_but read piece at ++ take n (drop at piece)
shown_more read piece at n ahead le =
    let S : List ℕ = given_but read piece at in
    let is : read ≡ S ++ drop at piece = ahead.1 in
    let long : length read - (length piece - (at + n)) ≡ length S + n = omega (arith, ap length is, length-append S (drop at piece), length-drop at piece, le) in
    ap (λ (m : ℕ). take m read) long ∙ ap (take (length S + n)) is ∙ take-append-add S (drop at piece) n

pub ahead_more : (read piece : List ℕ) (at n : ℕ) → IsReadAhead read piece at → at + n ≤ length piece → IsReadAhead read piece (at + n)
ahead_more read piece at n ahead le =
    let split : drop at piece ≡ take n (drop at piece) ++ drop (at + n) piece = sym (take-append-drop n (drop at piece)) ∙ ap (λ (x : List ℕ). take n (drop at piece) ++ x) (drop_drop piece at n) in
    (le, ahead.1 ∙ ap (λ (x : List ℕ). given_but read piece at ++ x) split ∙ sym (append_assoc (given_but read piece at) (take n (drop at piece)) (drop (at + n) piece)) ∙ ap (λ (x : List ℕ). x ++ drop (at + n) piece) (sym (shown_more read piece at n ahead le)))

-- what it gave and what it gives yet are what was read and what is to be read
pub both_of : (read piece rest : List ℕ) (at : ℕ) → IsReadAhead read piece at → given_but read piece at ++ (drop at piece ++ rest) ≡ read ++ rest
both_of read piece rest at ahead = sym (append_assoc (given_but read piece at) (drop at piece) rest) ∙ ap (λ (x : List ℕ). x ++ rest) (sym ahead.1)

-- ---- a message of the bytes ahead

pub message_of : (bytes : List ℕ) (long : ℕ) → 4 ≤ length bytes → long ≡ from_be_bytes w32 (take 4 bytes) → 1 ≤ long → long ≤ MOST_MESSAGE → long ≤ length bytes - 4 → BeginsWithMessage bytes (take long (take (length bytes - 4) (drop 4 bytes)))
message_of bytes long four says least most fits =
    let rest : take (length bytes - 4) (drop 4 bytes) ≡ drop 4 bytes = take_all (length bytes - 4) (drop 4 bytes) (omega (arith, length-drop 4 bytes)) in
    let count : length (take long (take (length bytes - 4) (drop 4 bytes))) ≡ long = ap (λ (x : List ℕ). length (take long x)) rest ∙ length_taken long (drop 4 bytes) (omega (arith, fits, length-drop 4 bytes)) in
    record {
      message = record { head = take 4 bytes; body = take long (take (length bytes - 4) (drop 4 bytes)) };
      is = record { head = length_taken 4 bytes four; says = sym says ∙ sym count; fits = (omega (arith, count, least), omega (arith, count, most)) };
      same = refl;
      rest = drop long (drop 4 bytes);
      parts = sym (take-append-drop 4 bytes) ∙ ap (λ (x : List ℕ). take 4 bytes ++ x) (sym (take-append-drop long (drop 4 bytes)) ∙ ap (λ (x : List ℕ). take long x ++ drop long (drop 4 bytes)) (sym rest)) ∙ sym (append_assoc (take 4 bytes) (take long (take (length bytes - 4) (drop 4 bytes))) (drop long (drop 4 bytes)));
    }

-- it is taken
module _ (read piece : List ℕ) (at : ℕ) (body : List ℕ) (ahead : IsReadAhead read piece at) (b : BeginsWithMessage (take (length piece - at) (drop at piece)) body) where
  left_is : drop at piece ≡ text_of_message b.message ++ b.rest
  left_is = sym (take_all (length piece - at) (drop at piece) (omega (arith, length-drop at piece))) ∙ b.parts

  text_long : length (text_of_message b.message) ≡ 4 + length body
  text_long = length-append b.message.head b.message.body ∙ omega (arith, b.is.head, ap length b.same)

  pub taken_fits : at + (4 + length body) ≤ length piece
  taken_fits = let a = ahead.0 in omega (arith, a, ap length left_is, length-append (text_of_message b.message) b.rest, text_long, length-drop at piece)

  pub taken_gives : given_but read piece (at + (4 + length body)) ≡ given_but read piece at ++ text_of_message b.message
  taken_gives = shown_more read piece at (4 + length body) ahead taken_fits ∙ ap (λ (x : List ℕ). given_but read piece at ++ x) (ap (take (4 + length body)) left_is ∙ take_at (text_of_message b.message) b.rest (4 + length body) text_long)

-- ---- a piece that is given

taken_same : (m : ℕ) (xs : List ℕ) → take (length (take m xs)) xs ≡ take m xs
taken_same zero xs = refl
taken_same (suc m) [] = refl
taken_same (suc m) (x ∷ xs) = ap (λ (l : List ℕ). x ∷ l) (taken_same m xs)

no_longer : (m : ℕ) (xs : List ℕ) → length (take m xs) ≤ length xs
no_longer zero xs = omega arith
no_longer (suc m) [] = omega arith
no_longer (suc m) (x ∷ xs) = omega (arith, no_longer m xs)

pub so_short : (m : ℕ) (xs : List ℕ) → length (take m xs) ≤ m
so_short zero xs = omega arith
so_short (suc m) [] = omega arith
so_short (suc m) (x ∷ xs) = omega (arith, so_short m xs)

module _ (read piece : List ℕ) (at m : ℕ) (ahead : IsReadAhead read piece at) where
  all_left : take (length piece - at) (drop at piece) ≡ drop at piece
  all_left = take_all (length piece - at) (drop at piece) (omega (arith, length-drop at piece))

  pub given_fits : at + length (take m (take (length piece - at) (drop at piece))) ≤ length piece
  given_fits = let a = ahead.0 in omega (arith, a, ap (λ (x : List ℕ). length (take m x)) all_left, no_longer m (drop at piece), length-drop at piece)

  pub given_gives : given_but read piece (at + length (take m (take (length piece - at) (drop at piece)))) ≡ given_but read piece at ++ take m (take (length piece - at) (drop at piece))
  given_gives = shown_more read piece at (length (take m (take (length piece - at) (drop at piece)))) ahead given_fits
      ∙ ap (λ (x : List ℕ). given_but read piece at ++ x) (ap (λ (x : List ℕ). take (length (take m x)) (drop at piece)) all_left ∙ taken_same m (drop at piece) ∙ ap (take m) (sym all_left))
