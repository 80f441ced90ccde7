-- A file has one list of records, and none where it is damaged.
use Rattle.std.proofs.Common.{◌≡◌, ◌≢◌, ◌≤◌, ◌<◌, ◌⊎◌, inl, inr, ℕ, ◌^◌, List, [], ◌∷◌, ◌++◌, length, length-append, take, drop, refl, sym, ◌∙◌, ap, arith, append_assoc, append-nil}
use Rattle.std.proofs.lemmas.List.{take_at, drop_at}
use Rattle.std.specs.Int.{w32, from_be_bytes}
use Rattle.depot_base.specs.Cursor.{numeral}
use Rattle.depot_base.proofs.Numbers.{wide32}
use Rattle.depot_base.specs.File.{AreWithinLimits, IsDamagedAt, IsFileOf, StandsFor, blocks, framed}
use Rattle.depot_base.proofs.CallLaws.{framed_long, numeral_long}
use Rattle.depot_journal.proofs.RecordBlocks.{blocks_push}
use Rattle.depot_base.proofs.Blocks.{blocks-append}

-- ---- what a text begins with

front_one : (n : ℕ) (a b r s : List ℕ) → length a ≡ n → length b ≡ n → a ++ r ≡ b ++ s → (a ≡ b) × (r ≡ s)
front_one n a b r s long_a long_b e = (sym (take_at a r n long_a) ∙ ap (take n) e ∙ take_at b s n long_b, sym (drop_at a r n long_a) ∙ ap (drop n) e ∙ drop_at b s n long_b)

-- a length and a body are read in one way
framed_one : (x y r s : List ℕ) → length x < 2 ^ 32 → length y < 2 ^ 32 → framed x ++ r ≡ framed y ++ s → (x ≡ y) × (r ≡ s)
unfolding framed numeral
framed_one x y r s short_x short_y e =
    let first = front_one 4 (numeral w32 (length x)) (numeral w32 (length y)) (x ++ r) (y ++ s) (numeral_long (length x)) (numeral_long (length y))
    (sym (append_assoc (numeral w32 (length x)) x r) ∙ e ∙ append_assoc (numeral w32 (length y)) y s) in
    let size : length x ≡ length y = sym (wide32.again (length x) short_x) ∙ ap (from_be_bytes w32) first.0 ∙ wide32.again (length y) short_y in
    front_one (length y) x y r s size refl first.1

-- no record is longer than its blocks
head_short : (x : List ℕ) (a : List (List ℕ)) (n : ℕ) → length (blocks (x ∷ a)) < n → length x < n
head_short x a n short = omega (arith, short, length-append (framed x) (blocks a), framed_long x)

tail_short : (x : List ℕ) (a : List (List ℕ)) (n : ℕ) → length (blocks (x ∷ a)) < n → length (blocks a) < n
tail_short x a n short = omega (arith, short, length-append (framed x) (blocks a))

first_of : (g : ℕ) (r : List ℕ) (h : ℕ) (s : List ℕ) → g ∷ r ≡ h ∷ s → g ≡ h
first_of g r h s e = cc

rest_of : (g : ℕ) (r : List ℕ) (h : ℕ) (s : List ℕ) → g ∷ r ≡ h ∷ s → r ≡ s
rest_of g r h s e = cc

-- the block at the start of each
both_open : (x y u v : List ℕ) (a b : List (List ℕ)) → length (blocks (x ∷ a)) < 2 ^ 32 → length (blocks (y ∷ b)) < 2 ^ 32 → blocks (x ∷ a) ++ u ≡ blocks (y ∷ b) ++ v → (x ≡ y) × (blocks a ++ u ≡ blocks b ++ v)
both_open x y u v a b short_a short_b e =
    framed_one x y (blocks a ++ u) (blocks b ++ v) (head_short x a (2 ^ 32) short_a) (head_short y b (2 ^ 32) short_b)
    (sym (append_assoc (framed x) (blocks a) u) ∙ rest_of 1 ((framed x ++ blocks a) ++ u) 1 ((framed y ++ blocks b) ++ v) e ∙ append_assoc (framed y) (blocks b) v)

-- ---- two lists of records

-- One of them continues where the other one's blocks end, with what is there: a whole record.
pub record GoesOn (a b : List (List ℕ)) (rest : List ℕ) : Type 0 where
  pub body : List ℕ
  pub more : List (List ℕ)
  pub gate : ℕ
  pub behind : List ℕ
  pub longer : a ≡ b ++ body ∷ more
  pub stands : rest ≡ framed body ++ gate ∷ behind

-- a gate follows the first block, too
behind_block : (x : List ℕ) (a : List (List ℕ)) (gate : ℕ) (r rest : List ℕ) → (framed x ++ blocks a) ++ gate ∷ r ≡ rest → (h : ℕ) × (s : List ℕ) × (rest ≡ framed x ++ h ∷ s)
behind_block x [] gate r rest e = (gate, r, sym e ∙ ap (λ (l : List ℕ). l ++ gate ∷ r) (append-nil (framed x)))
behind_block x (y ∷ a) gate r rest e = (1, (framed y ++ blocks a) ++ gate ∷ r, sym e ∙ append_assoc (framed x) (blocks (y ∷ a)) (gate ∷ r))

deeper : (x : List ℕ) (a b : List (List ℕ)) (y rest : List ℕ) → x ≡ y → GoesOn a b rest → GoesOn (x ∷ a) (y ∷ b) rest
deeper x a b y rest same g = record { body = g.body; more = g.more; gate = g.gate; behind = g.behind; longer = ap (λ (l : List ℕ). l ∷ a) same ∙ ap (λ (l : List (List ℕ)). y ∷ l) g.longer; stands = g.stands }

-- where an open gate follows the second list, the first continues; it ends at a closed gate
pub open_goes_on : (a b : List (List ℕ)) (gate : ℕ) (r rest : List ℕ) → gate ≢ 1 → length (blocks a) < 2 ^ 32 → length (blocks b) < 2 ^ 32 → blocks a ++ gate ∷ r ≡ blocks b ++ 1 ∷ rest → GoesOn a b rest
open_goes_on [] [] gate r rest closed short_a short_b e = absurd (closed (first_of gate r 1 rest e))
open_goes_on [] (y ∷ b) gate r rest closed short_a short_b e = absurd (closed (first_of gate r 1 ((framed y ++ blocks b) ++ 1 ∷ rest) e))
open_goes_on (x ∷ a) [] gate r rest closed short_a short_b e =
    let behind = behind_block x a gate r rest (rest_of 1 ((framed x ++ blocks a) ++ gate ∷ r) 1 rest e) in
    record { body = x; more = a; gate = behind.0; behind = behind.1; longer = refl; stands = behind.2 }
open_goes_on (x ∷ a) (y ∷ b) gate r rest closed short_a short_b e =
    let both = both_open x y (gate ∷ r) (1 ∷ rest) a b short_a short_b e in
    deeper x a b y rest both.0 (open_goes_on a b gate r rest closed (tail_short x a (2 ^ 32) short_a) (tail_short y b (2 ^ 32) short_b) both.1)

-- closed gates follow one list alone
pub closed_one : (a b : List (List ℕ)) (g h : ℕ) (r s : List ℕ) → g ≢ 1 → h ≢ 1 → length (blocks a) < 2 ^ 32 → length (blocks b) < 2 ^ 32 → blocks a ++ g ∷ r ≡ blocks b ++ h ∷ s → a ≡ b
closed_one [] [] g h r s closed_g closed_h short_a short_b e = refl
closed_one [] (y ∷ b) g h r s closed_g closed_h short_a short_b e = absurd (closed_g (first_of g r 1 ((framed y ++ blocks b) ++ h ∷ s) e))
closed_one (x ∷ a) [] g h r s closed_g closed_h short_a short_b e = absurd (closed_h (sym (first_of 1 ((framed x ++ blocks a) ++ g ∷ r) h s e)))
closed_one (x ∷ a) (y ∷ b) g h r s closed_g closed_h short_a short_b e =
    let both = both_open x y (g ∷ r) (h ∷ s) a b short_a short_b e in
    ap (λ (l : List ℕ). l ∷ a) both.0 ∙ ap (λ (l : List (List ℕ)). y ∷ l) (closed_one a b g h r s closed_g closed_h (tail_short x a (2 ^ 32) short_a) (tail_short y b (2 ^ 32) short_b) both.1)

-- of two open gates one follows the other, or they are one
pub open_both : (a b : List (List ℕ)) (r s : List ℕ) → length (blocks a) < 2 ^ 32 → length (blocks b) < 2 ^ 32 → blocks a ++ 1 ∷ r ≡ blocks b ++ 1 ∷ s → (a ≡ b) ⊎ (GoesOn a b s ⊎ GoesOn b a r)
open_both [] [] r s short_a short_b e = inl refl
open_both [] (y ∷ b) r s short_a short_b e =
    let behind = behind_block y b 1 s r (sym (rest_of 1 r 1 ((framed y ++ blocks b) ++ 1 ∷ s) e)) in
    inr (inr (record { body = y; more = b; gate = behind.0; behind = behind.1; longer = refl; stands = behind.2 }))
open_both (x ∷ a) [] r s short_a short_b e =
    let behind = behind_block x a 1 r s (rest_of 1 ((framed x ++ blocks a) ++ 1 ∷ r) 1 s e) in
    inr (inl (record { body = x; more = a; gate = behind.0; behind = behind.1; longer = refl; stands = behind.2 }))
open_both (x ∷ a) (y ∷ b) r s short_a short_b e =
    let both = both_open x y (1 ∷ r) (1 ∷ s) a b short_a short_b e in
    elim (open_both a b r s (tail_short x a (2 ^ 32) short_a) (tail_short y b (2 ^ 32) short_b) both.1) [
      | inl same ↦ inl (ap (λ (l : List ℕ). l ∷ a) both.0 ∙ ap (λ (l : List (List ℕ)). y ∷ l) same)
      | inr (inl on) ↦ inr (inl (deeper x a b y s both.0 on))
      | inr (inr on) ↦ inr (inr (deeper y b a x r (sym both.0) on))
    ]

-- ---- limits

short : (a : List (List ℕ)) → AreWithinLimits a → length (blocks a) < 2 ^ 32
short a within = omega (arith, within.bytes)

-- a prefix keeps to the limits where the whole does
front_fits : (a b more : List (List ℕ)) (body : List ℕ) → a ≡ b ++ body ∷ more → AreWithinLimits a → AreWithinLimits (b ++ body ∷ [])
front_fits a b more body longer within =
    let parts : a ≡ (b ++ body ∷ []) ++ more = longer ∙ sym (append_assoc b (body ∷ []) more) in
    record {
      records = omega (arith, ap length parts, length-append (b ++ body ∷ []) more, within.records);
      bytes = omega (arith, ap (λ (l : List (List ℕ)). length (blocks l)) parts, blocks-append (b ++ body ∷ []) more, within.bytes);
    }

-- a record that continues after a damaged place isn't there
not_on : (file : List ℕ) (at : ℕ) (d : IsDamagedAt file at) (a : List (List ℕ)) → AreWithinLimits a → GoesOn a d.good d.rest → ⊥
not_on file at d a within on =
    let fits = front_fits a d.good on.more on.body on.longer within in
    d.bad on.body on.gate on.behind (omega (arith, fits.bytes, ap length (blocks_push d.good on.body), length-append (blocks d.good) (1 ∷ framed on.body), framed_long on.body)) on.stands fits

-- ---- the laws

none_stand : (file : List ℕ) (a : List (List ℕ)) → length file ≤ 1 → StandsFor file a → a ≡ []
none_stand file [] few s = refl
none_stand file (x ∷ a) few (gate, rest, closed, parts) = absurd (omega (arith, ap length parts, length-append (blocks (x ∷ a)) (gate ∷ rest), few))

pub one_list : (file : List ℕ) (a b : List (List ℕ)) → IsFileOf file a → IsFileOf file b → a ≡ b
one_list file a b (inl p) (inl q) = p.1 ∙ sym q.1
one_list file a b (inl p) (inr q) = p.1 ∙ sym (none_stand file b p.0 q.0)
one_list file a b (inr p) (inl q) = none_stand file a q.0 p.0 ∙ sym q.1
one_list file a b (inr ((g, r, closed_g, file_a), within_a)) (inr ((h, s, closed_h, file_b), within_b)) =
    closed_one a b g h r s closed_g closed_h (short a within_a) (short b within_b) (sym file_a ∙ file_b)

pub not_damaged : (file : List ℕ) (a : List (List ℕ)) (at : ℕ) → IsFileOf file a → IsDamagedAt file at → ⊥
not_damaged file a at (inl p) d = omega (arith, p.0, d.long)
not_damaged file a at (inr ((g, r, closed, parts), within)) d = not_on file at d a within (open_goes_on a d.good g r d.rest closed (short a within) (short d.good d.within) (sym parts ∙ d.parts))

pub one_place : (file : List ℕ) (at at' : ℕ) → IsDamagedAt file at → IsDamagedAt file at' → at ≡ at'
one_place file at at' d e = elim (open_both d.good e.good d.rest e.rest (short d.good d.within) (short e.good e.within) (sym d.parts ∙ e.parts)) [
  | inl same ↦ d.place ∙ ap (λ (l : List (List ℕ)). length (blocks l)) same ∙ sym e.place
  | inr (inl on) ↦ absurd (not_on file at' e d.good d.within on)
  | inr (inr on) ↦ absurd (not_on file at d e.good e.within on)
]
