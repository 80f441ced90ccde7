-- Lists of bytes, part by part.
use Rattle.std.proofs.Common.{ℕ, zero, suc, ◌<◌, List, [], ◌∷◌, ◌++◌, take, drop, replicate, inl, inr, arith, refl}
use Rattle.std.specs.Prelude.{slice_index}
use Rattle.std.specs.List.{AllByRecursion, flat_map}
use Rattle.std.specs.Int.{Width, byte_len, bytes_high_first, to_be_bytes, w32}
use Rattle.sha2.specs.Sha256.{digest_bytes, final_hash, initial_hash_256, sha256}
use Rattle.depot_base.specs.Cursor.{numeral}
use Rattle.depot_model.specs.lists.Lists.{IsIn}
use Rattle.depot_laws.proofs.lists.Tests.{all_left, all_right}
use Rattle.depot_laws.specs.Streams.{AreBytes}
use Rattle.depot_base.proofs.GeneralLaws.{all_both}
use Rattle.depot_model.proofs.of_texts.TreeNodes.{byte_small}

abbrev pub IsByte : ℕ → Type 0
IsByte b = b < 256

-- each is a byte
abbrev pub OnlyBytes : List ℕ → Type 0
OnlyBytes bytes = AllByRecursion IsByte bytes

-- ---- by places

pub by_places : (bytes : List ℕ) → OnlyBytes bytes → AreBytes bytes
by_places [] only i = omega arith
by_places (b ∷ bytes) only zero = only.0
by_places (b ∷ bytes) only (suc i) = by_places bytes only.1 i

pub from_places : (bytes : List ℕ) → AreBytes bytes → OnlyBytes bytes
from_places [] are = tt
from_places (b ∷ bytes) are = (are 0, from_places bytes (λ i. are (suc i)))

-- ---- parts

pub only_both : (a b : List ℕ) → OnlyBytes a → OnlyBytes b → OnlyBytes (a ++ b)
only_both a b = all_both IsByte a b

pub only_left : (a b : List ℕ) → OnlyBytes (a ++ b) → OnlyBytes a
only_left a b = all_left IsByte a b

pub only_right : (a b : List ℕ) → OnlyBytes (a ++ b) → OnlyBytes b
only_right a b = all_right IsByte a b

pub only_take : (n : ℕ) (bytes : List ℕ) → OnlyBytes bytes → OnlyBytes (take n bytes)
only_take zero bytes only = tt
only_take (suc n) [] only = tt
only_take (suc n) (b ∷ bytes) only = (only.0, only_take n bytes only.1)

pub only_drop : (n : ℕ) (bytes : List ℕ) → OnlyBytes bytes → OnlyBytes (drop n bytes)
only_drop zero bytes only = only
only_drop (suc n) [] only = tt
only_drop (suc n) (b ∷ bytes) only = only_drop n bytes only.1

-- what each gives, one after another
pub only_flat : {X : Type 0} (f : X → List ℕ) (xs : List X) → ((x : X) → IsIn x xs → OnlyBytes (f x)) → OnlyBytes (flat_map f xs)
only_flat f [] each = tt
only_flat f (x ∷ xs) each = only_both (f x) (flat_map f xs) (each x (inl refl)) (only_flat f xs (λ y on. each y (inr on)))

-- the parts of a text, one after another
abbrev pub joined : List (List ℕ) → List ℕ
joined parts = flat_map (λ p. p) parts

pub only_joined : (parts : List (List ℕ)) → AllByRecursion OnlyBytes parts → OnlyBytes (joined parts)
only_joined [] each = tt
only_joined (p ∷ parts) each = only_both p (joined parts) each.0 (only_joined parts each.1)

pub joined_only : (parts : List (List ℕ)) → OnlyBytes (joined parts) → AllByRecursion OnlyBytes parts
joined_only [] only = tt
joined_only (p ∷ parts) only = (only_left p (joined parts) only, joined_only parts (only_right p (joined parts) only))

-- ---- numbers, digests, zeros

only_high_first : (k n : ℕ) → OnlyBytes (bytes_high_first k n)
only_high_first zero n = tt
only_high_first (suc k) n = (byte_small k n, only_high_first k n)

pub only_numeral : (w : Width) (n : ℕ) → OnlyBytes (numeral w n)
unfolding numeral
only_numeral w n = only_high_first (byte_len w) n

only_digest_bytes : (h : List ℕ) (n : ℕ) → OnlyBytes (digest_bytes h n)
unfolding digest_bytes
only_digest_bytes h zero = tt
only_digest_bytes h (suc n) = only_both (digest_bytes h n) (to_be_bytes w32 (slice_index h n)) (only_digest_bytes h n) (only_high_first 4 (slice_index h n))

pub only_sha256 : (m : List ℕ) → OnlyBytes (sha256 m)
unfolding sha256
only_sha256 m = only_digest_bytes (final_hash initial_hash_256 m) 8

pub only_zeros : (n : ℕ) → OnlyBytes (replicate n 0)
only_zeros zero = tt
only_zeros (suc n) = (omega arith, only_zeros n)
