use Rattle.std.proofs.Common.{◌≡◌, ℕ, ◌*◌, ◌<◌, ◌≤◌, length, take, get_or}
use Rattle.std.specs.List.{flat_map}
use Rattle.depot_model.specs.texts.Winternitz.{nibbles, checksum}
use Rattle.depot_winter.proofs.base16.digits.Given as goal

-- the digits of the bytes so far are at the front, and the checksum is theirs
abbrev pub invariant-loop-place : goal.invariant-loop-place
invariant-loop-place l = record {
  whole : length l.digits ≡ 67;
  own : take (2 * l.place) l.digits ≡ flat_map nibbles (take l.place l.digest);
  sum : l.checksum ≡ checksum (flat_map nibbles (take l.place l.digest));
  small : l.checksum ≤ 30 * l.place;
  bytes : (k : ℕ) → k < l.place → get_or l.digest k 0 < 256;
}
