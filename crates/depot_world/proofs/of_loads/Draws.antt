-- Drawing numbers.
use Rattle.std.proofs.Common.{◌≡◌, ℕ, ◌+◌, ◌*◌, ◌%◌, ◌^◌}
use Rattle.std.proofs.Math.Nat.{mod-add-mod}
use Rattle.depot_world.specs.Loads.{state_behind}

-- a state goes on, step by step
pub goes_on : (x : ℕ) → (x * 6364136223846793005 % 2 ^ 64 + 1442695040888963407) % 2 ^ 64 ≡ state_behind x
unfolding state_behind
goes_on x = mod-add-mod (x * 6364136223846793005) (2 ^ 64) 1442695040888963407
