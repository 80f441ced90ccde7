-- The faults of what is outside, as a count that never falls.
use Rattle.std.specs.Prelude.{◌<◌, ◌≤◌, ℕ}

-- The count never falls; a call that failed raised it, and no other call did.
pub record HasCause (before now : ℕ) (failed : Type 0) : Type 0 where
  pub never_falls : before ≤ now
  pub rose : failed → before < now
  pub only : before < now → failed
