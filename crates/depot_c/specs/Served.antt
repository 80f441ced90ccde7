-- What a call makes of a handle.
use Rattle.std.specs.Prelude.{ℕ, List}
use Rattle.depot_c.specs.Calls.{ServesCall, kept_bytes}
use Rattle.depot_c.specs.contracts.handle.HandleViewed.TheImpl.{ghosts}
use Rattle.depot_c.specs.declared.handle.Handle.{Handle}

-- The call did to the handle what was asked, by what is seen of it and the bytes that it keeps for its caller, before and after.
abbrev pub IsServed : (op number : ℕ) (input room : List ℕ) (old new : Handle) (status : ℕ) (output : List ℕ) → Type 0
IsServed op number input room old new status output = ServesCall op number input (ghosts.view_of old) (kept_bytes old) room (ghosts.view_of new) (kept_bytes new) status output
