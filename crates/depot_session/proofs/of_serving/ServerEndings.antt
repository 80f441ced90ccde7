-- How a run whose node was started doesn't end.
use Rattle.std.proofs.Common.{◌≢◌, ℕ, List, Result, Ok, Err, subst}
use Rattle.depot_outside.specs.Told.{Sinks}
use Rattle.depot_session.specs.ServerRuns.{IsUnsaid, ending_of_served}
use Rattle.depot_session.specs.declared.server_ending.ServeEnding.{ServeEnding}
use Rattle.depot_session.specs.declared.server_ending.ServeEnding.TheVariants as serve
use Rattle.depot_session.specs.declared.server_ending.ServerEnding.{ServerEnding}
use Rattle.depot_session.specs.declared.server_ending.ServerEnding.TheVariants as ending

-- a run whose first message wasn't written ends by nothing else
pub no_other : (sink : Sinks) (text : List ℕ) (e other : ServerEnding) → (IsUnsaid sink text other → ⊥) → IsUnsaid sink text e → e ≢ other
no_other sink text e other never u is = never (subst (IsUnsaid sink text) is u)

-- no run that was served ends by what refuses a start
pub served_not_unlawful : (r : Result (Unit {0}) ServeEnding) → ending_of_served r ≢ ending.NotLawful
served_not_unlawful (Ok done) is = cc
served_not_unlawful (Err serve.Memory) is = cc
served_not_unlawful (Err serve.Source) is = cc
served_not_unlawful (Err serve.Disk) is = cc
served_not_unlawful (Err serve.Sink) is = cc
served_not_unlawful (Err (serve.Input at within)) is = cc

pub served_not_another : (r : Result (Unit {0}) ServeEnding) → ending_of_served r ≢ ending.Identity
served_not_another (Ok done) is = cc
served_not_another (Err serve.Memory) is = cc
served_not_another (Err serve.Source) is = cc
served_not_another (Err serve.Disk) is = cc
served_not_another (Err serve.Sink) is = cc
served_not_another (Err (serve.Input at within)) is = cc
