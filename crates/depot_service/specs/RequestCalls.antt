-- What a node replies to a request, and what the call leaves of it.
use Rattle.std.specs.Prelude.{◌≡◌, ◌≢◌, ◌⊎◌, List, ◌++◌, Result, Ok, Err, IsErrAnd, IsErrOf}
use Rattle.depot_base.specs.declared.record.Record.{Record}
use Rattle.depot_streams.specs.Lasting.{LastsIn}
use Rattle.depot_model.specs.exchange.Bundle.{Signs}
use Rattle.depot_model.specs.checks.Checks.{Setting}
use Rattle.depot_model.specs.checks.Limits.{IsCutShort}
use Rattle.depot_model.specs.journals.Replicas.{IsNodeCall}
use Rattle.depot_model.specs.declared.node_state.NodeState.{Ghosts}
use Rattle.depot_requests.specs.Requests.{served}
use Rattle.depot_requests.specs.declared.reply.Halt.{Halt}
use Rattle.depot_requests.specs.declared.reply.Halt.TheVariants as halt
use Rattle.depot_requests.specs.declared.reply.Reply.{Reply}
use Rattle.depot_requests.specs.declared.request.Request.{Request}
use Rattle.depot_requests.specs.declared.request.Request.TheVariants as request

-- ---- the journal

-- the journal was to become a longer one, and the disk cut that short
pub record IsCutFrom (J longer then : List Record) : Type 0 where
  pub more : List Record
  pub brings : longer ≡ J ++ more
  pub cut : IsCutShort J more then

-- What the journal is on `Memory`: unchanged, except that all or none of a bundle's vouchers were journaled, and that
-- of a stream the call says which prefix was taken.
abbrev pub IsLeftShort : Setting → Signs → List Record → Request → List Record → Type 0
IsLeftShort here sign J (request.Bundle hello) then = (then ≡ J) ⊎ (then ≡ (served here sign J (request.Bundle hello)).journal)
IsLeftShort here sign J (request.Take stream piece) then = Unit {0}
IsLeftShort here sign J other then = then ≡ J

-- what it is if the disk failed: a prefix of what the request brings; of a stream the call says which prefix was taken
abbrev pub IsLeftCut : Setting → Signs → List Record → Request → List Record → Type 0
IsLeftCut here sign J (request.Take stream piece) then = Unit {0}
IsLeftCut here sign J other then = IsCutFrom J (served here sign J other).journal then

-- What a node replies to a request, and its journal afterwards: what is defined, unless no memory was found, or the
-- disk failed in this call or before it.
abbrev pub Serves : Setting → Signs → List Record → Request → Result Reply Halt → List Record → Type 0
Serves here sign J r (Ok reply) then = served here sign J r ≡ record { journal = then; reply = reply }
Serves here sign J r (Err halt.Memory) then = IsLeftShort here sign J r then
Serves here sign J r (Err halt.Disk) then = IsLeftCut here sign J r then
Serves here sign J r (Err halt.Stopped) then = then ≡ J

-- ---- the call

-- without a reply nothing was appended, unless the disk failed; or some of a bundle's vouchers or of a stream may have
-- been
abbrev pub AppendsNone : Request → Result Reply Halt → Type 0
AppendsNone (request.Bundle hello) result = ⊥
AppendsNone (request.Take stream piece) result = ⊥
AppendsNone other result = IsErrAnd result (λ e. e ≢ halt.Disk)

-- The call was to append what the request brings, and with that the journal is lawful. Every crash image of it has the
-- records from before and a prefix of those; after it, all records of the node.
pub record IsRequestCall {N : Type 0} (g : Ghosts N) (old new : N) (r : Request) (result : Result Reply Halt) : Type 0 where
  pub appends : List Record
  pub brings : (served (g.stands old) (g.signature_of old) (g.records old) r).journal ≡ g.records old ++ appends
  pub node : IsNodeCall g old new appends (IsErrOf result halt.Stopped) (IsErrOf result halt.Disk) (AppendsNone r result)
  pub lasts : LastsIn g (IsErrOf result halt.Disk) old new
