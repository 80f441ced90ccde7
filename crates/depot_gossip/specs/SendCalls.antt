-- What a node replies when asked to send, and what the call makes of it.
use Rattle.std.specs.Prelude.{◌≡◌, ◌⊎◌, List, ◌++◌, Result, Ok, Err, IsErrOf}
use Rattle.depot_base.specs.declared.record.Record.{Record}
use Rattle.depot_streams.specs.Lasting.{LastsIn}
use Rattle.depot_model.specs.exchange.Bundle.{Signs}
use Rattle.depot_model.specs.checks.Checks.{Setting}
use Rattle.depot_model.specs.exchange.Hello.{text_of_hello}
use Rattle.depot_model.specs.checks.Limits.{IsCutShort}
use Rattle.depot_model.specs.journals.Replicas.{IsNodeCall}
use Rattle.depot_model.specs.declared.node_state.NodeState.{Ghosts}
use Rattle.depot_requests.specs.Requests.{Served, bundle_served}
use Rattle.depot_requests.specs.declared.reply.Halt.{Halt}
use Rattle.depot_requests.specs.declared.reply.Halt.TheVariants as halt
use Rattle.depot_requests.specs.declared.reply.Reply.{Reply}
use Rattle.depot_requests.specs.declared.reply.Reply.TheVariants as reply
use Rattle.depot_gossip.specs.Bounding.{bounded_answer}
use Rattle.depot_gossip.specs.FarHellos.{far_hello}
use Rattle.depot_gossip.specs.declared.send_request.SendRequest.{SendRequest}
use Rattle.depot_gossip.specs.declared.send_request.SendRequest.TheVariants as request

-- Its outcome, by the node's setting, its signer and its journal.
unfoldable pub sent_by : Setting → Signs → List Record → SendRequest → Served
sent_by here sign J request.FarHello = record { journal = J; reply = reply.Hello (far_hello here J) (text_of_hello (far_hello here J)) }
sent_by here sign J (request.Bounded hello bounds) = bundle_served J (bounded_answer here sign J hello bounds)

-- the journal was to be extended, and the disk cut that short
pub record IsCutBefore (J longer then : List Record) : Type 0 where
  pub more : List Record
  pub brings : longer ≡ J ++ more
  pub cut : IsCutShort J more then

-- What a node replies, and its journal afterwards: what is defined; or no memory was found, and then all vouchers of a
-- bundle were journaled or none; or the disk failed, in this call or before it.
abbrev pub Sends : Setting → Signs → List Record → SendRequest → Result Reply Halt → List Record → Type 0
Sends here sign J r (Ok told) then = sent_by here sign J r ≡ record { journal = then; reply = told }
Sends here sign J r (Err halt.Memory) then = (then ≡ J) ⊎ (then ≡ (sent_by here sign J r).journal)
Sends here sign J r (Err halt.Disk) then = IsCutBefore J (sent_by here sign J r).journal then
Sends here sign J r (Err halt.Stopped) then = then ≡ J

-- The call was to append what the request brings, and with that the journal is lawful. Every crash image of it has the
-- records from before and a prefix of those; after it, all records of the node.
pub record IsSendCall {N : Type 0} (g : Ghosts N) (old new : N) (r : SendRequest) (result : Result Reply Halt) : Type 0 where
  pub appends : List Record
  pub brings : (sent_by (g.stands old) (g.signature_of old) (g.records old) r).journal ≡ g.records old ++ appends
  pub node : IsNodeCall g old new appends (IsErrOf result halt.Stopped) (IsErrOf result halt.Disk) ⊥
  pub lasts : LastsIn g (IsErrOf result halt.Disk) old new
