-- What an event asks a node for is a request that a node may be asked, made of bytes.
use Rattle.std.proofs.Common.{◌≡◌, ℕ, ◌≤◌, List, length, Option, Some, None, refl, arith}
use Rattle.std.specs.Prelude.{IfSome, map, option_map}
use Rattle.depot_base.specs.declared.update.Update.{Update}
use Rattle.depot_laws.proofs.lists.RisingBytes.{rising_rises, rising_short, rising_some}
use Rattle.depot_model.specs.texts.Texts.{id_of_update}
use Rattle.depot_model.specs.checks.Vouching.{rising}
use Rattle.depot_requests.specs.Requests.{AreIds, IsRequest}
use Rattle.depot_requests.specs.declared.request.Request.{Request}
use Rattle.depot_requests.specs.declared.request.Request.TheVariants as request
use Rattle.depot_schedule.specs.declared.event.Event.{Event}
use Rattle.depot_schedule.specs.declared.event.Event.TheVariants as event
use Rattle.depot_world.specs.EventRequests.{piece_of, request_in}
use Rattle.depot_world.specs.FaultySigning.{all_referred}
use Rattle.depot_world.specs.Run.{Run, referred}
use Rattle.depot_world.proofs.of_bytes.ByteLabels.{LabelsHold, bytes_hold}
use Rattle.depot_world.proofs.EventFacts.{BringsBytes}
use Rattle.depot_world.proofs.of_worlds.GoodRequests.{IsByteRequest, IsGoodRequest}
use Rattle.depot_world.proofs.ReceiptChanges.{ids_of, many_ids, receipts_are_bytes, receipts_are_changes, referred_as_many}

some_piece : (size : Option ℕ) → IfSome size (λ n. 1 ≤ n) → 1 ≤ piece_of size
some_piece None some = omega arith
some_piece (Some n) some = some

-- the ids of 1 to 16 updates, rising
are_ids : (us : List Update) → 1 ≤ length us → length us ≤ 16 → AreIds (ids_of us)
are_ids us some few =
    let many = many_ids us in
    let low = rising_some (map id_of_update us) (omega (arith, some, many)) in
    let high = rising_short (map id_of_update us) in
    record { some = omega (arith, low); few = omega (arith, high, many, few); rising = rising_rises (map id_of_update us); changes = receipts_are_changes us some few }

-- whatever references name, a node may be asked for it
pub events_ask : (run : Run) (e : Event) → BringsBytes e → IfSome (request_in run e) IsRequest
events_ask run (event.Put node key value) brings = record { are = brings.0.are; plain = brings.1 }
events_ask run (event.Puts node changes) brings = record { are = brings.0.are; plain = brings.1 }
events_ask run (event.Give node label size) brings = some_piece size brings
events_ask run (event.Receipt node refs) brings = by_updates (all_referred run refs) refl where
  by_updates : (o : Option (List Update)) → all_referred run refs ≡ o → IfSome (option_map (λ us. request.Receipt (ids_of us)) o) IsRequest
  by_updates None is = tt
  by_updates (Some us) is = let many = referred_as_many run refs us is in are_ids us (omega (arith, many, brings.0)) (omega (arith, many, brings.1))
events_ask run (event.Settled node reference k) brings = by_update (referred run reference) where
  by_update : (o : Option Update) → IfSome (option_map (λ u. request.Settled (id_of_update u) k) o) IsRequest
  by_update None = tt
  by_update (Some u) = tt
events_ask run e brings = tt

-- and it carries bytes, where labels hold bytes
pub events_ask_bytes : (run : Run) (e : Event) → LabelsHold run → BringsBytes e → IfSome (request_in run e) IsByteRequest
events_ask_bytes run (event.Put node key value) hold brings = brings.0.bytes
events_ask_bytes run (event.Puts node changes) hold brings = brings.0.bytes
events_ask_bytes run (event.Give node label size) hold brings = bytes_hold run label hold
events_ask_bytes run (event.Sign node label) hold brings = bytes_hold run label hold
events_ask_bytes run (event.Receipt node refs) hold brings = by_updates (all_referred run refs) where
  by_updates : (o : Option (List Update)) → IfSome (option_map (λ us. request.Receipt (ids_of us)) o) IsByteRequest
  by_updates None = tt
  by_updates (Some us) = receipts_are_bytes us
events_ask_bytes run (event.Settled node reference k) hold brings = by_update (referred run reference) where
  by_update : (o : Option Update) → IfSome (option_map (λ u. request.Settled (id_of_update u) k) o) IsByteRequest
  by_update None = tt
  by_update (Some u) = tt
events_ask_bytes run e hold brings = tt

-- so it is a good one
both_good : (o : Option Request) → IfSome o IsRequest → IfSome o IsByteRequest → IfSome o IsGoodRequest
both_good None may only = tt
both_good (Some r) may only = record { is = may; only = only }

pub events_ask_well : (run : Run) (e : Event) → LabelsHold run → BringsBytes e → IfSome (request_in run e) IsGoodRequest
events_ask_well run e hold brings = both_good (request_in run e) (events_ask run e brings) (events_ask_bytes run e hold brings)
