-- What events ask nodes for.
use Rattle.std.specs.Prelude.{ℕ, List, Bool, true, false, map, Option, Some, None, option_map}
use Rattle.depot_base.specs.Writes.{one_change}
use Rattle.depot_model.specs.texts.Texts.{id_of_update}
use Rattle.depot_model.specs.checks.Vouching.{rising}
use Rattle.depot_requests.specs.declared.request.Request.{Request}
use Rattle.depot_requests.specs.declared.request.Request.TheVariants as request
use Rattle.depot_schedule.specs.declared.event.Event.{Event}
use Rattle.depot_schedule.specs.declared.event.Event.TheVariants as event
use Rattle.depot_world.specs.FaultySigning.{all_referred}
use Rattle.depot_world.specs.Run.{Run, bytes_of_label, referred}

-- an event asks a node for something
abbrev pub asks_node : Event → Bool
asks_node (event.Put node key value) = true
asks_node (event.Puts node changes) = true
asks_node (event.Get node key) = true
asks_node (event.Hello node label) = true
asks_node (event.Bundle node hello label) = true
asks_node (event.Give node label size) = true
asks_node (event.Receipt node refs) = true
asks_node (event.Settled node reference k) = true
asks_node (event.Checkpoint node label) = true
asks_node (event.Sign node label) = true
asks_node e = false

-- the label that is given what the node hands out
abbrev pub label_by : Event → Option (List ℕ)
label_by (event.Hello node label) = Some label
label_by (event.Bundle node hello label) = Some label
label_by (event.Checkpoint node label) = Some label
label_by e = None

-- how many bytes each piece of a stream has: the given number, or more than any stream
abbrev pub piece_of : Option ℕ → ℕ
piece_of (Some size) = size
piece_of None = 4294967295

-- What an event asks its node for, by what labels and references name: nothing if a reference names nothing. Receipts
-- are given for each id once, in rising order.
abbrev pub request_in : Run → Event → Option Request
request_in run (event.Put node key value) = Some (request.Put (one_change key value))
request_in run (event.Puts node changes) = Some (request.Put changes)
request_in run (event.Get node key) = Some (request.Get key)
request_in run (event.Hello node label) = Some request.Hello
request_in run (event.Bundle node hello label) = Some (request.Bundle (bytes_of_label run hello))
request_in run (event.Give node label size) = Some (request.Take (bytes_of_label run label) (piece_of size))
request_in run (event.Receipt node refs) = option_map (λ us. request.Receipt (rising (map id_of_update us))) (all_referred run refs)
request_in run (event.Settled node reference k) = option_map (λ u. request.Settled (id_of_update u) k) (referred run reference)
request_in run (event.Checkpoint node label) = Some request.Checkpoint
request_in run (event.Sign node label) = Some (request.Sign (bytes_of_label run label))
request_in run e = None
