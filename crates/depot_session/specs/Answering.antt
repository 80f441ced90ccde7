-- What comes of messages, one after another.
use Rattle.std.specs.Prelude.{ℕ, List, [], ◌∷◌, ◌++◌, Option, Some, None}
use Rattle.depot_base.specs.declared.record.Record.{Record}
use Rattle.depot_model.specs.exchange.Bundle.{Signs}
use Rattle.depot_model.specs.checks.Checks.{Setting}
use Rattle.depot_model.specs.declared.node_state.NodeState.{Ghosts}
use Rattle.depot_service.specs.Answering.{Came, came_by}
use Rattle.depot_service.specs.Bodies.{asked_of_body}
use Rattle.depot_service.specs.declared.asked.Asked.{Asked}

-- the outcome of the body of a message, by the journal before it; nothing for a body that asks nothing
abbrev pub ServesBody : Type 0
ServesBody = List Record → List ℕ → Came

abbrev pub came_of_found : Setting → Signs → List Record → Option Asked → Came
came_of_found here sign J (Some a) = came_by here sign J a
came_of_found here sign J None = record { journal = J; text = [] }

-- its outcome at a node with this setting and signer
abbrev pub serves_at : Setting → Signs → ServesBody
serves_at here sign J body = came_of_found here sign J (asked_of_body body)

-- its outcome at this node
abbrev pub serves_of : {N : Type 0} → Ghosts N → N → ServesBody
serves_of g node = serves_at (g.stands node) (g.signature_of node)

-- the same of several, one after another: the journal after them, and the messages that answer, one after another
abbrev pub came_of : ServesBody → List Record → List (List ℕ) → Came
came_of f J [] = record { journal = J; text = [] }
came_of f J (body ∷ bodies) = record { journal = (came_of f (f J body).journal bodies).journal; text = (f J body).text ++ (came_of f (f J body).journal bodies).text }
