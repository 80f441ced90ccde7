-- What a node answers to the body of a message.
use Rattle.std.specs.Prelude.{◌≡◌, ◌⊎◌, List, ℕ, true, None, Some, Result, Ok, Err}
use Rattle.depot_service.specs.Answering.{came_by}
use Rattle.depot_service.specs.Bodies.{IsAskedFault, asked_of_body}
use Rattle.depot_service.specs.declared.asked.Asked.{Asked}
use Rattle.depot_service.specs.declared.asked.Asked.TheVariants as asked
use Rattle.depot_gossip.specs.SendCalls.{Sends}
use Rattle.depot_requests.specs.ReplyTexts.{text_of_reply}
use Rattle.depot_requests.specs.declared.reply.Halt.{Halt}
use Rattle.depot_requests.specs.declared.reply.Halt.TheVariants as halt
use Rattle.depot_requests.specs.declared.reply.Reply.{Reply}
use Rattle.depot_service.specs.RequestCalls.{Serves}
use Rattle.depot_c.specs.NodeViews.{CallAnswer, NodeView}
use Rattle.depot_c.specs.declared.refused.Refused.TheVariants as refused

-- the message of a reply is answered, unless no memory was found for it; or the node was kept from replying
abbrev pub IsReplyMessage : Result Reply Halt → CallAnswer → Type 0
IsReplyMessage (Ok reply) (Ok text) = text ≡ text_of_reply reply
IsReplyMessage (Ok reply) (Err refused.Memory) = Unit {0}
IsReplyMessage (Ok reply) other = ⊥
IsReplyMessage (Err e) told = told ≡ Err (refused.Halted e)

-- what the node is where it was kept from answering what is asked; a question changes nothing, nor does a trace that is handed in
abbrev pub IsViewLeftBy : NodeView → Asked → Halt → NodeView → Type 0
IsViewLeftBy s (asked.Request r) e t = Serves s.here s.sign s.records r (Err e) t.records
IsViewLeftBy s (asked.Question q) e t = t ≡ s
IsViewLeftBy s (asked.Sending r) e t = Sends s.here s.sign s.records r (Err e) t.records
IsViewLeftBy s asked.Export e t = t ≡ s

-- What is answered to what is asked, and what the node is then: the message that answers; or what is asked was done, and no memory was found for the
-- message; or the node was kept from it.
abbrev pub AnswersBody : NodeView → Asked → CallAnswer → NodeView → Type 0
AnswersBody s a (Ok text) t = came_by s.here s.sign s.records a ≡ record { journal = t.records; text = text }
AnswersBody s a (Err refused.Memory) t = t.records ≡ (came_by s.here s.sign s.records a).journal
AnswersBody s a (Err (refused.Halted e)) t = IsViewLeftBy s a e t
AnswersBody s a other t = ⊥

-- why nothing was read of a body: no memory was found for it, or the node was stopped
abbrev pub IsUnread : NodeView → CallAnswer → Type 0
IsUnread s (Err refused.Memory) = Unit {0}
IsUnread s (Err (refused.Halted halt.Stopped)) = s.stopped ≡ true
IsUnread s other = ⊥

-- something is asked by the body, and answered; or nothing was read
abbrev pub IsMessageServed : NodeView → List ℕ → CallAnswer → NodeView → Type 0
IsMessageServed s body told t = ((a : Asked) × ((asked_of_body body ≡ Some a) × AnswersBody s a told t)) ⊎ (IsUnread s told × (t ≡ s))

-- What a node answers to the body of a message, and what it is then. `IllFormed` is returned exactly when nothing is
-- asked by it, with its first fault, and then the node is unchanged.
abbrev pub Messaging : NodeView → List ℕ → CallAnswer → NodeView → Type 0
Messaging s body (Err (refused.IllFormed at)) t = (asked_of_body body ≡ None) × (IsAskedFault body at × (t ≡ s))
Messaging s body told t = IsMessageServed s body told t
