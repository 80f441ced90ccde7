-- What is prepared within bounds, and what is replied once it is sent.
use Rattle.std.specs.Prelude.{◌≡◌, ℕ, List, false, Result, Ok, Err}
use Rattle.depot_base.specs.declared.record.Record.{Record}
use Rattle.depot_model.specs.exchange.Bundle.{Signs, bad_hello, other_roster}
use Rattle.depot_model.specs.checks.Checks.{Setting}
use Rattle.depot_model.specs.texts.Texts.{hash_of_roster}
use Rattle.depot_model.specs.declared.node_state.NodeState.{Ghosts}
use Rattle.depot_gossip.specs.Bundling.{BundlesBy}
use Rattle.depot_gossip.specs.Preparing.{IsReady}
use Rattle.depot_gossip.specs.declared.bundle_error.BundleError.{BundleError}
use Rattle.depot_gossip.specs.declared.bundle_error.BundleError.TheVariants as error
use Rattle.depot_gossip.specs.declared.bundle_stream.Bundled.{Bundled}
use Rattle.depot_gossip.specs.declared.preparing.Prepared.{Prepared}
use Rattle.depot_requests.specs.declared.reply.Halt.{Halt}
use Rattle.depot_requests.specs.declared.reply.Halt.TheVariants as halt
use Rattle.depot_requests.specs.declared.reply.NodeLimit.TheVariants as limit
use Rattle.depot_requests.specs.declared.reply.Reason.TheVariants as reason
use Rattle.depot_requests.specs.declared.reply.Reply.{Reply}
use Rattle.depot_requests.specs.declared.reply.Reply.TheVariants as reply
use Rattle.depot_gossip.specs.Bounding.{bounded_answer, bounded_sent}
use Rattle.depot_gossip.specs.declared.bounds.Bounds.{Bounds}

-- what is prepared within bounds for a text, or why nothing is
abbrev pub PreparesWithin : Setting → Signs → List Record → List ℕ → Bounds → Result Prepared BundleError → Type 0
PreparesWithin here sign J text b (Ok p) = IsReady here sign J (bounded_answer here sign J text b) (bounded_sent here sign J p.hello b) p
PreparesWithin here sign J text b (Err error.Memory) = Unit {0}
PreparesWithin here sign J text b (Err error.Disk) = ⊥
PreparesWithin here sign J text b (Err error.Stopped) = ⊥
PreparesWithin here sign J text b (Err (error.IllFormed at)) = bounded_answer here sign J text b ≡ bad_hello at
PreparesWithin here sign J text b (Err (error.OtherRoster given mine)) = (bounded_answer here sign J text b ≡ other_roster given) × (mine ≡ hash_of_roster here.listed)
PreparesWithin here sign J text b (Err (error.Spent n)) = ⊥
PreparesWithin here sign J text b (Err (error.Full what)) = ⊥

-- what a running node answers to a text within bounds, and its journal afterwards
abbrev pub BundlesWithin : {N : Type 0} → Ghosts N → N → N → List ℕ → Bounds → Result Bundled BundleError → Type 0
BundlesWithin g old new text b result = BundlesBy (g.stands old) (g.records old) false (bounded_answer (g.stands old) (g.signature_of old) (g.records old) text b) result (g.records new)

-- what is replied where this was made
abbrev pub replied : Result Bundled BundleError → Result Reply Halt
replied (Ok b) = Ok (reply.Bundle b.bytes b.counts b.more)
replied (Err error.Memory) = Err halt.Memory
replied (Err error.Disk) = Err halt.Disk
replied (Err error.Stopped) = Err halt.Stopped
replied (Err (error.IllFormed at)) = Ok (reply.Refused (reason.IllFormed at))
replied (Err (error.OtherRoster given mine)) = Ok (reply.Refused (reason.OtherRoster given))
replied (Err (error.Spent n)) = Ok (reply.Refused (reason.Limit (limit.Spent n)))
replied (Err (error.Full what)) = Ok (reply.Refused (reason.Limit (limit.Full what)))
