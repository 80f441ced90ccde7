-- The definitions of this crate, by example.
use Rattle.std.proofs.Common.{◌≡◌, true, false, Some, None, refl}
use Rattle.depot_node.specs.declared.start_error.StartError.TheVariants as start_error
use Rattle.depot_requests.specs.declared.reply.Halt.TheVariants as halt
use Rattle.depot_c.specs.Asked.{asked_by}
use Rattle.depot_c.specs.Refusals.{number_of, refusal_outcome}
use Rattle.depot_c.specs.NodeViews.{for_disk}
use Rattle.depot_c.specs.declared.ask.Ask.TheVariants as ask
use Rattle.depot_c.specs.declared.refused.Refused.TheVariants as refused

a_number_asks : asked_by 6 ≡ Some ask.Start
a_number_asks = refl

the_last_number : asked_by 10 ≡ Some ask.Records
the_last_number = refl

a_number_too_high : asked_by 11 ≡ None
a_number_too_high = refl

a_message_fails : for_disk (refused.Halted halt.Disk) ≡ true
a_message_fails = refl

a_start_fails : for_disk (refused.Start start_error.Disk) ≡ true
a_start_fails = refl

want_of_memory_is_no_failure : for_disk (refused.Halted halt.Memory) ≡ false
want_of_memory_is_no_failure = refl

a_status : number_of (refusal_outcome (refused.Start (start_error.Damaged 120))) ≡ 9
a_status = refl

an_ill_formed_body : number_of (refusal_outcome (refused.IllFormed 7)) ≡ 2
an_ill_formed_body = refl
