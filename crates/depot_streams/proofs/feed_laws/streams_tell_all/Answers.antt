use Rattle.std.proofs.Common.{refl, sym, ap}
use Rattle.std.specs.Prelude.{Option}
use Rattle.depot_model.specs.exchange.Feeding.{Closing, report_of, ending_of}
use Rattle.depot_streams.proofs.feed_laws.streams_tell_all.Goals as goal

pub returns-clause-report : goal.returns-clause-report
unfolding report_of ending_of
returns-clause-report c = λ s. refl

pub returns-clause-whole : goal.returns-clause-whole
returns-clause-whole c = λ s none. sym (ap (λ (o : Option Closing). record s { closed = o }) none)
