use Rattle.depot_service.proofs.FedReaders.{IsTaking}
use Rattle.depot_service.proofs.readers.feed_reader.Given as goal

abbrev pub invariant-loop : goal.invariant-loop
invariant-loop g l = IsTaking g.S.Scheme.verifies l.fn.reader l.stream l.at l.counter l.told l.reader
