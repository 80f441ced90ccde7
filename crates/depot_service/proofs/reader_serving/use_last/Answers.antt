use Rattle.depot_service.proofs.ServedReaders.{last_used, none_used}
use Rattle.depot_service.proofs.reader_serving.use_last.Goals as goal

pub returns-in-Some : goal.returns-in-Some
returns-in-Some g c = rw c.in-Some.is (last_used g.S.Scheme.verifies c.args.asked.now c.in-Some.reader c.use_reader.new.reader c.use_reader.result c.use_reader.ensures)

pub returns-in-None : goal.returns-in-None
returns-in-None g c = rw c.in-None.is (none_used g.S.Scheme.verifies c.args.asked.now)
