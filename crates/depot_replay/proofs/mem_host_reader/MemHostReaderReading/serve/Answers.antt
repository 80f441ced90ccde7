use Rattle.depot_replay.proofs.ReaderTurns.{use_goes_on, use_replied}
use Rattle.depot_replay.proofs.mem_host_reader.MemHostReaderReading.serve.Goals as goal

pub returns-clause-reply : goal.returns-clause-reply
returns-clause-reply g c = λ r is. use_replied g.S.Scheme.verifies r c.args.asked.now c.use_reader.result _ (c.use_reader.ensures r is)

pub returns-clause-goes_on : goal.returns-clause-goes_on
returns-clause-goes_on g c = λ r is. use_goes_on g.S.Scheme.verifies r c.args.asked.now c.use_reader.result _ (c.use_reader.ensures r is)
