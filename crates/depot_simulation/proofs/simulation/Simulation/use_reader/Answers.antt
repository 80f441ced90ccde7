use Rattle.std.proofs.lemmas.Result.{IfOk-weaker}
use Rattle.depot_simulation.proofs.ReaderEvents.{reader_used}
use Rattle.depot_simulation.proofs.simulation.Simulation.use_reader.Goals as goal

pub serve-requires : goal.serve-requires
serve-requires g c = (c.requires.run.readers, c.requires.at.readers_are)

pub returns-clause-lines : goal.returns-clause-lines
returns-clause-lines g c = IfOk-weaker c.print_reader.result _ _ (λ lines printed setup run at.
    reader_used g.row.A.Denot g.A.Actor.view g.A.Reader.Reading.reads setup run c.args.name.now c.args.asked.now lines c.in_ok-reply.reply c.args.self.now c.serve.new.self at printed
    (c.in_ok-reply.ensures.reply run.readers at.readers_are) (c.in_ok-reply.ensures.readers run.readers at.readers_are)) c.print_reader.ensures
