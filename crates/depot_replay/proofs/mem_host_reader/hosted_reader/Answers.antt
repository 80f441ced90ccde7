use Rattle.std.proofs.Common.{subst}
use Rattle.depot_trim.specs.ReaderView.{IsReaderOf}
use Rattle.depot_service.specs.ReaderCalls.{KeepsReader}
use Rattle.depot_replay.specs.declared.mem_host_reader.MemHostReader.{MemHostReader}
use Rattle.depot_replay.proofs.ReaderTurns.{hosted_none, hosted_one}
use Rattle.depot_replay.proofs.mem_host_reader.hosted_reader.Goals as goal

pub returns-in-Some : goal.returns-in-Some
returns-in-Some g c = λ R keeps.
    hosted_one g.row.S.Denot (MemHostReader g.row.S.Denot) g.S.Scheme.verifies (λ r x. IsReaderOf g.S.Scheme.verifies r x.trimmed) c.in-Some.trimmed (record { alloc = c.args.alloc; trimmed = c.in-Some.trimmed }) R (λ r of. of) (subst (λ m. KeepsReader g.S.Scheme.verifies m R) c.in-Some.is keeps)

pub returns-in-None : goal.returns-in-None
returns-in-None g c = λ R keeps.
    hosted_none g.row.S.Denot (MemHostReader g.row.S.Denot) g.S.Scheme.verifies (λ r x. IsReaderOf g.S.Scheme.verifies r x.trimmed) R (subst (λ m. KeepsReader g.S.Scheme.verifies m R) c.in-None.is keeps)
