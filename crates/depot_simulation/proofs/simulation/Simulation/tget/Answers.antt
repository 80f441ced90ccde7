use Rattle.std.proofs.Common.{ℕ, List, subst}
use Rattle.std.proofs.lemmas.Result.{IfOk-weaker}
use Rattle.depot_requests.specs.declared.reader_request.ReaderUse.TheVariants as uses
use Rattle.depot_world.specs.Transcript.{used_at}
use Rattle.depot_simulation.specs.Doing.{HasDone}
use Rattle.depot_simulation.proofs.simulation.Simulation.tget.Goals as goal

pub returns-clause-lines : goal.returns-clause-lines
returns-clause-lines g c = IfOk-weaker c.use_reader.result _ _ (λ lines told setup run at.
    subst (λ (key : List ℕ). HasDone g.row.A.Denot g.A.Actor.view g.A.Reader.Reading.reads setup (used_at run c.args.name.now (uses.Get key)) lines c.use_reader.new.self) c.in_ok-key.ensures (told setup run at)) c.use_reader.ensures.lines
