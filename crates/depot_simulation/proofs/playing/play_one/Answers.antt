use Rattle.std.proofs.Common.{sym, inl}
use Rattle.std.proofs.lemmas.List.{append-nil}
use Rattle.depot_base.proofs.Writing.{on_err_from}
use Rattle.depot_outside.specs.Told.{sinks}
use Rattle.depot_simulation.specs.EachRun.{PlaysEvent}
use Rattle.depot_simulation.proofs.PlayedEvents.{front_written, lines_written}
use Rattle.depot_simulation.proofs.playing.play_one.Goals as goal

pub returns-in_err-lines-clause-front : goal.returns-in_err-lines-clause-front
returns-in_err-lines-clause-front g c = on_err_from c.from_residual.result (inl (λ tells. sym (append-nil (g.K.Sink.written c.args.out.now))))

pub returns-clause-done : goal.returns-clause-done
returns-clause-done g c =
    lines_written c.write.result (PlaysEvent g.S.Scheme.verifies g.G.Signer.key_of g.G.Signer.signature_of c.args.scenario.now g.A.Actor.view g.A.Reader.Reading.reads c.args.simulation.now c.args.event.now)
    (sinks g.K.Sink c.args.out.now c.write.new.out) c.event.new.self c.as_slice.result.now c.in_ok-lines.lines (sym c.as_slice.ensures) c.in_ok-lines.ensures.lines c.write.ensures.done

pub returns-clause-front : goal.returns-clause-front
returns-clause-front g c =
    front_written c.write.result (PlaysEvent g.S.Scheme.verifies g.G.Signer.key_of g.G.Signer.signature_of c.args.scenario.now g.A.Actor.view g.A.Reader.Reading.reads c.args.simulation.now c.args.event.now)
    (sinks g.K.Sink c.args.out.now c.write.new.out) c.event.new.self c.as_slice.result.now c.in_ok-lines.lines (sym c.as_slice.ensures) c.in_ok-lines.ensures.lines c.write.ensures.front
