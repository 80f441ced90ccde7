use Rattle.std.proofs.Common.{ℕ, List, sym, subst}
use Rattle.std.proofs.lemmas.Result.{IfOk-weaker}
use Rattle.depot_world.specs.Run.{bytes_of_label}
use Rattle.depot_world.specs.Transcript.{trim_at}
use Rattle.depot_simulation.specs.Doing.{HasDone}
use Rattle.depot_simulation.proofs.ReaderEvents.{nothing_trimmed, reader_trimmed}
use Rattle.depot_simulation.proofs.simulation.Simulation.trim.Goals as goal

pub returns-in_default-clause-lines : goal.returns-in_default-clause-lines
returns-in_default-clause-lines g c = λ setup run at.
    let view = g.A.Actor.view in
    let reads = g.A.Reader.Reading.reads in
    let text = bytes_of_label run c.args.label.now in
    subst (λ (lines : List ℕ). HasDone g.row.A.Denot view reads setup (trim_at setup run c.args.node text c.args.name.now) lines c.args.self.now) (sym c.in_ok-from_slice.ensures)
    (nothing_trimmed g.row.A.Denot view reads setup run c.args.node text c.args.name.now c.args.self.now (sym c.in_default.ensures) at)

pub returns-clause-lines : goal.returns-clause-lines
returns-clause-lines g c = IfOk-weaker c.print_reader.result _ _ (λ lines printed setup run at.
    let view = g.A.Actor.view in
    let reads = g.A.Reader.Reading.reads in
    let old = c.args.self.now in
    let name = c.args.name.now in
    let t = c.in_ok-reply.field-0 in
    subst (λ (text : List ℕ). HasDone g.row.A.Denot view reads setup (trim_at setup run c.args.node text name) lines (record old { readers = c.put.new.self })) (c.bytes-text.ensures run.labels at.labels_are)
    (reader_trimmed g.row.A.Denot view reads setup run c.args.node c.in-Some.place c.bytes-text.result.now name old c.put.new.self c.index.result.now t lines at (sym c.in-Some.ensures) c.index.ensures c.in_ok-reply.ensures c.in_ok-put.ensures printed)) c.print_reader.ensures
