use Rattle.std.proofs.Common.{refl, sym, ap, subst, ◌∙◌, arith}
use Rattle.depot_outside.specs.Told.{sinks}
use Rattle.depot_requests.specs.ReaderRequests.{line_of_reader_reply}
use Rattle.depot_service.specs.ReaderCalls.{KeepsReader}
use Rattle.depot_session.specs.Sessions.{ending_of_reader_reply}
use Rattle.depot_session.proofs.KeptSteps.{on_ok}
use Rattle.depot_session.proofs.LastReaders.{somebodys_then}
use Rattle.depot_session.proofs.ReaderTurns.{not_without_memory, reader_ends_calmly, reader_then, reader_told}
use Rattle.depot_session.proofs.ToldFaults.{EndsCalmly, names_memory, names_told, never_rose}
use Rattle.depot_session.proofs.on_disks.Uncalled.{keeps_uncalled, uncalled_without_memory}
use Rattle.depot_session.proofs.reader_commands.ask.Goals as goal

pub serve_reader-requires-clause-runs : goal.serve_reader-requires-clause-runs
serve_reader-requires-clause-runs g c = c.requires.running.runs

-- ---- no memory was found for the reply

pub returns-in_err-reply-clause-keeps : goal.returns-in_err-reply-clause-keeps
returns-in_err-reply-clause-keeps g c = keeps_uncalled g.R.NodeState c.args.node.now c.requires.running (g.met.R.Replica.only_now) (g.met.R.Replica.after_none) (g.met.R.Replica.lawful c.args.node.now) _ _ (names_memory _ _ (omega arith) _ c.from_residual.ensures.1 (never_rose _ _))

pub returns-in_err-reply-clause-turns : goal.returns-in_err-reply-clause-turns
returns-in_err-reply-clause-turns g c = λ shelf s unchanged at keeps asked.
    uncalled_without_memory g.R.NodeState c.args.node.now c.requires.running s c.args.command.now shelf (sinks g.K.Sink c.args.out.now c.args.out.now) at unchanged c.from_residual.result c.from_residual.ensures.1 refl

pub returns-in_err-reply-clause-reader : goal.returns-in_err-reply-clause-reader
returns-in_err-reply-clause-reader g c = not_without_memory c.from_residual.result _ c.from_residual.ensures.1

pub returns-in_err-reply-clause-somebodys : goal.returns-in_err-reply-clause-somebodys
returns-in_err-reply-clause-somebodys g c = not_without_memory c.from_residual.result _ c.from_residual.ensures.1

-- ---- nor for its line

pub returns-in_err-line-clause-keeps : goal.returns-in_err-line-clause-keeps
returns-in_err-line-clause-keeps g c = keeps_uncalled g.R.NodeState c.args.node.now c.requires.running (g.met.R.Replica.only_now) (g.met.R.Replica.after_none) (g.met.R.Replica.lawful c.args.node.now) _ _ (names_memory _ _ (omega arith) _ c.from_residual-in_err-line.ensures.1 (never_rose _ _))

pub returns-in_err-line-clause-turns : goal.returns-in_err-line-clause-turns
returns-in_err-line-clause-turns g c = λ shelf s unchanged at keeps asked.
    uncalled_without_memory g.R.NodeState c.args.node.now c.requires.running s c.args.command.now shelf (sinks g.K.Sink c.args.out.now c.args.out.now) at unchanged c.from_residual-in_err-line.result c.from_residual-in_err-line.ensures.1 refl

pub returns-in_err-line-clause-reader : goal.returns-in_err-line-clause-reader
returns-in_err-line-clause-reader g c = not_without_memory c.from_residual-in_err-line.result _ c.from_residual-in_err-line.ensures.1

pub returns-in_err-line-clause-somebodys : goal.returns-in_err-line-clause-somebodys
returns-in_err-line-clause-somebodys g c = not_without_memory c.from_residual-in_err-line.result _ c.from_residual-in_err-line.ensures.1

-- ---- the line was reported, or not

pub returns-clause-keeps : goal.returns-clause-keeps
returns-clause-keeps g c =
    keeps_uncalled g.R.NodeState c.args.node.now c.requires.running (g.met.R.Replica.only_now) (g.met.R.Replica.after_none) (g.met.R.Replica.lawful c.args.node.now) _ _
    (names_told _ _ c.tell.ensures.later _ c.ending_of_reader_reply-ends.result c.tell.result (subst EndsCalmly (sym c.ending_of_reader_reply-ends.ensures) (reader_ends_calmly c.in_ok-reply.reply)) c.tell.ensures.tells c.tell.ensures.only)

pub returns-clause-turns : goal.returns-clause-turns
returns-clause-turns g c = λ shelf s unchanged at keeps asked.
    let so = c.in_ok-reply.ensures.serves s.reader keeps in
    reader_told g.R.NodeState c.args.node.now c.requires.running s c.args.command.now c.args.request.now shelf (sinks g.K.Sink c.args.out.now c.tell.new.out) at unchanged asked c.in_ok-line.line c.ending_of_reader_reply-ends.result c.tell.result
    (c.in_ok-line.ensures ∙ ap line_of_reader_reply so.reply_is) (c.ending_of_reader_reply-ends.ensures ∙ ap ending_of_reader_reply so.reply_is) c.tell.ensures.tells

pub returns-clause-reader : goal.returns-clause-reader
returns-clause-reader g c = on_ok c.tell.result _ (λ s journal keeps asked.
    let so = c.in_ok-reply.ensures.serves s.reader keeps in
    subst (λ last. KeepsReader g.S.Scheme.verifies c.serve_reader.new.last.made last) (sym (reader_then _ _ _ s c.args.command.now c.args.request.now journal asked)) so.keeps)

pub returns-clause-somebodys : goal.returns-clause-somebodys
returns-clause-somebodys g c = on_ok c.tell.result _ (somebodys_then g.S.Scheme.verifies c.args.last.now.made _ _ c.args.request.now c.in_ok-reply.reply c.serve_reader.new.last.made c.requires.reader c.in_ok-reply.ensures.serves)
