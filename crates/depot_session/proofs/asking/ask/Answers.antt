use Rattle.std.proofs.Common.{Err, refl, ap, ◌∙◌, arith, inl}
use Rattle.depot_session.specs.declared.ending.ScriptEnding.TheVariants as ending
use Rattle.depot_model.proofs.of_journals.JournalCallLaws.{never_answered}
use Rattle.depot_outside.specs.Told.{shelves, sinks}
use Rattle.depot_session.proofs.AskedShelves.{unstored}
use Rattle.depot_session.proofs.AskedTurns.{asked_to_disk, asked_told, asked_without_memory, keeps_cut, keeps_told, keeps_unasked, stores_of_step, unstored_by_step}
use Rattle.depot_session.proofs.ToldFaults.{never_rose}
use Rattle.depot_session.proofs.asking.ask.Goals as goal

pub returns-in-Ok-clause-keeps : goal.returns-in-Ok-clause-keeps
returns-in-Ok-clause-keeps g c =
    let t = c.tell_reply.ensures in
    keeps_told g.R.NodeState c.args.node.now c.serve.new.node c.args.request c.serve.result c.requires.running c.serve.ensures.call (sinks g.K.Sink c.args.out.now c.tell_reply.new.out) t.later c.in-Ok.reply c.in-Ok.is (shelves g.F.Shelf c.args.shelf.now c.tell_reply.new.shelf) _ _ c.tell_reply.result t.tells t.only

pub returns-in-Ok-clause-turns : goal.returns-in-Ok-clause-turns
returns-in-Ok-clause-turns g c = λ s told at asks.
    asked_told g.R.NodeState (g.met.R.Replica.counts_now) c.args.node.now c.serve.new.node c.args.request c.serve.result c.requires.running c.serve.ensures.serves c.serve.ensures.call c.args.command.now s asks (shelves g.F.Shelf c.args.shelf.now c.tell_reply.new.shelf) (sinks g.K.Sink c.args.out.now c.tell_reply.new.out) at c.in-Ok.reply c.in-Ok.is told c.tell_reply.result c.tell_reply.ensures.tells

pub returns-in-Ok-clause-stores : goal.returns-in-Ok-clause-stores
returns-in-Ok-clause-stores g c = λ s told at asks.
    stores_of_step g.R.NodeState (g.met.R.Replica.counts_now) c.args.node.now c.serve.new.node c.args.request c.serve.result c.requires.running c.serve.ensures.serves c.serve.ensures.call c.args.command.now s asks (shelves g.F.Shelf c.args.shelf.now c.tell_reply.new.shelf) (sinks g.K.Sink c.args.out.now c.tell_reply.new.out) at c.in-Ok.reply c.in-Ok.is _ _ c.tell_reply.result c.tell_reply.ensures.stores

pub returns-in-Ok-clause-unstored : goal.returns-in-Ok-clause-unstored
returns-in-Ok-clause-unstored g c = λ s told at asks.
    unstored_by_step g.R.NodeState (g.met.R.Replica.counts_now) c.args.node.now c.serve.new.node c.args.request c.serve.result c.requires.running c.serve.ensures.serves c.serve.ensures.call c.args.command.now s asks (shelves g.F.Shelf c.args.shelf.now c.tell_reply.new.shelf) (sinks g.K.Sink c.args.out.now c.tell_reply.new.out) at c.in-Ok.reply c.in-Ok.is _ _ c.tell_reply.ensures.unstored

pub returns-in-Err-Memory-clause-keeps : goal.returns-in-Err-Memory-clause-keeps
returns-in-Err-Memory-clause-keeps g c =
    keeps_unasked g.R.NodeState c.args.node.now c.serve.new.node c.args.request c.serve.result c.requires.running c.serve.ensures.call (sinks g.K.Sink c.args.out.now c.args.out.now) (omega arith) (Err ending.Memory) refl (never_rose _ _)

pub returns-in-Err-Memory-clause-turns : goal.returns-in-Err-Memory-clause-turns
returns-in-Err-Memory-clause-turns g c = λ s told at asks.
    asked_without_memory g.R.NodeState (g.met.R.Replica.counts_now) c.args.node.now c.serve.new.node c.args.request c.serve.result c.requires.running c.serve.ensures.serves c.serve.ensures.call c.args.command.now s asks (shelves g.F.Shelf c.args.shelf.now c.args.shelf.now) (sinks g.K.Sink c.args.out.now c.args.out.now) at (λ name. refl) (Err ending.Memory) refl refl

pub returns-in-Err-Memory-clause-stores : goal.returns-in-Err-Memory-clause-stores
returns-in-Err-Memory-clause-stores g c = λ s told at asks. inl refl

pub returns-in-Err-Memory-clause-unstored : goal.returns-in-Err-Memory-clause-unstored
returns-in-Err-Memory-clause-unstored g c = λ s told at asks. unstored _ _ _ refl

pub returns-in-Err-Disk-clause-keeps : goal.returns-in-Err-Disk-clause-keeps
returns-in-Err-Disk-clause-keeps g c =
    let t = c.disk_failed.ensures in
    keeps_cut g.R.NodeState c.args.node.now c.serve.new.node c.args.request c.serve.result c.requires.running c.serve.ensures.call (sinks g.K.Sink c.args.out.now c.disk_failed.new.out) t.later c.disk_failed.result (c.in-Err-Disk.is ∙ ap Err c.in-Err-Disk.field-0-is) t.told t.only

pub returns-in-Err-Disk-clause-turns : goal.returns-in-Err-Disk-clause-turns
returns-in-Err-Disk-clause-turns g c = λ s told at asks.
    asked_to_disk g.R.NodeState (g.met.R.Replica.counts_now) c.args.node.now c.serve.new.node c.args.request c.serve.result c.requires.running c.serve.ensures.serves c.serve.ensures.call c.args.command.now s asks (shelves g.F.Shelf c.args.shelf.now c.args.shelf.now) (sinks g.K.Sink c.args.out.now c.disk_failed.new.out) at (λ name. refl) c.disk_failed.result (c.in-Err-Disk.is ∙ ap Err c.in-Err-Disk.field-0-is) c.disk_failed.ensures.told

pub returns-in-Err-Disk-clause-stores : goal.returns-in-Err-Disk-clause-stores
returns-in-Err-Disk-clause-stores g c = λ s told at asks. inl refl

pub returns-in-Err-Disk-clause-unstored : goal.returns-in-Err-Disk-clause-unstored
returns-in-Err-Disk-clause-unstored g c = λ s told at asks. unstored _ _ _ refl

pub unreachable-requires : goal.unreachable-requires
unreachable-requires g c = never_answered _ c.requires.running.runs c.serve.ensures.call.node.journal.stops (c.in-Err-Stopped.is ∙ ap Err c.in-Err-Stopped.field-0-is)
