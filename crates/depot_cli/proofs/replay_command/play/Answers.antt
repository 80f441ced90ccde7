use Rattle.std.proofs.Common.{inl, inr, refl}
use Rattle.depot_world.specs.Transcript.{transcript_of}
use Rattle.depot_cli.proofs.Endings.{written_front}
use Rattle.depot_cli.proofs.replay_command.play.Goals as goal

-- a prefix of the transcript was written
pub returns-in-Err-Memory-clause-plays : goal.returns-in-Err-Memory-clause-plays
returns-in-Err-Memory-clause-plays g c =
    let out = g.S.Sink.written c.args.out.now in
    let w = written_front (g.S.Sink.tells c.args.out.now) out (g.S.Sink.written c.replay.new.out) (transcript_of c.args.schedule) c.in-Err-Memory.ensures.front in
    inr (inl (record { is = refl; text = w.0; begun = w.1.0; wrote = w.1.1 }))
