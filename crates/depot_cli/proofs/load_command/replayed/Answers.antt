use Rattle.std.proofs.Common.{Err, ap, ◌∙◌, arith}
use Rattle.depot_simulation.specs.declared.replay_error.ReplayError.{ReplayError}
use Rattle.depot_cli.proofs.load_command.replayed.Goals as goal

-- none of the sink's writes is told to fail, so its count of faults can't have risen
pub unreachable-requires : goal.unreachable-requires
unreachable-requires c =
    let calm = c.replay.ensures.faultless (c.new-sink.ensures.faultless c.new.ensures) in
    let rose = c.replay.ensures.cause.rose (c.in-Err-Sink.is ∙ ap (λ (e : ReplayError). Err e) c.in-Err-Sink.field-0-is) in
    absurd (omega (arith, calm.1, rose))
