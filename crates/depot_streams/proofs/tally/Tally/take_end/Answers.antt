use Rattle.std.proofs.Common.{Bool, false, Some, [], ap, ◌∙◌}
use Rattle.depot_model.specs.exchange.Feeding.{passed}
use Rattle.depot_streams.specs.Pieces.{at_work}
use Rattle.depot_streams.specs.NodeCalls.{stream_by}
use Rattle.depot_streams.proofs.tally.Tally.take_end.Goals as goal

pub returns-clause-takes : goal.returns-clause-takes
returns-clause-takes c = λ J. c.pass.ensures.passes J ∙ ap (λ (m : Bool). passed c.args.count (record (at_work (stream_by c.args.self.now [] false) J) { ended = Some m })) c.says_more.ensures
