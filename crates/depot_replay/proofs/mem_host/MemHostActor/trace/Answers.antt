use Rattle.std.proofs.lemmas.Result.{IfOk-weaker}
use Rattle.depot_replay.proofs.MemHostTraces.{handed_by}
use Rattle.depot_replay.proofs.mem_host.MemHostActor.trace.Goals as goal

pub returns : goal.returns
returns g c = let a = c.args.self.now in IfOk-weaker c.node_trace.result _ _ (λ t made. (made.0, handed_by _ a.node.store.me a.start_config.me a.node.store.records c.args.reads.now a.is_me made.1)) c.node_trace.ensures
