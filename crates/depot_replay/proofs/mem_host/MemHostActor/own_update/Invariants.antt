use Rattle.std.proofs.Common.{◌≡◌, [], take}
use Rattle.depot_model.specs.journals.Journal.{accepted}
use Rattle.depot_replay.proofs.OwnUpdates.{of_seq}
use Rattle.depot_replay.proofs.mem_host.MemHostActor.own_update.Given as goal

abbrev pub invariant-loop-item : goal.invariant-loop-item
invariant-loop-item g l = of_seq l.self.start_config.me l.seq (take l.item (accepted l.self.node.store.records)) ≡ []
