use Rattle.std.proofs.Common.{[], ◌∷◌}
use Rattle.depot_base.specs.Calls.{asks_length, syncs}
use Rattle.depot_base.proofs.CallLaws.{fails_first, fails_later, made_later}
use Rattle.depot_journal.proofs.DiskCalls.{no_ok}
use Rattle.depot_journal.proofs.journal_start.settle.Goals as goal

pub returns-in_err-sync-clause-made : goal.returns-in_err-sync-clause-made
returns-in_err-sync-clause-made g c = record {
  all = λ done. absurd (no_ok c.from_residual-in_err-sync.result _ c.from_residual-in_err-sync.ensures.1 done);
  failing = λ _. fails_first g.D.Disk.after c.args.disk.now c.sync.new.self syncs (asks_length ∷ []) (g.met.D.Disk.after_more c.args.disk.now c.make_room.new.self c.sync.new.self [] _ c.make_room.ensures.made c.in_err-sync.ensures.made);
}

pub returns-in_err-length-clause-made : goal.returns-in_err-length-clause-made
returns-in_err-length-clause-made g c =
    let synced = g.met.D.Disk.after_more c.args.disk.now c.make_room.new.self c.sync.new.self [] _ c.make_room.ensures.made c.in_ok-sync.ensures.made in
    record {
      all = λ done. absurd (no_ok c.from_residual-in_err-length.result _ c.from_residual-in_err-length.ensures.1 done);
      failing = λ _. fails_later g.D.Disk.after g.met.D.Disk.after_more c.args.disk.now c.sync.new.self c.length.new.self (syncs ∷ []) (asks_length ∷ []) synced
          (fails_first g.D.Disk.after c.sync.new.self c.length.new.self asks_length [] c.in_err-length.ensures.made);
    }

pub returns-clause-made : goal.returns-clause-made
returns-clause-made g c =
    let synced = g.met.D.Disk.after_more c.args.disk.now c.make_room.new.self c.sync.new.self [] _ c.make_room.ensures.made c.in_ok-sync.ensures.made in
    record {
      all = λ _. made_later g.D.Disk.after g.met.D.Disk.after_more c.args.disk.now c.sync.new.self c.length.new.self (syncs ∷ []) (asks_length ∷ []) synced c.in_ok-length.ensures.made;
      failing = λ failed. absurd cc;
    }
