use Rattle.std.proofs.Common.{◌≡◌, [], ◌∷◌, List, min, Err, ap, refl, subst}
use Rattle.std.specs.Prelude.{IsErrOf, IsOk}
use Rattle.depot_base.specs.Calls.{Call, FailsAmong, asks_length, made, reads_at, syncs, writes_at}
use Rattle.depot_base.specs.declared.limits.TheConstants.{MOST_JOURNAL}
use Rattle.depot_base.proofs.CallLaws.{fails_later, fails_wider, made_later, start_reads, start_writes}
use Rattle.depot_journal.specs.DiskCalls.{MakesOnDisk}
use Rattle.depot_journal.specs.declared.journal_error.JournalError.TheVariants as error
use Rattle.depot_journal.proofs.DiskCalls.{calls_later, no_ok}
use Rattle.depot_journal.proofs.journal_start.start_on.Goals as goal

pub returns-in-Err-clause-made : goal.returns-in-Err-clause-made
returns-in-Err-clause-made g c = λ told. record {
  all = λ done. absurd cc;
  failing = λ failed.
      let is : c.in-Err.error ≡ error.Disk = cc in
      fails_wider g.D.Disk.after c.args.disk.now c.settle.new.disk (syncs ∷ asks_length ∷ []) _ (c.in-Err.ensures.made.failing (ap Err is));
}

pub returns-then-size-gt1-clause-made : goal.returns-then-size-gt1-clause-made
returns-then-size-gt1-clause-made g c = λ told.
    subst (λ (calls : List Call). MakesOnDisk g.D.Disk c.args.disk.now c.read_records.new.disk calls (IsOk c.read_records.result) (IsErrOf c.read_records.result error.Disk)) (start_reads (g.D.Disk.seen c.args.disk.now) c.in-Ok.size (c.in-Ok.ensures.length told) c.if-size-gt1.true)
    (calls_later g.D.Disk g.met.D.Disk.after_more c.args.disk.now c.settle.new.disk c.read_records.new.disk (syncs ∷ asks_length ∷ []) (reads_at 0 (min c.in-Ok.size MOST_JOURNAL) ∷ []) _ _ (c.in-Ok.ensures.made.all refl) c.read_records.ensures.made)

pub returns-in_err-write_synced-clause-made : goal.returns-in_err-write_synced-clause-made
returns-in_err-write_synced-clause-made g c = λ told. record {
  all = λ done. absurd (no_ok c.from_residual.result _ c.from_residual.ensures.1 done);
  failing = λ _. subst (FailsAmong g.D.Disk.after c.args.disk.now c.write_synced.new.disk) (start_writes (g.D.Disk.seen c.args.disk.now) c.in-Ok.size (c.in-Ok.ensures.length told) c.if-size-gt1.false)
      (fails_later g.D.Disk.after g.met.D.Disk.after_more c.args.disk.now c.settle.new.disk c.write_synced.new.disk (syncs ∷ asks_length ∷ []) (writes_at 0 (0 ∷ []) ∷ syncs ∷ []) (c.in-Ok.ensures.made.all refl) (c.in_err-write_synced.ensures.made.failing refl));
}

pub returns-clause-made : goal.returns-clause-made
returns-clause-made g c = λ told. record {
  all = λ _. subst (λ (calls : List Call). g.D.Disk.after c.args.disk.now (made calls) c.write_synced.new.disk) (start_writes (g.D.Disk.seen c.args.disk.now) c.in-Ok.size (c.in-Ok.ensures.length told) c.if-size-gt1.false)
      (made_later g.D.Disk.after g.met.D.Disk.after_more c.args.disk.now c.settle.new.disk c.write_synced.new.disk (syncs ∷ asks_length ∷ []) (writes_at 0 (0 ∷ []) ∷ syncs ∷ []) (c.in-Ok.ensures.made.all refl) (c.in_ok-write_synced.ensures.made.all refl));
  failing = λ failed. absurd cc;
}
