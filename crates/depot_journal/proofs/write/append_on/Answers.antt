use Rattle.std.proofs.Common.{rules, ◌+◌, ◌++◌, ◌∷◌, [], IsTrue, List, ℕ, length, refl, subst, sym, ap}
use Rattle.std.proofs.lemmas.Result.{on_ok_weaker}
use Rattle.depot_base.specs.Disk.{IsWritten, Only, LeavesOnly}
use Rattle.depot_base.specs.Calls.{syncs, writes_at}
use Rattle.depot_base.proofs.CallLaws.{fails_wider}
use Rattle.depot_journal.specs.Groups.{calls_to_open}
use Rattle.depot_journal.specs.WriteSteps.{IsBeforeOrAfter, StandsTo}
use Rattle.depot_journal.proofs.DiskCalls.{calls_later, one_failed}
use Rattle.depot_journal.proofs.RecordBlocks.{appended}
use Rattle.depot_journal.proofs.Moments.{weaker, joined}
use Rattle.depot_journal.proofs.Crash.{torn_behind, staged, torn_gate}
use Rattle.depot_journal.proofs.write.append_on.Goals as goal

pub returns-in_err-write_synced-clause-any_moment : goal.returns-in_err-write_synced-clause-any_moment
returns-in_err-write_synced-clause-any_moment g c = λ bodies group told some is was only.
    weaker g.D.Disk.moment g.D.Disk.left_since c.args.disk.now c.write_synced.new.disk _ (IsBeforeOrAfter bodies group) (c.write_synced.ensures.any_moment (g.D.Disk.seen c.args.disk.now) only) (λ f p. torn_behind _ f bodies group c.args.gate _ was p)

pub returns-clause-any_moment : goal.returns-clause-any_moment
returns-clause-any_moment g c = λ bodies group told some is was only.
    let first : LeavesOnly g.D.Disk.moment g.D.Disk.left_since c.args.disk.now c.write_synced.new.disk (IsBeforeOrAfter bodies group) = weaker g.D.Disk.moment g.D.Disk.left_since c.args.disk.now c.write_synced.new.disk _ (IsBeforeOrAfter bodies group) (c.write_synced.ensures.any_moment (g.D.Disk.seen c.args.disk.now) only) (λ f p. torn_behind _ f bodies group c.args.gate _ was p) in
    let holds : IsWritten (g.D.Disk.seen c.args.disk.now) (c.args.gate + 1) c.args.block.now (g.D.Disk.seen c.write_synced.new.disk) = search rules in
    let s = staged _ _ bodies group c.args.gate was (subst (λ (b : List ℕ). IsWritten (g.D.Disk.seen c.args.disk.now) (c.args.gate + 1) b (g.D.Disk.seen c.write_synced.new.disk)) is holds) in
    let kept : Only (g.D.Disk.seen c.write_synced.new.disk) (g.D.Disk.may_leave c.write_synced.new.disk) = search rules in
    let second : LeavesOnly g.D.Disk.moment g.D.Disk.left_since c.write_synced.new.disk c.write_synced-2.new.disk (IsBeforeOrAfter bodies group) = weaker g.D.Disk.moment g.D.Disk.left_since c.write_synced.new.disk c.write_synced-2.new.disk _ (IsBeforeOrAfter bodies group) (c.write_synced-2.ensures.any_moment (g.D.Disk.seen c.write_synced.new.disk) kept) (λ f p. torn_gate _ f bodies group c.args.gate some was.4 s p) in
    joined g.D.Disk.moment g.D.Disk.left_since c.args.disk.now c.write_synced.new.disk c.write_synced-2.new.disk (IsBeforeOrAfter bodies group) first second

pub returns-clause-ok : goal.returns-clause-ok
returns-clause-ok g c = on_ok_weaker c.write_synced-2.result (λ second bodies group told some is was.
    let first : IsWritten (g.D.Disk.seen c.args.disk.now) (c.args.gate + 1) c.args.block.now (g.D.Disk.seen c.write_synced.new.disk) = search rules in
    let still : IsTrue (g.D.Disk.tells c.write_synced.new.disk) = search rules in
    let done = appended _ _ _ bodies group c.args.gate some was (subst (λ (b : List ℕ). IsWritten (g.D.Disk.seen c.args.disk.now) (c.args.gate + 1) b (g.D.Disk.seen c.write_synced.new.disk)) is first) (second still) in
    subst (λ (n : ℕ). StandsTo (g.D.Disk.seen c.write_synced-2.new.disk) (bodies ++ group) (c.args.gate + n)) (ap length (sym is)) done) c.write_synced-2.ensures.ok

pub returns-in_err-write_synced-clause-made : goal.returns-in_err-write_synced-clause-made
returns-in_err-write_synced-clause-made g c =
    one_failed g.D.Disk c.args.disk.now c.write_synced.new.disk (calls_to_open c.args.gate c.args.block.now) c.from_residual.result _ c.from_residual.ensures.1
    (fails_wider g.D.Disk.after c.args.disk.now c.write_synced.new.disk (writes_at (c.args.gate + 1) c.args.block.now ∷ syncs ∷ []) (writes_at c.args.gate (1 ∷ []) ∷ syncs ∷ []) (c.in_err-write_synced.ensures.made.failing refl))

pub returns-clause-made : goal.returns-clause-made
returns-clause-made g c =
    calls_later g.D.Disk g.met.D.Disk.after_more c.args.disk.now c.write_synced.new.disk c.write_synced-2.new.disk (writes_at (c.args.gate + 1) c.args.block.now ∷ syncs ∷ []) (writes_at c.args.gate (1 ∷ []) ∷ syncs ∷ []) _ _
    (c.in_ok-write_synced.ensures.made.all refl) c.write_synced-2.ensures.made
