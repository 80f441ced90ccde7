use Rattle.std.proofs.Common.{◌∙◌, ℕ, [], ◌++◌, Ok, Err, Bool, IsTrue, refl, sym, ap, subst}
use Rattle.std.proofs.lemmas.Result.{err_from_is_err_and}
use Rattle.depot_outside.specs.Told.{sinks}
use Rattle.depot_source.specs.Inputs.{inputs}
use Rattle.depot_session.specs.Answering.{serves_of}
use Rattle.depot_session.specs.Keeping.{kept_state}
use Rattle.depot_session.specs.Serving.{ServesGroup, place_from}
use Rattle.depot_session.specs.declared.server_ending.ServeEnding.TheVariants as ending
use Rattle.depot_session.proofs.RunTurns.{answered_all, ended_by_count, none_answered, quiet, same_failing, short_all, whole_all}
use Rattle.depot_session.proofs.of_serving.Folding.{place_behind}
use Rattle.depot_session.proofs.of_serving.KeptGroups.{kept_serves, lawful_kept, only_now_kept}
use Rattle.depot_session.proofs.of_serving.SameNodes.{serves_so}
use Rattle.depot_session.proofs.of_serving.ServerTurns.{grows_by_nothing, lawful_by_nothing}
use Rattle.depot_session.proofs.serving.serve_all.Goals as goal

pub loop-init : goal.loop-init
loop-init g c =
    let n = c.args.node.now in
    let k = kept_state g.N.NodeState g.D.Disk in
    let only = only_now_kept g.N.NodeState g.D.Disk g.met.D.Disk.only_now g.met.N.Replica.lawful in
    let lawful = lawful_kept g.N.NodeState g.D.Disk g.met.D.Disk.only_now g.met.N.Replica.lawful in
    let running = kept_serves g.N.NodeState g.D.Disk g.met.D.Disk.only_now g.met.N.Replica.lawful n c.requires.kept in
    record {
      answered = ([], none_answered k only (serves_of k n) n _ _ running refl refl (grows_by_nothing k only lawful n running) (lawful_by_nothing k only lawful ⊥ n running), refl);
      kept = c.requires.kept;
      same_sink = refl;
      same_source = refl;
      whole = λ told. refl;
      handle = refl;
      disk_quiet = refl;
      sink_quiet = refl;
      source_quiet = refl;
    }

-- a group by what the node serves, which is what it served at first
pub returns-in_err-next-clause-serves : goal.returns-in_err-next-clause-serves
returns-in_err-next-clause-serves g c =
    let p = err_from_is_err_and c.from_residual.result c.from_residual.ensures.1 in
    let inv = c.loop.invariant in
    let first = c.args.node.now in
    let k = kept_state g.N.NodeState g.D.Disk in
    let only = only_now_kept g.N.NodeState g.D.Disk g.met.D.Disk.only_now g.met.N.Replica.lawful in
    let s = subst (λ f. ServesGroup k f c.loop.node c.serve_group.new.node (inputs g.I.Source c.loop.input c.serve_group.new.input) (sinks g.K.Sink c.loop.out c.serve_group.new.out) c.loop.at (Err c.in_err-next.field-0.0)) (serves_so k first c.loop.node inv.answered.1.same) c.in_err-next.ensures.serves in
    rw (p.1, p.2) (short_all k only (serves_of k first) first c.loop.node c.serve_group.new.node _ _ _ _ _ _ inv.answered.0 inv.answered.1 c.requires.kept.runs refl refl refl refl refl refl refl inv.same_sink
    0 c.loop.at c.in_err-next.field-0.0 inv.answered.2 (same_failing _ _ _ _ _ _ _ _ _ inv.disk_quiet inv.source_quiet inv.sink_quiet) refl s)

pub returns-in-None-clause-serves : goal.returns-in-None-clause-serves
returns-in-None-clause-serves g c =
    let inv = c.loop.invariant in
    let first = c.args.node.now in
    let k = kept_state g.N.NodeState g.D.Disk in
    let only = only_now_kept g.N.NodeState g.D.Disk g.met.D.Disk.only_now g.met.N.Replica.lawful in
    let s = rw c.in-None.is at (subst (λ f. ServesGroup k f c.loop.node c.serve_group.new.node (inputs g.I.Source c.loop.input c.serve_group.new.input) (sinks g.K.Sink c.loop.out c.serve_group.new.out) c.loop.at (Ok c.in_ok-next.field-0)) (serves_so k first c.loop.node inv.answered.1.same) c.in_ok-next.ensures.serves) in
    whole_all k only (serves_of k first) first c.loop.node c.serve_group.new.node _ _ _ _ _ _ inv.answered.0 inv.answered.1 c.requires.kept.runs refl refl refl refl refl refl refl inv.same_sink refl s

pub loop-preserved : goal.loop-preserved
loop-preserved g c =
    let inv = c.loop.invariant in
    let e = c.in_ok-next.ensures in
    let first = c.args.node.now in
    let k = kept_state g.N.NodeState g.D.Disk in
    let only = only_now_kept g.N.NodeState g.D.Disk g.met.D.Disk.only_now g.met.N.Replica.lawful in
    let t = rw c.in-Some.is at (subst (λ f. ServesGroup k f c.loop.node c.serve_group.new.node (inputs g.I.Source c.loop.input c.serve_group.new.input) (sinks g.K.Sink c.loop.out c.serve_group.new.out) c.loop.at (Ok c.in_ok-next.field-0)) (serves_so k first c.loop.node inv.answered.1.same) e.serves) in
    record {
      answered = (
        inv.answered.0 ++ t.0,
        answered_all k only (serves_of k first) first c.loop.node c.serve_group.new.node _ _ _ _ _ _ inv.answered.0 inv.answered.1 c.requires.kept.runs refl refl refl refl refl refl refl inv.same_sink t.0 t.1.0,
        t.1.1 ∙ ap (λ (x : ℕ). place_from x t.0) inv.answered.2 ∙ place_behind 0 inv.answered.0 t.0,
      );
      kept = e.kept;
      same_sink = e.same_sink ∙ inv.same_sink;
      same_source = e.same_source ∙ inv.same_source;
      whole = λ told. e.whole (subst (λ (b : Bool). IsTrue b) (sym inv.same_source) told) ∙ inv.whole told;
      handle = e.handle ∙ inv.handle;
      disk_quiet = quiet _ _ _ ending.Disk e.disk_cause ∙ inv.disk_quiet;
      sink_quiet = quiet _ _ _ ending.Sink e.sink_cause ∙ inv.sink_quiet;
      source_quiet = quiet _ _ _ ending.Source e.source_cause ∙ inv.source_quiet;
    }

pub returns-clause-serves : goal.returns-clause-serves
returns-clause-serves g c = ended_by_count (kept_state g.N.NodeState g.D.Disk) (serves_of (kept_state g.N.NodeState g.D.Disk) c.args.node.now) c.args.node.now c.loop.node _ _ c.loop.invariant.answered.0 c.loop.invariant.answered.1
