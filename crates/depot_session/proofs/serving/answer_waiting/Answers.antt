use Rattle.std.proofs.Common.{◌∙◌, false, [], ◌∷◌, ◌++◌, Ok, Err, Bool, IsTrue, refl, sym, subst, arith}
use Rattle.std.proofs.lemmas.Result.{err_from_is_err_and}
use Rattle.depot_session.specs.Answering.{serves_of}
use Rattle.depot_session.specs.declared.server_ending.ServeEnding.TheVariants as ending
use Rattle.depot_session.proofs.of_serving.SameNodes.{serves_so}
use Rattle.depot_session.proofs.RunTurns.{answered_more, cut_short, none_answered, of_first, place_more, quiet, same_failing}
use Rattle.depot_session.proofs.of_serving.ServerTurns.{grows_by_nothing, lawful_by_nothing}
use Rattle.depot_session.proofs.serving.answer_waiting.Goals as goal

pub loop-init : goal.loop-init
loop-init g c =
    let n = c.args.node.now in
    record {
      answered = ([], none_answered g.N.NodeState g.met.N.Replica.only_now (serves_of g.N.NodeState n) n _ _ c.requires.running refl refl (grows_by_nothing g.N.NodeState g.met.N.Replica.only_now g.met.N.Replica.lawful n c.requires.running) (lawful_by_nothing g.N.NodeState g.met.N.Replica.only_now g.met.N.Replica.lawful ⊥ n c.requires.running), omega arith);
      same_source = refl;
      whole = λ told. refl;
      disk_quiet = refl;
      source_quiet = refl;
    }

pub returns-in_err-long-clause-serves : goal.returns-in_err-long-clause-serves
returns-in_err-long-clause-serves g c =
    let p = err_from_is_err_and c.from_residual.result c.from_residual.ensures.1 in
    let inv = c.loop.invariant in
    let first = c.args.node.now in
    let turns = of_first g.N.NodeState (serves_of g.N.NodeState c.loop.node) (serves_of g.N.NodeState first) c.loop.node c.turn.new.node _ _ c.loop.next false (Err c.in_err-long.field-0.0) (serves_so g.N.NodeState first c.loop.node inv.answered.1.same) c.in_err-long.ensures.turns in
    rw (p.1, p.2) (cut_short g.N.NodeState g.met.N.Replica.only_now (serves_of g.N.NodeState first) first c.loop.node c.turn.new.node _ _ _ _ _ _ inv.answered.0 inv.answered.1 c.requires.running.runs refl refl refl refl refl refl refl refl
    c.args.at c.loop.next c.in_err-long.field-0.0 inv.answered.2 (same_failing _ _ _ _ _ _ _ _ _ inv.disk_quiet inv.source_quiet refl) refl turns)

pub loop-preserved : goal.loop-preserved
loop-preserved g c =
    let inv = c.loop.invariant in
    let e = c.in_ok-long.ensures in
    let first = c.args.node.now in
    let turns = rw c.in-Some.is at (of_first g.N.NodeState (serves_of g.N.NodeState c.loop.node) (serves_of g.N.NodeState first) c.loop.node c.turn.new.node _ _ c.loop.next false (Ok c.in_ok-long.field-0) (serves_so g.N.NodeState first c.loop.node inv.answered.1.same) e.turns) in
    let t = turns.0 in
    record {
      answered = (
        inv.answered.0 ++ t.message ∷ [],
        answered_more g.N.NodeState g.met.N.Replica.only_now (serves_of g.N.NodeState first) first c.loop.node c.turn.new.node _ _ _ _ _ _ inv.answered.0 inv.answered.1 c.requires.running.runs refl refl refl refl refl refl refl refl t,
        c.saturating_add-next.ensures ∙ place_more c.args.at inv.answered.0 t.message c.loop.next c.in-Some.long inv.answered.2 turns.1,
      );
      same_source = e.same_source ∙ inv.same_source;
      whole = λ told. e.whole (subst (λ (b : Bool). IsTrue b) (sym inv.same_source) told) ∙ inv.whole told;
      disk_quiet = quiet _ _ _ ending.Disk e.disk_cause ∙ inv.disk_quiet;
      source_quiet = e.calm refl ∙ inv.source_quiet;
    }
