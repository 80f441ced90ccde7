use Rattle.std.proofs.Common.{◌≡◌, ◌∙◌, append-nil, true, false, [], Ok, Err, refl, sym, subst, arith}
use Rattle.std.proofs.lemmas.Result.{err_from_is_err_and}
use Rattle.depot_outside.specs.Told.{sinks}
use Rattle.depot_source.specs.Inputs.{inputs}
use Rattle.depot_session.specs.Answering.{serves_of}
use Rattle.depot_session.specs.Keeping.{in_memory, kept_state, lacks_memory}
use Rattle.depot_session.specs.Serving.{ServesShort, ServesWaiting}
use Rattle.depot_session.specs.declared.server_ending.ServeEnding.TheVariants as ending
use Rattle.depot_session.proofs.of_serving.GroupOutcomes.{IsGroup, all_kept, cut_by, file_beside, group_of, memory_of, told_all, unkept_by, untold_by}
use Rattle.depot_session.proofs.of_serving.KeptGroups.{first_short, idle_group, memory_short}
use Rattle.depot_session.proofs.of_serving.SameNodes.{serves_so}
use Rattle.depot_session.proofs.RunTurns.{place_more, quiet, same_failing}
use Rattle.depot_session.proofs.serving.serve_group.Given.{Over}
use Rattle.depot_session.proofs.serving.serve_group.Goals as goal
use Rattle.depot_session.proofs.serving.serve_group.Goals.{After-answer_waiting-outcome}

pub returns-in_err-long-clause-serves : goal.returns-in_err-long-clause-serves
returns-in_err-long-clause-serves g c =
    let p = err_from_is_err_and c.from_residual.result c.from_residual.ensures.1 in
    rw (p.1, p.2) (first_short g.N.NodeState g.D.Disk g.met.D.Disk.only_now g.met.N.Replica.lawful c.args.node.now c.requires.kept c.turn.new.node (serves_of (kept_state g.N.NodeState g.D.Disk) c.args.node.now) (inputs g.I.Source c.args.input.now c.turn.new.input) (sinks g.K.Sink c.args.out.now c.args.out.now) c.args.at
    c.in_err-long.field-0.0 (in_memory c.new-replies.result.bytes c.turn.new.out.bytes) c.requires.calm (λ rose. absurd (omega (arith, rose))) (let f = c.ranges.at.fits in omega (arith, f)) refl c.in_err-long.ensures.turns)

pub returns-in_default-clause-serves : goal.returns-in_default-clause-serves
returns-in_default-clause-serves g c =
    idle_group g.N.NodeState g.D.Disk g.met.D.Disk.only_now g.met.N.Replica.lawful c.args.node.now c.requires.kept c.turn.new.node (serves_of (kept_state g.N.NodeState g.D.Disk) c.args.node.now) (inputs g.I.Source c.args.input.now c.turn.new.input) (sinks g.K.Sink c.args.out.now c.args.out.now) c.args.at
    (in_memory c.new-replies.result.bytes c.turn.new.out.bytes) c.in_ok-long.field-0 c.in_default.not-Some refl c.in_ok-long.ensures.turns

-- ---- what was answered in memory

in_vain : (g : Over) (c : After-answer_waiting-outcome g) → lacks_memory c.answer_waiting-outcome.result ≡ true
    → ServesShort g.N.NodeState (serves_of g.N.NodeState c.args.node.now.node) c.args.node.now.node c.answer_waiting-outcome.new.node (inputs g.I.Source c.args.input.now c.answer_waiting-outcome.new.input) (in_memory c.new-replies.result.bytes c.answer_waiting-outcome.new.replies.bytes) c.args.at ending.Memory
in_vain g c lacks =
    let first = c.args.node.now.node in
    let mid = c.turn.new.node in
    let last = c.answer_waiting-outcome.new.node in
    let e = c.in_ok-long.ensures in
    let t = rw c.in-Some.is at e.turns in
    let waited = subst (λ f. ServesWaiting g.N.NodeState f mid last (inputs g.I.Source c.turn.new.input c.answer_waiting-outcome.new.input) (in_memory c.turn.new.out.bytes c.answer_waiting-outcome.new.replies.bytes) c.saturating_add-behind.result c.answer_waiting-outcome.result) (serves_so g.N.NodeState first mid t.0.same) c.answer_waiting-outcome.ensures.serves in
    memory_of g.N.NodeState g.met.N.Replica.only_now g.met.N.Replica.lawful (serves_of g.N.NodeState first) first mid last
    (inputs g.I.Source c.args.input.now c.turn.new.input) (inputs g.I.Source c.turn.new.input c.answer_waiting-outcome.new.input) (inputs g.I.Source c.args.input.now c.answer_waiting-outcome.new.input)
    (in_memory c.new-replies.result.bytes c.turn.new.out.bytes) (in_memory c.turn.new.out.bytes c.answer_waiting-outcome.new.replies.bytes) (in_memory c.new-replies.result.bytes c.answer_waiting-outcome.new.replies.bytes)
    c.requires.kept.node t.0 refl refl refl refl refl refl refl refl (same_failing _ _ _ _ _ _ _ _ _ (c.requires.calm mid ∙ sym (c.requires.calm first)) (quiet _ _ _ ending.Source e.source_cause) refl) refl
    c.args.at c.saturating_add-behind.result (c.saturating_add-behind.ensures ∙ place_more c.args.at [] t.0.message c.args.at c.in-Some.long (let f = c.ranges.at.fits in omega (arith, f)) t.1)
    c.answer_waiting-outcome.result lacks waited

group : (g : Over) (c : After-answer_waiting-outcome g) → lacks_memory c.answer_waiting-outcome.result ≡ false
    → IsGroup g.N.NodeState (serves_of g.N.NodeState c.args.node.now.node) c.args.node.now.node c.answer_waiting-outcome.new.node (inputs g.I.Source c.args.input.now c.answer_waiting-outcome.new.input) c.answer_waiting-outcome.new.replies.bytes c.args.at c.answer_waiting-outcome.result
group g c found =
    let first = c.args.node.now.node in
    let mid = c.turn.new.node in
    let last = c.answer_waiting-outcome.new.node in
    let e = c.in_ok-long.ensures in
    let t = rw c.in-Some.is at e.turns in
    let waited = subst (λ f. ServesWaiting g.N.NodeState f mid last (inputs g.I.Source c.turn.new.input c.answer_waiting-outcome.new.input) (in_memory c.turn.new.out.bytes c.answer_waiting-outcome.new.replies.bytes) c.saturating_add-behind.result c.answer_waiting-outcome.result) (serves_so g.N.NodeState first mid t.0.same) c.answer_waiting-outcome.ensures.serves in
    group_of g.N.NodeState g.met.N.Replica.only_now g.met.N.Replica.lawful (serves_of g.N.NodeState first) first mid last
    (inputs g.I.Source c.args.input.now c.turn.new.input) (inputs g.I.Source c.turn.new.input c.answer_waiting-outcome.new.input) (inputs g.I.Source c.args.input.now c.answer_waiting-outcome.new.input)
    (in_memory c.new-replies.result.bytes c.turn.new.out.bytes) (in_memory c.turn.new.out.bytes c.answer_waiting-outcome.new.replies.bytes) (in_memory c.new-replies.result.bytes c.answer_waiting-outcome.new.replies.bytes)
    c.requires.kept.node t.0 refl refl refl refl refl refl refl refl (same_failing _ _ _ _ _ _ _ _ _ (c.requires.calm mid ∙ sym (c.requires.calm first)) (quiet _ _ _ ending.Source e.source_cause) refl) refl
    c.args.at c.saturating_add-behind.result (c.saturating_add-behind.ensures ∙ place_more c.args.at [] t.0.message c.args.at c.in-Some.long (let f = c.ranges.at.fits in omega (arith, f)) t.1)
    refl c.new-replies.ensures c.answer_waiting-outcome.result c.requires.calm found c.answer_waiting-outcome.ensures.no_sink c.answer_waiting-outcome.ensures.no_source waited

pub returns-then-lacked_memory-clause-serves : goal.returns-then-lacked_memory-clause-serves
returns-then-lacked_memory-clause-serves g c =
    memory_short g.N.NodeState g.D.Disk g.met.D.Disk.only_now g.met.N.Replica.lawful c.args.node.now c.requires.kept c.answer_waiting-outcome.new.node (serves_of (kept_state g.N.NodeState g.D.Disk) c.args.node.now) (inputs g.I.Source c.args.input.now c.answer_waiting-outcome.new.input) (sinks g.K.Sink c.args.out.now c.args.out.now) c.args.at
    (in_memory c.new-replies.result.bytes c.answer_waiting-outcome.new.replies.bytes) refl (in_vain g (goal.at.returns-then-lacked_memory-clause-serves g c).After-answer_waiting-outcome (sym c.lacked_memory.ensures ∙ c.if-lacked_memory.true))

-- ---- its append, and its replies

pub keep-requires : goal.keep-requires
keep-requires g c =
    file_beside g.N.NodeState g.D.Disk g.met.D.Disk.only_now g.met.N.Replica.lawful c.args.node.now c.requires.kept c.answer_waiting-outcome.new.node (serves_of (kept_state g.N.NodeState g.D.Disk) c.args.node.now) (inputs g.I.Source c.args.input.now c.answer_waiting-outcome.new.input) (sinks g.K.Sink c.args.out.now c.args.out.now) c.args.at
    c.answer_waiting-outcome.new.replies.bytes c.answer_waiting-outcome.result (group g (goal.at.keep-requires g c).After-answer_waiting-outcome (sym c.lacked_memory.ensures ∙ c.if-lacked_memory.false))

pub returns-in_err-keep-clause-serves : goal.returns-in_err-keep-clause-serves
returns-in_err-keep-clause-serves g c =
    let p = err_from_is_err_and c.from_residual-in_err-keep.result c.from_residual-in_err-keep.ensures.1 in
    let e = c.in_err-keep.ensures in
    rw (p.1, p.2) (unkept_by g.N.NodeState g.D.Disk g.met.D.Disk.only_now g.met.N.Replica.lawful c.args.node.now c.requires.kept c.answer_waiting-outcome.new.node (serves_of (kept_state g.N.NodeState g.D.Disk) c.args.node.now) (inputs g.I.Source c.args.input.now c.answer_waiting-outcome.new.input) (sinks g.K.Sink c.args.out.now c.args.out.now) c.args.at
    c.answer_waiting-outcome.new.replies.bytes c.answer_waiting-outcome.result (group g (goal.at.returns-in_err-keep-clause-serves g c).After-answer_waiting-outcome (sym c.lacked_memory.ensures ∙ c.if-lacked_memory.false))
    c.keep.new.self e.node e.lasts c.in_err-keep.field-0.0 e.none e.idle e.cause e.only (λ told. sym (append-nil _)))

pub returns-in_err-tell-clause-serves : goal.returns-in_err-tell-clause-serves
returns-in_err-tell-clause-serves g c =
    let p = err_from_is_err_and c.from_residual-in_err-tell.result c.from_residual-in_err-tell.ensures.1 in
    let e = c.in_ok-keep.ensures in
    let one = (group g (goal.at.returns-in_err-tell-clause-serves g c).After-answer_waiting-outcome (sym c.lacked_memory.ensures ∙ c.if-lacked_memory.false)) in
    let kept = all_kept g.N.NodeState g.D.Disk g.met.D.Disk.only_now g.met.N.Replica.lawful c.args.node.now c.requires.kept c.answer_waiting-outcome.new.node (serves_of (kept_state g.N.NodeState g.D.Disk) c.args.node.now) (inputs g.I.Source c.args.input.now c.answer_waiting-outcome.new.input) (sinks g.K.Sink c.args.out.now c.tell.new.out) c.args.at
    c.answer_waiting-outcome.new.replies.bytes c.answer_waiting-outcome.result one c.keep.new.self e.node e.lasts e.kept e.all in
    rw (p.1, p.2) (untold_by g.N.NodeState g.D.Disk g.met.D.Disk.only_now g.met.N.Replica.lawful c.args.node.now c.requires.kept c.answer_waiting-outcome.new.node (serves_of (kept_state g.N.NodeState g.D.Disk) c.args.node.now) (inputs g.I.Source c.args.input.now c.answer_waiting-outcome.new.input) (sinks g.K.Sink c.args.out.now c.tell.new.out) c.args.at
    c.answer_waiting-outcome.new.replies.bytes c.answer_waiting-outcome.result one
    c.keep.new.self e.node e.lasts kept c.in_err-tell.field-0.0 c.in_err-tell.ensures.tells c.in_err-tell.ensures.cause)

pub returns-in-Ok-clause-serves : goal.returns-in-Ok-clause-serves
returns-in-Ok-clause-serves g c =
    let e = c.in_ok-keep.ensures in
    let one = (group g (goal.at.returns-in-Ok-clause-serves g c).After-answer_waiting-outcome (sym c.lacked_memory.ensures ∙ c.if-lacked_memory.false)) in
    let kept = all_kept g.N.NodeState g.D.Disk g.met.D.Disk.only_now g.met.N.Replica.lawful c.args.node.now c.requires.kept c.answer_waiting-outcome.new.node (serves_of (kept_state g.N.NodeState g.D.Disk) c.args.node.now) (inputs g.I.Source c.args.input.now c.answer_waiting-outcome.new.input) (sinks g.K.Sink c.args.out.now c.tell.new.out) c.args.at
    c.answer_waiting-outcome.new.replies.bytes c.answer_waiting-outcome.result one c.keep.new.self e.node e.lasts e.kept e.all in
    told_all g.N.NodeState g.D.Disk g.met.D.Disk.only_now g.met.N.Replica.lawful c.args.node.now c.requires.kept c.answer_waiting-outcome.new.node (serves_of (kept_state g.N.NodeState g.D.Disk) c.args.node.now) (inputs g.I.Source c.args.input.now c.answer_waiting-outcome.new.input) (sinks g.K.Sink c.args.out.now c.tell.new.out) c.args.at
    c.answer_waiting-outcome.new.replies.bytes c.answer_waiting-outcome.result one
    c.keep.new.self e.node e.lasts kept c.in_ok-tell.ensures.tells c.in-Ok.next c.in-Ok.is

pub returns-in-Ok-clause-kept : goal.returns-in-Ok-clause-kept
returns-in-Ok-clause-kept g c =
    let e = c.in_ok-keep.ensures in
    let one = (group g (goal.at.returns-in-Ok-clause-kept g c).After-answer_waiting-outcome (sym c.lacked_memory.ensures ∙ c.if-lacked_memory.false)) in
    let kept = all_kept g.N.NodeState g.D.Disk g.met.D.Disk.only_now g.met.N.Replica.lawful c.args.node.now c.requires.kept c.answer_waiting-outcome.new.node (serves_of (kept_state g.N.NodeState g.D.Disk) c.args.node.now) (inputs g.I.Source c.args.input.now c.answer_waiting-outcome.new.input) (sinks g.K.Sink c.args.out.now c.tell.new.out) c.args.at
    c.answer_waiting-outcome.new.replies.bytes c.answer_waiting-outcome.result one c.keep.new.self e.node e.lasts e.kept e.all in
    kept

pub returns-clause-serves : goal.returns-clause-serves
returns-clause-serves g c =
    let e = c.in_ok-keep.ensures in
    let one = (group g (goal.at.returns-clause-serves g c).After-answer_waiting-outcome (sym c.lacked_memory.ensures ∙ c.if-lacked_memory.false)) in
    let kept = all_kept g.N.NodeState g.D.Disk g.met.D.Disk.only_now g.met.N.Replica.lawful c.args.node.now c.requires.kept c.answer_waiting-outcome.new.node (serves_of (kept_state g.N.NodeState g.D.Disk) c.args.node.now) (inputs g.I.Source c.args.input.now c.answer_waiting-outcome.new.input) (sinks g.K.Sink c.args.out.now c.tell.new.out) c.args.at
    c.answer_waiting-outcome.new.replies.bytes c.answer_waiting-outcome.result one c.keep.new.self e.node e.lasts e.kept e.all in
    cut_by g.N.NodeState g.D.Disk g.met.D.Disk.only_now g.met.N.Replica.lawful c.args.node.now c.requires.kept c.answer_waiting-outcome.new.node (serves_of (kept_state g.N.NodeState g.D.Disk) c.args.node.now) (inputs g.I.Source c.args.input.now c.answer_waiting-outcome.new.input) (sinks g.K.Sink c.args.out.now c.tell.new.out) c.args.at
    c.answer_waiting-outcome.new.replies.bytes c.answer_waiting-outcome.result one
    c.keep.new.self e.node e.lasts kept c.in_ok-tell.ensures.tells c.in-Err.error c.in-Err.is
