use Rattle.std.proofs.Common.{◌≡◌, length, Err, refl, ap, arith}
use Rattle.std.proofs.lemmas.List.{nil_from_length}
use Rattle.std.proofs.lemmas.Bool.Decides.{nat_tests}
use Rattle.std.proofs.lemmas.Result.{IfOk-weaker}
use Rattle.depot_streams.specs.Pieces.{Stream, at_work}
use Rattle.depot_streams.specs.declared.feed_error.FeedError.TheVariants as error
use Rattle.depot_streams.proofs.FedCalls.{all_fed, chunk_fails, chunk_left, none_left, nothing_fed, runs_left}
use Rattle.depot_streams.proofs.PieceLaws.{under_way_fails, under_way_first}
use Rattle.depot_model.specs.exchange.Feeding.{feeding_from}
use Rattle.depot_model.proofs.of_journals.JournalCallLaws.{never_answered, never_stopped, runs_on}
use Rattle.depot_service.proofs.FedStreams.{goes_on, renamed_fed, same_failure, told_all, under_way_on}
use Rattle.depot_service.proofs.feeds.feed_all.Goals as goal

pub returns-in_default-clause-call : goal.returns-in_default-clause-call
returns-in_default-clause-call g c =
    nothing_fed g.R.NodeState (g.met.R.Replica.only_now) (g.met.R.Replica.after_none) (feeding_from (g.R.NodeState.records c.args.node.now)) c.args.stream.now c.args.node.now refl (g.met.R.Replica.lawful c.args.node.now) c.is_stopped.ensures.stable (never_stopped (g.R.NodeState.stopped c.args.node.now) c.requires.runs (λ is. absurd cc)) (λ e. cc)

pub loop-rest-init : goal.loop-rest-init
loop-rest-init g c =
    let first = under_way_first (g.R.NodeState.stands c.args.node.now) (feeding_from (g.R.NodeState.records c.args.node.now)) c.args.stream.now in
    record {
      under_way = rw c.in-Ok.ensures first;
      going = ap (λ (s : Stream). s.closed) c.in-Ok.ensures;
      left = none_left g.R.NodeState (g.met.R.Replica.only_now) (g.met.R.Replica.after_none) c.args.node.now (g.met.R.Replica.lawful c.args.node.now) c.is_stopped.ensures.stable c.requires.runs;
    }

pub loop-rest-preserved : goal.loop-rest-preserved
loop-rest-preserved g c =
    let i = c.loop-rest.invariant in
    let e = c.in_default-piece.ensures in
    record {
      under_way = under_way_on (g.R.NodeState.stands c.args.node.now) (g.R.NodeState.stands c.loop-rest.node) (feeding_from (g.R.NodeState.records c.args.node.now)) c.args.stream.now c.loop-rest.rest.now c.split_at.result.0.now c.split_at.result.1.now (at_work c.loop-rest.feed (g.R.NodeState.records c.loop-rest.node)) c.piece.new.self (g.R.NodeState.records c.piece.new.node) i.left.left.node.same.stands i.under_way c.split_at.ensures.by_index.0 e.feeds;
      going = goes_on (g.R.NodeState.stands c.loop-rest.node) (at_work c.loop-rest.feed (g.R.NodeState.records c.loop-rest.node)) c.split_at.result.0.now c.piece.new.self (g.R.NodeState.records c.piece.new.node) e.feeds;
      left = chunk_left g.R.NodeState (g.met.R.Replica.after_more) c.args.node.now c.loop-rest.node c.piece.new.node c.requires.runs i.left (at_work c.loop-rest.feed (g.R.NodeState.records c.loop-rest.node)) c.split_at.result.0.now e.feeds.1.journal e.call;
    }

pub closed-requires : goal.closed-requires
closed-requires g c = λ is. never_answered _ (runs_left g.R.NodeState c.args.node.now c.loop-rest.node c.requires.runs c.loop-rest.invariant.left) c.in-Err.ensures.call.left.node.journal.stops (ap Err is)

pub returns-in-Err-clause-told : goal.returns-in-Err-clause-told
returns-in-Err-clause-told g c =
    let i = c.loop-rest.invariant in
    let runs = runs_left g.R.NodeState c.args.node.now c.loop-rest.node c.requires.runs i.left in
    IfOk-weaker c.closed.result _ _ (λ told all. (all (g.R.NodeState.stands c.args.node.now) (feeding_from (g.R.NodeState.records c.args.node.now)) c.args.stream.now (g.R.NodeState.records c.piece.new.node)
    (under_way_fails (g.R.NodeState.stands c.args.node.now) (g.R.NodeState.stands c.loop-rest.node) (feeding_from (g.R.NodeState.records c.args.node.now)) c.args.stream.now c.loop-rest.rest.now c.split_at.result.0.now c.split_at.result.1.now (at_work c.loop-rest.feed (g.R.NodeState.records c.loop-rest.node)) c.in-Err.error c.piece.new.self (g.R.NodeState.records c.piece.new.node) i.left.left.node.same.stands i.under_way c.split_at.ensures.by_index.0
    (never_answered _ runs c.in-Err.ensures.call.left.node.journal.stops) c.in-Err.ensures.feeds)).0) c.closed.ensures.told

pub returns-in-Err-clause-grown : goal.returns-in-Err-clause-grown
returns-in-Err-clause-grown g c =
    let i = c.loop-rest.invariant in
    let runs = runs_left g.R.NodeState c.args.node.now c.loop-rest.node c.requires.runs i.left in
    IfOk-weaker c.closed.result _ _ (λ told all. (all (g.R.NodeState.stands c.args.node.now) (feeding_from (g.R.NodeState.records c.args.node.now)) c.args.stream.now (g.R.NodeState.records c.piece.new.node)
    (under_way_fails (g.R.NodeState.stands c.args.node.now) (g.R.NodeState.stands c.loop-rest.node) (feeding_from (g.R.NodeState.records c.args.node.now)) c.args.stream.now c.loop-rest.rest.now c.split_at.result.0.now c.split_at.result.1.now (at_work c.loop-rest.feed (g.R.NodeState.records c.loop-rest.node)) c.in-Err.error c.piece.new.self (g.R.NodeState.records c.piece.new.node) i.left.left.node.same.stands i.under_way c.split_at.ensures.by_index.0
    (never_answered _ runs c.in-Err.ensures.call.left.node.journal.stops) c.in-Err.ensures.feeds)).1) c.closed.ensures.told

pub returns-in-Err-clause-runs : goal.returns-in-Err-clause-runs
returns-in-Err-clause-runs g c =
    let runs = runs_left g.R.NodeState c.args.node.now c.loop-rest.node c.requires.runs c.loop-rest.invariant.left in
    IfOk-weaker c.closed.result _ _ (λ told went. runs_on (g.R.NodeState.stopped c.loop-rest.node) runs c.in-Err.ensures.call.left.node.journal.stops (λ failed. let is : c.in-Err.error ≡ error.Disk = cc in went is)) c.closed.ensures.ran

pub returns-in-Err-clause-call : goal.returns-in-Err-clause-call
returns-in-Err-clause-call g c =
    let e = c.in-Err.error in
    let r = c.closed.result in
    let same = c.closed.ensures.same in
    let runs = runs_left g.R.NodeState c.args.node.now c.loop-rest.node c.requires.runs c.loop-rest.invariant.left in
    let went = IfOk-weaker r _ _ (λ told _ is. never_answered _ runs c.in-Err.ensures.call.left.node.journal.stops (ap Err is)) c.closed.ensures.ran in
    renamed_fed g.R.NodeState c.args.node.now c.piece.new.node (same_failure e error.Stopped r went same) (same_failure e error.Disk r c.closed.ensures.ran same)
    (chunk_fails g.R.NodeState (g.met.R.Replica.after_more) c.args.node.now c.loop-rest.node c.piece.new.node c.requires.runs c.loop-rest.invariant.left (feeding_from (g.R.NodeState.records c.args.node.now)) (at_work c.loop-rest.feed (g.R.NodeState.records c.loop-rest.node)) c.args.stream.now c.loop-rest.rest.now c.split_at.result.0.now c.split_at.result.1.now
    c.loop-rest.invariant.under_way c.split_at.ensures.by_index.0 c.in-Err.ensures.call)

pub returns-clause-told : goal.returns-clause-told
returns-clause-told g c =
    let none : length c.loop-rest.rest.now ≡ 0 = grind (arith, nat_tests, c.is_empty.ensures, c.loop-rest-test) in
    told_all (g.R.NodeState.stands c.args.node.now) (feeding_from (g.R.NodeState.records c.args.node.now)) c.args.stream.now c.loop-rest.rest.now c.loop-rest.feed (g.R.NodeState.records c.loop-rest.node) c.end.result (nil_from_length c.loop-rest.rest.now none) c.loop-rest.invariant.under_way c.loop-rest.invariant.going c.end.ensures

pub returns-clause-runs : goal.returns-clause-runs
returns-clause-runs g c = runs_left g.R.NodeState c.args.node.now c.loop-rest.node c.requires.runs c.loop-rest.invariant.left

pub returns-clause-call : goal.returns-clause-call
returns-clause-call g c =
    let none : length c.loop-rest.rest.now ≡ 0 = grind (arith, nat_tests, c.is_empty.ensures, c.loop-rest-test) in
    all_fed g.R.NodeState (feeding_from (g.R.NodeState.records c.args.node.now)) (at_work c.loop-rest.feed (g.R.NodeState.records c.loop-rest.node)) c.args.stream.now c.loop-rest.rest.now c.args.node.now c.loop-rest.node (nil_from_length c.loop-rest.rest.now none) c.loop-rest.invariant.under_way refl c.loop-rest.invariant.left
