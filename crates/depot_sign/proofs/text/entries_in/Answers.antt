use Rattle.std.proofs.Common.{Option, Some, None, ap}
use Rattle.std.proofs.lemmas.Result.{err_from_is_err_and}
use Rattle.depot_sign.specs.declared.text.RosterStop.{RosterStop}
use Rattle.depot_sign.specs.RosterReading.{unless_stopped}
use Rattle.depot_sign.proofs.EntryLoop.{IsPlaced, goes_on, refused, failed}
use Rattle.depot_sign.proofs.text.entries_in.Goals as goal

pub returns-in_err-entry : goal.returns-in_err-entry
returns-in_err-entry c =
    let p = err_from_is_err_and c.from_residual.result c.from_residual.ensures.1 in
    rw (p.1, p.2) (failed c.args.count c.loop.counter c.loop.list.items c.loop.fields c.in_err-entry.field-0.0 _ c.read.new.fields c.loop-test.true c.in_err-entry.ensures.reads c.loop.invariant)

pub returns-in-Some : goal.returns-in-Some
returns-in-Some c =
    let place : IsPlaced c.loop.list.items c.in_ok-entry.entry c.loop.fields.at (Some c.in-Some.stop) =
    λ next. cc (c.misplaced.ensures next, ap (λ (o : Option RosterStop). unless_stopped o next) c.in-Some.is, c.at-at.ensures, c.last.ensures.value, c.as_slice.ensures.value) in
    refused c.args.count c.loop.counter c.loop.list.items c.loop.fields c.in_ok-entry.entry c.read.new.fields c.in-Some.stop _ c.read.new.fields c.loop-test.true c.in_ok-entry.ensures.reads place c.loop.invariant

pub loop-preserved : goal.loop-preserved
loop-preserved c =
    let place : IsPlaced c.loop.list.items c.in_ok-entry.entry c.loop.fields.at None =
    λ next. cc (c.misplaced.ensures next, ap (λ (o : Option RosterStop). unless_stopped o next) c.in_default.is, c.at-at.ensures, c.last.ensures.value, c.as_slice.ensures.value) in
    rw c.in_ok-push.ensures.items (goes_on c.args.count c.loop.counter c.loop.list.items c.loop.fields c.in_ok-entry.entry c.read.new.fields _ c.loop-test.true c.in_ok-entry.ensures.reads place c.loop.invariant)
