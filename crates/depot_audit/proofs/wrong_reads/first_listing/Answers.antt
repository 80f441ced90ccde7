use Rattle.std.proofs.Common.{◌<◌, length, map, option_map, sym, ap, ◌∙◌, arith}
use Rattle.std.specs.Prelude.{position}
use Rattle.std.specs.Borrow.{Bor}
use Rattle.depot_model.specs.worlds.Audit.{wrong_found}
use Rattle.depot_traces.specs.declared.trace.Trace.{Trace}
use Rattle.depot_audit.specs.Lookups.{nodes_in, lists_unput, unput_in}
use Rattle.depot_audit.proofs.ListLaws.{row_at, row_next}
use Rattle.depot_audit.proofs.wrong_reads.first_listing.Goals as goal

pub returns-in-Some : goal.returns-in-Some
returns-in-Some c =
    let below : c.loop-trace.trace-index < length c.args.traces.now = omega arith in
    let table = c.args.met.now.updates.table in
    let nodes = nodes_in (map (λ t. t.now) c.args.traces.now) in
    let node = c.trace-item.result.now.node in
    row_at (unput_in table nodes) (λ (t : Bor Trace). t.now) c.args.traces.now c.loop-trace.trace-index c.trace-item.result (wrong_found node c.in-Some.place) below c.trace-item.is c.loop-trace.invariant
    (ap (option_map (λ place. wrong_found node place)) (sym (c.in-Some.ensures ∙ ap (position (lists_unput table nodes)) c.as_slice.ensures)))

pub loop-trace-preserved : goal.loop-trace-preserved
loop-trace-preserved c =
    let below : c.loop-trace.trace-index < length c.args.traces.now = omega arith in
    let table = c.args.met.now.updates.table in
    let nodes = nodes_in (map (λ t. t.now) c.args.traces.now) in
    let node = c.trace-item.result.now.node in
    row_next (unput_in table nodes) (λ (t : Bor Trace). t.now) c.args.traces.now c.loop-trace.trace-index c.trace-item.result below c.trace-item.is c.loop-trace.invariant
    (ap (option_map (λ place. wrong_found node place)) (sym (c.in-None.ensures ∙ ap (position (lists_unput table nodes)) c.as_slice.ensures)))
