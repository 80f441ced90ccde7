use Rattle.std.proofs.Common.{◌<◌, length, map, sym, ◌∙◌, arith}
use Rattle.depot_audit.specs.Lookups.{nodes_in, lists_unput}
use Rattle.depot_audit.proofs.ListLaws.{place_at}
use Rattle.depot_audit.proofs.wrong_reads.first_place.Goals as goal

pub returns-then-lists_unput : goal.returns-then-lists_unput
returns-then-lists_unput c =
    let below : c.loop-place.place < length c.args.reads.now = omega arith in
    place_at (lists_unput c.args.met.now.updates.table (nodes_in (map (λ t. t.now) c.args.traces.now))) c.args.reads.now c.loop-place.place c.index-reads-place.result below c.index-reads-place.is c.loop-place.invariant (sym c.lists_unput.ensures ∙ c.if-lists_unput.true)
