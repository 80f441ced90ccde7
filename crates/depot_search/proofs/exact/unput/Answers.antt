use Rattle.std.proofs.Common.{ap, ◌∙◌, ◌&&◌, not, ℕ, List}
use Rattle.std.specs.List.{list_any}
use Rattle.std.specs.Str.{bytes_eq}
use Rattle.depot_search.proofs.Tests.{map_more}
use Rattle.depot_search.specs.Read.{is_unput, is_put_in_each}
use Rattle.depot_traces.specs.SeenTraces.{sighting_of}
use Rattle.depot_search.proofs.exact.unput.Goals as goal

pub loop-write-preserved : goal.loop-write-preserved
loop-write-preserved c = map_more (is_unput c.args.journals.now c.args.key.now c.args.answer.now) c.loop-write.write-index c.args.writes.now c.write-item.result c.loop-write.row.items _ c.is_lacking.result c.loop-write-test.true c.write-item.is c.loop-write.invariant c.in_ok-push.ensures.items
    (c.is_lacking.ensures ∙ ap (λ (h : List ℕ). list_any (λ a. bytes_eq a.id h && not (is_put_in_each c.args.journals.now c.args.key.now c.write-item.result (sighting_of a.shown))) c.args.answer.now) c.in_ok-id.ensures)
