use Rattle.std.proofs.Common.{ap, ◌∙◌, ℕ, List}
use Rattle.std.specs.List.{list_any}
use Rattle.std.specs.Str.{bytes_eq}
use Rattle.depot_search.proofs.Tests.{map_more}
use Rattle.depot_search.specs.Read.{is_answered}
use Rattle.depot_search.proofs.exact.answered.Goals as goal

pub loop-write-preserved : goal.loop-write-preserved
loop-write-preserved c = map_more (is_answered c.args.answer.now) c.loop-write.write-index c.args.writes.now c.write-item.result c.loop-write.row.items _ c.has_answer.result c.loop-write-test.true c.write-item.is c.loop-write.invariant c.in_ok-push.ensures.items
    (c.has_answer.ensures ∙ ap (λ (h : List ℕ). list_any (λ a. bytes_eq a.id h) c.args.answer.now) c.in_ok-id.ensures)
