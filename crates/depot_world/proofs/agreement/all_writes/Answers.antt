use Rattle.std.proofs.Common.{ℕ, List, [], ◌∷◌, ◌++◌, map, ap, sym, ◌∙◌}
use Rattle.std.proofs.lemmas.List.{map-append}
use Rattle.std.specs.Borrow.{Bor}
use Rattle.depot_world.specs.Summaries.{writes_under}
use Rattle.depot_world.proofs.of_loads.KeptLoads.{none_more, some_more}
use Rattle.depot_world.proofs.agreement.all_writes.Goals as goal

pub loop-line-preserved-in_default : goal.loop-line-preserved-in_default
loop-line-preserved-in_default c =
    c.loop-line.invariant ∙ sym (none_more (writes_under c.args.key.now) c.args.lines.now c.loop-line.line-index c.line-item.result c.loop-line-test.true c.line-item.is (sym c.in_default.ensures))

pub loop-line-preserved : goal.loop-line-preserved
loop-line-preserved c =
    ap (λ (list : List (Bor (List ℕ))). map (λ writes. writes.now) list) c.in_ok-push.ensures.items
    ∙ map-append (λ (writes : Bor (List ℕ)). writes.now) c.loop-line.list.items (c.in-Some.writes ∷ [])
    ∙ ap (λ (texts : List (List ℕ)). texts ++ c.in-Some.writes.now ∷ []) c.loop-line.invariant
    ∙ sym (some_more (writes_under c.args.key.now) c.args.lines.now c.loop-line.line-index c.line-item.result c.in-Some.writes.now c.loop-line-test.true c.line-item.is (sym c.in-Some.ensures))
