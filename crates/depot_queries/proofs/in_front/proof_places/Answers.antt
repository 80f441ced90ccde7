use Rattle.std.proofs.Common.{ℕ, List, [], ◌∷◌, ◌++◌, true, false, map, filter, sym, ap, ◌∙◌}
use Rattle.std.proofs.lemmas.List.{append-nil, take_all}
use Rattle.depot_readings.specs.declared.front_places.ConvictedAt.{ConvictedAt}
use Rattle.depot_queries.proofs.FrontOrder.{is_other, other_is, other_next, others_are}
use Rattle.depot_queries.proofs.in_front.proof_places.Goals as goal

pub loop-conviction-preserved-then-is_one_of : goal.loop-conviction-preserved-then-is_one_of
loop-conviction-preserved-then-is_one_of g c =
    let listed = c.args.listed.now in
    let cs = c.convictions-conviction-items.result.now in
    let known = other_is listed c.as_slice.result.now c.conviction-item.result.node c.is_one_of.result true c.as_slice.ensures c.is_one_of.ensures c.if-is_one_of.true in
    c.loop-conviction.invariant ∙ sym (other_next listed cs c.loop-conviction.conviction-index c.conviction-item.result false c.loop-conviction-test.true c.conviction-item.is known ∙ append-nil _)

pub loop-conviction-preserved : goal.loop-conviction-preserved
loop-conviction-preserved g c =
    let listed = c.args.listed.now in
    let cs = c.convictions-conviction-items.result.now in
    let new = other_is listed c.as_slice.result.now c.conviction-item.result.node c.is_one_of.result false c.as_slice.ensures c.is_one_of.ensures c.if-is_one_of.false in
    c.in_ok-push.ensures.ok ∙ ap (λ (ns : List ℕ). ns ++ c.conviction-item.result.place ∷ []) c.loop-conviction.invariant ∙ sym (other_next listed cs c.loop-conviction.conviction-index c.conviction-item.result true c.loop-conviction-test.true c.conviction-item.is new)

pub returns : goal.returns
returns g c =
    let convicted = c.convictions-conviction-items.result.now in
    c.loop-conviction.invariant
    ∙ ap (λ (cs : List ConvictedAt). map (λ (x : ConvictedAt). x.place) (filter (is_other c.args.listed.now) cs)) (take_all c.loop-conviction.conviction-index convicted c.loop-conviction-test.false ∙ c.convictions-conviction-items.ensures)
    ∙ others_are c.args.readings.now.records c.args.listed.now
