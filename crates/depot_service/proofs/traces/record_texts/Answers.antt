use Rattle.std.proofs.Common.{List, ◌∷◌, ◌++◌, map, take, sym, ap, ◌∙◌, ℕ, []}
use Rattle.depot_model.specs.texts.Records.{text_of_record}
use Rattle.depot_service.proofs.NodeTraces.{one_more_text}
use Rattle.depot_service.proofs.traces.record_texts.Goals as goal

pub loop-place-preserved : goal.loop-place-preserved
loop-place-preserved g c =
    let texts = map text_of_record (g.R.NodeState.records c.args.node.now) in
    c.in_ok-push.ensures.ok ∙ ap (λ (ts : List (List ℕ)). ts ++ c.in_ok-from_slice.field-0 ∷ []) c.loop-place.invariant ∙ ap (λ (t : List ℕ). take c.loop-place.place texts ++ t ∷ []) c.in_ok-from_slice.ensures
    ∙ sym (one_more_text texts c.loop-place.place c.record_text.result.now c.record_text.ensures)
