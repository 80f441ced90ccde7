use Rattle.std.proofs.Common.{◌≡◌, ◌<◌, ℕ, List, length, map, take, option_map, Some, None, sym, ap, subst, ◌∙◌, arith}
use Rattle.std.specs.Borrow.{Bor}
use Rattle.std.proofs.lemmas.List.{take_all}
use Rattle.depot_model.specs.worlds.Audit.{named_found}
use Rattle.depot_traces.specs.declared.trace.Trace.{Trace}
use Rattle.depot_audit.specs.Lookups.{nodes_in, accusing_in, first_accusing}
use Rattle.depot_audit.specs.MetTexts.{AreTexts, IsToldBy, AreToldBy}
use Rattle.depot_audit.proofs.ListLaws.{mapped_pair_in, mapped_pair_next, pair_last, no_pairs, row_on, row_stops}
use Rattle.depot_audit.proofs.named_nodes.first_keeping.Goals as goal

pub loop-trace-init : goal.loop-trace-init
loop-trace-init c = λ cs told. ap (first_accusing (nodes_in (map (λ t. t.now) c.args.traces.now))) (no_pairs IsToldBy cs told)

pub first_place-requires-clause-texts : goal.first_place-requires-clause-texts
first_place-requires-clause-texts c =
    let below : c.loop-trace.trace-index < length c.args.traces.now = omega arith in
    let h = mapped_pair_in IsToldBy (λ (t : Bor Trace). t.now) c.requires.0 c.args.traces.now c.loop-trace.trace-index c.trace-item.result below c.trace-item.is c.requires.1 in
    (h.one.journal, subst (λ (texts : List (List ℕ)). AreTexts h.one.journal texts) (sym c.as_slice.ensures) h.pair.texts)

pub first_place-requires-clause-few : goal.first_place-requires-clause-few
first_place-requires-clause-few c =
    let below : c.loop-trace.trace-index < length c.args.traces.now = omega arith in
    let h = mapped_pair_in IsToldBy (λ (t : Bor Trace). t.now) c.requires.0 c.args.traces.now c.loop-trace.trace-index c.trace-item.result below c.trace-item.is c.requires.1 in
    omega (arith, h.pair.few, ap length c.as_slice.ensures)

pub returns-in-Some : goal.returns-in-Some
returns-in-Some c = λ cs told.
    let below : c.loop-trace.trace-index < length c.args.traces.now = omega arith in
    let nodes = nodes_in (map (λ t. t.now) c.args.traces.now) in
    let h = mapped_pair_in IsToldBy (λ (t : Bor Trace). t.now) cs c.args.traces.now c.loop-trace.trace-index c.trace-item.result below c.trace-item.is told in
    let place = c.in_ok-place.ensures h.one.journal (subst (λ (texts : List (List ℕ)). AreTexts h.one.journal texts) (sym c.as_slice.ensures) h.pair.texts) in
    let one : accusing_in nodes h.one ≡ Some (named_found c.trace-item.result.now.node c.in-Some.place) =
    ap (option_map (λ p. named_found h.one.node p)) (sym place ∙ c.in-Some.is) ∙ ap (λ (n : ℕ). Some (named_found n c.in-Some.place)) h.pair.node in
    sym (ap (first_accusing nodes) h.is ∙ row_stops (accusing_in nodes) h.before h.one h.after (named_found c.trace-item.result.now.node c.in-Some.place) (c.loop-trace.invariant h.before h.pairs) one)

pub loop-trace-preserved : goal.loop-trace-preserved
loop-trace-preserved c = λ cs told.
    let below : c.loop-trace.trace-index < length c.args.traces.now = omega arith in
    let nodes = nodes_in (map (λ t. t.now) c.args.traces.now) in
    let h = mapped_pair_next IsToldBy (λ (t : Bor Trace). t.now) cs c.args.traces.now c.loop-trace.trace-index c.trace-item.result below c.trace-item.is told in
    let place = c.in_ok-place.ensures h.one.journal (subst (λ (texts : List (List ℕ)). AreTexts h.one.journal texts) (sym c.as_slice.ensures) h.pair.texts) in
    let one : accusing_in nodes h.one ≡ None = ap (option_map (λ p. named_found h.one.node p)) (sym place ∙ c.in-None.is) in
    ap (first_accusing nodes) (pair_last IsToldBy cs (map (λ (t : Bor Trace). t.now) (take c.loop-trace.trace-index c.args.traces.now)) c.trace-item.result.now h)
    ∙ row_on (accusing_in nodes) h.before h.one (c.loop-trace.invariant h.before h.pairs) one

pub returns : goal.returns
returns c = λ cs told.
    sym (c.loop-trace.invariant cs (subst (λ (ts : List (Bor Trace)). AreToldBy cs (map (λ t. t.now) ts)) (sym (take_all c.loop-trace.trace-index c.args.traces.now (omega arith))) told))
