use Rattle.std.proofs.Common.{◌<◌, ℕ, List, length, map, take, sym, ap, subst, ◌∙◌, arith}
use Rattle.std.specs.Borrow.{Bor}
use Rattle.std.specs.List.{flat_map}
use Rattle.std.proofs.lemmas.List.{take_all}
use Rattle.depot_base.specs.declared.record.Record.{Record}
use Rattle.depot_base.proofs.GeneralLaws.{flat_push}
use Rattle.depot_model.specs.worlds.World.{Correct}
use Rattle.depot_traces.specs.declared.trace.Trace.{Trace}
use Rattle.depot_audit.specs.MetTexts.{AreTexts, IsToldBy, AreToldBy, IsMetOf}
use Rattle.depot_audit.proofs.ListLaws.{mapped_pair_in, mapped_pair_next, pair_last, no_pairs}
use Rattle.depot_audit.proofs.met.met_of.Goals as goal

pub loop-trace-init : goal.loop-trace-init
loop-trace-init c = λ cs told.
    subst (λ (ds : List Correct). IsMetOf (flat_map (λ d. d.journal) ds) (record { updates = c.new.result; values = c.new-2.result })) (sym (no_pairs IsToldBy cs told))
    (record { updates = c.new.ensures; values = c.new-2.ensures })

pub take_texts-requires : goal.take_texts-requires
take_texts-requires c =
    let below : c.loop-trace.trace-index < length c.args.traces.now = omega arith in
    let h = mapped_pair_in IsToldBy (λ (t : Bor Trace). t.now) c.requires.0 c.args.traces.now c.loop-trace.trace-index c.trace-item.result below c.trace-item.is c.requires.1 in
    (h.one.journal, subst (λ (texts : List (List ℕ)). AreTexts h.one.journal texts) (sym c.as_slice.ensures) h.pair.texts)

pub loop-trace-preserved : goal.loop-trace-preserved
loop-trace-preserved c = λ cs told.
    let below : c.loop-trace.trace-index < length c.args.traces.now = omega arith in
    let h = mapped_pair_next IsToldBy (λ (t : Bor Trace). t.now) cs c.args.traces.now c.loop-trace.trace-index c.trace-item.result below c.trace-item.is told in
    let front = map (λ (t : Bor Trace). t.now) (take c.loop-trace.trace-index c.args.traces.now) in
    subst (λ (xs : List Record). IsMetOf xs c.take_texts.new.self) (sym (ap (flat_map (λ (d : Correct). d.journal)) (pair_last IsToldBy cs front c.trace-item.result.now h) ∙ flat_push (λ (d : Correct). d.journal) h.before h.one))
    (c.in_ok-take_texts.ensures (flat_map (λ d. d.journal) h.before) h.one.journal (subst (λ (texts : List (List ℕ)). AreTexts h.one.journal texts) (sym c.as_slice.ensures) h.pair.texts) (c.loop-trace.invariant h.before h.pairs))

pub returns : goal.returns
returns c = λ cs told.
    c.loop-trace.invariant cs (subst (λ (ts : List (Bor Trace)). AreToldBy cs (map (λ t. t.now) ts)) (sym (take_all c.loop-trace.trace-index c.args.traces.now (omega arith))) told)
