use Rattle.std.proofs.Common.{◌∙◌, take, Some, arith, sym, ap}
use Rattle.depot_base.specs.declared.record.Record.{Record}
use Rattle.depot_model.specs.texts.Records.{text_of_record}
use Rattle.depot_model.proofs.lists.Elements.{in_at}
use Rattle.depot_graph.specs.Kept.{updates_in}
use Rattle.depot_laws.proofs.lists.Splits.{lawful_texts}
use Rattle.depot_accept.specs.StateView.{setting}
use Rattle.depot_trim.proofs.Fillings.{filled_next, filling, none_filled, stands_so, text_is}
use Rattle.depot_trim.proofs.SoFar.{take_next}
use Rattle.depot_trim.proofs.filling.state_without.Goals as goal

pub loop-place-init : goal.loop-place-init
loop-place-init g c = record {
  state = λ ts are. none_filled ts _ _ _ _ c.in_ok-state.ensures;
  stands = ap (setting g.S.Scheme.verifies) c.in_ok-state.ensures ∙ stands_so (g.R.NodeState.stands c.args.node.now) g.S.Scheme.verifies c.me.result c.args.roster c.requires.verifies c.me.ensures c.requires.roster;
}

pub record_of-requires : goal.record_of-requires
record_of-requires g c =
    let J = g.R.NodeState.records c.args.node.now in
    let r = text_is J c.loop-place.place c.record_text-text.result.now (omega (arith, c.loop-place-test.true, c.record_count-place-end.ensures)) c.record_text-text.ensures in
    (r.0, (lawful_texts (g.R.NodeState.stands c.args.node.now) J r.0 (g.met.R.Replica.lawful c.args.node.now) (in_at J c.loop-place.place r.0 r.1.0), r.1.1))

pub add_record-requires-clause-text : goal.add_record-requires-clause-text
add_record-requires-clause-text g c =
    let J = g.R.NodeState.records c.args.node.now in
    let r = text_is J c.loop-place.place c.record_text-text.result.now (omega (arith, c.loop-place-test.true, c.record_count-place-end.ensures)) c.record_text-text.ensures in
    let fits = lawful_texts (g.R.NodeState.stands c.args.node.now) J r.0 (g.met.R.Replica.lawful c.args.node.now) (in_at J c.loop-place.place r.0 r.1.0) in
    r.1.1 ∙ ap text_of_record (sym (c.in_ok-item.ensures r.0 fits r.1.1))

pub add_record-requires-clause-may : goal.add_record-requires-clause-may
add_record-requires-clause-may g c =
    let J = g.R.NodeState.records c.args.node.now in
    let here = g.R.NodeState.stands c.args.node.now in
    let lawful = g.met.R.Replica.lawful c.args.node.now in
    let i = c.loop-place.place in
    let r = text_is J i c.record_text-text.result.now (omega (arith, c.loop-place-test.true, c.record_count-place-end.ensures)) c.record_text-text.ensures in
    let same = c.in_ok-item.ensures r.0 (lawful_texts here J r.0 lawful (in_at J i r.0 r.1.0)) r.1.1 in
    let at = r.1.0 ∙ ap (λ (x : Record). Some x) (sym same) in
    let ts = c.requires.flags.0 in (
      ts,
      (
        take i J,
        filling g.S.Scheme.verifies here J (updates_in c.args.graph.now.items.entries) c.args.trimmed.now ts i c.in_ok-item.item c.loop-place.state lawful (sym c.requires.graph) c.loop-place.invariant.stands at c.requires.flags.1
            (c.loop-place.invariant.state ts c.requires.flags.1),
      ),
    )

pub loop-place-preserved : goal.loop-place-preserved
loop-place-preserved g c =
    let J = g.R.NodeState.records c.args.node.now in
    let here = g.R.NodeState.stands c.args.node.now in
    let lawful = g.met.R.Replica.lawful c.args.node.now in
    let i = c.loop-place.place in
    let r = text_is J i c.record_text-text.result.now (omega (arith, c.loop-place-test.true, c.record_count-place-end.ensures)) c.record_text-text.ensures in
    let same = c.in_ok-item.ensures r.0 (lawful_texts here J r.0 lawful (in_at J i r.0 r.1.0)) r.1.1 in
    let at = r.1.0 ∙ ap (λ (x : Record). Some x) (sym same) in
    record {
      state = λ ts are. filled_next _ ts _ _ (sym (take_next J i c.in_ok-item.item at)) (c.in_ok-add_record.ensures.ok ts (take i J)
          (filling g.S.Scheme.verifies here J (updates_in c.args.graph.now.items.entries) c.args.trimmed.now ts i c.in_ok-item.item c.loop-place.state lawful (sym c.requires.graph) c.loop-place.invariant.stands at are (c.loop-place.invariant.state ts are)));
      stands = c.in_ok-add_record.ensures.stays ∙ c.loop-place.invariant.stands;
    }
