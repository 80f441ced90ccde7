use Rattle.std.proofs.Common.{◌∙◌, List, length, map, sym, ap, subst}
use Rattle.std.specs.List.{filter}
use Rattle.std.proofs.lemmas.List.{length-map}
use Rattle.depot_base.specs.declared.update.Update.{Update}
use Rattle.depot_model.specs.journals.Journal.{accepted}
use Rattle.depot_model.specs.readers.Readers.{left_of}
use Rattle.depot_model.specs.readers.Trimming.{is_trimmed, trimmed}
use Rattle.depot_laws.proofs.records.Causes.{lawful_is_causal}
use Rattle.depot_readings.specs.Named.{AreNamed}
use Rattle.depot_trim.specs.ReaderView.{mark_of}
use Rattle.depot_trim.specs.Trimmings.{ids_in, given_up}
use Rattle.depot_trim.proofs.BelowLaws.{flags_of_test}
use Rattle.depot_trim.proofs.MadeReaders.{made}
use Rattle.depot_trim.proofs.trimming.reader_of.Goals as goal

pub values_left-requires-clause-flags : goal.values_left-requires-clause-flags
values_left-requires-clause-flags g c =
    let J = g.N.NodeState.records c.args.node.now in
    let here = g.N.NodeState.stands c.args.node.now in
    (trimmed J (ids_in c.args.leaves.now), c.as_slice-trimmed.ensures.value ∙ c.in_ok-trimmed.ensures here J (g.met.N.Replica.lawful c.args.node.now) (sym c.graph-graph.ensures))

pub names_left-requires : goal.names_left-requires
names_left-requires g c =
    let J = g.N.NodeState.records c.args.node.now in
    let here = g.N.NodeState.stands c.args.node.now in
    let ts = trimmed J (ids_in c.args.leaves.now) in
    let flags = c.as_slice-trimmed.ensures.value ∙ c.in_ok-trimmed.ensures here J (g.met.N.Replica.lawful c.args.node.now) (sym c.graph-graph.ensures) in
    (ts, flags ∙ ap (given_up ts) (sym c.graph-graph.ensures))

pub marks_of-requires : goal.marks_of-requires
marks_of-requires g c =
    let J = g.N.NodeState.records c.args.node.now in
    let here = g.N.NodeState.stands c.args.node.now in
    let ids = ids_in c.args.leaves.now in
    let flags = c.as_slice-trimmed.ensures.value ∙ c.in_ok-trimmed.ensures here J (g.met.N.Replica.lawful c.args.node.now) (sym c.graph-graph.ensures) in
    let test = is_trimmed J ids in
    ap length (flags ∙ flags_of_test J ids (lawful_is_causal here J (g.met.N.Replica.lawful c.args.node.now))) ∙ length-map (accepted J) test ∙ ap length (sym c.graph-graph.ensures)

pub returns : goal.returns
returns g c =
    let J = g.N.NodeState.records c.args.node.now in
    let here = g.N.NodeState.stands c.args.node.now in
    let ids = ids_in c.args.leaves.now in
    let ts = trimmed J ids in
    let lawful = (g.met.N.Replica.lawful c.args.node.now) in
    let flags = c.as_slice-trimmed.ensures.value ∙ c.in_ok-trimmed.ensures here J lawful (sym c.graph-graph.ensures) in
    let over = flags ∙ ap (given_up ts) (sym c.graph-graph.ensures) in
    let tests = flags ∙ flags_of_test J ids (lawful_is_causal here J lawful) ∙ ap (map (is_trimmed J ids)) (sym c.graph-graph.ensures) in
    made g.S.Scheme.verifies here J ids _ lawful (g.met.N.Replica.some c.args.node.now) (c.in_ok-state_without.ensures.state ts over) c.in_ok-state_without.ensures.stands (λ h. c.in_ok-values_left.ensures ts h flags)
    (subst (λ (us : List Update). AreNamed (left_of ts us) c.in_ok-names_left.field-0) c.graph-graph.ensures (c.in_ok-names_left.ensures ts over))
    c.counts.ensures (c.in_ok-new.ensures ∙ c.in_ok-marks_of.ensures (is_trimmed J ids) tests ∙ ap (λ (us : List Update). map mark_of (filter (is_trimmed J ids) us)) c.graph-graph.ensures)
