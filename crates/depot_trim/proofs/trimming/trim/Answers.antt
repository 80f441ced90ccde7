use Rattle.std.proofs.Common.{◌∙◌, List, Err, sym, ap, subst}
use Rattle.depot_model.specs.declared.hello.HelloLeaf.{HelloLeaf}
use Rattle.depot_model.specs.readers.Checkpoints.{Checkpoint}
use Rattle.depot_model.specs.readers.Opening.{ids_of, opened}
use Rattle.depot_model.specs.readers.Readers.{reader_of}
use Rattle.depot_graph.specs.Kept.{updates_in}
use Rattle.depot_trim.specs.ReaderAnswers.{Trims}
use Rattle.depot_trim.specs.Trimmings.{ids_in}
use Rattle.depot_trim.specs.declared.trim_error.TrimError.{TrimError}
use Rattle.depot_trim.proofs.MadeReaders.{untrimmed, unsigned_is, is_unsigned, is_reading}
use Rattle.depot_trim.proofs.trimming.trim.Goals as goal

pub returns-in-Err : goal.returns-in-Err
returns-in-Err g c =
    let here = g.N.NodeState.stands c.args.node.now in
    let J = g.N.NodeState.records c.args.node.now in
    subst (λ (e : TrimError). Trims {S = g.row.S.Denot} g.S.Scheme.verifies here J c.args.text.now (Err e)) (sym c.as_untrimmed.ensures)
    (untrimmed g.row.S.Denot g.S.Scheme.verifies here J c.args.text.now c.in-Err.refusal c.in-Err.ensures)

pub returns-in-Some : goal.returns-in-Some
returns-in-Some g c =
    let here = g.N.NodeState.stands c.args.node.now in
    let J = g.N.NodeState.records c.args.node.now in
    let text = c.args.text.now in
    let ids = ids_in c.as_slice-leaves.result.now in
    let is = c.in-Ok.ensures.1.1 ∙ ap (λ (x : Checkpoint). opened (ids_of x)) (sym c.checkpoint.view_is) ∙ ap (λ (ls : List HelloLeaf). opened (ids_in ls)) (sym c.as_slice-leaves.ensures) in
    let found = unsigned_is here J text ids (updates_in c.graph-2.result.now.items.entries) c.entries.result.now c.in_ok-unsigned.field-0 (sym c.graph-2.ensures) (sym c.requires.roster ∙ sym c.entries.ensures.same) c.in_ok-unsigned.ensures in
    is_unsigned here J text ids c.in-Some.unsigned is (found ∙ c.in-Some.is)

pub returns-in_ok-reader_of-in-None : goal.returns-in_ok-reader_of-in-None
returns-in_ok-reader_of-in-None g c =
    let here = g.N.NodeState.stands c.args.node.now in
    let J = g.N.NodeState.records c.args.node.now in
    let text = c.args.text.now in
    let ids = ids_in c.as_slice-leaves.result.now in
    let is = c.in-Ok.ensures.1.1 ∙ ap (λ (x : Checkpoint). opened (ids_of x)) (sym c.checkpoint.view_is) ∙ ap (λ (ls : List HelloLeaf). opened (ids_in ls)) (sym c.as_slice-leaves.ensures) in
    let found = unsigned_is here J text ids (updates_in c.graph-2.result.now.items.entries) c.entries.result.now c.in_ok-unsigned.field-0 (sym c.graph-2.ensures) (sym c.requires.roster ∙ sym c.entries.ensures.same) c.in_ok-unsigned.ensures in
    (reader_of here J ids, (is_reading here J text ids is (found ∙ c.in-None.is), c.in_ok-reader_of-in-None.ensures))
