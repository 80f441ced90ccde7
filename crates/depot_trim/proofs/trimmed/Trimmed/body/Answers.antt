use Rattle.std.proofs.Common.{◌≡◌, ◌∙◌, List, Some, sym, ap, subst}
use Rattle.std.specs.Prelude.{slice_get}
use Rattle.std.specs.List.{list_any}
use Rattle.std.specs.Str.{bytes_eq}
use Rattle.depot_base.specs.declared.update.Update.{Update}
use Rattle.depot_model.specs.lists.Items.{place_of_id}
use Rattle.depot_trim.specs.declared.marks.UpdateMark.{UpdateMark}
use Rattle.depot_trim.proofs.ReaderReads.{accepted_is, marked, named_trimmed, named_nowhere, named_kept}
use Rattle.depot_trim.proofs.trimmed.Trimmed.body.Goals as goal

pub returns-then-has : goal.returns-then-has
returns-then-has g c = λ R r.
    let told = ap (list_any (λ (m : UpdateMark). bytes_eq m.id c.args.id.now)) r.marks ∙ marked R.trimmed c.args.id.now in
    named_trimmed R c.args.id.now (sym told ∙ sym c.has.ensures ∙ c.if-has.true)

pub returns-in-None : goal.returns-in-None
returns-in-None g c = λ R r.
    let same = c.graph-graph.ensures ∙ sym (accepted_is g.S.Scheme.verifies R c.args.self.now r) in
    named_nowhere R c.args.id.now (c.in-None.ensures ∙ ap (place_of_id c.args.id.now) same)

pub returns-in-Some : goal.returns-in-Some
returns-in-Some g c = λ R r.
    let same = c.graph-graph.ensures ∙ sym (accepted_is g.S.Scheme.verifies R c.args.self.now r) in
    let told = ap (list_any (λ (m : UpdateMark). bytes_eq m.id c.args.id.now)) r.marks ∙ marked R.trimmed c.args.id.now in
    named_kept R c.args.id.now c.in-Some.item c.update.result.now r.lawful (sym told ∙ sym c.has.ensures ∙ c.if-has.false) (c.in-Some.ensures ∙ ap (place_of_id c.args.id.now) same)
    (subst (λ (us : List Update). slice_get us c.in-Some.item ≡ Some c.update.result.now) same c.update.ensures)
