use Rattle.std.proofs.Common.{◌≡◌, ℕ, List, Some, slice_get, length, refl, arith, ap, ◌∙◌, sym, subst}
use Rattle.std.proofs.lemmas.Option.{slice_get_read}
use Rattle.depot_journal.specs.JournalView.{JournalContents}
use Rattle.depot_journal.specs.Mirrored.{bodies_at, cut}
use Rattle.depot_journal.proofs.Mirrors.{bodies_many, span_at, body_at}
use Rattle.depot_journal.proofs.journal.Journal.text.Goals as goal

pub slice_bounds-result-count : goal.slice_bounds-result-count
slice_bounds-result-count g c =
    let held = c.self.inside.mirror in
    let many : length (bodies_at held.bytes.items held.spans.items) ≡ length c.args.self.now.records = ap (λ (v : JournalContents g.row.D.Denot). length v.records) c.self.view_is in
    let at = slice_get_read held.spans.items (length held.spans.items) c.args.place c.index-span.result.now refl (omega (arith, many, bodies_many held.bytes.items held.spans.items, c.requires)) c.index-span.ensures in
    (span_at _ _ _ _ c.self.invariant.0.within at).0

pub slice_bounds-result-start : goal.slice_bounds-result-start
slice_bounds-result-start g c =
    let held = c.self.inside.mirror in
    let many : length (bodies_at held.bytes.items held.spans.items) ≡ length c.args.self.now.records = ap (λ (v : JournalContents g.row.D.Denot). length v.records) c.self.view_is in
    let at = slice_get_read held.spans.items (length held.spans.items) c.args.place c.index-span.result.now refl (omega (arith, many, bodies_many held.bytes.items held.spans.items, c.requires)) c.index-span.ensures in
    let ends = span_at _ _ _ _ c.self.invariant.0.within at in
    omega (arith, ends.0, ends.1, c.deref.ensures.len, held.bytes.ok.0)

pub slice_bounds-result-end : goal.slice_bounds-result-end
slice_bounds-result-end g c =
    let held = c.self.inside.mirror in
    let many : length (bodies_at held.bytes.items held.spans.items) ≡ length c.args.self.now.records = ap (λ (v : JournalContents g.row.D.Denot). length v.records) c.self.view_is in
    let at = slice_get_read held.spans.items (length held.spans.items) c.args.place c.index-span.result.now refl (omega (arith, many, bodies_many held.bytes.items held.spans.items, c.requires)) c.index-span.ensures in
    let ends = span_at _ _ _ _ c.self.invariant.0.within at in
    omega (arith, ends.0, ends.1, c.deref.ensures.len, held.bytes.ok.0)

pub returns : goal.returns
returns g c =
    let held = c.self.inside.mirror in
    let many : length (bodies_at held.bytes.items held.spans.items) ≡ length c.args.self.now.records = ap (λ (v : JournalContents g.row.D.Denot). length v.records) c.self.view_is in
    let at = slice_get_read held.spans.items (length held.spans.items) c.args.place c.index-span.result.now refl (omega (arith, many, bodies_many held.bytes.items held.spans.items, c.requires)) c.index-span.ensures in
    subst (λ (v : JournalContents g.row.D.Denot). slice_get v.records c.args.place ≡ Some (cut c.deref.result.now c.index-span.result.now)) c.self.view_is
    (body_at held.bytes.items held.spans.items c.args.place c.index-span.result.now at ∙ ap (λ (l : List ℕ). Some (cut l c.index-span.result.now)) (sym c.deref.ensures.value))
