use Rattle.std.proofs.Common.{List, sym, ap, subst, ◌∙◌}
use Rattle.depot_base.specs.declared.update.Update.{Update}
use Rattle.depot_model.specs.journals.Journal.{accepted}
use Rattle.depot_accept.specs.StateView.{View}
use Rattle.depot_graph.specs.UpdateRows.{IsJoinedRow}
use Rattle.depot_readings.specs.ReadingsParts.{AreCounted, AreReadings}
use Rattle.depot_readings.specs.ReadingsView.{Known}
use Rattle.depot_readings.proofs.readings.Readings.keep_row.Goals as goal

pub keep_row-requires : goal.keep_row-requires
keep_row-requires g c =
    subst (λ (us : List Update). IsJoinedRow us c.args.parents.items.items c.args.parents.row.items) (ap (λ (v : Known). accepted v.records) (sym c.self.view_is) ∙ c.self.invariant.0.read.state.accepted) c.requires

pub invariant_of-self : goal.invariant_of-self
invariant_of-self g c =
    let J = c.self.inside.records.items in
    let parts = c.self.inside.parts in
    subst (λ (v : View g.row.S.Denot). AreReadings J v parts.kept.values parts.kept.totals parts.named parts.lacking parts.places.places parts.mine.ids parts.front × AreCounted g.S.Scheme.verifies J v c.self.inside.count c.self.inside.bytes)
    (sym c.keep_row.ensures) c.self.invariant
