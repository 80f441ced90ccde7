use Rattle.std.proofs.Common.{ℕ, List, [], not, eqb, sym, ap, ◌∙◌}
use Rattle.depot_base.specs.declared.update.Update.{Update}
use Rattle.depot_graph.specs.Causal.{causal_from_test}
use Rattle.depot_graph.specs.Kept.{updates_in}
use Rattle.depot_model.specs.checks.Checks.{Setting}
use Rattle.depot_model.specs.journals.Journal.{is_foreign}
use Rattle.depot_decide.proofs.ForeignIds.{foreign_by_place, not_foreign}
use Rattle.depot_decide.proofs.voucher_decision.is_foreign.Goals as goal

pub returns-in-Some : goal.returns-in-Some
returns-in-Some g c =
    let us = updates_in c.graph-graph.result.now.items.entries in
    let me = c.me.ensures ∙ ap (λ (s : Setting). s.me) c.state-state.ensures.stands in
    let all = c.state-state.ensures.state.accepted ∙ sym c.graph-graph.ensures in
    c.ne.ensures ∙ ap (λ (n : ℕ). not (eqb c.update.result.now.writer n)) me
    ∙ sym (foreign_by_place c.args.readings.now.me us c.args.id.now c.in-Some.item c.update.result.now (causal_from_test [] us c.graph-graph.result.now.causal) (sym c.in-Some.ensures) c.update.ensures)
    ∙ ap (λ (ts : List Update). is_foreign c.args.readings.now.me ts c.args.id.now) (sym all)

pub returns-in-None : goal.returns-in-None
returns-in-None g c =
    let all = c.state-state.ensures.state.accepted ∙ sym c.graph-graph.ensures in
    sym (not_foreign c.args.readings.now.me (updates_in c.graph-graph.result.now.items.entries) c.args.id.now (sym c.in-None.ensures))
    ∙ ap (λ (ts : List Update). is_foreign c.args.readings.now.me ts c.args.id.now) (sym all)
