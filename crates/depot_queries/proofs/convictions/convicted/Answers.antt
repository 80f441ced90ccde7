use Rattle.std.proofs.Common.{List, map, filter, ap, ◌∙◌}
use Rattle.std.proofs.lemmas.List.{take_all}
use Rattle.depot_base.specs.declared.key.RosterEntry.{RosterEntry}
use Rattle.depot_model.specs.checks.Checks.{Setting}
use Rattle.depot_model.specs.exchange.Hello.{convicted_nodes}
use Rattle.depot_model.specs.journals.Journal.{is_convicted}
use Rattle.depot_queries.proofs.convictions.convicted.Goals as goal

pub returns : goal.returns
unfolding convicted_nodes
returns g c =
    let entries = c.entries-entry-items.result.now in
    let listed = c.entries-entry-items.ensures.same ∙ c.roster.ensures ∙ ap (λ (s : Setting). s.listed) c.state-state.ensures.stands in
    c.loop-entry.invariant
    ∙ ap (λ (es : List RosterEntry). filter (is_convicted c.args.readings.now.records) (map (λ (e : RosterEntry). e.node) es)) (take_all c.loop-entry.entry-index entries c.loop-entry-test.false ∙ listed)
