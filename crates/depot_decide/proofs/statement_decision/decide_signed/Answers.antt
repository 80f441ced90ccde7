use Rattle.std.proofs.Common.{List, sym, ap, subst, ◌∙◌}
use Rattle.sha2.specs.Sha256.{sha256}
use Rattle.depot_readings.specs.ReadingsView.{standing}
use Rattle.depot_accept.specs.StateView.{setting}
use Rattle.depot_model.specs.checks.Checks.{given_statement}
use Rattle.depot_base.specs.declared.update.Update.{Update}
use Rattle.depot_decide.specs.Deciding.{ComeWithRow}
use Rattle.depot_decide.proofs.Decided.{if_decided, decided_here}
use Rattle.depot_decide.proofs.Dues.{id_of_body}
use Rattle.depot_decide.proofs.statement_decision.decide_signed.Goals as goal

pub check-checked-requires-clause-id : goal.check-checked-requires-clause-id
check-checked-requires-clause-id g c = id_of_body c.args.signed _ c.requires.signed (c.hash_of-id.ensures ∙ ap sha256 c.as_slice.ensures)

pub decide_checked-requires-clause-id : goal.decide_checked-requires-clause-id
decide_checked-requires-clause-id g c = id_of_body c.args.signed _ c.requires.signed (c.hash_of-id.ensures ∙ ap sha256 c.as_slice.ensures)

pub decide_checked-requires-clause-checked : goal.decide_checked-requires-clause-checked
decide_checked-requires-clause-checked g c = (c.args.readings.now.records, (c.state-state.ensures.state, c.check-checked.ensures c.args.readings.now.records c.state-state.ensures.state))

pub returns-clause-decided : goal.returns-clause-decided
returns-clause-decided g c =
    if_decided c.decide_checked.result
    (λ d is. decided_here (standing g.S.Scheme.verifies c.args.readings.now) (setting g.S.Scheme.verifies c.state-state.result.now) c.args.readings.now.records (given_statement c.args.signed) d c.state-state.ensures.stands
    (is c.args.readings.now.records c.state-state.ensures.state (c.check-checked.ensures c.args.readings.now.records c.state-state.ensures.state)))
    c.decide_checked.ensures.decided

pub returns-clause-row : goal.returns-clause-row
returns-clause-row g c =
    if_decided c.decide_checked.result (λ d comes. subst (λ (us : List Update). ComeWithRow us d.growth d.parents) (sym c.state-state.ensures.state.accepted) comes) c.decide_checked.ensures.row
