use Rattle.depot_accept.specs.StateView.{setting}
use Rattle.depot_decide.proofs.RowsOfNew.{new_comes}
use Rattle.depot_decide.proofs.checked.accept.Goals as goal

pub returns-clause-row : goal.returns-clause-row
returns-clause-row g c = new_comes (setting g.S.Scheme.verifies c.args.state.now) c.args.state.now c.args.signed c.args.found _ c.args.parents c.requires.new c.in_ok-growth.ensures c.requires.row
