use Rattle.depot_session.proofs.RightExports.{exported}
use Rattle.depot_session.proofs.session_laws.exports_are_right.Goals as goal

pub returns : goal.returns
returns c = exported
