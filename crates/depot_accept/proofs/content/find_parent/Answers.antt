use Rattle.std.proofs.Common.{sym}
use Rattle.depot_accept.proofs.NamedUpdates.{not_lost, is_lost}
use Rattle.depot_accept.proofs.content.find_parent.Goals as goal

pub returns-in_default-clause-first : goal.returns-in_default-clause-first
returns-in_default-clause-first g c = is_lost (g.P.Past.updates c.args.past.now) c.args.id.now (sym c.in_default.ensures)

pub returns-clause-first : goal.returns-clause-first
returns-clause-first g c = not_lost (g.P.Past.updates c.args.past.now) c.args.id.now c.in-Some.item (sym c.in-Some.ensures)
