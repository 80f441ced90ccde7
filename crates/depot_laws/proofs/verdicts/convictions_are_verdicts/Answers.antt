use Rattle.depot_laws.proofs.convicting.GoodProofs.{verdict_from_allowed, allowed_from_verdict}
use Rattle.depot_laws.proofs.verdicts.convictions_are_verdicts.Goals as goal

pub returns : goal.returns
returns c here J p some = (verdict_from_allowed here J p, allowed_from_verdict here J p some)
