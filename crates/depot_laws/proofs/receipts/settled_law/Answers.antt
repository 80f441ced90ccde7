use Rattle.depot_laws.proofs.of_audits.Settled.{settled}
use Rattle.depot_laws.proofs.receipts.settled_law.Goals as goal

pub returns : goal.returns
returns x W k world authentic genuine few c h c_on long many = settled W world c h k authentic genuine few c_on long many
