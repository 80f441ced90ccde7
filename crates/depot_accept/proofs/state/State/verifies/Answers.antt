use Rattle.depot_accept.proofs.CheckAnswers.{signed_by}
use Rattle.depot_accept.proofs.state.State.verifies.Goals as goal

pub returns : goal.returns
returns g c = signed_by g.S.Scheme.verifies c.args.self.now.listed c.args.signed.now c.args.key.now c.seq.result c.as_slice.result.now c.as_slice-2.result.now c.verify.result c.requires c.seq.ensures c.as_slice.ensures c.as_slice-2.ensures c.verify.ensures
