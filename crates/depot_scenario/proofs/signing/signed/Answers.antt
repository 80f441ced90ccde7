use Rattle.depot_scenario.proofs.SignedLaws.{parts_have_text}
use Rattle.depot_scenario.proofs.signing.signed.Goals as goal

pub returns-clause-fits : goal.returns-clause-fits
returns-clause-fits g c =
    parts_have_text (g.G.Signer.signature_of c.args.signer.now) c.args.statement c.in_ok-body.body c.as_slice.result.now c.in_ok-signature.signature c.seq.result c.in_ok-body.ensures.text c.as_slice.ensures c.seq.ensures c.in_ok-signature.ensures c.requires.fits (g.met.G.Signer.is_short c.args.signer.now)
