use Rattle.depot_session.proofs.FittingScripts.{put_fits, puts_fit, receipt_fits}
use Rattle.depot_session.proofs.requesting.request_alone.Goals as goal

pub returns-in_ok-one_change-in-Put-clause-request : goal.returns-in_ok-one_change-in-Put-clause-request
returns-in_ok-one_change-in-Put-clause-request c = rw c.in_ok-one_change-in-Put.ensures (put_fits c.in-Put.key c.in-Put.value (rw c.in-Put.is at c.requires.fits))

pub returns-in_ok-copy-in-Puts-clause-request : goal.returns-in_ok-copy-in-Puts-clause-request
returns-in_ok-copy-in-Puts-clause-request c = rw c.in_ok-copy-in-Puts.ensures (puts_fit c.in-Puts.changes (rw c.in-Puts.is at c.requires.fits))

pub returns-in_ok-one_id-in-Receipt-clause-request : goal.returns-in_ok-one_id-in-Receipt-clause-request
returns-in_ok-one_id-in-Receipt-clause-request c = rw c.in_ok-one_id-in-Receipt.ensures (receipt_fits c.in-Receipt.id (rw c.in-Receipt.is at c.requires.fits))
