use Rattle.depot_laws.proofs.records.HeldStays.{named_stays}
use Rattle.depot_laws.proofs.of_audits.TrueReceipts.{receipt_speaks, stays_held}
use Rattle.depot_laws.proofs.receipts.receipts_speak_of_held_values.Goals as goal

pub returns-clause-speaks : goal.returns-clause-speaks
returns-clause-speaks c J u h a on long gives = receipt_speaks J u h a on long gives

pub returns-clause-stays : goal.returns-clause-stays
returns-clause-stays c J more h a = stays_held J more h a

pub returns-clause-same : goal.returns-clause-same
returns-clause-same c J more n v e = named_stays J more n v e
