use Rattle.depot_model.specs.checks.Checks.{growth}
use Rattle.depot_model.specs.checks.Vouching.{records_of}
use Rattle.depot_laws.proofs.of_audits.TrueReceipts.{no_receipts_yet, front_is_true, silent_is_true, put_is_true, plain_put_is_true, receipt_put_is_true, growth_puts_none, vouchers_put_none, due_receipts}
use Rattle.depot_laws.proofs.receipts.receipts_stay_true.Goals as goal

pub returns-clause-none : goal.returns-clause-none
returns-clause-none c = no_receipts_yet

pub returns-clause-front : goal.returns-clause-front
returns-clause-front c J more a = front_is_true J more a

pub returns-clause-silent : goal.returns-clause-silent
returns-clause-silent c J new none a = silent_is_true J new none a

pub returns-clause-given : goal.returns-clause-given
returns-clause-given c here J x a = silent_is_true J (growth here J x) (growth_puts_none here J x) a

pub returns-clause-vouched : goal.returns-clause-vouched
returns-clause-vouched c J vs a = silent_is_true J (records_of vs) (vouchers_put_none vs) a

pub returns-clause-put : goal.returns-clause-put
returns-clause-put c J u value each a = put_is_true J u value each a

pub returns-clause-due : goal.returns-clause-due
returns-clause-due c J ids h e on = due_receipts J ids h e on

pub returns-clause-plain : goal.returns-clause-plain
returns-clause-plain c J u value keys a = plain_put_is_true J u value keys a

pub returns-clause-receipts : goal.returns-clause-receipts
returns-clause-receipts c J u value ids due keys a = receipt_put_is_true J u value ids due keys a
