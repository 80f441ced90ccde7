use Rattle.std.proofs.Common.{Err, refl, ap}
use Rattle.depot_base.specs.declared.fault.DecodeError.{DecodeError}
use Rattle.depot_model.specs.checks.Checks.{given_statement}
use Rattle.depot_model.specs.readers.Readers.{reader_outcome, reader_takes}
use Rattle.depot_model.specs.checks.Taking.{as_statement}
use Rattle.depot_trim.proofs.ReaderTexts.{statement_read, statement_unread}
use Rattle.depot_trim.proofs.ReaderTakes.{becomes_as}
use Rattle.depot_trim.proofs.trimmed.Trimmed.take_statement.Goals as goal

pub take_signed-requires-clause-text : goal.take_signed-requires-clause-text
take_signed-requires-clause-text g c = (c.in-Ok.ensures.found c.in-Ok.signed refl).1

pub returns-in-Ok : goal.returns-in-Ok
returns-in-Ok g c R is =
    let read = c.in-Ok.ensures.found c.in-Ok.signed refl in
    becomes_as g.S.Scheme.verifies R (reader_takes R as_statement c.args.text.now) (reader_outcome R (given_statement c.in-Ok.signed)) c.take_signed.result c.take_signed.new.self (statement_read R c.args.text.now c.in-Ok.signed read.0 read.1) (c.take_signed.ensures R is)

pub returns-in-Err-IllFormed : goal.returns-in-Err-IllFormed
returns-in-Err-IllFormed g c R is = (R, (statement_unread R c.args.text.now c.in-Err-IllFormed.at (c.in-Err-IllFormed.ensures.ill_formed c.in-Err-IllFormed.at (ap (λ (e : DecodeError). Err e) c.in-Err-IllFormed.field-0-is)), is))
