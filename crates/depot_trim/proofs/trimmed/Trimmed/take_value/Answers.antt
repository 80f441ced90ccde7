use Rattle.depot_model.specs.checks.Checks.{given_value}
use Rattle.depot_model.specs.readers.Readers.{reader_outcome, reader_takes}
use Rattle.depot_model.specs.checks.Taking.{as_value}
use Rattle.depot_trim.proofs.ReaderTexts.{value_read, value_too_long}
use Rattle.depot_trim.proofs.ReaderTakes.{becomes_as}
use Rattle.depot_trim.proofs.trimmed.Trimmed.take_value.Goals as goal

pub returns-then-text-gt-MOST_VALUE : goal.returns-then-text-gt-MOST_VALUE
returns-then-text-gt-MOST_VALUE g c R is = (R, (value_too_long R c.args.text.now c.if-text-gt-MOST_VALUE.true, is))

pub returns : goal.returns
returns g c R is =
    let text = c.args.text.now in
    becomes_as g.S.Scheme.verifies R (reader_takes R as_value text) (reader_outcome R (given_value text)) c.take_short.result c.take_short.new.self (value_read R text c.if-text-gt-MOST_VALUE.false) (c.take_short.ensures R is)
