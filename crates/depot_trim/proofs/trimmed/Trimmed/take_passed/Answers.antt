use Rattle.std.proofs.Common.{◌∙◌}
use Rattle.depot_model.specs.checks.Checks.{given_statement}
use Rattle.depot_model.specs.readers.Pruning.{pruned}
use Rattle.depot_model.specs.readers.Readers.{reader_outcome, told_as_node}
use Rattle.depot_trim.proofs.ReaderTold.{told_below, told_here}
use Rattle.depot_trim.proofs.ReaderTakes.{becomes_as, passed_checked, statement_decided, first_below}
use Rattle.depot_trim.proofs.trimmed.Trimmed.take_passed.Goals as goal

pub returns-in-Some : goal.returns-in-Some
returns-in-Some g c R is =
    let stands = first_below g.S.Scheme.verifies R c.args.self.now is c.args.signed c.first_named.result (c.requires.passed R is) (λ ts are. c.first_named.ensures ts are) ∙ c.in-Some.is in
    (told_below R c.args.signed c.in-Some.below stands, is)

pub decide_checked-requires-clause-checked : goal.decide_checked-requires-clause-checked
decide_checked-requires-clause-checked g c =
    let R = c.requires.reader.0 in
    let is = c.requires.reader.1 in
    let K = pruned R.trimmed R.journal in
    (K, (is.state, passed_checked g.S.Scheme.verifies R c.args.self.now is c.args.signed c.check_after_signature-checked.result (c.requires.passed R is) (c.check_after_signature-checked.ensures K is.state)))

pub carry_out-requires-clause-reader : goal.carry_out-requires-clause-reader
carry_out-requires-clause-reader g c =
    let R = c.requires.reader.0 in
    let is = c.requires.reader.1 in
    let K = pruned R.trimmed R.journal in
    let above = first_below g.S.Scheme.verifies R c.args.self.now is c.args.signed c.first_named.result (c.requires.passed R is) (λ ts are. c.first_named.ensures ts are) ∙ c.in_default.is in
    let checked = passed_checked g.S.Scheme.verifies R c.args.self.now is c.args.signed c.check_after_signature-checked.result (c.requires.passed R is) (c.check_after_signature-checked.ensures K is.state) in
    (R, (is, (given_statement c.args.signed, statement_decided g.S.Scheme.verifies R c.args.self.now is c.args.signed _ _ c.requires.signed above (c.in_ok-decision.ensures.decided K is.state checked))))

pub returns : goal.returns
returns g c R is =
    let K = pruned R.trimmed R.journal in
    let above = first_below g.S.Scheme.verifies R c.args.self.now is c.args.signed c.first_named.result (c.requires.passed R is) (λ ts are. c.first_named.ensures ts are) ∙ c.in_default.is in
    let checked = passed_checked g.S.Scheme.verifies R c.args.self.now is c.args.signed c.check_after_signature-checked.result (c.requires.passed R is) (c.check_after_signature-checked.ensures K is.state) in
    becomes_as g.S.Scheme.verifies R (reader_outcome R (given_statement c.args.signed)) (told_as_node R (given_statement c.args.signed)) c.carry_out.result c.carry_out.new.self (told_here R c.args.signed above)
    (c.carry_out.ensures R (given_statement c.args.signed) is (statement_decided g.S.Scheme.verifies R c.args.self.now is c.args.signed _ _ c.requires.signed above (c.in_ok-decision.ensures.decided K is.state checked)))
