use Rattle.std.proofs.Common.{Err, refl, ap, ◌∙◌}
use Rattle.depot_base.specs.declared.fault.DecodeError.{DecodeError}
use Rattle.depot_model.specs.checks.Checks.{given_proof}
use Rattle.depot_model.specs.readers.Pruning.{pruned}
use Rattle.depot_model.specs.readers.Readers.{told_as_node, reader_takes}
use Rattle.depot_model.specs.checks.Taking.{as_proof}
use Rattle.depot_trim.proofs.ReaderTexts.{proof_read, proof_unread}
use Rattle.depot_trim.proofs.ReaderTold.{told_proof}
use Rattle.depot_trim.proofs.ReaderTakes.{becomes_as, proof_decided}
use Rattle.depot_trim.proofs.trimmed.Trimmed.take_proof.Goals as goal

pub decide_judged-requires-clause-text : goal.decide_judged-requires-clause-text
decide_judged-requires-clause-text g c = (c.in-Ok.ensures.found c.in-Ok.proof refl).1

pub carry_out-requires-clause-reader : goal.carry_out-requires-clause-reader
carry_out-requires-clause-reader g c =
    let R = c.requires.0 in
    let is = c.requires.1 in
    let fits = (c.in-Ok.ensures.found c.in-Ok.proof refl).0 in
    (R, (is, (given_proof c.in-Ok.proof, proof_decided g.S.Scheme.verifies R c.args.self.now is c.in-Ok.proof _ _ fits (c.in_ok-decision-in-Ok.ensures.decided (pruned R.trimmed R.journal) is.state))))

pub returns-in_ok-decision-in-Ok : goal.returns-in_ok-decision-in-Ok
returns-in_ok-decision-in-Ok g c R is =
    let read = c.in-Ok.ensures.found c.in-Ok.proof refl in
    becomes_as g.S.Scheme.verifies R (reader_takes R as_proof c.args.text.now) (told_as_node R (given_proof c.in-Ok.proof)) c.carry_out.result c.carry_out.new.self (proof_read R c.args.text.now c.in-Ok.proof read.0 read.1 ∙ told_proof R c.in-Ok.proof)
    (c.carry_out.ensures R (given_proof c.in-Ok.proof) is (proof_decided g.S.Scheme.verifies R c.args.self.now is c.in-Ok.proof _ _ read.0 (c.in_ok-decision-in-Ok.ensures.decided (pruned R.trimmed R.journal) is.state)))

pub returns-in-Err-IllFormed : goal.returns-in-Err-IllFormed
returns-in-Err-IllFormed g c R is = (R, (proof_unread R c.args.text.now c.in-Err-IllFormed.at (c.in-Err-IllFormed.ensures.ill_formed c.in-Err-IllFormed.at (ap (λ (e : DecodeError). Err e) c.in-Err-IllFormed.field-0-is)), is))
