use Rattle.std.proofs.Common.{ap, subst, ◌∙◌}
use Rattle.sha2.specs.Sha256.{sha256}
use Rattle.depot_model.specs.readers.Pruning.{pruned}
use Rattle.depot_accept.specs.StateView.{setting}
use Rattle.depot_accept.specs.ToSignature.{IsCheckedToSignature}
use Rattle.depot_accept.specs.declared.answer.Front.TheVariants as front
use Rattle.depot_trim.proofs.ReaderTold.{told_known, told_early}
use Rattle.depot_trim.proofs.ReaderTakes.{id_of_body, front_here}
use Rattle.depot_trim.proofs.trimmed.Trimmed.take_signed.Goals as goal

pub check_to_signature-requires-clause-id : goal.check_to_signature-requires-clause-id
check_to_signature-requires-clause-id g c = id_of_body c.args.signed _ c.requires.signed (c.hash_of-id.ensures ∙ ap sha256 c.as_slice.ensures)

pub take_passed-requires-clause-id : goal.take_passed-requires-clause-id
take_passed-requires-clause-id g c = id_of_body c.args.signed _ c.requires.signed (c.hash_of-id.ensures ∙ ap sha256 c.as_slice.ensures)

pub take_passed-requires-clause-passed : goal.take_passed-requires-clause-passed
take_passed-requires-clause-passed g c R is =
    let K = pruned R.trimmed R.journal in
    front_here g.S.Scheme.verifies R c.args.self.now is c.args.signed front.Passed (subst (IsCheckedToSignature (setting g.S.Scheme.verifies c.args.self.now.state) K c.args.signed) c.in-Passed.is (c.check_to_signature.ensures K is.state))

pub returns-in-Known : goal.returns-in-Known
returns-in-Known g c R is =
    let K = pruned R.trimmed R.journal in
    let here = front_here g.S.Scheme.verifies R c.args.self.now is c.args.signed front.Known (subst (IsCheckedToSignature (setting g.S.Scheme.verifies c.args.self.now.state) K c.args.signed) c.in-Known.is (c.check_to_signature.ensures K is.state)) in
    (R, (told_known R is.lawful is.below c.args.signed here.known here.answer, is))

pub returns-in-Refused : goal.returns-in-Refused
returns-in-Refused g c R is =
    let K = pruned R.trimmed R.journal in
    let fails = front_here g.S.Scheme.verifies R c.args.self.now is c.args.signed (front.Refused c.in-Refused.check) (subst (IsCheckedToSignature (setting g.S.Scheme.verifies c.args.self.now.state) K c.args.signed) c.in-Refused.is (c.check_to_signature.ensures K is.state)) in
    (R, (told_early R is.lawful is.below c.args.signed c.in-Refused.check fails.new fails.failed fails.answer fails.grows, is))
