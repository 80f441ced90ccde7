use Rattle.std.proofs.Common.{subst}
use Rattle.depot_accept.specs.StateView.{setting}
use Rattle.depot_accept.specs.ToSignature.{IsCheckedToSignature}
use Rattle.depot_accept.proofs.CheckAnswers.{checked_known, checked_early, checked_later}
use Rattle.depot_accept.proofs.state.State.check.Goals as goal

pub returns-in-Known : goal.returns-in-Known
returns-in-Known g c = λ J state.
    let here = setting g.S.Scheme.verifies c.args.self.now in
    checked_known here J c.args.signed.now (subst (IsCheckedToSignature here J c.args.signed.now) c.in-Known.is (c.check_to_signature.ensures J state))

pub returns-in-Refused : goal.returns-in-Refused
returns-in-Refused g c = λ J state.
    let here = setting g.S.Scheme.verifies c.args.self.now in
    checked_early here J c.args.signed.now c.in-Refused.check c.refused.result (subst (IsCheckedToSignature here J c.args.signed.now) c.in-Refused.is (c.check_to_signature.ensures J state)) c.refused.ensures

pub returns-in-Passed : goal.returns-in-Passed
returns-in-Passed g c = λ J state.
    let here = setting g.S.Scheme.verifies c.args.self.now in
    checked_later here J c.args.signed.now c.check_after_signature.result (subst (IsCheckedToSignature here J c.args.signed.now) c.in-Passed.is (c.check_to_signature.ensures J state)) (c.check_after_signature.ensures J state)
