use Rattle.std.proofs.Common.{[], Ok, Err, ap, subst, ◌∙◌}
use Rattle.depot_model.specs.declared.taken.Taken.TheVariants.{Known}
use Rattle.depot_model.specs.checks.Checks.{given_statement}
use Rattle.depot_accept.specs.CheckResults.{IsChecked}
use Rattle.depot_accept.specs.StateView.{setting}
use Rattle.depot_accept.specs.declared.answer.CheckError.{CheckError}
use Rattle.depot_accept.specs.declared.answer.CheckError.TheVariants as failed
use Rattle.depot_accept.specs.declared.answer.Pass.{Pass}
use Rattle.depot_accept.specs.declared.answer.Pass.TheVariants as pass
use Rattle.depot_decide.proofs.Decided.{if_decided, made_decision}
use Rattle.depot_decide.proofs.Dues.{checked_as, voucher_is_new, update_is_new, decided_known}
use Rattle.depot_decide.proofs.RowsOfNew.{none_come, update_comes, voucher_comes}
use Rattle.depot_decide.proofs.checked.decide_checked.Goals as goal

pub accept-requires-clause-new : goal.accept-requires-clause-new
accept-requires-clause-new g c =
    let here = setting g.S.Scheme.verifies c.args.state.now in
    voucher_is_new here c.args.state.now c.args.signed (checked_as here c.args.state.now c.args.signed c.args.checked (Ok pass.Voucher) (c.in-Ok-Voucher.is ∙ ap (λ (p : Pass). Ok p) c.in-Ok-Voucher.field-0-is) c.requires.checked)

pub accept-requires-in-Ok-Update-clause-new : goal.accept-requires-in-Ok-Update-clause-new
accept-requires-in-Ok-Update-clause-new g c =
    let here = setting g.S.Scheme.verifies c.args.state.now in
    update_is_new here c.args.state.now c.args.signed c.in-Ok-Update.against c.in-Ok-Update.parents
    (checked_as here c.args.state.now c.args.signed c.args.checked (Ok (pass.Update c.in-Ok-Update.against c.in-Ok-Update.parents)) (c.in-Ok-Update.is ∙ ap (λ (p : Pass). Ok p) c.in-Ok-Update.field-0-is) c.requires.checked)

pub refuse-requires-clause-failed : goal.refuse-requires-clause-failed
refuse-requires-clause-failed g c =
    rw c.in-Err-Refused.field-0-is (checked_as (setting g.S.Scheme.verifies c.args.state.now) c.args.state.now c.args.signed c.args.checked (Err (failed.Refused c.in-Err-Refused.check c.in-Err-Refused.against)) (c.in-Err-Refused.is ∙ ap (λ (e : CheckError). Err e) c.in-Err-Refused.field-0-is) c.requires.checked)

pub returns-in-Ok-Known-clause-decided : goal.returns-in-Ok-Known-clause-decided
returns-in-Ok-Known-clause-decided g c = λ J state checked.
    let here = setting g.S.Scheme.verifies c.args.state.now in
    made_decision here J (given_statement c.args.signed) (Ok Known) [] _ c.of.ensures
    (decided_known here J c.args.signed (subst (IsChecked here J c.args.signed) (c.in-Ok-Known.is ∙ ap (λ (p : Pass). Ok p) c.in-Ok-Known.field-0-is) checked))

pub returns-in-Ok-Voucher-clause-decided : goal.returns-in-Ok-Voucher-clause-decided
returns-in-Ok-Voucher-clause-decided g c =
    let here = setting g.S.Scheme.verifies c.args.state.now in
    if_decided c.accept.result (λ d is J state checked. is J state (subst (IsChecked here J c.args.signed) (c.in-Ok-Voucher.is ∙ ap (λ (p : Pass). Ok p) c.in-Ok-Voucher.field-0-is) checked).1.1) c.accept.ensures.decided

pub returns-in-Ok-Update-clause-decided : goal.returns-in-Ok-Update-clause-decided
returns-in-Ok-Update-clause-decided g c =
    let here = setting g.S.Scheme.verifies c.args.state.now in
    if_decided c.accept-in-Ok-Update.result (λ d is J state checked. is J state (subst (IsChecked here J c.args.signed) (c.in-Ok-Update.is ∙ ap (λ (p : Pass). Ok p) c.in-Ok-Update.field-0-is) checked).1) c.accept-in-Ok-Update.ensures.decided

pub returns-clause-decided : goal.returns-clause-decided
returns-clause-decided g c =
    let here = setting g.S.Scheme.verifies c.args.state.now in
    if_decided c.refuse.result (λ d is J state checked. is J state (rw c.in-Err-Refused.field-0-is (subst (IsChecked here J c.args.signed) (c.in-Err-Refused.is ∙ ap (λ (e : CheckError). Err e) c.in-Err-Refused.field-0-is) checked))) c.refuse.ensures.decided

-- ---- the row of its parents

pub accept-requires-clause-row : goal.accept-requires-clause-row
accept-requires-clause-row g c =
    let here = setting g.S.Scheme.verifies c.args.state.now in
    voucher_comes here c.args.state.now c.args.signed (checked_as here c.args.state.now c.args.signed c.args.checked (Ok pass.Voucher) (c.in-Ok-Voucher.is ∙ ap (λ (p : Pass). Ok p) c.in-Ok-Voucher.field-0-is) c.requires.checked)

pub accept-requires-in-Ok-Update-clause-row : goal.accept-requires-in-Ok-Update-clause-row
accept-requires-in-Ok-Update-clause-row g c =
    let here = setting g.S.Scheme.verifies c.args.state.now in
    update_comes here c.args.state.now c.args.signed c.in-Ok-Update.against c.in-Ok-Update.parents
    (checked_as here c.args.state.now c.args.signed c.args.checked (Ok (pass.Update c.in-Ok-Update.against c.in-Ok-Update.parents)) (c.in-Ok-Update.is ∙ ap (λ (p : Pass). Ok p) c.in-Ok-Update.field-0-is) c.requires.checked)

pub returns-in-Ok-Known-clause-row : goal.returns-in-Ok-Known-clause-row
returns-in-Ok-Known-clause-row g c = none_come c.args.state.now.accepted (Ok Known) _ c.of.ensures
