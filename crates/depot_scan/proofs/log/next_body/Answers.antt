use Rattle.std.proofs.Common.{◌≡◌, ℕ, ◌+◌, ap, ◌∙◌, sym, subst, arith}
use Rattle.depot_base.specs.Cursor.{Cursor}
use Rattle.depot_base.specs.declared.fault.Fault.{Fault}
use Rattle.depot_scan.specs.ScannedLog.{fault_of, ReadsFront}
use Rattle.depot_scan.proofs.LogSteps.{front_found, front_cut, front_past, front_failed, failing}
use Rattle.depot_scan.proofs.log.next_body.Goals as goal

pub returns-in_default : goal.returns-in_default
returns-in_default c = front_cut c.args.rest.now c.args.at c.new-fields.result c.take_u32.new.self c.new-fields.ensures c.requires.some c.in_default.ensures

pub returns-in_default-take_bytes : goal.returns-in_default-take_bytes
returns-in_default-take_bytes c =
    front_past c.args.rest.now c.args.at c.new-fields.result c.take_u32.new.self c.take_bytes.new.self c.in-Some.length c.new-fields.ensures c.in-Some.ensures c.in_default-take_bytes.ensures.takes

pub returns-in-Err : goal.returns-in-Err
returns-in-Err c =
    let four : c.at.result ≡ 4 = c.at.ensures ∙ ap (λ (x : Cursor). x.at) (c.in-Some.ensures.2) ∙ ap (λ (x : Cursor). x.at + 4) c.new-fields.ensures in
    let is : c.fault_of.result ≡ fault_of (c.args.at + 4) c.in-Err.error = c.fault_of.ensures ∙ ap (λ (n : ℕ). fault_of (c.args.at + n) c.in-Err.error) four in
    subst (λ (f : Fault). ReadsFront c.args.rest.now c.args.at (failing f)) (sym is)
    (front_failed c.args.rest.now c.in-Some-take_bytes.text.now c.args.at c.new-fields.result c.take_u32.new.self c.take_bytes.new.self c.in-Some.length c.in-Err.error c.new-fields.ensures c.in-Some.ensures c.in-Some-take_bytes.ensures.takes c.in-Err.ensures)

pub returns-in-Ok : goal.returns-in-Ok
returns-in-Ok c =
    front_found c.args.rest.now c.in-Some-take_bytes.text.now c.args.at c.new-fields.result c.take_u32.new.self c.take_bytes.new.self c.in-Some.length c.in-Ok.body.update c.rest.result.now (λ i. omega (arith, c.type_inv.rest i)) c.new-fields.ensures c.in-Some.ensures c.in-Some-take_bytes.ensures.takes c.in-Ok.ensures c.rest.ensures
