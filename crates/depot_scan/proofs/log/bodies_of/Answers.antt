use Rattle.std.proofs.Common.{◌≡◌, List, [], ◌++◌, ◌∷◌, length, ap, sym, subst, ◌∙◌, arith}
use Rattle.std.proofs.lemmas.Bool.{eqb-true}
use Rattle.std.proofs.lemmas.List.{nil_from_length, map_push}
use Rattle.std.proofs.lemmas.Result.{err_from_is_err_and}
use Rattle.depot_base.specs.declared.update.Update.{Update}
use Rattle.depot_scan.specs.Bodies.{updates}
use Rattle.depot_scan.specs.declared.body.Body.{Body}
use Rattle.depot_scan.proofs.LogSteps.{IsRead, none_read, one_read, reads_log, reads_fault, front_shorter, left_within}
use Rattle.depot_scan.proofs.log.bodies_of.Goals as goal

pub loop-rest-init : goal.loop-rest-init
loop-rest-init c = rw c.in_ok-bodies.ensures.items (none_read c.args.log.now)

pub returns-in_err-body : goal.returns-in_err-body
returns-in_err-body c =
    let p = err_from_is_err_and c.from_residual-in_err-body.result c.from_residual-in_err-body.ensures.1 in
    let within = left_within c.args.log.now (updates c.loop-rest.bodies.items) c.loop-rest.rest.now c.loop-rest.invariant in
    rw (p.1, p.2) (reads_fault c.args.log.now (updates c.loop-rest.bodies.items) c.loop-rest.rest.now _ c.in_err-body.field-0.0 c.loop-rest.invariant (omega (arith, within)) c.in_err-body.ensures)

pub loop-rest-smaller : goal.loop-rest-smaller
loop-rest-smaller c = front_shorter c.loop-rest.rest.now c.in_ok-body.body.update c.in_ok-body.after.now c.in_ok-body.body.is_update c.in_ok-body.ensures

pub loop-rest-preserved : goal.loop-rest-preserved
loop-rest-preserved c =
    let us : updates c.push.new.self.items ≡ updates c.loop-rest.bodies.items ++ c.in_ok-body.body.update ∷ [] = ap updates c.in_ok-push.ensures.items ∙ map_push (λ (b : Body). b.update) c.loop-rest.bodies.items c.in_ok-body.body in
    subst (λ (vs : List Update). IsRead c.args.log.now vs c.in_ok-body.after.now) (sym us)
    (one_read c.args.log.now (updates c.loop-rest.bodies.items) c.loop-rest.rest.now c.in_ok-body.body.update c.in_ok-body.after.now c.loop-rest.invariant c.in_ok-body.body.is_update c.in_ok-body.ensures)

pub returns : goal.returns
returns c =
    let none : c.loop-rest.rest.now ≡ [] = nil_from_length c.loop-rest.rest.now (eqb-true (length c.loop-rest.rest.now) 0 (sym c.is_empty.ensures ∙ c.loop-rest-test.false)) in
    reads_log c.args.log.now (updates c.loop-rest.bodies.items) c.loop-rest.rest.now c.loop-rest.invariant none
