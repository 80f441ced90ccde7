use Rattle.std.proofs.Common.{◌≡◌, length, sym, ◌∙◌, arith}
use Rattle.std.proofs.lemmas.List.{nil_from_length}
use Rattle.depot_scan.specs.Ids.{is_id_covered}
use Rattle.depot_scan.proofs.WalkSteps.{walked_none, walked_on, walked_found, walked_all}
use Rattle.depot_scan.proofs.writes.uncovered.Goals as goal

pub loop-body-init : goal.loop-body-init
loop-body-init c = rw c.new-found.ensures.items (walked_none c.args.key.now c.args.bodies.items (is_id_covered c.args.ids.now) c.requires.none)

pub loop-body-preserved-then-not-branch : goal.loop-body-preserved-then-not-branch
loop-body-preserved-then-not-branch c =
    walked_on c.args.key.now c.args.bodies.items c.loop-body.bodies.items c.pop.new.self.items c.loop-body.found.items c.in-Some.body (is_id_covered c.loop-body.ids) (is_id_covered c.visit.new.ids) c.loop-body.invariant c.in-Some.ensures.items
    (sym c.in_ok-visit.ensures.latest ∙ c.if-not-branch.true) c.in_ok-visit.ensures.covers

pub loop-body-preserved : goal.loop-body-preserved
loop-body-preserved c =
    walked_found c.args.key.now c.args.bodies.items c.loop-body.bodies.items c.pop.new.self.items c.loop-body.found.items c.push.new.self.items c.in-Some.body (is_id_covered c.loop-body.ids) (is_id_covered c.visit.new.ids) c.loop-body.invariant c.in-Some.ensures.items
    (sym c.in_ok-visit.ensures.latest ∙ c.if-not-branch.false) c.in_ok-visit.ensures.covers c.in_ok-push.ensures.items

pub returns : goal.returns
returns c =
    let none : length c.loop-body.bodies.items ≡ 0 = omega (arith, c.in_default.ensures.cases.0) in
    walked_all c.args.key.now c.args.bodies.items c.loop-body.bodies.items (is_id_covered c.loop-body.ids) c.loop-body.found.items c.loop-body.invariant (nil_from_length c.loop-body.bodies.items none)
