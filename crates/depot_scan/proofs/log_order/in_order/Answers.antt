use Rattle.std.proofs.Common.{rules, ◌≡◌, List, [], length, sym, subst, ◌∙◌, arith}
use Rattle.std.proofs.lemmas.Bool.{not-true, not-false}
use Rattle.std.proofs.lemmas.List.{nil_from_length}
use Rattle.std.specs.Vec.Iter.{into_iter_items}
use Rattle.depot_scan.specs.Ids.{knows}
use Rattle.depot_scan.specs.declared.body.Body.{Body}
use Rattle.depot_scan.proofs.OrderSteps.{Ordering, ordering_none, ordering_more, ordering_again, ordering_here, ordering_all}
use Rattle.depot_scan.proofs.log_order.in_order.Goals as goal

pub loop-body-init : goal.loop-body-init
loop-body-init c =
    let all : into_iter_items c.into_iter-body-iterator.result ≡ c.args.bodies.items = search rules in
    let start = ordering_none c.args.bodies.items (knows c.args.ids.now) c.requires.none in
    record {
      order = rw c.in_ok-kept.ensures.items (subst (λ (left : List Body). Ordering c.args.bodies.items left [] (knows c.args.ids.now) 0) (sym all) start);
      uncovered = c.requires.uncovered;
    }

pub returns-then-not-has_parents-clause-order : goal.returns-then-not-has_parents-clause-order
returns-then-not-has_parents-clause-order c =
    ordering_here c.args.bodies.items (into_iter_items c.next.new.self) c.loop-body.kept.items c.in-Some.body (knows c.loop-body.ids) c.loop-body.place
    (subst (λ (left : List Body). Ordering c.args.bodies.items left c.loop-body.kept.items (knows c.loop-body.ids) c.loop-body.place) c.in-Some.ensures.steps.0 c.loop-body.invariant.order)
    (sym c.has_parents.ensures ∙ c.if-not-has_parents.true)

pub loop-body-preserved-then-not-branch : goal.loop-body-preserved-then-not-branch
loop-body-preserved-then-not-branch c = record {
  order =
      ordering_again c.args.bodies.items (into_iter_items c.next.new.self) c.loop-body.kept.items c.in-Some.body (knows c.loop-body.ids) (knows c.insert.new.self) c.loop-body.place
      (subst (λ (left : List Body). Ordering c.args.bodies.items left c.loop-body.kept.items (knows c.loop-body.ids) c.loop-body.place) c.in-Some.ensures.steps.0 c.loop-body.invariant.order)
      (sym c.has_parents.ensures ∙ c.if-not-has_parents.false) (not-false _ (sym c.in_ok-insert.ensures.new ∙ c.if-not-branch.true)) c.in_ok-insert.ensures.more;
  uncovered = c.in_ok-insert.ensures.uncovered;
}

pub loop-body-preserved : goal.loop-body-preserved
loop-body-preserved c = record {
  order =
      ordering_more c.args.bodies.items (into_iter_items c.next.new.self) c.loop-body.kept.items c.push.new.self.items c.in-Some.body (knows c.loop-body.ids) (knows c.insert.new.self) c.loop-body.place
      (subst (λ (left : List Body). Ordering c.args.bodies.items left c.loop-body.kept.items (knows c.loop-body.ids) c.loop-body.place) c.in-Some.ensures.steps.0 c.loop-body.invariant.order)
      (sym c.has_parents.ensures ∙ c.if-not-has_parents.false) (not-true _ (sym c.in_ok-insert.ensures.new ∙ c.if-not-branch.false)) c.in_ok-insert.ensures.more c.in_ok-push.ensures.items;
  uncovered = c.in_ok-insert.ensures.uncovered;
}

pub returns-clause-order : goal.returns-clause-order
returns-clause-order c =
    let none : length (into_iter_items c.loop-body.body-iterator) ≡ 0 = omega (arith, c.in-None.ensures.steps.0, c.loop-body.body-iterator.rest.ok) in
    ordering_all c.args.bodies.items (into_iter_items c.loop-body.body-iterator) c.loop-body.kept.items (knows c.loop-body.ids) c.loop-body.place c.loop-body.invariant.order (nil_from_length _ none)
