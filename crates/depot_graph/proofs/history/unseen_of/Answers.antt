use Rattle.std.proofs.Common.{◌+◌, ◌<◌, ℕ, List, length, get_or, sym, subst}
use Rattle.std.proofs.lemmas.List.{take_all}
use Rattle.std.proofs.lemmas.Option.{slice_get-get_or}
use Rattle.depot_model.specs.lists.Lists.{IsIn}
use Rattle.depot_model.proofs.lists.Elements.{each_at}
use Rattle.depot_graph.specs.Kept.{updates_in}
use Rattle.depot_graph.proofs.Leaving.{AreUnseen, unseen_one, unseen_same}
use Rattle.depot_graph.proofs.history.unseen_of.Goals as goal
use Rattle.depot_graph.proofs.history.unseen_of.Goals.{then-is_unseen+in_ok-push, else-is_unseen}

pub loop-item-preserved : goal.loop-item-preserved
loop-item-preserved c =
    let us = updates_in c.args.graph.now.items.entries in
    let items = c.args.items.now in
    let i = c.loop-item.item-index in
    elim c.if-is_unseen.branch as (λ _. AreUnseen us items c.args.me c.args.last c.if-is_unseen.unseen.items (i + 1)) [
      | then-is_unseen+in_ok-push w ↦
          let inside = each_at (λ item. item < length us) items i (get_or items i 0) c.requires.items (slice_get-get_or items i 0 c.loop-item-test.true) in
          rw (w.unseen-is, w.in_ok-push.ensures.items) (unseen_one us items c.args.me c.args.last c.loop-item.unseen.items i c.loop-item-test.true c.loop-item.invariant inside (c.is_unseen.ensures.0 w.if-is_unseen.true))
      | else-is_unseen w ↦
          rw w.unseen-is (unseen_same us items c.args.me c.args.last c.loop-item.unseen.items i c.loop-item-test.true c.loop-item.invariant
          (λ here. let hit = c.is_unseen.ensures.1 here in let none = w.if-is_unseen.false in absurd cc))
    ]

pub returns-clause-unseen : goal.returns-clause-unseen
returns-clause-unseen c = λ n.
    let whole = take_all c.loop-item.item-index c.args.items.now c.loop-item-test.false in (
      (λ on. let known = c.loop-item.invariant.only n on in (subst (λ (ns : List ℕ). IsIn n ns) whole known.0, known.1)),
      (λ both. c.loop-item.invariant.all n (subst (λ (ns : List ℕ). IsIn n ns) (sym whole) both.0) both.1),
    )
