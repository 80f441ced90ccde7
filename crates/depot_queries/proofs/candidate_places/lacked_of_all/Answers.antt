use Rattle.std.proofs.Common.{◌+◌, ◌<◌, length, get_or, sym, subst, ◌∙◌, arith}
use Rattle.std.proofs.lemmas.Option.{slice_get-get_or}
use Rattle.depot_graph.specs.Kept.{updates_in}
use Rattle.depot_model.specs.exchange.Bundle.{is_candidate}
use Rattle.depot_base.proofs.GeneralLaws.{at_place}
use Rattle.depot_queries.proofs.BesidePlaces.{IsSoFar, so_far_more, so_far_same, so_far_all}
use Rattle.depot_queries.proofs.candidate_places.lacked_of_all.Goals as goal
use Rattle.depot_queries.proofs.candidate_places.lacked_of_all.Goals.{then-is_lacked+in_ok-push, else-is_lacked}

pub loop-item-preserved : goal.loop-item-preserved
loop-item-preserved c = λ ids are.
    let us = updates_in c.args.graph.now.items.entries in
    let ns = c.args.places.now in
    let within : c.loop-item.item < length us = omega (arith, c.loop-item-test.true, c.count-item-end.ensures) in
    let u = at_place us c.loop-item.item within in
    let n = get_or ns c.loop-item.item 0 in
    let also = slice_get-get_or ns c.loop-item.item 0 (omega (arith, within, c.requires.beside)) in
    let test = is_candidate us ids c.args.reader in
    let told = sym (c.is_lacked.ensures ids u.0 are u.1) in
    elim c.if-is_lacked.branch as (λ _. IsSoFar test us ns (c.loop-item.item + 1) c.if-is_lacked.found) [
      | then-is_lacked+in_ok-push w ↦
          subst (IsSoFar test us ns (c.loop-item.item + 1)) (sym (w.found-is ∙ w.in_ok-push.ensures.ok)) (so_far_more test us ns c.loop-item.item u.0 n c.loop-item.found u.1 also (told ∙ w.if-is_lacked.true) (c.loop-item.invariant ids are))
      | else-is_lacked w ↦
          subst (IsSoFar test us ns (c.loop-item.item + 1)) (sym w.found-is) (so_far_same test us ns c.loop-item.item u.0 n c.loop-item.found u.1 also (told ∙ w.if-is_lacked.false) (c.loop-item.invariant ids are))
    ]

pub returns : goal.returns
returns c = λ ids are.
    let us = updates_in c.args.graph.now.items.entries in
    so_far_all (is_candidate us ids c.args.reader) us c.args.places.now c.loop-item.item c.loop-item.found (omega (arith, c.loop-item-test.false, c.count-item-end.ensures)) (c.loop-item.invariant ids are)
