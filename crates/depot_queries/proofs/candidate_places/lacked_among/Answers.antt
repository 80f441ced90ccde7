use Rattle.std.proofs.Common.{ℕ, ◌+◌, ◌<◌, ◌≤◌, [], refl, length, get_or, sym, subst, ◌∙◌, arith}
use Rattle.std.proofs.lemmas.Option.{slice_get-get_or}
use Rattle.depot_graph.specs.Causal.{causal_from_test}
use Rattle.depot_graph.specs.Kept.{updates_in}
use Rattle.depot_model.specs.exchange.Bundle.{is_candidate}
use Rattle.depot_model.proofs.lists.Elements.{each_at}
use Rattle.depot_base.proofs.GeneralLaws.{at_place}
use Rattle.depot_queries.proofs.BesidePlaces.{IsSoFar, so_far_more, so_far_same, so_far_all}
use Rattle.depot_queries.proofs.TailLaws.{looked_more, so_far_to}
use Rattle.depot_queries.proofs.candidate_places.lacked_among.Goals as goal
use Rattle.depot_queries.proofs.candidate_places.lacked_among.Goals.{then-is_lacked+in_ok-push, else-is_lacked}

pub loop-item-preserved : goal.loop-item-preserved
loop-item-preserved c =
    let us = updates_in c.args.graph.now.items.entries in
    let ns = c.args.places.now in
    let items = c.args.items.now in
    let i = c.loop-item.item-index in
    let item = get_or items i 0 in
    let inv = c.loop-item.invariant in
    let causal = causal_from_test [] us c.args.graph.now.causal in
    let within : item < length us = each_at (λ (k : ℕ). k < length us) items i item c.requires.inside (slice_get-get_or items i 0 c.loop-item-test.true) in
    let high : c.loop-item.next ≤ item = omega (arith, c.if-at-next.false) in
    let u = at_place us item within in
    let n = get_or ns item 0 in
    let also = slice_get-get_or ns item 0 (omega (arith, within, c.requires.beside)) in
    record {
      looked = looked_more us items i c.loop-item.next item refl high within inv.looked;
      so_far = λ ids joined.
          let test = is_candidate us ids c.args.reader in
          let told = sym (c.is_lacked.ensures ids u.0 joined u.1) in
          let here = so_far_to us ns c.args.row.now items ids c.args.reader i c.loop-item.next item c.loop-item.found causal joined c.requires.behind inv.looked c.requires.beside high (omega (arith, within))
          (λ j later low. c.requires.sorted i j 0 later low) (inv.so_far ids joined) in
          elim c.if-is_lacked.branch as (λ _. IsSoFar test us ns (item + 1) c.if-is_lacked.found) [
            | then-is_lacked+in_ok-push w ↦
                subst (IsSoFar test us ns (item + 1)) (sym (w.found-is ∙ w.in_ok-push.ensures.ok)) (so_far_more test us ns item u.0 n c.loop-item.found u.1 also (told ∙ w.if-is_lacked.true) here)
            | else-is_lacked w ↦
                subst (IsSoFar test us ns (item + 1)) (sym w.found-is) (so_far_same test us ns item u.0 n c.loop-item.found u.1 also (told ∙ w.if-is_lacked.false) here)
          ];
    }

pub returns : goal.returns
returns c = λ ids joined.
    let us = updates_in c.args.graph.now.items.entries in
    let items = c.args.items.now in
    let inv = c.loop-item.invariant in
    so_far_all (is_candidate us ids c.args.reader) us c.args.places.now (length us) c.loop-item.found (omega arith)
    (so_far_to us c.args.places.now c.args.row.now items ids c.args.reader c.loop-item.item-index c.loop-item.next (length us) c.loop-item.found (causal_from_test [] us c.args.graph.now.causal) joined c.requires.behind inv.looked c.requires.beside inv.looked.low (omega arith)
    (λ j later low. absurd (omega (arith, c.loop-item-test.false, later, low))) (inv.so_far ids joined))
