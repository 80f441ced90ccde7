use Rattle.std.proofs.Common.{◌≡◌, ◌<◌, ◌+◌, ℕ, List, length, subst, arith}
use Rattle.std.specs.List.{AllByRecursion}
use Rattle.depot_model.specs.lists.Items.{children_of}
use Rattle.depot_model.specs.lists.Lists.{IsIn}
use Rattle.depot_model.proofs.lists.Members.{all_push}
use Rattle.depot_order.specs.Spots.{IsSpotAt}
use Rattle.depot_graph.specs.Kept.{updates_in, prev_places}
use Rattle.depot_graph.specs.UpdateRows.{IsJoinedRow}
use Rattle.depot_graph.specs.PastChains.{IsLastOfChain}
use Rattle.depot_graph.proofs.ChainLeaves.{AreFound, found_none, found_one, found_all, last_is_counted, none_is_counted, at_within}
use Rattle.depot_graph.proofs.past_chain.leaves_of_past.Goals as goal
use Rattle.depot_graph.proofs.past_chain.leaves_of_past.Goals.{then-not-has_covered_child+in_ok-push, else-not-has_covered_child}

pub loop-chain-preserved-in_default : goal.loop-chain-preserved-in_default
loop-chain-preserved-in_default c =
    let us = updates_in c.args.graph.now.items.entries in
    let i = c.loop-chain.chain in
    record {
      inside = c.loop-chain.invariant.inside;
      found = λ items joined. found_none us items c.loop-chain.found.items i (c.loop-chain.invariant.found items joined) (λ n place at last. none_is_counted us items c.args.row.now i n place joined c.in_default.ensures.none at last);
    }

pub has_covered_child-requires-clause-item : goal.has_covered_child-requires-clause-item
has_covered_child-requires-clause-item c = let m = c.in-Some.ensures.some in at_within (updates_in c.args.graph.now.items.entries) c.in-Some.item c.loop-chain.chain m.place m.at

pub loop-chain-preserved : goal.loop-chain-preserved
loop-chain-preserved c =
    let us = updates_in c.args.graph.now.items.entries in
    let i = c.loop-chain.chain in
    let m = c.in-Some.item in
    let row = c.args.row.now in
    let counted = c.in-Some.ensures.some in
    let within : m < length us = at_within us m i counted.place counted.at in
    let one : (items : List ℕ) → IsJoinedRow us items row → (n place : ℕ) → IsSpotAt (prev_places us) n i place → IsLastOfChain us items n → m ≡ n = λ items joined n place at last. last_is_counted us items row i m n place joined counted at last in
    let old = c.loop-chain.found.items in
    elim c.if-not-has_covered_child.branch as (λ _. record { inside : AllByRecursion (λ n. n < length us) c.if-not-has_covered_child.found.items; found : (items : List ℕ) → IsJoinedRow us items row → AreFound us items c.if-not-has_covered_child.found.items (i + 1) }) [
      | then-not-has_covered_child+in_ok-push w ↦ rw (w.found-is, w.in_ok-push.ensures.items) (record {
        inside = all_push (λ n. n < length us) old m c.loop-chain.invariant.inside within;
        found = λ items joined.
            let here : IsLastOfChain us items m = record {
              covered = joined.only m i counted.place counted.at counted.counted;
              childless = λ child on covered. let hit = (c.has_covered_child.ensures items joined).1 (child, (on, covered)) in let none = w.if-not-has_covered_child.true in absurd cc;
            } in
            found_one us items old i m (c.loop-chain.invariant.found items joined) here (one items joined);
      })
      | else-not-has_covered_child w ↦ rw w.found-is (record {
        inside = c.loop-chain.invariant.inside;
        found = λ items joined.
            let child = (c.has_covered_child.ensures items joined).0 w.if-not-has_covered_child.false in
            found_none us items old i (c.loop-chain.invariant.found items joined)
            (λ n place at last. last.childless child.0 (subst (λ (k : ℕ). IsIn child.0 (children_of us k)) (one items joined n place at last) child.1.0) child.1.1);
      })
    ]

pub returns-clause-leaves : goal.returns-clause-leaves
returns-clause-leaves c = λ items joined. found_all (updates_in c.args.graph.now.items.entries) items c.loop-chain.found.items c.loop-chain.chain (omega (arith, c.loop-chain-test.false, c.chain_count-chain-end.ensures)) (c.loop-chain.invariant.found items joined)
