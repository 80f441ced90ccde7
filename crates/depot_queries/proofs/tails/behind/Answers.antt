use Rattle.std.proofs.Common.{◌≤◌, length, refl, arith}
use Rattle.depot_graph.specs.Kept.{updates_in}
use Rattle.depot_graph.proofs.CoveredItems.{chain_inside}
use Rattle.depot_queries.proofs.TailLaws.{behind_next, all_behind}
use Rattle.depot_queries.proofs.tails.behind.Goals as goal

pub loop-chain-preserved : goal.loop-chain-preserved
loop-chain-preserved c = behind_next (updates_in c.args.graph.now.items.entries) c.args.row.now c.loop-chain.chain _ c.loop-chain.found.items c.push_tail.new.found.items refl c.loop-chain.invariant c.in_ok-push_tail.ensures

pub returns-clause-all : goal.returns-clause-all
returns-clause-all c =
    let us = updates_in c.args.graph.now.items.entries in
    let row = c.args.row.now in
    let many : length row ≤ c.loop-chain.chain = omega (arith, c.requires, c.loop-chain-test.false, c.chain_count-chain-end.ensures) in
    all_behind us row c.loop-chain.chain c.loop-chain.found.items many (λ item chain place at. chain_inside us row item chain place c.requires at) c.loop-chain.invariant
