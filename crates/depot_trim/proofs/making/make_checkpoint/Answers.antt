use Rattle.std.proofs.Common.{◌≤◌, ℕ, List, length, sym, ap, ◌∙◌, arith}
use Rattle.depot_model.specs.readers.Opening.{made_text}
use Rattle.depot_trim.proofs.Leaves.{named_few, none_is, many_is, few_is, few_fit}
use Rattle.depot_trim.proofs.making.make_checkpoint.Goals as goal

pub returns-then-count-eq0 : goal.returns-then-count-eq0
returns-then-count-eq0 g c =
    let n = c.args.node.now in
    none_is (g.P.NodeState.stands n) (g.P.NodeState.records n) c.as_slice-count.result.now (g.met.P.Replica.lawful n) (c.as_slice-count.ensures ∙ c.in_ok-leaves.ensures) c.if-count-eq0.true

pub overflow_cast-result : goal.overflow_cast-result
overflow_cast-result g c =
    let n = c.args.node.now in
    let few = named_few (g.P.NodeState.stands n) (g.P.NodeState.records n) c.as_slice-count.result.now (g.met.P.Replica.lawful n) (c.as_slice-count.ensures ∙ c.in_ok-leaves.ensures) in
    omega (arith, few)

pub returns-then-count : goal.returns-then-count
returns-then-count g c =
    let n = c.args.node.now in
    many_is (g.P.NodeState.stands n) (g.P.NodeState.records n) c.as_slice-count.result.now (g.met.P.Replica.lawful n) (c.as_slice-count.ensures ∙ c.in_ok-leaves.ensures) c.if-count.true

pub encode_checkpoint-requires : goal.encode_checkpoint-requires
encode_checkpoint-requires g c =
    let n = c.args.node.now in
    let long = ap length c.as_slice-count.ensures in
    let low : 1 ≤ length c.in_ok-leaves.leaves = omega (arith, c.if-count-eq0.false, long) in
    let few : length c.in_ok-leaves.leaves ≤ 1024 = omega (arith, c.if-count.false, long) in
    few_fit (g.P.NodeState.stands n) (g.P.NodeState.records n) c.in_ok-leaves.leaves (g.met.P.Replica.lawful n) c.in_ok-leaves.ensures c.roster_hash-roster.result.now (g.met.P.Replica.formed n) (g.met.P.Replica.some n) c.roster_hash-roster.ensures low few

pub returns : goal.returns
returns g c =
    let n = c.args.node.now in
    let long = ap length c.as_slice-count.ensures in
    let low : 1 ≤ length c.in_ok-leaves.leaves = omega (arith, c.if-count-eq0.false, long) in
    let few : length c.in_ok-leaves.leaves ≤ 1024 = omega (arith, c.if-count.false, long) in
    few_is (g.P.NodeState.stands n) (g.P.NodeState.records n) c.in_ok-leaves.leaves (g.met.P.Replica.lawful n) c.in_ok-leaves.ensures c.roster_hash-roster.result.now c.roster_hash-roster.ensures low few ∙ ap (λ (t : List ℕ). made_text t) (sym c.in_ok-text.ensures)
