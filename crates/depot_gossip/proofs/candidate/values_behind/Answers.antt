use Rattle.std.proofs.Common.{List, ℕ, [], ◌∷◌, sym, ap, subst, arith}
use Rattle.std.specs.Borrow.{Bor}
use Rattle.std.proofs.lemmas.List.{append-nil, take_all}
use Rattle.depot_base.specs.Writes.{values_in}
use Rattle.depot_base.specs.declared.write.Write.{Write}
use Rattle.depot_streams.specs.Sendings.{payloads_of}
use Rattle.depot_gossip.specs.Choosing.{Finds}
use Rattle.depot_gossip.proofs.ValueLaws.{finds_none, finds_more, lent_push}
use Rattle.depot_gossip.proofs.candidate.values_behind.Goals as goal

pub loop-write-init : goal.loop-write-init
loop-write-init g c =
    let J = g.R.NodeState.records c.args.node.now in
    let keys = c.args.hashes.now.keys in
    let none = ap (λ (lent : List (Bor (List ℕ))). payloads_of lent) c.new-found.ensures.items in
    subst (λ (vs : List (List ℕ)). Finds J keys [] vs keys) (sym none) (finds_none J keys)

-- a deletion
pub loop-write-preserved-in_default : goal.loop-write-preserved-in_default
loop-write-preserved-in_default g c =
    let found = payloads_of c.loop-write.found.items in
    let J = g.R.NodeState.records c.args.node.now in
    let keys = c.loop-write.hashes.keys in
    finds_more J c.args.hashes.now.keys keys keys c.args.writes.now c.loop-write.write-index c.write-item.result [] found [] found c.loop-write-test.true c.write-item.is c.in_default.ensures (sym (append-nil found)) c.loop-write.invariant (finds_none J keys)

-- a value that isn't found
pub loop-write-preserved-in_default-2 : goal.loop-write-preserved-in_default-2
loop-write-preserved-in_default-2 g c =
    let found = payloads_of c.loop-write.found.items in
    finds_more (g.R.NodeState.records c.args.node.now) c.args.hashes.now.keys c.loop-write.hashes.keys c.value_behind.new.hashes.keys c.args.writes.now c.loop-write.write-index c.write-item.result (c.in-Some.name ∷ []) found [] found c.loop-write-test.true c.write-item.is c.in-Some.ensures (sym (append-nil found)) c.loop-write.invariant (rw c.in_default-2.is at c.in_ok-value.ensures)

-- and one that is
pub loop-write-preserved : goal.loop-write-preserved
loop-write-preserved g c =
    let found = payloads_of c.loop-write.found.items in
    let all = lent_push c.push.new.self.items c.loop-write.found.items c.in-Some-2.value c.in_ok-push.ensures.items in
    finds_more (g.R.NodeState.records c.args.node.now) c.args.hashes.now.keys c.loop-write.hashes.keys c.value_behind.new.hashes.keys c.args.writes.now c.loop-write.write-index c.write-item.result (c.in-Some.name ∷ []) found (c.in-Some-2.value.now ∷ []) (payloads_of c.push.new.self.items) c.loop-write-test.true c.write-item.is c.in-Some.ensures all c.loop-write.invariant (rw c.in-Some-2.is at c.in_ok-value.ensures)

pub returns : goal.returns
returns g c =
    subst (λ (ws : List Write). Finds (g.R.NodeState.records c.args.node.now) c.args.hashes.now.keys (values_in ws) (payloads_of c.loop-write.found.items) c.loop-write.hashes.keys)
    (take_all c.loop-write.write-index c.args.writes.now (omega arith)) c.loop-write.invariant
