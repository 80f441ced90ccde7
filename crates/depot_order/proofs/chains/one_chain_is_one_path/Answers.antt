use Rattle.std.proofs.Common.{◌≡◌, ℕ, ◌+◌, ◌-◌, refl, ap, ◌∙◌, Some, arith}
use Rattle.depot_order.specs.Spots.{spots}
use Rattle.depot_order.proofs.Placing.{spot_at, all_placed, back_by, path_between}
use Rattle.depot_order.proofs.chains.one_chain_is_one_path.Goals as goal

pub returns-clause-path : goal.returns-clause-path
returns-clause-path c prevs chain a b i j at_a at_b before = path_between prevs (spots prevs) (all_placed prevs) a b (spot_at chain i) (spot_at chain j) at_a at_b refl (j - i) (omega arith)

pub returns-clause-once : goal.returns-clause-once
returns-clause-once c prevs chain place a b at_a at_b = (all_placed prevs).once a b (spot_at chain place) at_a at_b

pub returns-clause-gapless : goal.returns-clause-gapless
returns-clause-gapless c prevs chain place lower a at_a low =
    let high : place ≡ (place - lower) + lower = omega arith in
    let r = back_by prevs (spots prevs) (all_placed prevs) (place - lower) a chain lower (at_a ∙ ap (λ (k : ℕ). Some (spot_at chain k)) high) in
    (r.from, r.spot)

pub returns-clause-started : goal.returns-clause-started
returns-clause-started c prevs chain low = (all_placed prevs).started chain low

pub returns-clause-counted : goal.returns-clause-counted
returns-clause-counted c prevs chain place a at_a = (all_placed prevs).chain a (spot_at chain place) at_a
