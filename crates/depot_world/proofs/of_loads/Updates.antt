-- How many updates a load's faulty node signs: at most one a round.
use Rattle.std.proofs.Common.{ℕ, ◌+◌, ◌≤◌, Bool, true, false, cond, ltb, eqb, List, arith}
use Rattle.depot_world.specs.declared.load_draft.LoadDraft.{LoadDraft}
use Rattle.depot_world.specs.Loads.{drawn, draw, some_node, other_than, round_hello, round_bundle, bundled, given, exchange_round, round}

either : (b : Bool) (x y : LoadDraft) (n : ℕ) → x.updates ≤ n → y.updates ≤ n → (cond b x y).updates ≤ n
either true x y n l r = l
either false x y n l r = r

of_given : (c r : ℕ) (bundle : List ℕ) (d : LoadDraft) (n : ℕ) → d.updates ≤ n → (given c r bundle d).updates ≤ n
of_given c r bundle d n le = either (eqb c 0) _ _ n le (either (eqb c 1) _ _ n le (either (eqb c 2) _ _ n le le))

of_exchange : (t : ℕ) (d : LoadDraft) (n : ℕ) → d.updates ≤ n → (exchange_round t d).updates ≤ n
of_exchange t d n le =
    let b = drawn (drawn d) in
    let v = some_node (drawn d) in
    let r = other_than v (1 + draw 4 b) in
    let c = drawn (bundled v r (round_hello t) (round_bundle t) b) in
    of_given (draw 8 c) r (round_bundle t) c n le

pub updates_round : (t : ℕ) (d : LoadDraft) → (round t d).updates ≤ d.updates + 1
unfolding round
updates_round t d =
    let n = d.updates + 1 in
    let more : d.updates ≤ d.updates + 1 = omega arith in
    let a = draw 10 (drawn d) in
    either (ltb a 5) _ _ n more (either (ltb a 7) _ _ n more (either (ltb a 9) _ _ n (of_exchange t (drawn d) n more) (either (eqb (draw 4 (drawn (drawn (drawn d)))) 0) _ _ n more (omega arith))))
