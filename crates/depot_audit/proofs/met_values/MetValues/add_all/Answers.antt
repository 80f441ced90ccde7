use Rattle.std.proofs.Common.{rules, ◌≡◌, ℕ, List, [], ◌∷◌, ◌++◌, length, sym, ap, subst, ◌∙◌, append_assoc, arith}
use Rattle.std.specs.Vec.Iter.{into_iter_items}
use Rattle.std.proofs.lemmas.List.{append-nil, nil_from_length}
use Rattle.depot_audit.specs.Tables.{AreMetValues}
use Rattle.depot_audit.proofs.met_values.MetValues.add_all.Goals as goal

pub loop-value-init : goal.loop-value-init
loop-value-init c = record {
  met = λ vs met. subst (λ (ws : List (List ℕ)). AreMetValues ws c.args.self.now.table c.args.self.now.apart) (sym (append-nil vs)) met;
  whole = search rules;
}

pub loop-value-preserved : goal.loop-value-preserved
loop-value-preserved c = record {
  met = λ vs met.
      subst (λ (ws : List (List ℕ)). AreMetValues ws c.add.new.self.table c.add.new.self.apart) (append_assoc vs c.loop-value.yielded (c.in-Some.value ∷ []))
      (c.in_ok-add.ensures (vs ++ c.loop-value.yielded) (c.loop-value.invariant.met vs met));
  whole =
      append_assoc c.loop-value.yielded (c.in-Some.value ∷ []) (into_iter_items c.next.new.self)
      ∙ ap (λ (ws : List (List ℕ)). c.loop-value.yielded ++ ws) (sym c.in-Some.ensures.steps.0) ∙ c.loop-value.invariant.whole;
}

pub returns : goal.returns
returns c = λ vs met.
    let none : length (into_iter_items c.loop-value.value-iterator) ≡ 0 = omega (arith, c.in-None.ensures.steps.0, c.loop-value.value-iterator.rest.ok) in
    let all : c.loop-value.yielded ≡ c.args.values = sym (append-nil c.loop-value.yielded) ∙ ap (λ (ws : List (List ℕ)). c.loop-value.yielded ++ ws) (sym (nil_from_length _ none)) ∙ c.loop-value.invariant.whole in
    subst (λ (ws : List (List ℕ)). AreMetValues (vs ++ ws) c.loop-value.self.table c.loop-value.self.apart) all (c.loop-value.invariant.met vs met)
