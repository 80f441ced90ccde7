-- What labels name after one more event.
use Rattle.std.proofs.Common.{◌≡◌, ℕ, List, [], ◌∷◌, ◌++◌, Option, Some, None, refl, ap, ◌∙◌}
use Rattle.depot_schedule.specs.declared.event.Event.{Event}
use Rattle.depot_schedule.specs.declared.verb.Made.{Made}
use Rattle.depot_schedule.specs.EventWords.{label_made, if_named, first_or, named_by}

or_assoc : {X : Type 0} (a b c : Option X) → first_or (first_or a b) c ≡ first_or a (first_or b c)
or_assoc None b c = refl
or_assoc (Some x) b c = refl

or_none : {X : Type 0} (a : Option X) → a ≡ first_or a None
or_none None = refl
or_none (Some x) = refl

pub named_by-push : (es : List Event) (e : Event) (label : List ℕ) → named_by (es ++ e ∷ []) label ≡ first_or (if_named label (label_made e)) (named_by es label)
unfolding named_by
named_by-push [] e label = or_none (if_named label (label_made e))
named_by-push (x ∷ es) e label = ap (λ (o : Option Made). first_or o (if_named label (label_made x))) (named_by-push es e label) ∙ or_assoc (if_named label (label_made e)) (named_by es label) (if_named label (label_made x))
