use Rattle.std.proofs.Common.{ℕ, List, length, eqb, sym, ap, ◌∙◌}
use Rattle.depot_readings.proofs.LeafLaws.{leaf_by_children, no_leaf_found, follows-zeros, follows-named}
use Rattle.depot_readings.proofs.leaves.follows_leaf.Goals as goal

pub returns-then-is_zeros : goal.returns-then-is_zeros
returns-then-is_zeros c = sym (follows-zeros _ c.args.update.now (sym c.is_zeros.ensures ∙ c.if-is_zeros.true))

pub returns-in-Some : goal.returns-in-Some
returns-in-Some c =
    c.is_empty.ensures
    ∙ ap (λ (ns : List ℕ). eqb (length ns) 0) c.children.ensures
    ∙ sym (leaf_by_children _ c.args.update.now.prev c.in-Some.item (sym c.find_at.ensures ∙ c.in-Some.is))
    ∙ sym (follows-named _ c.args.update.now (sym c.is_zeros.ensures ∙ c.if-is_zeros.false))

pub returns-in-None : goal.returns-in-None
returns-in-None c =
    sym (follows-named _ c.args.update.now (sym c.is_zeros.ensures ∙ c.if-is_zeros.false) ∙ no_leaf_found _ c.args.update.now.prev (sym c.find_at.ensures ∙ c.in-None.is))
