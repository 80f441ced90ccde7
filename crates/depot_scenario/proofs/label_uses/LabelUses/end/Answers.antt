use Rattle.std.proofs.Common.{◌≡◌, ℕ, List, false, true, sym, subst, ◌∙◌}
use Rattle.depot_scenario.specs.Labels.{named_in}
use Rattle.depot_scenario.specs.LabelUses.{EndsUse, has_below}
use Rattle.depot_scenario.proofs.UsesOfLabels.{use_ends, use_stays}
use Rattle.depot_scenario.proofs.label_uses.LabelUses.end.Goals as goal

pub returns-then-is_named : goal.returns-then-is_named
returns-then-is_named c = use_stays c.args.self.now.map.entries c.args.label.now c.args.to_come

pub returns : goal.returns
returns c =
    let none : has_below c.args.to_come (named_in c.args.label.now c.args.self.now.map.entries) ≡ false = sym c.is_named.ensures ∙ c.if-is_named.false in
    subst (λ (name : List ℕ). EndsUse c.args.self.now.map.entries name c.args.to_come true c.remove.new.self.entries) c.bytes.ensures.same
    (use_ends c.args.self.now.map c.remove.new.self c.bytes.result.now c.args.to_come c.remove.ensures.updates (subst (λ (name : List ℕ). has_below c.args.to_come (named_in name c.args.self.now.map.entries) ≡ false) (sym c.bytes.ensures.same) none))
