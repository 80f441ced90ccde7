use Rattle.std.proofs.Common.{List, ℕ, Some, option_map, sym, ap, ◌∙◌}
use Rattle.depot_model.specs.checks.Vouching.{rising}
use Rattle.depot_simulation.proofs.DraftTexts.{vouched_has_text}
use Rattle.depot_simulation.proofs.simulation.Simulation.vouched_ids.Goals as goal

pub returns-in_default-clause-is : goal.returns-in_default-clause-is
returns-in_default-clause-is g c = λ setup run at. ap (option_map rising) (sym c.in_default.is ∙ c.in_ok-ids.ensures setup run at)

pub returns-clause-is : goal.returns-clause-is
returns-clause-is g c = λ setup run at.
    ap (λ (hs : List (List ℕ)). Some hs) (c.in_ok-rising_ids.ensures ∙ ap rising c.as_slice.ensures) ∙ ap (option_map rising) (sym c.in-Some.is ∙ c.in_ok-ids.ensures setup run at)

pub returns-clause-text : goal.returns-clause-text
returns-clause-text g c = λ node seq may.
    let played = c.requires in
    vouched_has_text played.run node seq c.args.refs.now c.in-Some.ids c.in_ok-rising_ids.field-0 (sym c.in-Some.is ∙ c.in_ok-ids.ensures played.setup played.run played.at) (c.in_ok-rising_ids.ensures ∙ ap rising c.as_slice.ensures) may
