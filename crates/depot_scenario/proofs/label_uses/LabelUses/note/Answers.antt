use Rattle.std.proofs.Common.{◌≡◌, ℕ, List, [], ◌∷◌, ◌++◌, map, take, sym, subst, ◌∙◌}
use Rattle.depot_scenario.specs.LabelUses.{AreNoted}
use Rattle.depot_scenario.proofs.UsesOfLabels.{names_more, none_noted, one_noted}
use Rattle.depot_scenario.proofs.label_uses.LabelUses.note.Goals as goal

pub loop-label-init : goal.loop-label-init
loop-label-init c = none_noted c.args.behind c.args.self.now.map.entries

pub loop-label-preserved : goal.loop-label-preserved
loop-label-preserved c =
    let items = c.as_slice-label-items.result.now in
    let i = c.loop-label.label-index in
    let old = c.args.self.now.map.entries in
    let new = c.insert.new.self in
    let name = c.in_ok-name.name.items in
    let same : name ≡ c.label-item.result.now = c.in_ok-name.ensures.items ∙ c.bytes.ensures.same in
    let front = map (λ label. label.now) (take i items) in
    subst (λ (names : List (List ℕ)). AreNoted names c.args.behind old new.entries) (sym (names_more (λ label. label.now) items i c.label-item.result c.loop-label-test.true c.label-item.is))
    (subst (λ (n : List ℕ). AreNoted (front ++ n ∷ []) c.args.behind old new.entries) same (one_noted old c.loop-label.self.map new front name c.args.behind c.in_ok-insert.ensures.updates c.loop-label.invariant))
