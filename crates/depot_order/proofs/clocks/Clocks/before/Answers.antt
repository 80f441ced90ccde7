use Rattle.std.proofs.Common.{◌<◌, ℕ, List, true≢false, sym, subst}
use Rattle.std.proofs.lemmas.Bool.{ltb-true, lt-ltb}
use Rattle.depot_order.specs.ChainItems.{ChainItem, ItemPrecedes, IsCount}
use Rattle.depot_order.specs.KeptRows.{KeepsItems}
use Rattle.depot_order.proofs.ItemPaths.{standing}
use Rattle.depot_order.proofs.RowCounts.{precedes_by_count, never_itself}
use Rattle.depot_order.proofs.KeptCounts.{kept_of}
use Rattle.depot_order.proofs.clocks.Clocks.before.Goals as goal

pub returns-clause-answer : goal.returns-clause-answer
returns-clause-answer g c =
    let keeps = subst (λ (l : List ChainItem). KeepsItems l c.self.inside.kept.items c.self.inside.chains) c.self.view_is c.self.invariant.0 in
    let kept = kept_of c.args.self.now c.self.inside.kept.items c.self.inside.chains c.args.a c.index-kept.result.now keeps c.requires.a c.index-kept.ensures in
    let spot = standing c.args.self.now c.args.a c.index-kept.result.now.chain c.index-kept.result.now.place kept.spot in
    let count = subst (λ (k : ℕ). IsCount c.args.self.now k c.args.b c.count_of.result) (sym spot.of_chain) c.count_of.ensures in
    let told = precedes_by_count c.args.self.now c.args.a c.args.b c.count_of.result spot.it keeps.chained spot.at count c.if-a-b.false in (
      (λ yes_. told.0 (subst (λ (k : ℕ). k < c.count_of.result) (sym spot.at_place) (ltb-true c.index-kept.result.now.place c.count_of.result yes_))),
      (λ p. lt-ltb c.index-kept.result.now.place c.count_of.result (subst (λ (k : ℕ). k < c.count_of.result) spot.at_place (told.1 p))),
    )

pub returns-then-a-b-clause-answer : goal.returns-then-a-b-clause-answer
returns-then-a-b-clause-answer g c =
    let keeps = subst (λ (l : List ChainItem). KeepsItems l c.self.inside.kept.items c.self.inside.chains) c.self.view_is c.self.invariant.0 in (
      (λ never. absurd (true≢false (sym never))),
      (λ p. absurd (never_itself c.args.self.now c.args.a keeps.chained (subst (λ (k : ℕ). ItemPrecedes c.args.self.now c.args.a k) (sym c.if-a-b.true) p))),
    )
