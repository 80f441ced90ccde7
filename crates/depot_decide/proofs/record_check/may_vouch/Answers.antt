use Rattle.std.proofs.Common.{◌≡◌, ℕ, List, true, IsTrue, sym, subst, ◌∙◌}
use Rattle.std.specs.List.{AllByRecursion}
use Rattle.std.specs.Prelude.{◌↔◌}
use Rattle.std.proofs.lemmas.Bool.{both_ways}
use Rattle.depot_model.specs.journals.Journal.{accepted, is_foreign}
use Rattle.depot_readings.specs.ReadingsView.{standing}
use Rattle.depot_decide.proofs.RecordChecks.{asked_of_voucher}
use Rattle.depot_decide.proofs.record_check.may_vouch.Goals as goal
use Rattle.depot_decide.proofs.record_check.may_vouch.Goals.{then-eq, else-eq, then-voucher-own, else-voucher-own}

pub returns-then-has_leaf : goal.returns-then-has_leaf
returns-then-has_leaf g c = elim c.if-voucher-own.branch [
  | then-voucher-own w ↦ elim c.if-eq.branch [
    | then-eq u ↦
        let each = subst (λ (ids : List (List ℕ)). IsTrue c.are_foreign.result ↔ AllByRecursion (λ (h : List ℕ). is_foreign c.args.readings.now.me (accepted c.args.readings.now.records) h ≡ true) ids) c.as_slice.ensures c.are_foreign.ensures in
        asked_of_voucher (standing g.S.Scheme.verifies c.args.readings.now) c.args.readings.now.records c.args.voucher.now c.me.result c.totals.result.now.own c.are_foreign.result c.me.ensures c.totals.ensures.own u.if-eq.ensures (sym u.value-is ∙ w.if-voucher-own.true)
        (sym w.has_leaf.ensures ∙ sym w.value-is ∙ c.if-has_leaf.true) each
    | else-eq u ↦ absurd (both_ways c.if-eq.value (u.value-is ∙ u.if-eq.false) w.if-voucher-own.true)
  ]
  | else-voucher-own w ↦ absurd (both_ways c.if-voucher-own.value (w.value-is ∙ w.if-voucher-own.false) c.if-has_leaf.true)
]
