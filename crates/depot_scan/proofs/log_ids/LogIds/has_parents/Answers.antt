use Rattle.std.proofs.Common.{◌≡◌, ℕ, List, Bool, true, ◌&&◌, sym, ap, ◌∙◌}
use Rattle.std.specs.List.{list_all}
use Rattle.depot_base.specs.declared.update.Dep.{Dep}
use Rattle.depot_model.specs.updates.Order.{prevs}
use Rattle.depot_scan.specs.Ids.{knows}
use Rattle.depot_scan.proofs.IdSteps.{all_parents}
use Rattle.depot_scan.proofs.log_ids.LogIds.has_parents.Goals as goal

pub returns-then-has_prev : goal.returns-then-has_prev
returns-then-has_prev c =
    let known : List ℕ → Bool = λ h. knows c.args.self.now h in
    let prev : list_all known (prevs c.args.update.now) ≡ true = sym c.has_prev.ensures ∙ c.if-has_prev.true in
    c.has_entries.ensures ∙ (ap (list_all (λ (d : Dep). known d.id)) c.as_slice.ensures
    ∙ (ap (λ (b : Bool). b && list_all (λ (d : Dep). known d.id) c.args.update.now.deps) (sym prev) ∙ sym (all_parents known c.args.update.now)))
