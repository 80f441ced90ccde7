use Rattle.std.proofs.Common.{List, map, subst}
use Rattle.std.proofs.lemmas.Result.{on_ok_weaker}
use Rattle.depot_base.specs.declared.update.Dep.{Dep}
use Rattle.depot_model.specs.updates.Order.{prevs}
use Rattle.depot_scan.specs.Ids.{HasMore, is_id_covered}
use Rattle.depot_scan.proofs.IdSteps.{more_trans}
use Rattle.depot_scan.proofs.log_ids.LogIds.cover_parents.Goals as goal

pub returns : goal.returns
returns c =
    on_ok_weaker c.cover_entries.result (λ entries.
    more_trans (prevs c.args.update.now) (map (λ d. d.id) c.args.update.now.deps) (is_id_covered c.args.self.now) (is_id_covered c.cover_prev.new.self) (is_id_covered c.cover_entries.new.self) c.in_ok-cover_prev.ensures
    (subst (λ (deps : List Dep). HasMore (map (λ d. d.id) deps) (is_id_covered c.cover_prev.new.self) (is_id_covered c.cover_entries.new.self)) c.as_slice.ensures entries))
    c.cover_entries.ensures
