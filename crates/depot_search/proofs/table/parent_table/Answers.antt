use Rattle.std.proofs.Common.{ap, ◌∙◌, ℕ, List, map}
use Rattle.depot_model.specs.worlds.Audit.{is_parent}
use Rattle.depot_model.specs.lists.Lists.{is_among}
use Rattle.depot_model.specs.updates.Order.{parents}
use Rattle.depot_search.proofs.Tests.{seen_more}
use Rattle.depot_search.proofs.table.parent_table.Goals as goal

pub loop-write-preserved : goal.loop-write-preserved
loop-write-preserved c = seen_more (λ r. r.items) (λ t. map (λ u. is_parent t u) c.args.writes.now) c.loop-write.write-index c.args.writes.now c.write-item.result c.loop-write.table.items _ c.in_ok-children.field-0 c.loop-write-test.true c.write-item.is c.loop-write.invariant c.in_ok-push.ensures.items
    (c.in_ok-children.ensures ∙ ap (λ (h : List ℕ). map (λ u. is_among h (parents u)) c.args.writes.now) c.in_ok-id.ensures)
