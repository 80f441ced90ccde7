-- A log in its order, each body once.
use Rattle.std.specs.Prelude.{◌≡◌, List, [], Some, None}
use Rattle.depot_base.specs.declared.update.Update.{Update}
use Rattle.depot_model.specs.updates.Order.{IsCausal}
use Rattle.depot_model.specs.texts.Log.{firsts, first_orphan}
use Rattle.depot_scan.specs.Bodies.{updates}
use Rattle.depot_scan.specs.declared.log_order.Ordered.{Ordered}
use Rattle.depot_scan.specs.declared.log_order.Ordered.TheVariants.{InOrder, Orphan}

-- each parent precedes its child, and these are the updates without repeats
pub record AreFirstUpdates (us kept : List Update) : Type 0 where
  pub whole : first_orphan us ≡ None
  pub are : kept ≡ firsts us
  pub causal : IsCausal [] kept

-- the outcome of ordering the updates of a log
abbrev pub OrdersTo : List Update → Ordered → Type 0
OrdersTo us (InOrder kept) = AreFirstUpdates us (updates kept.items)
OrdersTo us (Orphan place) = first_orphan us ≡ Some place
