use Rattle.std.proofs.Common.{◌≡◌, take}
use Rattle.std.specs.Map.{keys_of}
use Rattle.depot_model.specs.lists.Lists.{AreTogether}
use Rattle.depot_kept.specs.IdSlots.{vouched_in, DoAscend}
use Rattle.depot_kept.proofs.ids.reserve_all.Given as goal

abbrev pub invariant-loop-id : goal.invariant-loop-id
invariant-loop-id l = record {
  together : AreTogether (keys_of l.initial.slots.entries) (take l.id-index l.ids) (keys_of l.slots.entries);
  ids : vouched_in l.slots.entries ≡ vouched_in l.initial.slots.entries;
  ascending : DoAscend (keys_of l.initial.slots.entries) → DoAscend (keys_of l.slots.entries);
}
