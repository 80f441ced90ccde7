use Rattle.std.proofs.Common.{◌≡◌, take}
use Rattle.std.specs.Map.{keys_of}
use Rattle.depot_model.specs.lists.Lists.{AreTogether}
use Rattle.depot_kept.specs.IdSlots.{vouched_in}
use Rattle.depot_kept.proofs.ids.vouch_for_all.Given as goal

abbrev pub invariant-loop-id : goal.invariant-loop-id
invariant-loop-id l = record {
  together : AreTogether (vouched_in l.initial.slots.entries) (take l.id-index l.ids) (vouched_in l.slots.entries);
  places : keys_of l.slots.entries ≡ keys_of l.initial.slots.entries;
}
