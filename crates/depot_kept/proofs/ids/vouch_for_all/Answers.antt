use Rattle.std.proofs.Common.{◌≡◌, ℕ, List, true, sym, subst}
use Rattle.std.specs.Map.{keys_of}
use Rattle.depot_model.specs.lists.Lists.{is_among}
use Rattle.depot_kept.proofs.IdSlotLaws.{read_is_within}
use Rattle.depot_kept.proofs.ids.vouch_for_all.Goals as goal

pub vouch_for-requires : goal.vouch_for-requires
vouch_for-requires c =
    let there = read_is_within c.args.ids.now (keys_of c.args.slots.now.entries) c.loop-id.id-index c.id-item.result c.requires c.loop-id-test.true c.id-item.is in
    subst (λ (ks : List (List ℕ)). is_among c.id-item.result ks ≡ true) (sym c.loop-id.invariant.places) there
