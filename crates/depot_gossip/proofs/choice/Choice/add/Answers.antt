use Rattle.std.proofs.Common.{List, ℕ, ◌++◌, refl, sym, ap, ◌∙◌}
use Rattle.depot_gossip.proofs.BoundedChoices.{parcel_added}
use Rattle.depot_gossip.proofs.choice.Choice.add.Goals as goal

pub returns : goal.returns
returns c = λ me J x p xs k.
    parcel_added me J c.args.room.now xs x c.args.self.now _ c.args.parcel.now c.args.fresh.now k p (sym (c.admits.ensures.room me J xs x k p) ∙ c.if-not-admits.false)
    (c.in_ok-push_all.ensures.ok ∙ ap (λ (t : List ℕ). c.args.self.now.sending.frames ++ t) c.as_slice.ensures) c.in_ok-push_ids.ensures c.in_ok-push_ids-2.ensures refl refl
