use Rattle.depot_kept.proofs.IdSlotLaws.{unless_absent, keys_unless, marked}
use Rattle.depot_kept.proofs.ids.vouch_for.Goals as goal

pub returns-clause-together : goal.returns-clause-together
returns-clause-together c = marked c.args.slots.now.entries _ c.args.id (unless_absent c.insert.result _ c.args.id c.args.slots.now.entries c.requires c.insert.ensures.absent c.insert.ensures.entries)

pub returns-clause-places : goal.returns-clause-places
returns-clause-places c = keys_unless c.insert.result _ c.args.id c.args.slots.now.entries c.requires c.insert.ensures.absent c.insert.ensures.old c.insert.ensures.keys_stay
