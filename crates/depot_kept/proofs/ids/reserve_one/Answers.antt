use Rattle.std.proofs.Common.{[], ◌∷◌, sym, ap, ◌∙◌}
use Rattle.std.specs.Map.{keys_of}
use Rattle.depot_kept.specs.IdSlots.{vouched_in}
use Rattle.depot_kept.proofs.IdSlotLaws.{place_is_found, place_of_found, none_new, placed, vouched_same, stays_together}
use Rattle.depot_kept.proofs.ids.reserve_one.Goals as goal

pub returns-then-contains_key-clause-ok : goal.returns-then-contains_key-clause-ok
returns-then-contains_key-clause-ok c = none_new _ c.args.id (place_of_found c.args.id c.args.slots.now.entries (sym c.contains_key.ensures ∙ c.if-contains_key.true))

pub returns-in_err-insert-clause-known : goal.returns-in_err-insert-clause-known
returns-in_err-insert-clause-known c = λ there. absurd (let found = place_is_found c.args.id c.args.slots.now.entries in let none = sym c.contains_key.ensures ∙ c.if-contains_key.false in cc)

pub returns-clause-ok : goal.returns-clause-ok
returns-clause-ok c = placed c.args.slots.now.entries _ c.args.id _ c.in_ok-insert.ensures.entries

pub returns-clause-ids : goal.returns-clause-ids
returns-clause-ids c = ap vouched_in c.in_ok-insert.ensures.entries ∙ vouched_same c.args.slots.now.entries c.args.id (sym c.contains_key.ensures ∙ c.if-contains_key.false)

pub returns-clause-stays : goal.returns-clause-stays
returns-clause-stays c = stays_together (keys_of c.args.slots.now.entries) (c.args.id ∷ []) _ (placed c.args.slots.now.entries _ c.args.id _ c.in_ok-insert.ensures.entries)
