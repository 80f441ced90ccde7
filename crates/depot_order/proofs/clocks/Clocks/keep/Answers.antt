use Rattle.std.proofs.Common.{◌≡◌, List, Bool, true, false, cond, eqb, refl, subst}
use mir.Val.{bool_byte}
use Rattle.depot_order.specs.ChainItems.{ChainItem}
use Rattle.depot_order.specs.KeptRows.{KeepsItems}
use Rattle.depot_order.proofs.RowMaking.{keeps_next}
use Rattle.depot_order.proofs.clocks.Clocks.keep.Goals as goal

one_or_none : (b : Bool) → bool_byte b ≡ cond b 1 0
one_or_none true = refl
one_or_none false = refl

pub invariant_of-self-2 : goal.invariant_of-self-2
invariant_of-self-2 c =
    let items : List ChainItem = c.args.self.now in
    let x : ChainItem = record { chain = c.args.kept.chain; place = c.args.kept.place; parents = c.args.parents.now } in
    let chains = c.self.inside.chains in
    let keeps : KeepsItems items c.self.inside.kept.items chains = subst (λ (l : List ChainItem). KeepsItems l c.self.inside.kept.items chains) c.self.view_is c.self.invariant.0 in
    let made = keeps_next items x c.self.inside.kept.items c.args.kept chains keeps c.requires.next c.requires.few refl refl c.requires.row in
    rw (c.note.ensures, c.in_ok-push.ensures.items, c.from.ensures, one_or_none (eqb c.args.kept.place 0), c.self.view_is) (made, tt)
