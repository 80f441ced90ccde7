use Rattle.std.proofs.Common.{ℕ, List, All, sym, subst}
use Rattle.depot_order.proofs.ItemLists.{has_of_all, in_kept, all_of_in}
use Rattle.depot_order.proofs.latest.mend.Goals as goal

pub place_among-place-requires-clause-items : goal.place_among-place-requires-clause-items
place_among-place-requires-clause-items g c =
    let has = g.P.Precedes.has c.args.order.now in
    let kept = c.leave_out.new.list.items in
    subst (λ (l : List ℕ). All has l) (sym c.as_slice.ensures.value)
    (all_of_in has kept (λ x on. has_of_all has c.args.list.now.items c.requires.items x (in_kept (λ a. g.P.Precedes.precedes c.args.order.now a c.args.item → ⊥) c.args.list.now.items kept x c.leave_out.ensures.kept on).0))
