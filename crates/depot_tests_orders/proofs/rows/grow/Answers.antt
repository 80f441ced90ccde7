use Rattle.std.proofs.Common.{◌≡◌, ◌+◌, ◌-◌, ◌<◌, ℕ, List, [], ◌∷◌, ◌++◌, length, refl, sym, ap, subst, arith}
use Rattle.std.proofs.lemmas.List.{length-append}
use Rattle.depot_order.specs.ChainItems.{ChainItem, IsChainItemAt, chain_length, number_of_chains}
use Rattle.depot_order.proofs.ChainCounts.{chain_length-own, chain_length-other, number_of_chains-first, number_of_chains-later}
use Rattle.depot_base.proofs.GeneralLaws.{get_last}
use Rattle.depot_tests_orders.proofs.rows.grow.Goals as goal

-- where the added item is
last_at : (items new : List ChainItem) (x : ChainItem) (n place : ℕ) → new ≡ items ++ x ∷ [] → length items ≡ n → x.place ≡ place → IsChainItemAt new n x.chain place
last_at items new x n place is long place_is =
    subst (λ (l : List ChainItem). IsChainItemAt l n x.chain place) (sym is) (subst (λ (k : ℕ). IsChainItemAt (items ++ x ∷ []) k x.chain place) long (x, (get_last items x, (refl, place_is))))

pub loop-place-init : goal.loop-place-init
loop-place-init c =
    let items : List ChainItem = c.args.clocks.now in
    let x : ChainItem = record { chain = c.args.chain; place = 0; parents = c.as_slice.result.now } in
    let is : c.add.new.self ≡ items ++ x ∷ [] = c.in_ok-add.ensures.added in
    record {
      items = omega (arith, ap (λ (l : List ChainItem). length l) is, length-append items (x ∷ []), c.requires.first);
      long = omega (arith, ap (λ (l : List ChainItem). chain_length l c.args.chain) is, chain_length-own items x, c.requires.none c.args.chain (omega arith));
      chains = omega (arith, ap (λ (l : List ChainItem). number_of_chains l) is, number_of_chains-first items x refl, c.requires.chain);
      last = last_at items c.add.new.self x (c.args.first + 1 - 1) 0 is (omega (arith, c.requires.first)) refl;
      none = λ d high. omega (arith, ap (λ (l : List ChainItem). chain_length l d) is, chain_length-other items x d (λ same. absurd (omega (arith, same, high))), c.requires.none d (omega (arith, high)));
    }

pub loop-place-preserved : goal.loop-place-preserved
loop-place-preserved c =
    let items : List ChainItem = c.loop-place.clocks in
    let place = c.loop-place.place in
    let x : ChainItem = record { chain = c.args.chain; place = place; parents = c.as_slice-in-loop-place.result.now } in
    let is : c.add-in-loop-place.new.self ≡ items ++ x ∷ [] = c.in_ok-add-2.ensures.added in
    let inv = c.loop-place.invariant in
    let later : 0 < place = omega (arith, c.loop-place.auto.place) in
    record {
      items = omega (arith, ap (λ (l : List ChainItem). length l) is, length-append items (x ∷ []), inv.items);
      long = omega (arith, ap (λ (l : List ChainItem). chain_length l c.args.chain) is, chain_length-own items x, inv.long);
      chains = omega (arith, ap (λ (l : List ChainItem). number_of_chains l) is, number_of_chains-later items x later, inv.chains);
      last = last_at items c.add-in-loop-place.new.self x (c.args.first + (place + 1) - 1) (place + 1 - 1) is (omega (arith, inv.items)) (omega arith);
      none = λ d high. omega (arith, ap (λ (l : List ChainItem). chain_length l d) is, chain_length-other items x d (λ same. absurd (omega (arith, same, high))), inv.none d high);
    }
