-- The latest items of a key are its latest writes.
use Rattle.std.proofs.Common.{◌≡◌, ℕ, List, [], ◌∷◌, ◌++◌, Option, Some, Bool, true, refl, sym, subst, ◌∙◌, inl, inr, Contains, IsTrue, slice_get}
use Rattle.std.specs.List.{AllByRecursion}
use Rattle.std.specs.Option.{option_to_list}
use Rattle.std.specs.Ordering.{is_lt}
use Rattle.depot_base.specs.declared.update.Update.{Update}
use Rattle.depot_model.specs.lists.Lists.{IsIn}
use Rattle.depot_model.specs.texts.Contents.{Writes}
use Rattle.depot_model.specs.updates.Order.{RisesStrictly, listed, AreLatestIn, IsCausal}
use Rattle.depot_model.specs.lists.Items.{PrecedesAt, updates_at}
use Rattle.depot_model.proofs.lists.Elements.{in_at, of_place, at_its_place}
use Rattle.depot_base.specs.Pairs.{AllPairsByRecursion}
use Rattle.depot_order.specs.LatestItems.{AreLatestOf}
use Rattle.depot_base.proofs.MembershipLaws.{from_contains, to_contains}
use Rattle.depot_graph.specs.Listing.{ListedAt}
use Rattle.depot_graph.specs.OrderLaws.{at_both, listed_both, one_place}
use Rattle.depot_graph.proofs.ClockedItems.{place_of}

-- a test of two updates decides the order of their places
pub listed_tells : (us : List Update) (a b : ℕ) (t u : Update) (told : Bool) → slice_get us a ≡ Some t → slice_get us b ≡ Some u → told ≡ is_lt (listed t u) → (IsTrue told → ListedAt us a b) × (ListedAt us a b → IsTrue told)
listed_tells us a b t u told at_a at_b is = (
  (λ yes_. (t, (at_a, (u, (at_b, sym is ∙ yes_))))),
  (λ p. is ∙ listed_both us a b t u at_a at_b p),
)

-- an item of the list is an update that writes the key
abbrev pub AreWriters : List ℕ → List Update → List ℕ → Type 0
AreWriters key us among = (a : ℕ) → (Contains among a → (u : Update) × ((slice_get us a ≡ Some u) × Writes key u)) × ((u : Update) → slice_get us a ≡ Some u → Writes key u → Contains among a)

-- two places of one update are one
same_place : (us : List Update) (a b : ℕ) (t : Update) → IsCausal [] us → slice_get us a ≡ Some t → slice_get us b ≡ Some t → a ≡ b
same_place us a b t c at_a at_b = one_place [] us a b t t c at_a at_b refl

listed_all : (us : List Update) (n : ℕ) (t : Update) (ns : List ℕ) → slice_get us n ≡ Some t → ((m : ℕ) → IsIn m ns → (u : Update) × (slice_get us m ≡ Some u)) → AllByRecursion (λ u. is_lt (listed t u) ≡ true) (updates_at us ns) → AllByRecursion (ListedAt us n) ns
listed_all us n t [] e there all = tt
listed_all us n t (m ∷ ns) e there all =
    let u = there m (inl refl) in
    let both = subst (λ (o : Option Update). AllByRecursion (λ u. is_lt (listed t u) ≡ true) (option_to_list o ++ updates_at us ns)) u.1 all in
    ((t, (e, (u.0, (u.1, both.0)))), listed_all us n t ns e (λ k on. there k (inr on)) both.1)

listed_rises : (us : List Update) (ns : List ℕ) → ((m : ℕ) → IsIn m ns → (u : Update) × (slice_get us m ≡ Some u)) → RisesStrictly (updates_at us ns) → AllPairsByRecursion (ListedAt us) ns
listed_rises us [] there rises = tt
listed_rises us (n ∷ ns) there rises =
    let t = there n (inl refl) in
    let both = subst (λ (o : Option Update). RisesStrictly (option_to_list o ++ updates_at us ns)) t.1 rises in
    (listed_all us n t.0 ns t.1 (λ m on. there m (inr on)) both.0, listed_rises us ns (λ m on. there m (inr on)) both.1)

-- the places of the latest writes are the latest of the items that write the key
pub latest_items : (key : List ℕ) (us : List Update) (among latest : List ℕ) → IsCausal [] us → AreWriters key us among → ((n : ℕ) → IsIn n latest → (u : Update) × (slice_get us n ≡ Some u)) → AreLatestIn key us (updates_at us latest) → AreLatestOf (PrecedesAt us) (ListedAt us) among latest
latest_items key us among latest c writers there l = record {
  all = λ a is.
      let t = (writers a).0 is.0 in
      let on = l.all t.0 (record {
        known = in_at us a t.0 t.1.0;
        writes = t.1.1;
        last = λ v v_in v_writes p.
            let b = place_of us v v_in in
            is.1 b.0 ((writers b.0).1 v b.1 v_writes) ((at_both us a b.0 t.0 v t.1.0 b.1).1 p);
      }) in
      let n = of_place us latest t.0 on in
      to_contains a latest (subst (λ (m : ℕ). IsIn m latest) (same_place us n.0 a t.0 c n.1.1 t.1.0) n.1.0);
  only = λ a on.
      let a_in = from_contains a latest on in
      let t = there a a_in in
      let is = l.only t.0 (at_its_place us latest a t.0 a_in t.1) in (
        (writers a).1 t.0 t.1 is.writes,
        λ b b_on p.
            let v = (writers b).0 b_on in
            is.last v.0 (in_at us b v.0 v.1.0) v.1.1 ((at_both us a b t.0 v.0 t.1 v.1.0).0 p),
      );
  rising = listed_rises us latest there l.rising;
}
