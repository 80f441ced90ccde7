-- The far hello of a lawful journal has a text.
use Rattle.std.proofs.Common.{◌≡◌, ℕ, zero, suc, ◌+◌, ◌-◌, ◌≤◌, List, [], ◌∷◌, ◌++◌, length, map, take, Bool, true, false, cond, Option, Some, None, refl, sym, ap, subst, ◌∙◌, inl, inr, arith}
use Rattle.std.specs.Prelude.{option_to_list, slice_get}
use Rattle.std.specs.Int.{w16}
use Rattle.std.proofs.lemmas.List.{length-map}
use Rattle.depot_base.specs.Format.{Follows, last_of, list_of, number}
use Rattle.depot_base.specs.declared.record.Record.{Record}
use Rattle.depot_base.specs.declared.update.Update.{Update}
use Rattle.depot_base.proofs.EntryLists.{last_pushed}
use Rattle.depot_model.specs.declared.hello.HelloLeaf.{HelloLeaf}
use Rattle.depot_model.specs.checks.Checks.{Setting}
use Rattle.depot_model.specs.exchange.Hello.{IsHello, hello, hello_leaf, hello_leaf_rises, hello_of, leaves_named, named_leaf}
use Rattle.depot_model.specs.lists.Items.{updates_at}
use Rattle.depot_model.specs.journals.Journal.{accepted}
use Rattle.depot_model.specs.journals.Lawful.{IsLawful, is_empty}
use Rattle.depot_model.specs.lists.Lists.{IsIn}
use Rattle.depot_model.specs.texts.Texts.{IsRoster}
use Rattle.depot_model.proofs.lists.Elements.{in_at}
use Rattle.depot_model.proofs.lists.Members.{from_map}
use Rattle.depot_laws.proofs.exchanges.HelloTexts.{hello_fits}
use Rattle.depot_laws.proofs.own_updates.OwnTexts.{accepted_fit, id_is_digest, writer_fits}
use Rattle.depot_laws.proofs.lists.Splits.{given_by}
use Rattle.depot_gossip.specs.FarHellos.{far_for, far_hello, far_leaves, far_places, put_leaf, put_leaves}

-- ---- leaves that follow one another

-- what follows depends on the last one before it
follows_last : (f g xs : List HelloLeaf) → last_of f ≡ last_of g → Follows hello_leaf hello_leaf_rises f xs → Follows hello_leaf hello_leaf_rises g xs
follows_last f g [] same follows = tt
follows_last f g (x ∷ xs) same follows = (
  follows.0,
  subst (λ (o : Option HelloLeaf). hello_leaf_rises o x ≡ true) same follows.1,
  follows_last (f ++ x ∷ []) (g ++ x ∷ []) xs (last_pushed f x ∙ sym (last_pushed g x)) follows.2,
)

put_follows : (l : HelloLeaf) (front ks : List HelloLeaf) → hello_leaf.fits l → hello_leaf_rises (last_of front) l ≡ true → Follows hello_leaf hello_leaf_rises front ks → Follows hello_leaf hello_leaf_rises front (put_leaf l ks)
unfolding put_leaf
put_follows l front [] fits above follows = (fits, above, tt)
put_follows l front (k ∷ ks) fits above follows = by_tests (hello_leaf_rises (Some k) l) refl (hello_leaf_rises (Some l) k) refl (λ before. put_follows l (front ++ k ∷ []) ks fits before follows.2) where
  by_tests : (low : Bool) → hello_leaf_rises (Some k) l ≡ low → (high : Bool) → hello_leaf_rises (Some l) k ≡ high
      → (hello_leaf_rises (last_of (front ++ k ∷ [])) l ≡ true → Follows hello_leaf hello_leaf_rises (front ++ k ∷ []) (put_leaf l ks))
      → Follows hello_leaf hello_leaf_rises front (cond low (k ∷ put_leaf l ks) (cond high (l ∷ k ∷ ks) (k ∷ ks)))
  by_tests true low high over later = (follows.0, follows.1, later (ap (λ (o : Option HelloLeaf). hello_leaf_rises o l) (last_pushed front k) ∙ low))
  by_tests false low true over later = (
    fits,
    above,
    (
      follows.0,
      ap (λ (o : Option HelloLeaf). hello_leaf_rises o k) (last_pushed front l) ∙ over,
      follows_last (front ++ k ∷ []) ((front ++ l ∷ []) ++ k ∷ []) ks (last_pushed front k ∙ sym (last_pushed (front ++ l ∷ []) k)) follows.2,
    ),
  )
  by_tests false low false over later = follows

puts_follow : (ls ks : List HelloLeaf) → ((l : HelloLeaf) → IsIn l ls → hello_leaf.fits l) → Follows hello_leaf hello_leaf_rises [] ks → Follows hello_leaf hello_leaf_rises [] (put_leaves ls ks)
unfolding put_leaves
puts_follow [] ks fits follows = follows
puts_follow (l ∷ ls) ks fits follows = puts_follow ls (put_leaf l ks) (λ k on. fits k (inr on)) (put_follows l [] ks (fits l (inl refl)) refl follows)

-- ---- how many there are

put_few : (l : HelloLeaf) (ks : List HelloLeaf) → length (put_leaf l ks) ≤ suc (length ks)
unfolding put_leaf
put_few l [] = omega arith
put_few l (k ∷ ks) = by_tests (hello_leaf_rises (Some k) l) (hello_leaf_rises (Some l) k) (put_few l ks) where
  by_tests : (low high : Bool) → length (put_leaf l ks) ≤ suc (length ks) → length (cond low (k ∷ put_leaf l ks) (cond high (l ∷ k ∷ ks) (k ∷ ks))) ≤ suc (suc (length ks))
  by_tests true high few = omega (arith, few)
  by_tests false true few = omega arith
  by_tests false false few = omega arith

puts_few : (ls ks : List HelloLeaf) → length (put_leaves ls ks) ≤ length ls + length ks
unfolding put_leaves
puts_few [] ks = omega arith
puts_few (l ∷ ls) ks = let one = put_few l ks in let rest = puts_few ls (put_leaf l ks) in omega (arith, one, rest)

at_few : (us : List Update) (places : List ℕ) → length (updates_at us places) ≤ length places
at_few us [] = omega arith
at_few us (p ∷ ps) = by_get (slice_get us p) (at_few us ps) where
  by_get : (o : Option Update) → length (updates_at us ps) ≤ length ps → length (option_to_list o ++ updates_at us ps) ≤ suc (length ps)
  by_get None few = omega (arith, few)
  by_get (Some u) few = omega (arith, few)

take_few : {X : Type 0} (n : ℕ) (xs : List X) → length (take n xs) ≤ n
take_few zero xs = omega arith
take_few (suc n) [] = omega arith
take_few (suc n) (x ∷ xs) = let rest = take_few n xs in omega (arith, rest)

far_few : (us : List Update) (leaves : List HelloLeaf) → length leaves ≤ 4097 → length (far_leaves us leaves) ≤ 4097
unfolding far_leaves
far_few us leaves few =
    let most = 4097 - length leaves in
    let places = far_for us leaves in
    let put = puts_few (map named_leaf (updates_at us places)) leaves in
    omega (arith, put, length-map (updates_at us places) named_leaf, at_few us places, take_few most (far_places us (map (λ l. l.id) leaves)), few)

-- ---- the hello

-- the updates at places are among them
pub at_on : (us : List Update) (places : List ℕ) (u : Update) → IsIn u (updates_at us places) → IsIn u us
at_on us places u on = let p = given_by (λ (place : ℕ). option_to_list (slice_get us place)) u places on in by_get p.by (slice_get us p.by) refl p.given where
  by_get : (p : ℕ) (o : Option Update) → slice_get us p ≡ o → IsIn u (option_to_list o) → IsIn u us
  by_get p None is there = absurd there
  by_get p (Some t) is (inl same) = subst (λ (v : Update). IsIn v us) same (in_at us p t is)
  by_get p (Some t) is (inr never) = absurd never

far_fit : (here : Setting) (J : List Record) (places : List ℕ) → IsLawful here J → (l : HelloLeaf) → IsIn l (map named_leaf (updates_at (accepted J) places)) → hello_leaf.fits l
unfolding hello_leaf
far_fit here J places l k on =
    let u = from_map named_leaf k (updates_at (accepted J) places) on in
    let fits = accepted_fit here J u.0 l (at_on (accepted J) places u.0 u.1.0) in
    subst (λ (m : HelloLeaf). hello_leaf.fits m) u.1.1 (writer_fits u.0 fits, (id_is_digest u.0, refl))

counted : (high n : ℕ) → n ≤ high → (number w16 0 high).fits n
unfolding number
counted high n few = (omega arith, few)

count_is : (high n : ℕ) → (number w16 0 high).fits n → n ≤ high
unfolding number
count_is high n fits = fits.1

pub far_fits : (here : Setting) (J : List Record) → IsRoster here.listed → IsLawful here J → is_empty J ≡ false → IsHello (far_hello here J)
unfolding hello hello_of list_of far_hello far_leaves
far_fits here J fits l some =
    let h = hello_fits here J fits l some in
    let few = count_is 4097 (length (leaves_named J)) h.1.1.1.1.1.1.0 in
    let follows = h.1.1.1.1.1.1.1.0.0 in
    let places = far_for (accepted J) (leaves_named J) in
    let far = puts_follow (map named_leaf (updates_at (accepted J) places)) (leaves_named J) (far_fit here J places l) follows in
    (h.0, (h.1.0, (h.1.1.0, (h.1.1.1.0, (h.1.1.1.1.0, (h.1.1.1.1.1.0, (counted 4097 _ (far_few (accepted J) (leaves_named J) few), ((far, refl), (h.1.1.1.1.1.1.1.1.0, (h.1.1.1.1.1.1.1.1.1.0, refl))))))))))
