-- Places further back by prev: where they are, and how they are found step by step.
use Rattle.std.proofs.Common.{◌≡◌, ℕ, zero, suc, ◌+◌, ◌-◌, ◌*◌, ◌<◌, ◌≤◌, ◌^◌, add-one, pow-suc, List, [], ◌∷◌, ◌++◌, length, map, take, get_or, Option, Some, None, refl, sym, ap, subst, ◌∙◌, inl, inr, arith, append_assoc}
use Rattle.std.specs.Prelude.{option_map, option_to_list, slice_get}
use Rattle.std.specs.List.{AllByRecursion, flat_map}
use Rattle.std.proofs.Math.Pow.{pow_mono}
use Rattle.std.proofs.Math.Seq.{take-suc}
use Rattle.std.proofs.lemmas.List.{append-nil, map-append}
use Rattle.std.proofs.lemmas.Option.{slice_get-map}
use Rattle.std.proofs.lemmas.Grind.{flat_map-append}
use Rattle.depot_base.specs.declared.update.Update.{Update}
use Rattle.depot_graph.specs.Kept.{prev_places}
use Rattle.depot_graph.proofs.AddLaws.{prev_inside}
use Rattle.depot_graph.proofs.CoveredItems.{place_within}
use Rattle.depot_model.specs.declared.hello.HelloLeaf.{HelloLeaf}
use Rattle.depot_base.specs.declared.record.Record.{Record}
use Rattle.depot_base.proofs.GeneralLaws.{flat_push, take_next}
use Rattle.depot_model.specs.declared.hello.Hello.{Hello}
use Rattle.depot_model.specs.checks.Checks.{Setting}
use Rattle.depot_model.specs.exchange.Hello.{hello_of, leaves_named, named_leaf}
use Rattle.depot_model.specs.journals.Journal.{accepted}
use Rattle.depot_model.specs.texts.Texts.{id_of_update}
use Rattle.depot_model.specs.lists.Items.{at, place_of_id, place_of_prev, places_of, updates_at}
use Rattle.depot_model.specs.lists.Lists.{IsIn}
use Rattle.depot_model.proofs.lists.Members.{all_at, all_from, from_take}
use Rattle.depot_laws.proofs.lists.Splits.{given_by}
use Rattle.depot_laws.proofs.of_worlds.Worlds.{giver_in}
use Rattle.depot_gossip.specs.FarHellos.{back, far_behind, far_for, far_hello, far_leaves, far_places, one_back, put_leaf, put_leaves}

-- ---- one step back

-- the prev of a place is among the updates
pub one_inside : (us : List Update) (place q : ℕ) → one_back (prev_places us) place ≡ Some q → q < length us
one_inside us place q e = by_get (slice_get us place) (ap (λ (o : Option (Option ℕ)). elim o as (λ x. Option ℕ) [ None ↦ None | Some before ↦ before ]) (sym (slice_get-map (λ (u : Update). place_of_prev u.prev us) us place)) ∙ e) where
  by_get : (o : Option Update) → elim (option_map (λ (u : Update). place_of_prev u.prev us) o) as (λ x. Option ℕ) [ None ↦ None | Some before ↦ before ] ≡ Some q → q < length us
  by_get None is = absurd cc
  by_get (Some u) is = prev_inside us u q is

-- the prev that is found is the one back
pub one_told : (prevs : List (Option ℕ)) (place : ℕ) (result : Option ℕ) → slice_get prevs place ≡ Some result → one_back prevs place ≡ result
one_told prevs place result e = ap (λ (o : Option (Option ℕ)). elim o as (λ x. Option ℕ) [ None ↦ None | Some before ↦ before ]) e

-- ---- many steps back

pub back_none : (prevs : List (Option ℕ)) (n place : ℕ) → one_back prevs place ≡ None → back prevs (suc n) place ≡ None
unfolding back
back_none prevs n place e = ap (λ (o : Option ℕ). elim o as (λ x. Option ℕ) [ None ↦ None | Some before ↦ back prevs n before ]) e

pub back_some : (prevs : List (Option ℕ)) (n place q : ℕ) → one_back prevs place ≡ Some q → back prevs (suc n) place ≡ back prevs n q
unfolding back
back_some prevs n place q e = ap (λ (o : Option ℕ). elim o as (λ x. Option ℕ) [ None ↦ None | Some before ↦ back prevs n before ]) e

pub back_here : (prevs : List (Option ℕ)) (place : ℕ) → back prevs 0 place ≡ Some place
unfolding back
back_here prevs place = refl

pub back_inside : (us : List Update) (n place q : ℕ) → place < length us → back (prev_places us) n place ≡ Some q → q < length us
unfolding back
back_inside us zero place q inside e = let same : place ≡ q = cc in subst (λ (p : ℕ). p < length us) same inside
back_inside us (suc n) place q inside e = by_one (one_back (prev_places us) place) refl (λ p at is. back_inside us n p q at is) e where
  by_one : (o : Option ℕ) → one_back (prev_places us) place ≡ o → ((p : ℕ) → p < length us → back (prev_places us) n p ≡ Some q → q < length us) → elim o as (λ x. Option ℕ) [ None ↦ None | Some before ↦ back (prev_places us) n before ] ≡ Some q → q < length us
  by_one None is later e = absurd cc
  by_one (Some p) is later e = later p (one_inside us place p is) e

-- ---- the places further back

pub far_none : (prevs : List (Option ℕ)) (n steps place : ℕ) → back prevs steps place ≡ None → far_behind prevs (suc n) steps place ≡ []
unfolding far_behind
far_none prevs n steps place e = ap (λ (o : Option ℕ). elim o as (λ x. List ℕ) [ None ↦ [] | Some far ↦ far ∷ far_behind prevs n (steps + steps) far ]) e

pub far_some : (prevs : List (Option ℕ)) (n steps place far : ℕ) → back prevs steps place ≡ Some far → far_behind prevs (suc n) steps place ≡ far ∷ far_behind prevs n (steps + steps) far
unfolding far_behind
far_some prevs n steps place far e = ap (λ (o : Option ℕ). elim o as (λ x. List ℕ) [ None ↦ [] | Some far ↦ far ∷ far_behind prevs n (steps + steps) far ]) e

pub far_end : (prevs : List (Option ℕ)) (steps place : ℕ) → far_behind prevs 0 steps place ≡ []
unfolding far_behind
far_end prevs steps place = refl

far_inside : (us : List Update) (n steps place : ℕ) → place < length us → AllByRecursion (λ i. i < length us) (far_behind (prev_places us) n steps place)
unfolding far_behind
far_inside us zero steps place inside = tt
far_inside us (suc n) steps place inside = by_back (back (prev_places us) steps place) refl (λ far at. far_inside us n (steps + steps) far at) where
  by_back : (o : Option ℕ) → back (prev_places us) steps place ≡ o → ((far : ℕ) → far < length us → AllByRecursion (λ i. i < length us) (far_behind (prev_places us) n (steps + steps) far))
      → AllByRecursion (λ i. i < length us) (elim o as (λ x. List ℕ) [ None ↦ [] | Some far ↦ far ∷ far_behind (prev_places us) n (steps + steps) far ])
  by_back None is later = tt
  by_back (Some far) is later = let at = back_inside us steps place far inside is in (at, later far at)

-- all of them are among the updates
pub far_places_inside : (us : List Update) (ids : List (List ℕ)) (i : ℕ) → IsIn i (far_places us ids) → i < length us
unfolding far_places
far_places_inside us ids i on =
    let f = given_by (far_behind (prev_places us) 17 1) i (places_of us ids) on in
    let p = given_by (λ (h : List ℕ). option_to_list (place_of_id h us)) f.by ids (giver_in (far_behind (prev_places us) 17 1) i (places_of us ids) f) in
    all_at (λ j. j < length us) (far_behind (prev_places us) 17 1 f.by) i (far_inside us 17 1 f.by (within p.by f.by (place_of_id p.by us) refl p.given)) f.given where
      within : (h : List ℕ) (q : ℕ) (o : Option ℕ) → place_of_id h us ≡ o → IsIn q (option_to_list o) → q < length us
      within h q None is there = absurd there
      within h q (Some n) is (inl same) = subst (λ (k : ℕ). k < length us) same (place_within us h n is)
      within h q (Some n) is (inr never) = absurd never

pub far_taken_inside : (us : List Update) (ids : List (List ℕ)) (n : ℕ) → AllByRecursion (λ i. i < length us) (take n (far_places us ids))
far_taken_inside us ids n = all_from (λ i. i < length us) (take n (far_places us ids)) (λ i on. far_places_inside us ids i (from_take n i (far_places us ids) on))

-- ---- leaf after leaf

pub far_push : (us : List Update) (ids : List (List ℕ)) (id : List ℕ) → far_places us (ids ++ id ∷ []) ≡ far_places us ids ++ far_places us (id ∷ [])
unfolding far_places
far_push us ids id =
    let at = λ (h : List ℕ). option_to_list (place_of_id h us) in
    ap (flat_map (far_behind (prev_places us) 17 1)) (flat_map-append at ids (id ∷ [])) ∙ flat_map-append (far_behind (prev_places us) 17 1) (flat_map at ids) (flat_map at (id ∷ []))

pub far_of_none : (us : List Update) (id : List ℕ) → place_of_id id us ≡ None → far_places us (id ∷ []) ≡ []
unfolding far_places
far_of_none us id none = ap (λ (o : Option ℕ). flat_map (far_behind (prev_places us) 17 1) (option_to_list o ++ [])) none

pub far_of_some : (us : List Update) (id : List ℕ) (place : ℕ) → place_of_id id us ≡ Some place → far_places us (id ∷ []) ≡ far_behind (prev_places us) 17 1 place
unfolding far_places
far_of_some us id place some = ap (λ (o : Option ℕ). flat_map (far_behind (prev_places us) 17 1) (option_to_list o ++ [])) some ∙ append-nil (far_behind (prev_places us) 17 1 place)

-- a prefix depends on the prefix before it
pub take_alike : {X : Type 0} (n : ℕ) (xs ys zs : List X) → take n xs ≡ take n ys → take n (xs ++ zs) ≡ take n (ys ++ zs)
take_alike zero xs ys zs same = refl
take_alike (suc n) [] [] zs same = refl
take_alike (suc n) [] (y ∷ ys) zs same = absurd cc
take_alike (suc n) (x ∷ xs) [] zs same = absurd cc
take_alike {X = X} (suc n) (x ∷ xs) (y ∷ ys) zs same =
    let first : x ≡ y = cc in
    let rest : take n xs ≡ take n ys = cc in
    ap (λ (w : X). w ∷ take n (xs ++ zs)) first ∙ ap (λ (ws : List X). y ∷ ws) (take_alike n xs ys zs rest)

pub take_enough : {X : Type 0} (n : ℕ) (xs ys : List X) → n ≤ length xs → take n xs ≡ take n (xs ++ ys)
take_enough zero xs ys enough = refl
take_enough (suc n) [] ys enough = absurd (omega (arith, enough))
take_enough {X = X} (suc n) (x ∷ xs) ys enough = ap (λ (ws : List X). x ∷ ws) (take_enough n xs ys (omega (arith, enough)))

-- ---- leaves that are put

pub put_push : (ls : List HelloLeaf) (l : HelloLeaf) (ks : List HelloLeaf) → put_leaves (ls ++ l ∷ []) ks ≡ put_leaf l (put_leaves ls ks)
unfolding put_leaves
put_push [] l ks = refl
put_push (m ∷ ls) l ks = put_push ls l (put_leaf m ks)

pub put_none : (ks : List HelloLeaf) → put_leaves [] ks ≡ ks
unfolding put_leaves
put_none ks = refl

-- ---- step by step

pub back_next : (prevs : List (Option ℕ)) (steps i place q : ℕ) → i < steps → slice_get prevs place ≡ Some (Some q) → back prevs (steps - i) place ≡ back prevs (steps - (i + 1)) q
back_next prevs steps i place q less at =
    let more : steps - i ≡ suc (steps - (i + 1)) = omega (arith, less) in
    ap (λ (n : ℕ). back prevs n place) more ∙ back_some prevs (steps - (i + 1)) place q (one_told prevs place (Some q) at)

pub back_stops : (prevs : List (Option ℕ)) (steps i place : ℕ) → i < steps → slice_get prevs place ≡ Some None → back prevs (steps - i) place ≡ None
back_stops prevs steps i place less at =
    let more : steps - i ≡ suc (steps - (i + 1)) = omega (arith, less) in
    ap (λ (n : ℕ). back prevs n place) more ∙ back_none prevs (steps - (i + 1)) place (one_told prevs place None at)

pub back_ends : (prevs : List (Option ℕ)) (steps i place : ℕ) → steps ≤ i → back prevs (steps - i) place ≡ Some place
back_ends prevs steps i place done =
    let none : steps - i ≡ 0 = omega (arith, done) in
    ap (λ (n : ℕ). back prevs n place) none ∙ back_here prevs place

pub back_told : (prevs : List (Option ℕ)) (us : List Update) (place q : ℕ) → prevs ≡ prev_places us → slice_get prevs place ≡ Some (Some q) → q < length us
back_told prevs us place q are at = one_inside us place q (one_told (prev_places us) place (Some q) (sym (ap (λ (ps : List (Option ℕ)). slice_get ps place) are) ∙ at))

pub far_next : (prevs : List (Option ℕ)) (xs : List ℕ) (i steps place far : ℕ) → i < 17 → back prevs steps place ≡ Some far → xs ++ far_behind prevs (17 - i) steps place ≡ (xs ++ far ∷ []) ++ far_behind prevs (17 - (i + 1)) (steps + steps) far
far_next prevs xs i steps place far less e =
    let more : 17 - i ≡ suc (17 - (i + 1)) = omega (arith, less) in
    ap (λ (n : ℕ). xs ++ far_behind prevs n steps place) more ∙ ap (λ (ys : List ℕ). xs ++ ys) (far_some prevs (17 - (i + 1)) steps place far e)
    ∙ sym (append_assoc xs (far ∷ []) (far_behind prevs (17 - (i + 1)) (steps + steps) far))

pub far_stops : (prevs : List (Option ℕ)) (xs : List ℕ) (i steps place : ℕ) → i < 17 → back prevs steps place ≡ None → xs ++ far_behind prevs (17 - i) steps place ≡ xs
far_stops prevs xs i steps place less e =
    let more : 17 - i ≡ suc (17 - (i + 1)) = omega (arith, less) in
    ap (λ (n : ℕ). xs ++ far_behind prevs n steps place) more ∙ ap (λ (ys : List ℕ). xs ++ ys) (far_none prevs (17 - (i + 1)) steps place e) ∙ append-nil xs

pub far_ends : (prevs : List (Option ℕ)) (xs : List ℕ) (i steps place : ℕ) → 17 ≤ i → xs ++ far_behind prevs (17 - i) steps place ≡ xs
far_ends prevs xs i steps place done =
    let none : 17 - i ≡ 0 = omega (arith, done) in
    ap (λ (n : ℕ). xs ++ far_behind prevs n steps place) none ∙ ap (λ (ys : List ℕ). xs ++ ys) (far_end prevs steps place) ∙ append-nil xs

pub far_nil : (us : List Update) → far_places us [] ≡ []
unfolding far_places
far_nil us = refl

pub far_step : (us : List Update) (most : ℕ) (leaves : List HelloLeaf) (i : ℕ) (leaf : HelloLeaf) (old new : List ℕ) → i < length leaves → leaf ≡ get_or leaves i leaf → take most old ≡ take most (far_places us (map (λ l. l.id) (take i leaves)))
    → take most new ≡ take most (old ++ far_places us (leaf.id ∷ [])) → take most new ≡ take most (far_places us (map (λ l. l.id) (take (i + 1) leaves)))
far_step us most leaves i leaf old new less is before step =
    let ids = map (λ (l : HelloLeaf). l.id) (take i leaves) in
    let longer : map (λ (l : HelloLeaf). l.id) (take (i + 1) leaves) ≡ ids ++ leaf.id ∷ [] = ap (map (λ (l : HelloLeaf). l.id)) (take_next leaves i leaf less is) ∙ map-append (λ (l : HelloLeaf). l.id) (take i leaves) (leaf ∷ []) in
    step ∙ take_alike most old (far_places us ids) (far_places us (leaf.id ∷ [])) before ∙ ap (take most) (sym (ap (far_places us) longer ∙ far_push us ids leaf.id))

pub put_step : (us : List Update) (items : List ℕ) (i : ℕ) (u : Update) (id : List ℕ) (first old new : List HelloLeaf) → i < length items → slice_get us (get_or items i 0) ≡ Some u → at us (get_or items i 0) (λ t. id_of_update t ≡ id)
    → old ≡ put_leaves (map named_leaf (updates_at us (take i items))) first → new ≡ put_leaf (record { writer = u.writer; id = id }) old → new ≡ put_leaves (map named_leaf (updates_at us (take (i + 1) items))) first
put_step us items i u id first old new less here known before step =
    let next : take (i + 1) items ≡ take i items ++ get_or items i 0 ∷ [] = rw add-one (take-suc items i 0 less) in
    let same : Some known.0 ≡ Some u = sym known.1.0 ∙ here in
    let one : known.0 ≡ u = cc in
    let named : id ≡ id_of_update u = sym known.1.1 ∙ ap id_of_update one in
    let give = λ (place : ℕ). option_to_list (slice_get us place) in
    let longer : updates_at us (take (i + 1) items) ≡ updates_at us (take i items) ++ u ∷ [] =
    ap (flat_map give) next ∙ flat_push give (take i items) (get_or items i 0) ∙ ap (λ (o : Option Update). updates_at us (take i items) ++ option_to_list o) here in
    let all : map named_leaf (updates_at us (take (i + 1) items)) ≡ map named_leaf (updates_at us (take i items)) ++ named_leaf u ∷ [] = ap (map named_leaf) longer ∙ map-append named_leaf (updates_at us (take i items)) (u ∷ []) in
    step ∙ ap (λ (h : List ℕ). put_leaf (record { writer = u.writer; id = h }) old) named ∙ ap (put_leaf (named_leaf u)) before
    ∙ sym (ap (λ (ls : List HelloLeaf). put_leaves ls first) all ∙ put_push (map named_leaf (updates_at us (take i items))) (named_leaf u) first)

pub far_made : (us : List Update) (leaves named lent : List HelloLeaf) (places : List ℕ) (most : ℕ) (result : List HelloLeaf) → lent ≡ leaves → most ≡ 4097 - length leaves → places ≡ take most (far_places us (map (λ l. l.id) lent)) → named ≡ leaves
    → result ≡ put_leaves (map named_leaf (updates_at us places)) named → result ≡ far_leaves us leaves
unfolding far_leaves
far_made us leaves named lent places most result lends few are names made =
    let all : places ≡ far_for us leaves = are ∙ ap (λ (ls : List HelloLeaf). take most (far_places us (map (λ l. l.id) ls))) lends ∙ ap (λ (n : ℕ). take n (far_places us (map (λ l. l.id) leaves))) few in
    made ∙ ap (λ (ps : List ℕ). put_leaves (map named_leaf (updates_at us ps)) named) all ∙ ap (put_leaves (map named_leaf (updates_at us (far_for us leaves)))) names

pub far_is : (here : Setting) (J : List Record) (h : Hello) (us : List Update) (leaves : List HelloLeaf) → h ≡ hello_of here J → us ≡ accepted J → leaves ≡ far_leaves us h.leaves
    → record { node = h.node; roster = h.roster; convicted = h.convicted; leaves = leaves; wanted = h.wanted } ≡ far_hello here J
unfolding far_hello hello_of
far_is here J h us leaves told are far =
    let all : leaves ≡ far_leaves (accepted J) (leaves_named J) = far ∙ ap (λ (vs : List Update). far_leaves vs h.leaves) are ∙ ap (λ (x : Hello). far_leaves (accepted J) x.leaves) told in
    λ i. record { node = (told i).node; roster = (told i).roster; convicted = (told i).convicted; leaves = all i; wanted = (told i).wanted }

-- the steps double, and stay few
pub steps_few : (i steps : ℕ) → i < 17 → steps ≡ 2 ^ i → steps ≤ 65536
steps_few i steps less is = let few : 2 ^ i ≤ 2 ^ 16 = pow_mono {j = 16} (omega (arith, less)) in omega (arith, is, few)

pub steps_double : (i steps : ℕ) → steps ≡ 2 ^ i → steps + steps ≡ 2 ^ (i + 1)
steps_double i steps is = let next : 2 ^ (i + 1) ≡ 2 ^ i * 2 = ap (λ (n : ℕ). 2 ^ n) (add-one i) ∙ pow-suc 2 i in omega (arith, is, next)
