-- What is hashed, and the entries that the next update names.
use Rattle.std.proofs.Common.{◌≡◌, ℕ, ◌+◌, ◌<◌, add-one, take, get_or, ◌++◌, Bool, true, false, cond, not, eqb, List, [], ◌∷◌, length, map, Option, Some, None, unwrap_or, refl, sym, ap, subst, ◌∙◌, inl, inr}
use Rattle.std.specs.Prelude.{slice_get}
use Rattle.std.specs.List.{filter, flat_map, AllByRecursion}
use Rattle.std.specs.Option.{option_to_list, option_map_or}
use Rattle.std.specs.Str.{bytes_eq}
use Rattle.std.proofs.lemmas.Bool.{not-true, false_from_ne_true, eqb-true, eq-eqb, both_ways, and_from, and_parts}
use Rattle.std.proofs.Math.Seq.{take-suc}
use Rattle.std.proofs.lemmas.Option.{slice_get_within}
use Rattle.sha2.specs.Sha256.{sha256}
use Rattle.depot_base.specs.Zeros.{zeros}
use Rattle.depot_base.specs.declared.update.Update.{Update}
use Rattle.depot_model.specs.lists.Lists.{IsIn}
use Rattle.depot_model.specs.texts.Texts.{id_of_update}
use Rattle.depot_model.specs.updates.Order.{past, IsCausal, Precedes}
use Rattle.depot_model.specs.updates.History.{leaves_of, by_id, leaf_text, history_text, history_hash}
use Rattle.depot_model.specs.lists.Items.{at, place_of_id, place_of_prev, PrecedesAt, AreLeaves, updates_at}
use Rattle.depot_model.specs.journals.Journal.{has_id, named, prev_of}
use Rattle.depot_model.specs.checks.Own.{precedes_named, next_entries, is_unseen}
use Rattle.depot_model.proofs.lists.Elements.{in_at, both_at, of_place, at_its_place}
use Rattle.depot_model.proofs.lists.Members.{in_left, in_right, in_pushed, all_push, from_filter, in_filter}
use Rattle.depot_model.proofs.of_updates.NamedIds.{named_is, named_some, has_id_from, has_id_to}
use Rattle.depot_model.proofs.of_updates.Orders.{one_of_id}
use Rattle.depot_model.proofs.of_updates.Pasts.{past_in, past_of_listed}
use Rattle.depot_model.proofs.lists.RisingLists.{HaveSame}
use Rattle.depot_model.proofs.lists.RisingUpdates.{HaveOwnIds, own_ids_from_causal, own_ids_filter, same_by_id}
use Rattle.depot_graph.proofs.ClockedItems.{place_of}
use Rattle.depot_graph.specs.Closure.{closure_of}
use Rattle.depot_graph.specs.PastLeaves.{row_of, leaf_in, updates_at_places, IsUnseen}
use Rattle.depot_graph.specs.declared.leaf.Leaf.{Leaf}
use Rattle.depot_graph.proofs.ItemPlaces.{has_place, own_place}
use Rattle.depot_graph.proofs.ChainLeaves.{leaves_stand}
use Rattle.depot_graph.proofs.Reaching.{reached_apart}
use Rattle.depot_graph.proofs.Sorting.{standing_is, is_standing, standing_apart}

-- ---- the history text

rows_of : (us ts : List Update) → flat_map row_of (map (leaf_in us) ts) ≡ flat_map leaf_text ts
rows_of us [] = refl
rows_of us (t ∷ ts) = ap (λ (text : List ℕ). leaf_text t ++ text) (rows_of us ts)

-- the rows of the leaves in their order are the history text
hash_is : (us s ts : List Update) (keys : List Leaf) (hash : List ℕ) → hash ≡ sha256 (flat_map row_of keys) → keys ≡ map (leaf_in us) (by_id ts) → by_id ts ≡ by_id (leaves_of s) → hash ≡ history_hash s
unfolding history_hash history_text
hash_is us s ts keys hash is are same = is ∙ ap (λ (ls : List Leaf). sha256 (flat_map row_of ls)) are ∙ ap sha256 (rows_of us (by_id ts)) ∙ ap (λ (xs : List Update). sha256 (flat_map leaf_text xs)) same

leaves_apart : (s : List Update) → HaveOwnIds s → HaveOwnIds (leaves_of s)
unfolding leaves_of
leaves_apart s apart = own_ids_filter _ s apart

-- that of all
pub hash_of_all : (us : List Update) (leaves : List ℕ) (keys : List Leaf) (hash : List ℕ) → IsCausal [] us → AreLeaves us leaves → hash ≡ sha256 (flat_map row_of keys) → keys ≡ map (leaf_in us) (by_id (updates_at_places us leaves)) → hash ≡ history_hash us
hash_of_all us leaves keys hash c are is sorted =
    hash_is us us (updates_at_places us leaves) keys hash is sorted (same_by_id (updates_at_places us leaves) (leaves_of us) (standing_apart us leaves c) (leaves_apart us (own_ids_from_causal [] us c)) (leaves_stand us leaves c are))

-- that of a past
pub hash_of_past : (us : List Update) (items found : List ℕ) (keys : List Leaf) (hash : List ℕ) → IsCausal [] us → HaveSame (updates_at_places us found) (leaves_of (closure_of items us)) → hash ≡ sha256 (flat_map row_of keys) → keys ≡ map (leaf_in us) (by_id (updates_at_places us found)) → hash ≡ history_hash (closure_of items us)
unfolding closure_of
hash_of_past us items found keys hash c same is sorted =
    hash_is us (closure_of items us) (updates_at_places us found) keys hash is sorted (same_by_id (updates_at_places us found) (leaves_of (closure_of items us)) (standing_apart us found c) (leaves_apart (closure_of items us) (reached_apart _ us (own_ids_from_causal [] us c))) same)

-- ---- what precedes the last own update

-- the update that an id names is preceded where the test says so
named_before : (us : List Update) (h : List ℕ) (t : Update) (n : ℕ) → IsCausal [] us → slice_get us n ≡ Some t → option_map_or (λ p. has_id (past p us) (id_of_update t)) (named us h) false ≡ true → (p : ℕ) × ((place_of_id h us ≡ Some p) × PrecedesAt us n p)
named_before us h t n c at e = by_name (named us h) refl e where
  by_name : (o : Option Update) → named us h ≡ o → option_map_or (λ p. has_id (past p us) (id_of_update t)) o false ≡ true → (p : ℕ) × ((place_of_id h us ≡ Some p) × PrecedesAt us n p)
  by_name None is never = absurd cc
  by_name (Some u) is told =
      let found = named_is us h u is in
      let p = place_of us u found.0 in
      let w = has_id_to (past u us) (id_of_update t) told in
      let same : w.0 ≡ t = one_of_id [] us w.0 t c (past_in u us w.0 w.1.0) (in_at us n t at) w.1.1 in
      let before = (past_of_listed us u t c found.0).0 (subst (λ (x : Update). IsIn x (past u us)) same w.1.0) in
      (p.0, (ap (λ (k : List ℕ). place_of_id k us) (sym found.1) ∙ own_place us p.0 u c p.1, (t, (at, (u, (p.1, before))))))

before_named : (us : List Update) (h : List ℕ) (t : Update) (n p : ℕ) → IsCausal [] us → slice_get us n ≡ Some t → place_of_id h us ≡ Some p → PrecedesAt us n p → option_map_or (λ p. has_id (past p us) (id_of_update t)) (named us h) false ≡ true
before_named us h t n p c at place before =
    let u = has_place h us p place in
    let u_in = in_at us p u.0 u.1.0 in
    let two = both_at us n p (Precedes us) before in
    let first : two.first ≡ t = let both : Some two.first ≡ Some t = sym two.at_first ∙ at in cc in
    let second : two.second ≡ u.0 = let both : Some two.second ≡ Some u.0 = sym two.at_second ∙ u.1.0 in cc in
    let path = subst (λ (x : Update). Precedes us x u.0) first (subst (Precedes us two.first) second two.holds) in
    let on = (past_of_listed us u.0 t c u_in).1 path in
    ap (λ (o : Option Update). option_map_or (λ p. has_id (past p us) (id_of_update t)) o false) (named_some [] us h u.0 c u_in u.1.1) ∙ has_id_from (past u.0 us) (id_of_update t) t on refl

-- where a prev names the update at a place
prev_before : (us : List Update) (h : List ℕ) (t : Update) (n : ℕ) → IsCausal [] us → slice_get us n ≡ Some t → precedes_named us h t ≡ true → (p : ℕ) × ((place_of_prev h us ≡ Some p) × PrecedesAt us n p)
unfolding precedes_named prev_of
prev_before us h t n c at e = by_test (bytes_eq h zeros) e where
  by_test : (b : Bool) → option_map_or (λ p. has_id (past p us) (id_of_update t)) (cond b None (named us h)) false ≡ true → (p : ℕ) × ((cond b None (place_of_id h us) ≡ Some p) × PrecedesAt us n p)
  by_test true never = absurd cc
  by_test false told = named_before us h t n c at told

before_prev : (us : List Update) (h : List ℕ) (t : Update) (n p : ℕ) → IsCausal [] us → slice_get us n ≡ Some t → place_of_prev h us ≡ Some p → PrecedesAt us n p → precedes_named us h t ≡ true
unfolding precedes_named prev_of
before_prev us h t n p c at place before = by_test (bytes_eq h zeros) place where
  by_test : (b : Bool) → cond b None (place_of_id h us) ≡ Some p → option_map_or (λ p. has_id (past p us) (id_of_update t)) (cond b None (named us h)) false ≡ true
  by_test true never = absurd cc
  by_test false told = before_named us h t n p c at told before

-- ---- the entries of the next own update

unseen_is : (us : List Update) (me : ℕ) (h : List ℕ) (last : Option ℕ) (n : ℕ) (t : Update) → IsCausal [] us → place_of_prev h us ≡ last → slice_get us n ≡ Some t → IsUnseen us me last n → is_unseen me us h t ≡ true
unseen_is us me h last n t c is at unseen =
    let other : t.writer ≡ me → ⊥ = λ same. let there : unseen.other.0 ≡ t = let both : Some unseen.other.0 ≡ Some t = sym unseen.other.1.0 ∙ at in cc in unseen.other.1.1 (ap (λ (x : Update). x.writer) there ∙ same) in
    and_from (not (eqb t.writer me)) (not (precedes_named us h t))
    (ap not (false_from_ne_true _ (λ e. other (eqb-true _ _ e))))
    (ap not (false_from_ne_true _ (λ e. let p = prev_before us h t n c at e in unseen.apart p.0 (sym is ∙ p.1.0) p.1.1)))

is_of_unseen : (us : List Update) (me : ℕ) (h : List ℕ) (last : Option ℕ) (n : ℕ) (t : Update) → IsCausal [] us → place_of_prev h us ≡ last → slice_get us n ≡ Some t → is_unseen me us h t ≡ true → IsUnseen us me last n
is_of_unseen us me h last n t c is at e =
    let parts = and_parts (not (eqb t.writer me)) (not (precedes_named us h t)) e in
    record {
      other = (t, (at, λ same. both_ways (eqb t.writer me) (not-true _ parts.0) (eq-eqb _ _ same)));
      apart = λ p named before. both_ways (precedes_named us h t) (not-true _ parts.1) (before_prev us h t n p c at (is ∙ named) before);
    }

pub entries_are : (us : List Update) (me : ℕ) (h : List ℕ) (last : Option ℕ) (leaves unseen : List ℕ) → IsCausal [] us → AreLeaves us leaves → place_of_prev h us ≡ last
    → ((n : ℕ) → (IsIn n unseen → IsIn n leaves × IsUnseen us me last n) × (IsIn n leaves × IsUnseen us me last n → IsIn n unseen)) → by_id (updates_at_places us unseen) ≡ next_entries me us h
unfolding next_entries
entries_are us me h last leaves unseen c are is each =
    let all = leaves_stand us leaves c are in
    same_by_id (updates_at_places us unseen) (filter (is_unseen me us h) (leaves_of us)) (standing_apart us unseen c) (own_ids_filter (is_unseen me us h) (leaves_of us) (leaves_apart us (own_ids_from_causal [] us c))) (record {
      to = λ t on.
          let p = of_place us unseen t (standing_is us unseen t c on) in
          let known = (each p.0).0 p.1.0 in
          in_filter (is_unseen me us h) t (leaves_of us) (all.to t (is_standing us leaves t (at_its_place us leaves p.0 t known.0 p.1.1))) (unseen_is us me h last p.0 t c is p.1.1 known.1);
      back = λ t on.
          let f = from_filter (is_unseen me us h) t (leaves_of us) on in
          let p = of_place us leaves t (standing_is us leaves t c (all.back t f.0)) in
          is_standing us unseen t (at_its_place us unseen p.0 t ((each p.0).1 (p.1.0, is_of_unseen us me h last p.0 t c is p.1.1 f.1)) p.1.1);
    })

-- ---- one item after the other

-- what is unseen of the first this many items
pub record AreUnseen (us : List Update) (items : List ℕ) (me : ℕ) (last : Option ℕ) (unseen : List ℕ) (i : ℕ) : Type 0 where
  pub inside : AllByRecursion (λ n. n < length us) unseen
  pub only : (n : ℕ) → IsIn n unseen → IsIn n (take i items) × IsUnseen us me last n
  pub all : (n : ℕ) → IsIn n (take i items) → IsUnseen us me last n → IsIn n unseen

one_longer : (items : List ℕ) (i : ℕ) → i < length items → take (i + 1) items ≡ take i items ++ get_or items i 0 ∷ []
one_longer items i lt = rw add-one (take-suc items i 0 lt)

pub unseen_one : (us : List Update) (items : List ℕ) (me : ℕ) (last : Option ℕ) (unseen : List ℕ) (i : ℕ) → i < length items → AreUnseen us items me last unseen i → get_or items i 0 < length us → IsUnseen us me last (get_or items i 0) → AreUnseen us items me last (unseen ++ get_or items i 0 ∷ []) (i + 1)
unseen_one us items me last unseen i lt u inside here =
    let m = get_or items i 0 in
    let longer = one_longer items i lt in
    record {
      inside = all_push (λ n. n < length us) unseen m u.inside inside;
      only = λ n on. elim (in_pushed n unseen m on) [
        | inl old ↦ let known = u.only n old in (subst (λ (ns : List ℕ). IsIn n ns) (sym longer) (in_left n (take i items) (m ∷ []) known.0), known.1)
        | inr new ↦ (subst (λ (ns : List ℕ). IsIn n ns) (sym longer) (in_right n (take i items) (m ∷ []) (inl new)), subst (IsUnseen us me last) new here)
      ];
      all = λ n on unseen_n. elim (in_pushed n (take i items) m (subst (λ (ns : List ℕ). IsIn n ns) longer on)) [
        | inl old ↦ in_left n unseen (m ∷ []) (u.all n old unseen_n)
        | inr new ↦ in_right n unseen (m ∷ []) (inl new)
      ];
    }

pub unseen_same : (us : List Update) (items : List ℕ) (me : ℕ) (last : Option ℕ) (unseen : List ℕ) (i : ℕ) → i < length items → AreUnseen us items me last unseen i → (IsUnseen us me last (get_or items i 0) → ⊥) → AreUnseen us items me last unseen (i + 1)
unseen_same us items me last unseen i lt u not_here =
    let m = get_or items i 0 in
    let longer = one_longer items i lt in
    record {
      inside = u.inside;
      only = λ n on. let known = u.only n on in (subst (λ (ns : List ℕ). IsIn n ns) (sym longer) (in_left n (take i items) (m ∷ []) known.0), known.1);
      all = λ n on unseen_n. elim (in_pushed n (take i items) m (subst (λ (ns : List ℕ). IsIn n ns) longer on)) [
        | inl old ↦ u.all n old unseen_n
        | inr new ↦ absurd (not_here (subst (IsUnseen us me last) (sym new) unseen_n))
      ];
    }

-- ---- places

item_of : (us : List Update) (t : Update) → IsCausal [] us → IsIn t us → slice_get us (leaf_in us t).item ≡ Some t
item_of us t c on =
    let p = place_of us t on in
    let item : (leaf_in us t).item ≡ p.0 = ap (λ (o : Option ℕ). unwrap_or o 0) (own_place us p.0 t c p.1) in
    ap (slice_get us) item ∙ p.1

-- the updates at the items of leaves
pub updates_back : (us ts : List Update) → IsCausal [] us → ((u : Update) → IsIn u ts → IsIn u us) → updates_at us (map (λ l. l.item) (map (leaf_in us) ts)) ≡ ts
updates_back us [] c within = refl
updates_back us (t ∷ ts) c within =
    ap (λ (o : Option Update). option_to_list o ++ updates_at us (map (λ l. l.item) (map (leaf_in us) ts))) (item_of us t c (within t (inl refl)))
    ∙ ap (λ (rest : List Update). t ∷ rest) (updates_back us ts c (λ u on. within u (inr on)))

pub items_within : (us ts : List Update) → IsCausal [] us → ((u : Update) → IsIn u ts → IsIn u us) → AllByRecursion (λ item. item < length us) (map (λ l. l.item) (map (leaf_in us) ts))
items_within us [] c within = tt
items_within us (t ∷ ts) c within = (slice_get_within us (leaf_in us t).item t (item_of us t c (within t (inl refl))), items_within us ts c (λ u on. within u (inr on)))
