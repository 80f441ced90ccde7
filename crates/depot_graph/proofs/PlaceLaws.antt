-- The latest writes by their places.
use Rattle.std.proofs.Common.{◌≡◌, ℕ, zero, suc, ◌<◌, ◌+◌, List, [], ◌∷◌, ◌++◌, length, get_or, filter, Option, Some, Bool, true, false, not, cond, refl, sym, ap, subst, ◌∙◌, arith, slice_get, append_assoc, append-nil}
use Rattle.std.specs.List.{AllByRecursion}
use Rattle.std.specs.Option.{option_to_list, option_map_or}
use Rattle.std.specs.Ordering.{is_lt}
use Rattle.std.proofs.lemmas.Option.{slice_get-get_or}
use Rattle.std.proofs.lemmas.List.{length_push}
use Rattle.depot_base.specs.declared.update.Update.{Update}
use Rattle.depot_model.specs.texts.Texts.{id_of_update}
use Rattle.depot_model.specs.updates.Order.{listed, past, IsCausal, AreLatestIn}
use Rattle.depot_model.specs.lists.Items.{updates_at}
use Rattle.depot_model.specs.journals.Journal.{has_id}
use Rattle.depot_model.specs.texts.Contents.{Writes, writes}
use Rattle.depot_model.proofs.lists.Elements.{get_front}
use Rattle.depot_model.proofs.of_updates.Orders.{causal_front}
use Rattle.depot_model.proofs.of_texts.ContentLaws.{writes-Decides}
use Rattle.depot_base.proofs.GeneralLaws.{get_last}
use Rattle.depot_graph.specs.KeptLatest.{stands_before, put_place, is_apart, mended, latest_behind, latest_places}
use Rattle.depot_graph.proofs.RisingLaws.{put_listed}
use Rattle.depot_graph.proofs.GraphLatest.{is_free, others_stay, mended_are_latest}

-- each place is below n
abbrev pub AreBelow : ℕ → List ℕ → Type 0
AreBelow n ns = AllByRecursion (λ m. m < n) ns

pub below_at : (n : ℕ) (ns : List ℕ) → AreBelow n ns → (k d : ℕ) → k < length ns → get_or ns k d < n
below_at n [] below k d lt = absurd (omega arith)
below_at n (m ∷ ns) below zero d lt = below.0
below_at n (m ∷ ns) below (suc k) d lt = below_at n ns below.1 k d (omega arith)

-- ---- places in a longer list

updates_at-front : (us vs : List Update) (ns : List ℕ) → AreBelow (length us) ns → updates_at (us ++ vs) ns ≡ updates_at us ns
updates_at-front us vs [] below = refl
updates_at-front us vs (n ∷ ns) below =
    ap (λ (o : Option Update). option_to_list o ++ updates_at (us ++ vs) ns) (get_front us vs n below.0) ∙ ap (λ (ts : List Update). option_to_list (slice_get us n) ++ ts) (updates_at-front us vs ns below.1)

-- the update at a place at the front
at_cons : (us : List Update) (n : ℕ) (ns : List ℕ) (t : Update) → slice_get us n ≡ Some t → updates_at us (n ∷ ns) ≡ t ∷ updates_at us ns
at_cons us n ns t e = ap (λ (o : Option Update). option_to_list o ++ updates_at us ns) e

put_chosen : (b : Bool) (us : List Update) (u t : Update) (n : ℕ) (ns : List ℕ) → slice_get us n ≡ Some t → AreBelow (length us) (n ∷ ns) → updates_at (us ++ u ∷ []) (put_place u us ns) ≡ put_listed u (updates_at us ns)
    → updates_at (us ++ u ∷ []) (cond b (length us ∷ n ∷ ns) (n ∷ put_place u us ns)) ≡ cond b (u ∷ t ∷ updates_at us ns) (t ∷ put_listed u (updates_at us ns))
put_chosen true us u t n ns e below rest =
    at_cons (us ++ u ∷ []) (length us) (n ∷ ns) u (get_last us u) ∙ ap (λ (ts : List Update). u ∷ ts) (updates_at-front us (u ∷ []) (n ∷ ns) below ∙ at_cons us n ns t e)
put_chosen false us u t n ns e below rest = at_cons (us ++ u ∷ []) n (put_place u us ns) t (get_front us (u ∷ []) n below.0 ∙ e) ∙ ap (λ (ts : List Update). t ∷ ts) rest

-- where the place of u is put, u is put among the updates
updates_at-put : (us : List Update) (u : Update) (ns : List ℕ) → AreBelow (length us) ns → updates_at (us ++ u ∷ []) (put_place u us ns) ≡ put_listed u (updates_at us ns)
unfolding put_place put_listed
updates_at-put us u [] below = at_cons (us ++ u ∷ []) (length us) [] u (get_last us u)
updates_at-put us u (n ∷ ns) below =
    let t = get_or us n u in
    let e : slice_get us n ≡ Some t = slice_get-get_or us n u below.0 in
    ap (λ (o : Option Update). updates_at (us ++ u ∷ []) (cond (option_map_or (λ t. is_lt (listed u t)) o false) (length us ∷ n ∷ ns) (n ∷ put_place u us ns))) e
    ∙ (put_chosen (is_lt (listed u t)) us u t n ns e below (updates_at-put us u ns below.1) ∙ ap (put_listed u) (sym (at_cons us n ns t e)))

apart_is_free : (us : List Update) (u t : Update) (n : ℕ) → slice_get us n ≡ Some t → is_apart u us n ≡ is_free us u t
apart_is_free us u t n e = ap (λ (o : Option Update). option_map_or (λ w. not (has_id (past u us) (id_of_update w))) o true) e

filter_chosen : (b : Bool) (us : List Update) (t : Update) (n : ℕ) (ns : List ℕ) (ts : List Update) → slice_get us n ≡ Some t → updates_at us ns ≡ ts → updates_at us (cond b (n ∷ ns) ns) ≡ cond b (t ∷ ts) ts
filter_chosen true us t n ns ts e rest = at_cons us n ns t e ∙ ap (λ (vs : List Update). t ∷ vs) rest
filter_chosen false us t n ns ts e rest = rest

-- where the places apart from u are chosen, the updates free of it are
updates_at-filter : (us : List Update) (u : Update) (ns : List ℕ) → AreBelow (length us) ns → updates_at us (filter (is_apart u us) ns) ≡ filter (is_free us u) (updates_at us ns)
updates_at-filter us u [] below = refl
updates_at-filter us u (n ∷ ns) below =
    let t = get_or us n u in
    let e : slice_get us n ≡ Some t = slice_get-get_or us n u below.0 in
    ap (λ (b : Bool). updates_at us (cond b (n ∷ filter (is_apart u us) ns) (filter (is_apart u us) ns))) (apart_is_free us u t n e)
    ∙ (filter_chosen (is_free us u t) us t n (filter (is_apart u us) ns) (filter (is_free us u) (updates_at us ns)) e (updates_at-filter us u ns below.1)
    ∙ ap (filter (is_free us u)) (sym (at_cons us n ns t e)))

-- ---- places that stay below

below_more : (n : ℕ) (ns : List ℕ) → AreBelow n ns → AreBelow (n + 1) ns
below_more n [] below = tt
below_more n (m ∷ ns) below = (omega (arith, below.0), below_more n ns below.1)

pub below_filter : (test : ℕ → Bool) (n : ℕ) (ns : List ℕ) → AreBelow n ns → AreBelow n (filter test ns)
below_filter test n [] below = tt
below_filter test n (m ∷ ns) below = elim (test m) as (λ b. AreBelow n (cond b (m ∷ filter test ns) (filter test ns))) [
  | true ↦ (below.0, below_filter test n ns below.1)
  | false ↦ below_filter test n ns below.1
]

below_put : (us : List Update) (u : Update) (ns : List ℕ) → AreBelow (length us) ns → AreBelow (length us + 1) (put_place u us ns)
unfolding put_place
below_put us u [] below = (omega arith, tt)
below_put us u (n ∷ ns) below = elim (stands_before u us n) as (λ b. AreBelow (length us + 1) (cond b (length us ∷ n ∷ ns) (n ∷ put_place u us ns))) [
  | true ↦ (omega arith, below_more (length us) (n ∷ ns) below)
  | false ↦ (omega (arith, below.0), below_put us u ns below.1)
]

-- ---- the latest writes

-- the places are those of the latest writes
pub record AreLatestPlaces (key : List ℕ) (us : List Update) (ns : List ℕ) : Type 0 where
  pub below : AreBelow (length us) ns
  pub latest : AreLatestIn key us (updates_at us ns)

mended_places : (key : List ℕ) (us : List Update) (u : Update) (ns : List ℕ) → IsCausal [] (us ++ u ∷ []) → Writes key u → AreLatestPlaces key us ns → AreLatestPlaces key (us ++ u ∷ []) (mended u us ns)
mended_places key us u ns c writes old = record {
  below = subst (λ (n : ℕ). AreBelow n (mended u us ns)) (sym (length_push us u)) (below_put us u (filter (is_apart u us) ns) (below_filter (is_apart u us) (length us) ns old.below));
  latest = subst (AreLatestIn key (us ++ u ∷ []))
      (sym (updates_at-put us u (filter (is_apart u us) ns) (below_filter (is_apart u us) (length us) ns old.below) ∙ ap (put_listed u) (updates_at-filter us u ns old.below)))
      (mended_are_latest key us u c (updates_at us ns) writes old.latest);
}

same_places : (key : List ℕ) (us : List Update) (u : Update) (ns : List ℕ) → IsCausal [] (us ++ u ∷ []) → (Writes key u → ⊥) → AreLatestPlaces key us ns → AreLatestPlaces key (us ++ u ∷ []) ns
same_places key us u ns c other old = record {
  below = subst (λ (n : ℕ). AreBelow n ns) (sym (length_push us u)) (below_more (length us) ns old.below);
  latest = subst (AreLatestIn key (us ++ u ∷ [])) (sym (updates_at-front us (u ∷ []) ns old.below)) (others_stay key us u c (updates_at us ns) other old.latest);
}

next_places : (b : Bool) (key : List ℕ) (us : List Update) (u : Update) (ns : List ℕ) → writes key u ≡ b → IsCausal [] (us ++ u ∷ []) → AreLatestPlaces key us ns → AreLatestPlaces key (us ++ u ∷ []) (cond b (mended u us ns) ns)
next_places true key us u ns e c old = mended_places key us u ns c ((writes-Decides key u).0 e) old
next_places false key us u ns e c old = same_places key us u ns c (λ same. differs (sym ((writes-Decides key u).1 same) ∙ e)) old where
  differs : true ≡ false → ⊥
  differs h = cc

behind_places : (key : List ℕ) (front us : List Update) (ns : List ℕ) → IsCausal [] (front ++ us) → AreLatestPlaces key front ns → AreLatestPlaces key (front ++ us) (latest_behind key front ns us)
unfolding latest_behind
behind_places key front [] ns c old = subst (λ (us : List Update). AreLatestPlaces key us ns) (sym (append-nil front)) old
behind_places key front (u ∷ us) ns c old =
    let whole : (front ++ u ∷ []) ++ us ≡ front ++ u ∷ us = append_assoc front (u ∷ []) us in
    let causal : IsCausal [] ((front ++ u ∷ []) ++ us) = subst (IsCausal []) (sym whole) c in
    let next = cond (writes key u) (mended u front ns) ns in
    subst (λ (ws : List Update). AreLatestPlaces key ws (latest_behind key (front ++ u ∷ []) next us)) whole
    (behind_places key (front ++ u ∷ []) us next causal (next_places (writes key u) key front u ns refl (causal_front [] (front ++ u ∷ []) us causal) old))

-- what is changed update by update are the latest writes
pub are_latest_places : (key : List ℕ) (us : List Update) → IsCausal [] us → AreLatestPlaces key us (latest_places key us)
are_latest_places key us c = behind_places key [] us [] c (record {
  below = tt;
  latest = record { all = λ u l. l.known; only = λ u never. absurd never; rising = tt };
})

pub kept_below : (key : List ℕ) (us : List Update) → IsCausal [] us → AreBelow (length us) (latest_places key us)
kept_below key us c = (are_latest_places key us c).below

-- one update more
behind-push : (key : List ℕ) (front : List Update) (ns : List ℕ) (us : List Update) (u : Update) → latest_behind key front ns (us ++ u ∷ []) ≡ cond (writes key u) (mended u (front ++ us) (latest_behind key front ns us)) (latest_behind key front ns us)
unfolding latest_behind
behind-push key front ns [] u = ap (λ (ws : List Update). cond (writes key u) (mended u ws ns) ns) (sym (append-nil front))
behind-push key front ns (t ∷ us) u =
    let next = cond (writes key t) (mended t front ns) ns in
    behind-push key (front ++ t ∷ []) next us u
    ∙ ap (λ (ws : List Update). cond (writes key u) (mended u ws (latest_behind key (front ++ t ∷ []) next us)) (latest_behind key (front ++ t ∷ []) next us)) (append_assoc front (t ∷ []) us)

pub latest_places-push : (key : List ℕ) (us : List Update) (u : Update) → latest_places key (us ++ u ∷ []) ≡ cond (writes key u) (mended u us (latest_places key us)) (latest_places key us)
latest_places-push key us u = behind-push key [] [] us u
