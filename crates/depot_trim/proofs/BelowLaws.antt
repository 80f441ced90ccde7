-- The updates below a checkpoint, and which of them are trimmed.
use Rattle.std.proofs.Common.{◌≡◌, ◌∙◌, ℕ, ◌+◌, ◌<◌, ◌^◌, eqb, Bool, true, false, not, cond, ◌&&◌, List, [], ◌∷◌, ◌++◌, length, map, take, drop, Some, None, refl, sym, ap, subst, arith, inl, inr}
use Rattle.std.specs.Prelude.{slice_get}
use Rattle.std.specs.List.{filter, list_any}
use Rattle.std.specs.Option.{option_to_list}
use Rattle.std.proofs.lemmas.Bool.{eq-eqb, false_from_ne_true}
use Rattle.std.proofs.lemmas.Bool.Decides.{nat_tests}
use Rattle.std.proofs.lemmas.List.{append-nil, length-append, length-map}
use Rattle.depot_base.specs.declared.record.Record.{Record}
use Rattle.depot_base.specs.declared.update.Update.{Update}
use Rattle.depot_base.proofs.GeneralLaws.{filter_short}
use Rattle.depot_model.specs.texts.Contents.{keys_written}
use Rattle.depot_graph.specs.Kept.{updates_in}
use Rattle.depot_model.specs.exchange.Bundle.{is_covered}
use Rattle.depot_model.specs.checks.Checks.{Setting}
use Rattle.depot_model.specs.lists.Items.{place_of_id, updates_at}
use Rattle.depot_model.specs.journals.Journal.{accepted, has_id}
use Rattle.depot_model.specs.updates.LatestList.{latest_in}
use Rattle.depot_model.specs.journals.Lawful.{IsLawful}
use Rattle.depot_model.specs.lists.Lists.{IsIn}
use Rattle.depot_model.specs.updates.Order.{IsCausal, Precedes, AreLatestIn, parents}
use Rattle.depot_model.specs.texts.Texts.{id_of_update}
use Rattle.depot_model.specs.readers.Trimming.{below, is_latest_below, is_trimmed, trimmed}
use Rattle.depot_model.proofs.lists.Elements.{from_option, in_at, in_option}
use Rattle.depot_model.proofs.of_updates.LatestLaws.{one_latest_list}
use Rattle.depot_model.proofs.of_updates.LatestWrites.{latest_are_listed}
use Rattle.depot_model.proofs.lists.Members.{in_left, in_last, from_map, in_map, map_same, from_filter, in_filter, any_from, any_to}
use Rattle.depot_model.proofs.of_updates.NamedIds.{has_id_from, has_id_to}
use Rattle.depot_model.proofs.of_updates.Orders.{one_of_id, parent_precedes, causal_front, causal_push, parents_of_last}
use Rattle.depot_graph.proofs.Front.{apart}
use Rattle.depot_graph.proofs.ItemPlaces.{has_place, has_no_place, own_place}
use Rattle.depot_laws.proofs.records.Causes.{lawful_is_causal}
use Rattle.depot_laws.proofs.of_readers.PrunedReadings.{filter_both}
use Rattle.depot_laws.proofs.lists.Splits.{from_end, flat_gives, given_by}
use Rattle.depot_laws.proofs.of_readers.Superseded.{below_closed}
use Rattle.depot_laws.proofs.of_worlds.Worlds.{giver_in}
use Rattle.depot_trim.specs.Trimmings.{is_given_up_below, given_up}
use Rattle.depot_trim.proofs.ReaderReads.{has_id_filter}
use Rattle.depot_trim.proofs.SoFar.{filter_next, halves, take_next}

-- ---- what is below fits

-- what names a parent passes only where the parent does
abbrev IsClosedTest : (Update → Bool) → List Update → Type 0
IsClosedTest test us = (t u : Update) → IsIn t us → IsIn u us → IsIn (id_of_update t) (parents u) → test u ≡ true → test t ≡ true

causal_left : (test : Update → Bool) (us : List Update) → IsCausal [] us → IsClosedTest test us → IsCausal [] (filter test us)
causal_left test = from_end (λ (us : List Update). IsCausal [] us → IsClosedTest test us → IsCausal [] (filter test us)) (λ c closed. c) (λ us u before c closed.
    let front = causal_front [] us (u ∷ []) c in
    let rest = before front (λ t w t_on w_on named e. closed t w (in_left t us (u ∷ []) t_on) (in_left w us (u ∷ []) w_on) named e) in
    subst (λ (xs : List Update). IsCausal [] xs) (sym (filter_both test us (u ∷ []))) (by_test us u c closed rest (test u) refl))
  where
    by_test : (us : List Update) (u : Update) → IsCausal [] (us ++ u ∷ []) → IsClosedTest test (us ++ u ∷ []) → IsCausal [] (filter test us) → (b : Bool) → test u ≡ b → IsCausal [] (filter test us ++ cond b (u ∷ []) [])
    by_test us u c closed rest false is = subst (λ (xs : List Update). IsCausal [] xs) (sym (append-nil (filter test us))) rest
    by_test us u c closed rest true is = causal_push [] (filter test us) u rest
        (λ h on. elim (parents_of_last [] us u h c on) [
          | inl never ↦ absurd never
          | inr named ↦
              let t = from_map id_of_update h us named in
              let passes = closed t.0 u (in_left t.0 us (u ∷ []) t.1.0) (in_last us u) (subst (λ (k : List ℕ). IsIn k (parents u)) (sym t.1.1) on) is in
              inr (subst (λ (k : List ℕ). IsIn k (map id_of_update (filter test us))) t.1.1 (in_map id_of_update t.0 (filter test us) (in_filter test t.0 us t.1.0 passes)))
        ])
        (λ never. never)
        (λ on. let t = from_map id_of_update (id_of_update u) (filter test us) on in apart [] us (u ∷ []) t.0 u c (from_filter test t.0 us t.1.0).0 (inl refl) t.1.1)

-- what is below fits after one another
pub below_fits : (here : Setting) (J : List Record) (ids : List (List ℕ)) (us : List Update) → IsLawful here J → accepted J ≡ us → IsCausal [] (filter (is_covered us ids) us)
below_fits here J ids us lawful is =
    let c = lawful_is_causal here J lawful in
    let closed : IsClosedTest (is_covered (accepted J) ids) (accepted J) = λ t u t_on u_on named e.
    (from_filter (is_covered (accepted J) ids) t (accepted J) (below_closed here J lawful ids t u (parent_precedes (accepted J) t u t_on u_on named) (in_filter (is_covered (accepted J) ids) u (accepted J) u_on e))).1
    in
    subst (λ (xs : List Update). IsCausal [] (filter (is_covered xs ids) xs)) is (causal_left (is_covered (accepted J) ids) (accepted J) c closed)

-- the one at a place, where it passes, fits after those before that do
pub next_fits : (test : Update → Bool) (us : List Update) (i : ℕ) (u : Update) → IsCausal [] (filter test us) → slice_get us i ≡ Some u → test u ≡ true → IsCausal [] (filter test (take i us) ++ u ∷ [])
next_fits test us i u c at is =
    let parts : filter test us ≡ filter test (take (i + 1) us) ++ filter test (drop (i + 1) us) = ap (filter test) (sym (halves (i + 1) us)) ∙ filter_both test (take (i + 1) us) (drop (i + 1) us) in
    let front = causal_front [] (filter test (take (i + 1) us)) (filter test (drop (i + 1) us)) (subst (λ (xs : List Update). IsCausal [] xs) parts c) in
    subst (λ (xs : List Update). IsCausal [] xs) (filter_next test us i u true at is) front

-- those before are fewer
pub fewer_below : (test : Update → Bool) (us : List Update) (i : ℕ) (u : Update) → slice_get us i ≡ Some u → length (filter test (take i us)) < length us
fewer_below test us i u at =
    let all = ap length (halves (i + 1) us) in
    let parts = length-append (take (i + 1) us) (drop (i + 1) us) in
    let more = ap length (take_next us i u at) ∙ length-append (take i us) (u ∷ []) in
    omega (arith, all, parts, more, filter_short test (take i us))

-- ---- latest writes

-- an item is among those of the latest writes of a key where its update is a latest write
pub latest_item : (key ns : List ℕ) (us : List Update) (item : ℕ) (u : Update) → IsCausal [] us → AreLatestIn key us (updates_at us ns) → slice_get us item ≡ Some u → list_any (λ n. eqb n item) ns ≡ has_id (latest_in key us) (id_of_update u)
latest_item key ns us item u c latest at = by_both (list_any (λ n. eqb n item) ns) refl where
  f : ℕ → List Update
  f n = option_to_list (slice_get us n)

  same : updates_at us ns ≡ latest_in key us
  same = one_latest_list key (λ t. IsIn t us) (Precedes us) (updates_at us ns) (latest_in key us) latest (latest_are_listed key us c)

  to : list_any (λ n. eqb n item) ns ≡ true → has_id (latest_in key us) (id_of_update u) ≡ true
  to e =
      let n = any_to (λ m. eqb m item) ns e in
      let is : n.0 ≡ item = let test : eqb n.0 item ≡ true = n.1.1 in grind (arith, nat_tests) in
      let on = subst (λ (m : ℕ). IsIn m ns) is n.1.0 in
      has_id_from (latest_in key us) (id_of_update u) u (subst (λ (xs : List Update). IsIn u xs) same (flat_gives f u item ns on (in_option (slice_get us item) u at))) refl

  back : has_id (latest_in key us) (id_of_update u) ≡ true → list_any (λ n. eqb n item) ns ≡ true
  back e =
      let t = has_id_to (latest_in key us) (id_of_update u) e in
      let on = subst (λ (xs : List Update). IsIn t.0 xs) (sym same) t.1.0 in
      let one = one_of_id [] us t.0 u c (latest.only t.0 on).known (in_at us item u at) t.1.1 in
      let g = given_by f t.0 ns on in
      let here : slice_get us g.by ≡ Some u = from_option (slice_get us g.by) t.0 g.given ∙ ap (λ (x : Update). Some x) one in
      let places : Some g.by ≡ Some item = sym (own_place us g.by u c here) ∙ own_place us item u c at in
      let place : g.by ≡ item = cc in
      any_from (λ m. eqb m item) g.by ns (giver_in f t.0 ns g) (eq-eqb g.by item place)

  by_both : (b : Bool) → list_any (λ n. eqb n item) ns ≡ b → b ≡ has_id (latest_in key us) (id_of_update u)
  by_both true is = sym (to is)
  by_both false is = sym (false_from_ne_true (has_id (latest_in key us) (id_of_update u)) (λ e. let hit = back e in absurd cc))

-- ---- what is trimmed

flags_over : (J : List Record) (ids : List (List ℕ)) → IsCausal [] (accepted J) → map (is_given_up_below (below J ids)) (accepted J) ≡ given_up (trimmed J ids) (accepted J)
unfolding is_trimmed
flags_over J ids c =
    let us = accepted J in
    map_same (is_given_up_below (below J ids)) (λ u. has_id (trimmed J ids) (id_of_update u)) us (λ u on.
    ap (λ (b : Bool). b && not (is_latest_below (below J ids) u)) (has_id_filter (is_covered us ids) us u c on) ∙ sym (has_id_filter (is_trimmed J ids) us u c on))

-- of each update, whether it is given up below, is whether it is trimmed
pub flags_are : (here : Setting) (J : List Record) (ids : List (List ℕ)) (us under : List Update) → IsLawful here J → accepted J ≡ us → under ≡ filter (is_covered us ids) us → map (is_given_up_below under) us ≡ given_up (trimmed J ids) (accepted J)
flags_are here J ids us under lawful is are =
    ap (λ (xs : List Update). map (is_given_up_below xs) us) (are ∙ ap (λ (xs : List Update). filter (is_covered xs ids) xs) (sym is)) ∙ ap (map (is_given_up_below (below J ids))) (sym is) ∙ flags_over J ids (lawful_is_causal here J lawful)

-- with the marks of those that pass
pub flags_of_test : (J : List Record) (ids : List (List ℕ)) → IsCausal [] (accepted J) → given_up (trimmed J ids) (accepted J) ≡ map (is_trimmed J ids) (accepted J)
flags_of_test J ids c = map_same (λ u. has_id (trimmed J ids) (id_of_update u)) (is_trimmed J ids) (accepted J) (λ u on. has_id_filter (is_trimmed J ids) (accepted J) u c on)

-- ---- by an id

-- an update that is below is given up where it is a latest write of none of its keys
pub there_is : (us : List Update) (h : List ℕ) (u : Update) (n : ℕ) (latest : Bool) → h ≡ id_of_update u → Some n ≡ place_of_id h us
    → ((t : Update) → slice_get us n ≡ Some t → latest ≡ list_any (λ key. has_id (latest_in key us) (id_of_update t)) (keys_written u)) → not latest ≡ is_given_up_below us u
there_is us h u n latest is place tells =
    let t = has_place h us n (sym place) in
    let same : id_of_update t.0 ≡ id_of_update u = t.1.1 ∙ is in
    let has = has_id_from us (id_of_update u) t.0 (in_at us n t.0 t.1.0) same in
    ap not (tells t.0 t.1.0 ∙ ap (λ (k : List ℕ). list_any (λ key. has_id (latest_in key us) k) (keys_written u)) same) ∙ ap (λ (b : Bool). b && not (is_latest_below us u)) (sym has)

-- one that isn't below isn't
pub none_is : (us : List Update) (h : List ℕ) (u : Update) → h ≡ id_of_update u → None ≡ place_of_id h us → false ≡ is_given_up_below us u
none_is us h u is none = sym (ap (λ (b : Bool). b && not (is_latest_below us u)) (false_from_ne_true (has_id us (id_of_update u)) (λ e.
    let t = has_id_to us (id_of_update u) e in
    has_no_place h us t.0 (sym none) t.1.0 (t.1.1 ∙ sym is))))

-- a graph's items can be counted
pub few_items : (items : List (List ℕ × Update)) (n : ℕ) → length items < 2 ^ 32 → n < length (updates_in items) → n < 4294967295
few_items items n few low = omega (arith, few, low, length-map items (λ (e : List ℕ × Update). e.1))
