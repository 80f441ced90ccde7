-- What a reader shows.
use Rattle.std.proofs.Common.{◌≡◌, ◌∙◌, ℕ, suc, ◌+◌, ◌<◌, Bool, true, false, not, cond, ◌||◌, List, get_or, [], ◌∷◌, ◌++◌, length, map, Option, Some, None, refl, sym, ap, subst, arith, inl, inr}
use Rattle.std.specs.Prelude.{slice_get, All}
use Rattle.std.specs.List.{filter, list_any}
use Rattle.std.specs.Str.{bytes_eq}
use Rattle.std.specs.Option.{option_to_list}
use Rattle.std.proofs.lemmas.List.{length-append}
use Rattle.std.proofs.lemmas.Option.{slice_get-get_or}
use Rattle.std.proofs.lemmas.Slice.Eq.{bytes_eq-Decides}
use Rattle.std.proofs.lemmas.Bool.{false_from_ne_true, both_ways}
use Rattle.std.proofs.lemmas.Grind.{flat_map-append}
use Rattle.depot_base.specs.declared.record.Record.{Record}
use Rattle.depot_base.specs.declared.update.Update.{Update}
use Rattle.depot_model.specs.lists.Items.{place_of_id, updates_at}
use Rattle.depot_model.specs.journals.Journal.{accepted, accepted_by, has_id, named}
use Rattle.depot_model.specs.journals.Lawful.{IsLawful}
use Rattle.depot_model.specs.lists.Lists.{IsIn}
use Rattle.depot_model.specs.updates.Order.{IsCausal, AreLatestIn, IsLatest, Precedes}
use Rattle.depot_model.specs.readers.Readers.{Reader, left_of, kept}
use Rattle.depot_model.specs.texts.Roster.{Verifies}
use Rattle.depot_model.specs.texts.Texts.{id_of_update}
use Rattle.depot_model.specs.readers.Trimming.{is_trimmed}
use Rattle.depot_base.proofs.GeneralLaws.{at_place}
use Rattle.depot_model.proofs.lists.Elements.{in_at, in_option}
use Rattle.depot_model.proofs.lists.Members.{from_filter, in_filter}
use Rattle.depot_model.proofs.of_updates.NamedIds.{has_id_from, has_id_to, named_is, named_some}
use Rattle.depot_model.proofs.of_updates.Orders.{one_of_id, causal_front}
use Rattle.depot_graph.proofs.Front.{apart}
use Rattle.depot_graph.proofs.ItemPlaces.{has_place, has_no_place}
use Rattle.depot_laws.proofs.records.Causes.{lawful_is_causal}
use Rattle.depot_laws.proofs.of_readers.NeverLatest.{never_latest}
use Rattle.depot_laws.proofs.of_readers.PrunedReadings.{accepted_same, filter_both}
use Rattle.depot_laws.proofs.lists.Splits.{flat_gives}
use Rattle.depot_trim.specs.ReaderView.{mark_of, WasTrimmed, IsReaderOf}
use Rattle.depot_trim.specs.ReaderAnswers.{IsKeptItem}
use Rattle.depot_trim.specs.declared.marks.UpdateMark.{UpdateMark}
use Rattle.depot_trim.specs.declared.trimmed.Trimmed.{Trimmed}
use Rattle.depot_trim.proofs.ReaderGrowth.{trimmed_within}

-- ---- what was accepted, and what was trimmed of it

-- the state has all that was accepted
pub accepted_is : {S : Type 0} (verifies : Verifies) (R : Reader) (t : Trimmed S) → IsReaderOf verifies R t → accepted R.journal ≡ t.state.accepted
accepted_is verifies R t r = sym (accepted_same R.trimmed R.journal) ∙ r.state.accepted

-- an accepted update isn't trimmed where it is a latest write
latest_is_kept : (R : Reader) (key : List ℕ) (u : Update) → IsLawful R.here R.journal → WasTrimmed R → IsLatest key (λ t. IsIn t (accepted R.journal)) (Precedes (accepted R.journal)) u → IsIn u (kept R)
unfolding kept
latest_is_kept R key u lawful w latest =
    let us = accepted R.journal in
    let front = subst (λ (J : List Record). IsLawful R.here J) w.journal lawful in
    let there = subst (λ (J : List Record). IsLatest key (λ t. IsIn t (accepted J)) (Precedes (accepted J)) u) w.journal latest in
    let never : has_id R.trimmed (id_of_update u) ≡ true → ⊥ = λ e.
    let t = has_id_to R.trimmed (id_of_update u) e in
    let same = one_of_id [] us t.0 u (lawful_is_causal R.here R.journal lawful) (trimmed_within R w t.0 t.1.0) latest.known t.1.1 in
    never_latest R.here w.front w.more w.ids u key front (subst (λ (ts : List Update). IsIn u ts) w.trimmed (subst (λ (x : Update). IsIn x R.trimmed) same t.1.0)) there
    in
    in_filter (λ t. not (has_id R.trimmed (id_of_update t))) u us latest.known (ap not (false_from_ne_true (has_id R.trimmed (id_of_update u)) never))

-- the item of a latest write is that of a kept update
pub items_kept : (R : Reader) (key ns : List ℕ) → IsLawful R.here R.journal → WasTrimmed R → AreLatestIn key (accepted R.journal) (updates_at (accepted R.journal) ns) → All (λ n. n < length (accepted R.journal)) ns → All (IsKeptItem R) ns
items_kept R key ns lawful w latest inside = λ k d low.
    let us = accepted R.journal in
    let n = get_or ns k d in
    let u = at_place us n (inside k d low) in
    let on : IsIn n ns = in_at ns k n (slice_get-get_or ns k d low) in
    let listed = flat_gives (λ place. option_to_list (slice_get us place)) u.0 n ns on (in_option (slice_get us n) u.0 u.1) in
    (u.0, (u.1, latest_is_kept R key u.0 lawful w (latest.only u.0 listed)))

-- ---- how many are kept

filter_alike : {X : Type 0} (f g : X → Bool) (xs : List X) → ((x : X) → IsIn x xs → f x ≡ g x) → filter f xs ≡ filter g xs
filter_alike f g [] same = refl
filter_alike f g (x ∷ xs) same = step (f x) (g x) (same x (inl refl)) (filter_alike f g xs (λ y on. same y (inr on))) where
  step : (a b : Bool) → a ≡ b → filter f xs ≡ filter g xs → cond a (x ∷ filter f xs) (filter f xs) ≡ cond b (x ∷ filter g xs) (filter g xs)
  step true true e rest = ap (λ (ys : List _). x ∷ ys) rest
  step false false e rest = rest
  step true false e rest = absurd cc
  step false true e rest = absurd cc

filter_all : {X : Type 0} (f : X → Bool) (xs : List X) → ((x : X) → IsIn x xs → f x ≡ true) → filter f xs ≡ xs
filter_all f [] all = refl
filter_all f (x ∷ xs) all = step (f x) (all x (inl refl)) (filter_all f xs (λ y on. all y (inr on))) where
  step : (b : Bool) → b ≡ true → filter f xs ≡ xs → cond b (x ∷ filter f xs) (filter f xs) ≡ x ∷ xs
  step true e rest = ap (λ (ys : List _). x ∷ ys) rest
  step false e rest = absurd cc

split_count : {X : Type 0} (test : X → Bool) (xs : List X) → length (filter (λ x. not (test x)) xs) + length (filter test xs) ≡ length xs
split_count test [] = refl
split_count test (x ∷ xs) = step (test x) (split_count test xs) where
  step : (b : Bool) → length (filter (λ y. not (test y)) xs) + length (filter test xs) ≡ length xs
      → length (cond (not b) (x ∷ filter (λ y. not (test y)) xs) (filter (λ y. not (test y)) xs)) + length (cond b (x ∷ filter test xs) (filter test xs)) ≡ suc (length xs)
  step true rest = omega (arith, rest)
  step false rest = omega (arith, rest)

-- of these updates, which have an id each, the id of one is that of a filtered one where it passes the test
pub has_id_filter : (test : Update → Bool) (us : List Update) (u : Update) → IsCausal [] us → IsIn u us → has_id (filter test us) (id_of_update u) ≡ test u
has_id_filter test us u c on = by_test (test u) refl where
  by_test : (b : Bool) → test u ≡ b → has_id (filter test us) (id_of_update u) ≡ b
  by_test true is = has_id_from (filter test us) (id_of_update u) u (in_filter test u us on is) refl
  by_test false is = false_from_ne_true (has_id (filter test us) (id_of_update u)) (λ e.
      let t = has_id_to (filter test us) (id_of_update u) e in
      let f = from_filter test t.0 us t.1.0 in
      both_ways (test u) is (subst (λ (x : Update). test x ≡ true) (one_of_id [] us t.0 u c f.0 on t.1.1) f.1))

count_left : (test : Update → Bool) (us vs ts : List Update) → ts ≡ filter test us → IsCausal [] (us ++ vs) → length (left_of ts (us ++ vs)) + length ts ≡ length (us ++ vs)
count_left test us vs ts are c =
    let left : Update → Bool = λ u. not (has_id ts (id_of_update u)) in
    let front : filter left us ≡ filter (λ u. not (test u)) us = filter_alike left (λ u. not (test u)) us (λ u on.
    ap (λ (xs : List Update). not (has_id xs (id_of_update u))) are ∙ ap not (has_id_filter test us u (causal_front [] us vs c) on)) in
    let behind : filter left vs ≡ vs = filter_all left vs (λ u on. ap not (false_from_ne_true (has_id ts (id_of_update u)) (λ e.
    let t = has_id_to ts (id_of_update u) e in
    let f = from_filter test t.0 us (subst (λ (xs : List Update). IsIn t.0 xs) are t.1.0) in
    apart [] us vs t.0 u c f.0 on t.1.1))) in
    let parts = ap length (filter_both left us vs) ∙ length-append (filter left us) (filter left vs) in
    omega (arith, parts, ap length front, ap length behind, ap length are, split_count test us, length-append us vs)

pub kept_count : (R : Reader) → IsLawful R.here R.journal → WasTrimmed R → length (kept R) + length R.trimmed ≡ length (accepted R.journal)
unfolding kept
kept_count R lawful w =
    let us = accepted w.front in
    let both : accepted R.journal ≡ us ++ accepted w.more = ap (λ (J : List Record). accepted J) w.journal ∙ flat_map-append accepted_by w.front w.more in
    let c = subst (λ (xs : List Update). IsCausal [] xs) both (lawful_is_causal R.here R.journal lawful) in
    subst (λ (xs : List Update). length (left_of R.trimmed xs) + length R.trimmed ≡ length xs) (sym both) (count_left (is_trimmed w.front w.ids) us (accepted w.more) R.trimmed w.trimmed c)

-- ---- by an id

-- a mark has the id of what was trimmed
pub marked : (ts : List Update) (h : List ℕ) → list_any (λ (m : UpdateMark). bytes_eq m.id h) (map mark_of ts) ≡ has_id ts h
unfolding has_id
marked [] h = refl
marked (t ∷ ts) h = ap (λ (b : Bool). bytes_eq (id_of_update t) h || b) (marked ts h)

named_left : (ts us : List Update) (h : List ℕ) → named (left_of ts us) h ≡ cond (has_id ts h) None (named us h)
unfolding named
named_left ts [] h = step (has_id ts h) None where
  step : (b : Bool) (o : Option Update) → o ≡ cond b o o
  step true o = refl
  step false o = refl
named_left ts (u ∷ us) h = step (has_id ts (id_of_update u)) refl (bytes_eq (id_of_update u) h) refl (named_left ts us h) where
  same : bytes_eq (id_of_update u) h ≡ true → has_id ts (id_of_update u) ≡ has_id ts h
  same e = ap (has_id ts) ((bytes_eq-Decides (id_of_update u) h).0 e)

  step : (gone : Bool) → has_id ts (id_of_update u) ≡ gone → (here : Bool) → bytes_eq (id_of_update u) h ≡ here → named (left_of ts us) h ≡ cond (has_id ts h) None (named us h)
      → named (cond (not gone) (u ∷ left_of ts us) (left_of ts us)) h ≡ cond (has_id ts h) None (cond here (Some u) (named us h))
  step true is true e rest = rest ∙ rw (sym (same e) ∙ is) refl
  step true is false e rest = rest
  step false is true e rest = rw (e, sym (same e) ∙ is) refl
  step false is false e rest = rw e rest

-- a trimmed update isn't kept
pub named_trimmed : (R : Reader) (h : List ℕ) → has_id R.trimmed h ≡ true → None ≡ named (kept R) h
unfolding kept
named_trimmed R h is = sym (named_left R.trimmed (accepted R.journal) h ∙ rw is refl)

-- what isn't accepted isn't kept
pub named_nowhere : (R : Reader) (h : List ℕ) → None ≡ place_of_id h (accepted R.journal) → None ≡ named (kept R) h
unfolding kept
named_nowhere R h none = sym (named_left R.trimmed (accepted R.journal) h ∙ ap (cond (has_id R.trimmed h) None) (absent (named us h) refl) ∙ nothing (has_id R.trimmed h) None) where
  us : List Update
  us = accepted R.journal

  nothing : (b : Bool) (o : Option Update) → cond b o o ≡ o
  nothing true o = refl
  nothing false o = refl

  absent : (o : Option Update) → named us h ≡ o → o ≡ None
  absent None is = refl
  absent (Some t) is = let f = named_is us h t is in absurd (has_no_place h us t (sym none) f.0 f.1)

-- what is accepted and wasn't trimmed is kept
pub named_kept : (R : Reader) (h : List ℕ) (n : ℕ) (u : Update) → IsLawful R.here R.journal → has_id R.trimmed h ≡ false → Some n ≡ place_of_id h (accepted R.journal) → slice_get (accepted R.journal) n ≡ Some u → Some u ≡ named (kept R) h
unfolding kept
named_kept R h n u lawful left place at =
    let us = accepted R.journal in
    let t = has_place h us n (sym place) in
    let same : t.0 ≡ u = let both : Some t.0 ≡ Some u = sym t.1.0 ∙ at in cc in
    let there = named_some [] us h u (lawful_is_causal R.here R.journal lawful) (in_at us n u at) (ap id_of_update (sym same) ∙ t.1.1) in
    sym (named_left R.trimmed us h ∙ rw left there)
