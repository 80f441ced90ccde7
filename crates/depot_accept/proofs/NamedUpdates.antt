-- What an update names among the accepted updates.
use Rattle.std.proofs.Common.{◌≡◌, ℕ, suc, ◌+◌, ◌<◌, Bool, true, false, cond, not, List, [], ◌∷◌, ◌++◌, length, map, drop, get_or, Some, None, refl, sym, ap, ◌∙◌, add-one, arith}
use Rattle.std.specs.Prelude.{Option, slice_get}
use Rattle.std.specs.List.{position_or_len}
use Rattle.std.specs.Str.{bytes_eq}
use Rattle.std.proofs.Math.Seq.{drop-cons}
use Rattle.std.proofs.lemmas.Bool.{ltb-false}
use Rattle.std.proofs.lemmas.Option.{slice_get_past}
use Rattle.depot_base.specs.Zeros.{zeros}
use Rattle.depot_base.specs.declared.check.Check.{Check}
use Rattle.depot_base.specs.declared.check.Check.TheVariants as check
use Rattle.depot_base.specs.declared.update.Dep.{Dep}
use Rattle.depot_base.specs.declared.update.Update.{Update}
use Rattle.depot_model.specs.lists.Lists.{first}
use Rattle.depot_model.specs.texts.Texts.{id_of_update}
use Rattle.depot_model.specs.journals.Journal.{named, prev_of}
use Rattle.depot_model.specs.lists.Items.{place_of_id}
use Rattle.depot_model.specs.updates.Order.{parents}
use Rattle.depot_model.specs.checks.Checks.{sight, lost, wrong_entry, wrong_entries}
use Rattle.depot_graph.proofs.ItemPlaces.{has_place}
use Rattle.depot_base.proofs.GeneralLaws.{when_none}
use Rattle.depot_accept.proofs.FirstFound.{first_one}

-- ---- the update of an id

-- it is at the first place whose update has the id
named_at : (us : List Update) (h : List ℕ) → named us h ≡ slice_get us (position_or_len (λ u. bytes_eq (id_of_update u) h) us)
unfolding named
named_at [] h = refl
named_at (t ∷ ts) h = by_test (bytes_eq (id_of_update t) h) (named_at ts h) where
  by_test : (b : Bool) → named ts h ≡ slice_get ts (position_or_len (λ u. bytes_eq (id_of_update u) h) ts) → cond b (Some t) (named ts h) ≡ slice_get (t ∷ ts) (cond (not b) (1 + position_or_len (λ u. bytes_eq (id_of_update u) h) ts) 0)
  by_test true later = refl
  by_test false later =
      let next : suc (position_or_len (λ u. bytes_eq (id_of_update u) h) ts) ≡ 1 + position_or_len (λ u. bytes_eq (id_of_update u) h) ts = omega arith in
      later ∙ ap (λ (k : ℕ). slice_get (t ∷ ts) k) next

some_of : (b : Bool) (p n : ℕ) → cond b (Some p) None ≡ Some n → p ≡ n
some_of true p n e = cc
some_of false p n e = absurd cc

-- what is at the place of an id is the update that it names
pub named_found : (us : List Update) (h : List ℕ) (n : ℕ) (t : Update) → place_of_id h us ≡ Some n → slice_get us n ≡ Some t → named us h ≡ Some t
named_found us h n t e at =
    named_at us h ∙ ap (λ (k : ℕ). slice_get us k) (some_of _ (position_or_len (λ u. bytes_eq (id_of_update u) h) us) n e) ∙ at

-- an id that has no place names none
pub named_lost : (us : List Update) (h : List ℕ) → place_of_id h us ≡ None → named us h ≡ None
named_lost us h e =
    named_at us h ∙ slice_get_past us (position_or_len (λ u. bytes_eq (id_of_update u) h) us) (ltb-false _ _ (when_none _ (position_or_len (λ u. bytes_eq (id_of_update u) h) us) e))

-- 32 zero bytes name none as a prev
pub prev_zeros : (us : List Update) (h : List ℕ) → bytes_eq h zeros ≡ true → prev_of us h ≡ None
unfolding prev_of
prev_zeros us h e = rw e refl

-- other bytes name the update with this id
pub prev_named : (us : List Update) (h : List ℕ) → bytes_eq h zeros ≡ false → prev_of us h ≡ named us h
unfolding prev_of
prev_named us h e = rw e refl

-- an id that has a place is that of an accepted update
pub not_lost : (us : List Update) (h : List ℕ) (n : ℕ) → place_of_id h us ≡ Some n → None ≡ lost h (named us h)
not_lost us h n e = let p = has_place h us n e in sym (ap (lost h) (named_found us h n p.0 e p.1.0))

-- one that has none is lost
pub is_lost : (us : List Update) (h : List ℕ) → place_of_id h us ≡ None → Some (check.Missing h) ≡ lost h (named us h)
is_lost us h e = sym (ap (lost h) (named_lost us h e))

-- ---- what is seen of the parents

-- each entry with the accepted update that it names
abbrev pub found : List Update → List Dep → List (Dep × Option Update)
found us ds = map (λ d. (d, named us d.id)) ds

-- a check of the prev that holds where there is none
pub first_prev : (f : Option Update → Option Check) (us : List Update) (u : Update) → f None ≡ None → first (map f (sight us u).before) ≡ f (prev_of us u.prev)
unfolding sight prev_of
first_prev f us u holds = by_test (bytes_eq u.prev zeros) where
  by_test : (b : Bool) → first (map f (map (named us) (cond b [] (u.prev ∷ [])))) ≡ f (cond b None (named us u.prev))
  by_test true = sym holds
  by_test false = first_one (f (named us u.prev))

-- what is asked of each parent, the prev and then the entries, is asked of their ids
pub each_parent : {X : Type 0} (g : List ℕ → Option Update → X) (us : List Update) (u : Update) → map (g u.prev) (sight us u).before ++ map (λ e. g e.0.id e.1) (sight us u).entries ≡ map (λ h. g h (named us h)) (parents u)
unfolding sight
each_parent {X = X} g us u = by_test (bytes_eq u.prev zeros) where
  of_entries : (ds : List Dep) → map (λ e. g e.0.id e.1) (found us ds) ≡ map (λ h. g h (named us h)) (map (λ d. d.id) ds)
  of_entries [] = refl
  of_entries (d ∷ ds) = ap (λ (xs : List X). g d.id (named us d.id) ∷ xs) (of_entries ds)

  by_test : (b : Bool) → map (g u.prev) (map (named us) (cond b [] (u.prev ∷ []))) ++ map (λ e. g e.0.id e.1) (found us u.deps) ≡ map (λ h. g h (named us h)) (cond b [] (u.prev ∷ []) ++ map (λ d. d.id) u.deps)
  by_test true = of_entries u.deps
  by_test false = ap (λ (xs : List X). g u.prev (named us u.prev) ∷ xs) (of_entries u.deps)

-- ---- the entries by their places

-- the entry at this place is wrong
pub wrong_here : (us : List Update) (ds : List Dep) (i n : ℕ) (d : Dep) (c : Check) → i < length ds → d ≡ get_or ds i d → wrong_entry n d (named us d.id) ≡ Some c → first (wrong_entries n (found us (drop i ds))) ≡ Some c
wrong_here us ds i n d c lt is e = rw (drop-cons ds i d lt, ← is, e) refl

-- it isn't, and the next one is looked at
pub wrong_later : (us : List Update) (ds : List Dep) (i n : ℕ) (d : Dep) → i < length ds → d ≡ get_or ds i d → wrong_entry n d (named us d.id) ≡ None → first (wrong_entries n (found us (drop i ds))) ≡ first (wrong_entries (n + 1) (found us (drop (i + 1) ds)))
wrong_later us ds i n d lt is e = rw (add-one n, add-one i, drop-cons ds i d lt, ← is, e) refl
