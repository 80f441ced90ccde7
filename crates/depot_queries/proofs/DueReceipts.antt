-- Whether receipts are due: what is found for each id, and for each value that an update names.
use Rattle.std.proofs.Common.{◌≡◌, ◌∙◌, ◌<◌, ◌+◌, ◌&&◌, ℕ, Bool, true, false, cond, not, List, [], ◌∷◌, ◌++◌, length, take, drop, suc, get_or, Option, Some, None, is_some, refl, sym, ap, subst, inl, inr}
use Rattle.std.specs.Prelude.{find, slice_get}
use Rattle.std.specs.List.{list_all, list_any}
use Rattle.std.specs.Str.{bytes_eq}
use Rattle.std.proofs.lemmas.Bool.{and_parts, and_from, and_left, and_right, false_from_ne_true}
use Rattle.std.proofs.lemmas.Slice.Eq.{bytes_eq-Decides}
use Rattle.std.proofs.lemmas.Option.{slice_get-get_or}
use Rattle.depot_base.specs.Writes.{value_in, values_in}
use Rattle.depot_base.specs.declared.record.Record.{Record}
use Rattle.depot_base.specs.declared.update.Update.{Update}
use Rattle.depot_base.specs.declared.write.Write.{Write}
use Rattle.depot_base.proofs.GeneralLaws.{same_test, take_next, parts_at, flat_push}
use Rattle.depot_model.specs.texts.Contents.{NamedValue, values_named}
use Rattle.depot_model.specs.lists.Items.{place_of_id}
use Rattle.depot_model.specs.journals.Journal.{accepted, has_id, holds}
use Rattle.depot_model.specs.lists.Lists.{IsIn}
use Rattle.depot_model.specs.updates.Order.{IsCausal}
use Rattle.depot_model.specs.worlds.Receipts.{lacks_one, no_receipt, unknown, lacks_value}
use Rattle.depot_model.specs.texts.Texts.{id_of_update}
use Rattle.depot_model.proofs.lists.Elements.{in_at}
use Rattle.depot_model.proofs.lists.Members.{any_from, any_to, all-append}
use Rattle.depot_model.proofs.of_updates.NamedIds.{has_id_from, has_id_to}
use Rattle.depot_model.proofs.of_updates.Orders.{one_of_id}
use Rattle.depot_graph.proofs.ItemPlaces.{has_place, has_no_place}

-- ---- the first that is found

pub found_first : {X : Type 0} (test : X → Bool) (xs : List X) (i : ℕ) (x : X) → i < length xs → x ≡ get_or xs i x → find test (take i xs) ≡ None → test x ≡ true → Some x ≡ find test xs
found_first test xs i x low is none passes = sym (behind test xs (take i xs) (drop (suc i) xs) x (parts_at xs i x (slice_get-get_or xs i x low ∙ ap (λ (y : _). Some y) (sym is))) none passes) where
  behind : {X : Type 0} (test : X → Bool) (xs before after : List X) (x : X) → xs ≡ before ++ x ∷ after → find test before ≡ None → test x ≡ true → find test xs ≡ Some x
  behind test xs before after x is none passes = ap (find test) is ∙ over before none where
    over : (before : List _) → find test before ≡ None → find test (before ++ x ∷ after) ≡ Some x
    over [] none = rw passes refl
    over (y ∷ ys) none = by_test (test y) none (over ys) where
      by_test : (b : Bool) → cond b (Some y) (find test ys) ≡ None → (find test ys ≡ None → find test (ys ++ x ∷ after) ≡ Some x) → cond b (Some y) (find test (ys ++ x ∷ after)) ≡ Some x
      by_test true none later = absurd cc
      by_test false none later = later none

pub passed_over : {X : Type 0} (test : X → Bool) (xs : List X) (i : ℕ) (x : X) → i < length xs → x ≡ get_or xs i x → find test (take i xs) ≡ None → test x ≡ false → find test (take (i + 1) xs) ≡ None
passed_over test xs i x low is none fails = ap (find test) (take_next xs i x low is) ∙ over (take i xs) none where
  over : (before : List _) → find test before ≡ None → find test (before ++ x ∷ []) ≡ None
  over [] none = rw fails refl
  over (y ∷ ys) none = by_test (test y) none (over ys) where
    by_test : (b : Bool) → cond b (Some y) (find test ys) ≡ None → (find test ys ≡ None → find test (ys ++ x ∷ []) ≡ None) → cond b (Some y) (find test (ys ++ x ∷ [])) ≡ None
    by_test true none later = absurd cc
    by_test false none later = later none

-- ---- ids

-- an id is that of an update exactly where it has a place
pub has_by_place : (us : List Update) (h : List ℕ) (o : Option ℕ) → o ≡ place_of_id h us → has_id us h ≡ is_some o
has_by_place us h (Some n) e = let t = has_place h us n (sym e) in has_id_from us h t.0 (in_at us n t.0 t.1.0) t.1.1
has_by_place us h None e = false_from_ne_true (has_id us h) (λ has. let t = has_id_to us h has in has_no_place h us t.0 (sym e) t.1.0 t.1.1)

pub is_lost : (us : List Update) (h : List ℕ) (o : Option ℕ) (none : Bool) → o ≡ place_of_id h us → is_some o ≡ not none → none ≡ not (has_id us h)
is_lost us h o none place found = by_test none (has_by_place us h o place ∙ found) where
  by_test : (b : Bool) → has_id us h ≡ not b → b ≡ not (has_id us h)
  by_test true e = sym (ap not e)
  by_test false e = sym (ap not e)

-- ---- values

module _ (J : List Record) where
  -- all values that an update names are held
  abbrev pub holds_each : List NamedValue → Bool
  holds_each ns = list_all (λ n. holds J n.hash n.size) ns

  -- no two updates have the id, so what is asked of each that has it is asked of the one
  pub lacks_at : (us : List Update) (h : List ℕ) (n : ℕ) (u : Update) → IsCausal [] us → us ≡ accepted J → place_of_id h us ≡ Some n → slice_get us n ≡ Some u → not (holds_each (values_named u)) ≡ lacks_one J h
  lacks_at us h n u causal all place at = ap not refl ∙ (same_test (not (holds_each (values_named u))) (list_any lacks us) (λ lacking. any_from lacks u us on (and_from _ _ ((bytes_eq-Decides (id_of_update u) h).1 own) lacking)) back ∙ ap (list_any lacks) all) where
    lacks : Update → Bool
    lacks = λ t. bytes_eq (id_of_update t) h && not (holds_each (values_named t))

    on : IsIn u us
    on = in_at us n u at

    own : id_of_update u ≡ h
    own = let t = has_place h us n place in let same : t.0 ≡ u = one (sym t.1.0 ∙ at) in ap id_of_update (sym same) ∙ t.1.1 where
      one : {x y : Update} → Some x ≡ Some y → x ≡ y
      one e = cc

    back : list_any lacks us ≡ true → not (holds_each (values_named u)) ≡ true
    back any =
        let t = any_to lacks us any in
        let p = and_parts (bytes_eq (id_of_update t.0) h) (not (holds_each (values_named t.0))) t.1.1 in
        let same : t.0 ≡ u = one_of_id [] us t.0 u causal t.1.0 on ((bytes_eq-Decides (id_of_update t.0) h).0 p.0 ∙ sym own) in
        subst (λ (x : Update). not (holds_each (values_named x)) ≡ true) same p.1

  pub lacks_none : (us : List Update) (h : List ℕ) → us ≡ accepted J → place_of_id h us ≡ None → false ≡ lacks_one J h
  lacks_none us h all place = sym (false_from_ne_true (lacks_one J h) (λ any.
      let t = any_to (λ u. bytes_eq (id_of_update u) h && not (holds_each (values_named u))) (accepted J) any in
      let p = and_parts (bytes_eq (id_of_update t.0) h) (not (holds_each (values_named t.0))) t.1.1 in
      has_no_place h us t.0 place (subst (IsIn t.0) (sym all) t.1.0) ((bytes_eq-Decides (id_of_update t.0) h).0 p.0)))

-- what holds of the values of some writes, and of those of one more
pub written_more : (test : NamedValue → Bool) (ws : List Write) (i : ℕ) (w : Write) → i < length ws → w ≡ get_or ws i w → list_all test (values_in (take i ws)) ≡ true → list_all test (value_in w.what) ≡ true → list_all test (values_in (take (i + 1) ws)) ≡ true
written_more test ws i w low is before one =
    ap (λ (vs : List Write). list_all test (values_in vs)) (take_next ws i w low is)
    ∙ (ap (list_all test) (flat_push (λ (v : Write). value_in v.what) (take i ws) w) ∙ (all-append test (values_in (take i ws)) (value_in w.what) ∙ and_from _ _ before one))

-- one of them of whose values it doesn't hold
pub written_fails : (test : NamedValue → Bool) (ws : List Write) (i : ℕ) (w : Write) → i < length ws → w ≡ get_or ws i w → list_all test (value_in w.what) ≡ false → false ≡ list_all test (values_in ws)
written_fails test ws i w low is fails = sym (over ws (in_at ws i w (slice_get-get_or ws i w low ∙ ap (λ (y : Write). Some y) (sym is)))) where
  over : (ws : List Write) → IsIn w ws → list_all test (values_in ws) ≡ false
  over [] never = absurd never
  over (v ∷ ws) (inl here) = all-append test (value_in v.what) (values_in ws) ∙ and_left (list_all test (value_in v.what)) (list_all test (values_in ws)) (ap (λ (x : Write). list_all test (value_in x.what)) here ∙ fails)
  over (v ∷ ws) (inr there) = all-append test (value_in v.what) (values_in ws) ∙ and_right (list_all test (value_in v.what)) (list_all test (values_in ws)) (over ws there)

-- ---- what speaks against receipts

pub nothing_against : (J : List Record) (ids : List (List ℕ)) → None ≡ find (λ h. not (has_id (accepted J) h)) ids → None ≡ find (lacks_one J) ids → no_receipt J ids ≡ None
unfolding no_receipt
nothing_against J ids known held = rw (sym known, sym held) refl

pub unknown_against : (J : List Record) (ids : List (List ℕ)) (h : List ℕ) → Some h ≡ find (λ h. not (has_id (accepted J) h)) ids → no_receipt J ids ≡ Some (unknown h)
unfolding no_receipt
unknown_against J ids h lost = rw (sym lost) refl

pub value_against : (J : List Record) (ids : List (List ℕ)) (h : List ℕ) → None ≡ find (λ h. not (has_id (accepted J) h)) ids → Some h ≡ find (lacks_one J) ids → no_receipt J ids ≡ Some (lacks_value h)
unfolding no_receipt
value_against J ids h known lacking = rw (sym known, sym lacking) refl
