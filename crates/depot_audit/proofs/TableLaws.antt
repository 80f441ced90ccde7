-- Tables by hash with one more, which is new under its hash, known there, or another.
use Rattle.std.proofs.Common.{◌≡◌, ℕ, Bool, true, false, cond, List, [], ◌∷◌, ◌++◌, Option, Some, None, refl, sym, ap, subst, ◌∙◌, inl, inr, ◌⊎◌, ◌↔◌}
use Rattle.std.specs.Prelude.{option_map}
use Rattle.std.specs.HashMap.{get}
use Rattle.std.specs.Option.{option_or}
use Rattle.std.specs.Str.{bytes_eq}
use Rattle.std.proofs.lemmas.Bool.{both_ways}
use Rattle.std.proofs.lemmas.List.Folds.{find-append}
use Rattle.std.proofs.lemmas.Slice.Eq.{bytes_eq-Decides}
use Rattle.sha2.specs.Sha256.{sha256}
use Rattle.depot_base.specs.declared.update.Update.{Update}
use Rattle.depot_base.proofs.GeneralLaws.{same_bytes}
use Rattle.depot_model.specs.lists.Lists.{IsIn}
use Rattle.depot_model.specs.texts.Texts.{id_of_update}
use Rattle.depot_model.proofs.lists.Members.{in_left, in_right, in_parts}
use Rattle.depot_laws.proofs.lists.FirstOfRow.{none_to}
use Rattle.depot_audit.specs.declared.met_updates.MetUpdate.{MetUpdate}
use Rattle.depot_audit.specs.declared.met_updates.Under.TheVariants.{Nothing, Same, Other}
use Rattle.depot_audit.specs.Tables.{first_under, HaveOneKey, UpdateTable, IsUnder, PutsUpdate, update_where, AreMetUpdates, ValueTable, PutsValue, AreMetValues}

-- two bytes strings are one, or the test tells them apart
same_hash : (g h : List ℕ) → bytes_eq g h ≡ true → g ≡ h
same_hash g h e = (bytes_eq-Decides g h).0 e

-- ---- the first of each key

none_behind : {X : Type 0} (o : Option X) → option_or o None ≡ o
none_behind None = refl
none_behind (Some x) = refl

under_push : {X : Type 0} (key : X → List ℕ) (xs : List X) (x : X) (h : List ℕ) → first_under key (xs ++ x ∷ []) h ≡ option_or (first_under key xs h) (cond (bytes_eq (key x) h) (Some x) None)
under_push key xs x h = find-append (λ y. bytes_eq (key y) h) xs (x ∷ [])

-- it is one of them, with this key
pub found_under : {X : Type 0} (key : X → List ℕ) (xs : List X) (h : List ℕ) (x : X) → first_under key xs h ≡ Some x → IsIn x xs × (key x ≡ h)
found_under key [] h x e = absurd cc
found_under key (y ∷ ys) h x e = by_test (bytes_eq (key y) h) refl e (λ later. found_under key ys h x later) where
  by_test : (b : Bool) → bytes_eq (key y) h ≡ b → cond b (Some y) (first_under key ys h) ≡ Some x → (first_under key ys h ≡ Some x → IsIn x ys × (key x ≡ h)) → IsIn x (y ∷ ys) × (key x ≡ h)
  by_test true is e later = let same : y ≡ x = cc in (inl same, ap key (sym same) ∙ same_hash (key y) h is)
  by_test false is e later = let r = later e in (inr r.0, r.1)

-- where there is none, none of them has the key
pub none_under : {X : Type 0} (key : X → List ℕ) (xs : List X) (h : List ℕ) → first_under key xs h ≡ None → (x : X) → IsIn x xs → key x ≡ h → ⊥
none_under key xs h none x on same = both_ways (bytes_eq (key x) h) (none_to (λ y. bytes_eq (key y) h) xs none x on) (subst (λ (g : List ℕ). bytes_eq (key x) g ≡ true) same (same_bytes (key x)))

new_here : {X : Type 0} (key : X → List ℕ) (xs : List X) (x : X) (h : List ℕ) → first_under key xs h ≡ None → key x ≡ h → first_under key (xs ++ x ∷ []) h ≡ Some x
new_here key xs x h none same =
    under_push key xs x h ∙ ap (λ (o : Option _). option_or o (cond (bytes_eq (key x) h) (Some x) None)) none
    ∙ ap (λ (b : Bool). cond b (Some x) None) (subst (λ (g : List ℕ). bytes_eq (key x) g ≡ true) same (same_bytes (key x)))

beside : {X : Type 0} (key : X → List ℕ) (xs : List X) (x : X) (h : List ℕ) → bytes_eq (key x) h ≡ false → first_under key (xs ++ x ∷ []) h ≡ first_under key xs h
beside key xs x h apart = under_push key xs x h ∙ ap (λ (b : Bool). option_or (first_under key xs h) (cond b (Some x) None)) apart ∙ none_behind (first_under key xs h)

-- one more whose key another has already
under_again : {X : Type 0} (key : X → List ℕ) (xs : List X) (x y : X) → first_under key xs (key x) ≡ Some y → (h : List ℕ) → first_under key (xs ++ x ∷ []) h ≡ first_under key xs h
under_again {X = X} key xs x y known h = by_test (bytes_eq (key x) h) refl where
  by_test : (b : Bool) → bytes_eq (key x) h ≡ b → first_under key (xs ++ x ∷ []) h ≡ first_under key xs h
  by_test false is = beside key xs x h is
  by_test true is =
      let here : first_under key xs h ≡ Some y = subst (λ (g : List ℕ). first_under key xs g ≡ Some y) (same_hash (key x) h is) known in
      under_push key xs x h ∙ ap (λ (o : Option X). option_or o (cond (bytes_eq (key x) h) (Some x) None)) here ∙ sym here

-- ---- one of each key

one_fewer : {X : Type 0} (key : X → List ℕ) (xs ys : List X) → HaveOneKey key (xs ++ ys) → HaveOneKey key xs
one_fewer key xs ys one x y x_on y_on e = one x y (in_left x xs ys x_on) (in_left y xs ys y_on) e

one_new : {X : Type 0} (key : X → List ℕ) (xs : List X) (x : X) → first_under key xs (key x) ≡ None → HaveOneKey key xs → HaveOneKey key (xs ++ x ∷ [])
one_new key xs x none one a b a_on b_on e = elim (in_parts a xs (x ∷ []) a_on) [
  | inl a_in ↦ elim (in_parts b xs (x ∷ []) b_on) [
    | inl b_in ↦ one a b a_in b_in e
    | inr b_last ↦ elim b_last [ inl is ↦ absurd (none_under key xs (key x) none a a_in (e ∙ ap key (sym is))) | inr never ↦ absurd never ]
  ]
  | inr a_last ↦ elim a_last [
    | inl is ↦ elim (in_parts b xs (x ∷ []) b_on) [
      | inl b_in ↦ absurd (none_under key xs (key x) none b b_in (sym e ∙ ap key (sym is)))
      | inr b_last ↦ elim b_last [ inl too ↦ sym is ∙ too | inr never ↦ absurd never ]
    ]
    | inr never ↦ absurd never
  ]
]

-- one that is there already
from_again : {X : Type 0} (xs : List X) (x y : X) → IsIn x xs → IsIn y (xs ++ x ∷ []) → IsIn y xs
from_again xs x y on there = elim (in_parts y xs (x ∷ []) there) [
  | inl here ↦ here
  | inr last ↦ elim last [ inl is ↦ subst (λ (z : _). IsIn z xs) is on | inr never ↦ absurd never ]
]

one_again : {X : Type 0} (key : X → List ℕ) (xs : List X) (x : X) → IsIn x xs → HaveOneKey key xs → HaveOneKey key (xs ++ x ∷ [])
one_again key xs x on one a b a_on b_on e = one a b (from_again xs x a on a_on) (from_again xs x b on b_on) e

one_never : {X : Type 0} (key : X → List ℕ) (xs : List X) (x y : X) → IsIn y xs → key y ≡ key x → (y ≡ x → ⊥) → HaveOneKey key (xs ++ x ∷ []) → ⊥
one_never key xs x y on same other one = other (one y x (in_left y xs (x ∷ []) on) (in_right x xs (x ∷ []) (inl refl)) same)

-- ---- updates

in_where : (put : Bool) (u y : Update) → IsIn y (update_where put u) → (put ≡ true) × (u ≡ y)
in_where true u y (inl is) = (refl, is)
in_where true u y (inr never) = absurd never
in_where false u y never = absurd never

where_put : (u : Update) (put : Bool) → put ≡ true → IsIn u (update_where put u)
where_put u true e = inl refl
where_put u false e = absurd cc

module _ (us ps : List Update) (table : UpdateTable) (apart : Bool) (u : Update) (id : List ℕ) (is : id ≡ id_of_update u) (met : AreMetUpdates us ps table apart) where
  -- what is under an id is the first with it
  stands : (h : List ℕ) (x : MetUpdate) → get bytes_eq table h ≡ Some x → first_under id_of_update us h ≡ Some x.update
  stands h x at = sym (met.first h) ∙ ap (option_map (λ (y : MetUpdate). y.update)) at

  its_id : (h : List ℕ) (x : MetUpdate) → get bytes_eq table h ≡ Some x → IsIn x.update us × (id_of_update x.update ≡ h)
  its_id h x at = found_under id_of_update us h x.update (stands h x at)

  -- this one's
  stands_here : (x : MetUpdate) → get bytes_eq table id ≡ Some x → first_under id_of_update us (id_of_update u) ≡ Some x.update
  stands_here x at = subst (λ (h : List ℕ). first_under id_of_update us h ≡ Some x.update) is (stands id x at)

  none_here : get bytes_eq table id ≡ None → first_under id_of_update us (id_of_update u) ≡ None
  none_here none = subst (λ (h : List ℕ). first_under id_of_update us h ≡ None) is (sym (met.first id) ∙ ap (option_map (λ (y : MetUpdate). y.update)) none)

  known_more : (put : Bool) (y : Update) → IsIn y (ps ++ update_where put u) → IsIn y (us ++ u ∷ [])
  known_more put y on = elim (in_parts y ps (update_where put u) on) [
    | inl before ↦ in_left y us (u ∷ []) (met.known y before)
    | inr now ↦ in_right y us (u ∷ []) (inl (in_where put u y now).1)
  ]

  -- another's puts are unchanged
  put_beside : (put : Bool) (y : Update) → (u ≡ y → ⊥) → IsIn y (ps ++ update_where put u) → IsIn y ps
  put_beside put y other on = elim (in_parts y ps (update_where put u) on) [
    | inl before ↦ before
    | inr now ↦ absurd (other (in_where put u y now).1)
  ]

  beside_puts : (put : Bool) (x : MetUpdate) → (u ≡ x.update → ⊥) → (x.put ≡ true ↔ IsIn x.update ps) → x.put ≡ true ↔ IsIn x.update (ps ++ update_where put u)
  beside_puts put x other old = (λ e. in_left x.update ps (update_where put u) (old.0 e), λ on. old.1 (put_beside put x.update other on))

  -- it has another id
  other_id : (h : List ℕ) (x : MetUpdate) → get bytes_eq table h ≡ Some x → bytes_eq id h ≡ false → u ≡ x.update → ⊥
  other_id h x at apart_ same =
      both_ways (bytes_eq id h) apart_ ((bytes_eq-Decides id h).1 (is ∙ ap id_of_update same ∙ (its_id h x at).1))

  -- its id is new
  pub update_new : (new : UpdateTable) (put : Bool) → get bytes_eq table id ≡ None → PutsUpdate table new id (record { update = u; put = put }) → AreMetUpdates (us ++ u ∷ []) (ps ++ update_where put u) new apart
  update_new new put none p = record {
    first = λ h. first_at h (bytes_eq id h) refl;
    put = λ h x at. put_at h x at (bytes_eq id h) refl;
    known = known_more put;
    one = (λ e. one_new id_of_update us u (none_here none) (met.one.0 e), λ one. met.one.1 (one_fewer id_of_update us (u ∷ []) one));
  } where
    first_at : (h : List ℕ) (b : Bool) → bytes_eq id h ≡ b → option_map (λ (x : MetUpdate). x.update) (get bytes_eq new h) ≡ first_under id_of_update (us ++ u ∷ []) h
    first_at h true e =
        ap (option_map (λ (x : MetUpdate). x.update)) (p.table h ∙ ap (λ (b : Bool). cond b (Some (record { update = u; put = put })) (get bytes_eq table h)) e)
        ∙ sym (new_here id_of_update us u h (subst (λ (g : List ℕ). first_under id_of_update us g ≡ None) (sym is ∙ same_hash id h e) (none_here none)) (sym is ∙ same_hash id h e))
    first_at h false e =
        ap (option_map (λ (x : MetUpdate). x.update)) (p.table h ∙ ap (λ (b : Bool). cond b (Some (record { update = u; put = put })) (get bytes_eq table h)) e)
        ∙ met.first h ∙ sym (beside id_of_update us u h (subst (λ (g : List ℕ). bytes_eq g h ≡ false) is e))

    put_at : (h : List ℕ) (x : MetUpdate) → get bytes_eq new h ≡ Some x → (b : Bool) → bytes_eq id h ≡ b → x.put ≡ true ↔ IsIn x.update (ps ++ update_where put u)
    put_at h x at true e =
        let here : Some (record { update = u; put = put }) ≡ Some x = sym (p.table h ∙ ap (λ (b : Bool). cond b (Some (record { update = u; put = put })) (get bytes_eq table h)) e) ∙ at in
        let same : record { update = u; put = put } ≡ x = cc in
        subst (λ (y : MetUpdate). y.put ≡ true ↔ IsIn y.update (ps ++ update_where put u)) same (
          λ on. in_right u ps (update_where put u) (where_put u put on),
          λ on. elim (in_parts u ps (update_where put u) on) [
            | inl before ↦ absurd (none_under id_of_update us (id_of_update u) (none_here none) u (met.known u before) refl)
            | inr now ↦ (in_where put u u now).0
          ],
        )
    put_at h x at false e =
        let old : get bytes_eq table h ≡ Some x = sym (p.table h ∙ ap (λ (b : Bool). cond b (Some (record { update = u; put = put })) (get bytes_eq table h)) e) ∙ at in
        beside_puts put x (other_id h x old e) (met.put h x old)

  module _ (x : MetUpdate) (at : get bytes_eq table id ≡ Some x) where
    on_it : IsIn x.update us
    on_it = (its_id id x at).0

    -- what is under another id is another, and under this one is this
    by_id : (h : List ℕ) (y : MetUpdate) → get bytes_eq table h ≡ Some y → ((u ≡ y.update → ⊥) ⊎ (x ≡ y))
    by_id h y at_h = by_test (bytes_eq id h) refl where
      by_test : (b : Bool) → bytes_eq id h ≡ b → ((u ≡ y.update → ⊥) ⊎ (x ≡ y))
      by_test false e = inl (other_id h y at_h e)
      by_test true e =
          let both : Some x ≡ Some y = sym at ∙ ap (get bytes_eq table) (same_hash id h e) ∙ at_h in
          inr cc

    first_again : (h : List ℕ) → option_map (λ (y : MetUpdate). y.update) (get bytes_eq table h) ≡ first_under id_of_update (us ++ u ∷ []) h
    first_again h = met.first h ∙ sym (under_again id_of_update us u x.update (stands_here x at) h)

    -- it is known, and if a node put it now, it was known as put
    pub update_known : (put : Bool) → x.update ≡ u → (put ≡ true → x.put ≡ true) → AreMetUpdates (us ++ u ∷ []) (ps ++ update_where put u) table apart
    update_known put same before = record {
      first = first_again;
      put = λ h y at_h. elim (by_id h y at_h) [
        | inl other ↦ beside_puts put y other (met.put h y at_h)
        | inr it ↦ subst (λ (z : MetUpdate). z.put ≡ true ↔ IsIn z.update (ps ++ update_where put u)) it (
          λ e. in_left x.update ps (update_where put u) ((met.put id x at).0 e),
          λ on. elim (in_parts x.update ps (update_where put u) on) [
            | inl old ↦ (met.put id x at).1 old
            | inr now ↦ before (in_where put u x.update now).0
          ],
        )
      ];
      known = known_more put;
      one = (λ e. one_again id_of_update us u (subst (λ (v : Update). IsIn v us) same on_it) (met.one.0 e), λ one. met.one.1 (one_fewer id_of_update us (u ∷ []) one));
    }

    -- a node put it now
    update_put : (new : UpdateTable) → x.update ≡ u → PutsUpdate table new id (record { update = u; put = true }) → AreMetUpdates (us ++ u ∷ []) (ps ++ u ∷ []) new apart
    update_put new same p = record {
      first = λ h. first_at h (bytes_eq id h) refl;
      put = λ h y at_h. put_at h y at_h (bytes_eq id h) refl;
      known = known_more true;
      one = (λ e. one_again id_of_update us u (subst (λ (v : Update). IsIn v us) same on_it) (met.one.0 e), λ one. met.one.1 (one_fewer id_of_update us (u ∷ []) one));
    } where
      first_at : (h : List ℕ) (b : Bool) → bytes_eq id h ≡ b → option_map (λ (y : MetUpdate). y.update) (get bytes_eq new h) ≡ first_under id_of_update (us ++ u ∷ []) h
      first_at h true e =
          ap (option_map (λ (y : MetUpdate). y.update)) (p.table h ∙ ap (λ (b : Bool). cond b (Some (record { update = u; put = true })) (get bytes_eq table h)) e)
          ∙ sym (under_again id_of_update us u x.update (stands_here x at) h ∙ subst (λ (g : List ℕ). first_under id_of_update us g ≡ Some x.update) (same_hash id h e) (stands id x at) ∙ ap (λ (v : Update). Some v) same)
      first_at h false e =
          ap (option_map (λ (y : MetUpdate). y.update)) (p.table h ∙ ap (λ (b : Bool). cond b (Some (record { update = u; put = true })) (get bytes_eq table h)) e)
          ∙ first_again h

      put_at : (h : List ℕ) (y : MetUpdate) → get bytes_eq new h ≡ Some y → (b : Bool) → bytes_eq id h ≡ b → y.put ≡ true ↔ IsIn y.update (ps ++ u ∷ [])
      put_at h y at_h true e =
          let here : Some (record { update = u; put = true }) ≡ Some y = sym (p.table h ∙ ap (λ (b : Bool). cond b (Some (record { update = u; put = true })) (get bytes_eq table h)) e) ∙ at_h in
          let it : record { update = u; put = true } ≡ y = cc in
          subst (λ (z : MetUpdate). z.put ≡ true ↔ IsIn z.update (ps ++ u ∷ [])) it (λ on. in_right u ps (u ∷ []) (inl refl), λ on. refl)
      put_at h y at_h false e =
          let old : get bytes_eq table h ≡ Some y = sym (p.table h ∙ ap (λ (b : Bool). cond b (Some (record { update = u; put = true })) (get bytes_eq table h)) e) ∙ at_h in
          beside_puts true y (other_id h y old e) (met.put h y old)

    pub put_now : (put : Bool) → put ≡ true → (new : UpdateTable) → x.update ≡ u → PutsUpdate table new id (record { update = u; put = put }) → AreMetUpdates (us ++ u ∷ []) (ps ++ update_where put u) new apart
    put_now true e new same p = update_put new same p
    put_now false e new same p = absurd cc

    -- another is there
    pub update_other : (put : Bool) → (x.update ≡ u → ⊥) → AreMetUpdates (us ++ u ∷ []) (ps ++ update_where put u) table false
    update_other put other = record {
      first = first_again;
      put = λ h y at_h. elim (by_id h y at_h) [
        | inl beside_it ↦ beside_puts put y beside_it (met.put h y at_h)
        | inr it ↦ beside_puts put y (λ same. other (ap (λ (z : MetUpdate). z.update) it ∙ sym same)) (met.put h y at_h)
      ];
      known = known_more put;
      one = (λ e. absurd cc, λ one. absurd (one_never id_of_update us u x.update on_it ((its_id id x at).1 ∙ is) other one));
    }

-- ---- values

module _ (vs : List (List ℕ)) (table : ValueTable) (apart : Bool) (value hash : List ℕ) (is : hash ≡ sha256 value) (met : AreMetValues vs table apart) where
  -- its hash is new
  pub value_new : (new : ValueTable) → get bytes_eq table hash ≡ None → PutsValue table new hash value → AreMetValues (vs ++ value ∷ []) new apart
  value_new new none p = record {
    first = λ h. first_at h (bytes_eq hash h) refl;
    one = (λ e. one_new sha256 vs value (subst (λ (h : List ℕ). first_under sha256 vs h ≡ None) is none_here) (met.one.0 e), λ one. met.one.1 (one_fewer sha256 vs (value ∷ []) one));
  } where
    none_here : first_under sha256 vs hash ≡ None
    none_here = sym (met.first hash) ∙ none

    first_at : (h : List ℕ) (b : Bool) → bytes_eq hash h ≡ b → get bytes_eq new h ≡ first_under sha256 (vs ++ value ∷ []) h
    first_at h true e =
        p.table h ∙ ap (λ (b : Bool). cond b (Some value) (get bytes_eq table h)) e
        ∙ sym (new_here sha256 vs value h (subst (λ (g : List ℕ). first_under sha256 vs g ≡ None) (same_hash hash h e) none_here) (sym is ∙ same_hash hash h e))
    first_at h false e =
        p.table h ∙ ap (λ (b : Bool). cond b (Some value) (get bytes_eq table h)) e ∙ met.first h
        ∙ sym (beside sha256 vs value h (subst (λ (g : List ℕ). bytes_eq g h ≡ false) is e))

  module _ (other : List ℕ) (at : get bytes_eq table hash ≡ Some other) where
    under_hash : first_under sha256 vs (sha256 value) ≡ Some other
    under_hash = subst (λ (h : List ℕ). first_under sha256 vs h ≡ Some other) is (sym (met.first hash) ∙ at)

    first_still : (h : List ℕ) → get bytes_eq table h ≡ first_under sha256 (vs ++ value ∷ []) h
    first_still h = met.first h ∙ sym (under_again sha256 vs value other under_hash h)

    at_hash : IsIn other vs × (sha256 other ≡ sha256 value)
    at_hash = found_under sha256 vs (sha256 value) other under_hash

    -- it is known
    pub value_known : other ≡ value → AreMetValues (vs ++ value ∷ []) table apart
    value_known same = record {
      first = first_still;
      one = (λ e. one_again sha256 vs value (subst (λ (v : List ℕ). IsIn v vs) same at_hash.0) (met.one.0 e), λ one. met.one.1 (one_fewer sha256 vs (value ∷ []) one));
    }

    -- another is there
    pub value_other : (other ≡ value → ⊥) → AreMetValues (vs ++ value ∷ []) table false
    value_other differs = record {
      first = first_still;
      one = (λ e. absurd cc, λ one. absurd (one_never sha256 vs value other at_hash.0 at_hash.1 differs one));
    }

-- ---- what is under an id

pub record HasFound (o : Option MetUpdate) (u : Update) (put : Bool) : Type 0 where
  pub met : MetUpdate
  pub is : o ≡ Some met
  pub same : met.update ≡ u
  pub put_is : met.put ≡ put

pub record HasOther (o : Option MetUpdate) (u : Update) : Type 0 where
  pub met : MetUpdate
  pub is : o ≡ Some met
  pub other : met.update ≡ u → ⊥

pub told_nothing : (o : Option MetUpdate) (u : Update) → IsUnder o u Nothing → o ≡ None
told_nothing None u told = refl
told_nothing (Some x) u told = absurd told

pub told_same : (o : Option MetUpdate) (u : Update) (put : Bool) → IsUnder o u (Same put) → HasFound o u put
told_same None u put told = absurd told
told_same (Some x) u put told = record { met = x; is = refl; same = told.0; put_is = told.1 }

pub told_other : (o : Option MetUpdate) (u : Update) → IsUnder o u Other → HasOther o u
told_other None u told = absurd told
told_other (Some x) u told = record { met = x; is = refl; other = told }

-- whether a value is under its hash, or another
pub record HasValue (o : Option (List ℕ)) (value : List ℕ) (same : Bool) : Type 0 where
  pub other : List ℕ
  pub is : o ≡ Some other
  pub test : bytes_eq other value ≡ same

pub told_value : (o : Option (List ℕ)) (value : List ℕ) (same : Bool) → Some same ≡ option_map (λ met. bytes_eq met value) o → HasValue o value same
told_value None value same e = absurd cc
told_value (Some v) value same e = record { other = v; is = refl; test = cc }

pub told_no_value : (o : Option (List ℕ)) (value : List ℕ) → None ≡ option_map (λ met. bytes_eq met value) o → o ≡ None
told_no_value None value e = refl
told_no_value (Some v) value e = absurd cc

pub same_value : (other value : List ℕ) → bytes_eq other value ≡ true → other ≡ value
same_value other value e = same_hash other value e

pub differs : (other value : List ℕ) → bytes_eq other value ≡ false → other ≡ value → ⊥
differs other value e same = both_ways (bytes_eq other value) e ((bytes_eq-Decides other value).1 same)
