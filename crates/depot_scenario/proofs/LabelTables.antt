-- Labels in an ordered map, and in a run.
use Rattle.std.proofs.Common.{◌≡◌, ℕ, List, [], ◌∷◌, ◌++◌, Bool, true, false, cond, Option, Some, None, option_map, is_some, Vec, refl, sym, ap, subst, ◌∙◌}
use Rattle.std.specs.BTreeMap.{BTreeMap, Updates, UpdatesBy}
use Rattle.std.specs.Cmp.{eq_by_cmp_equiv}
use Rattle.std.specs.Cmp.Lexicographic.{slice_cmp, nat_list_cmp_total}
use Rattle.std.specs.Map.{KeepsOthers}
use Rattle.std.specs.Ordering.{nat_cmp, is_eq}
use Rattle.std.specs.Str.{bytes_eq}
use Rattle.std.specs.declared.alloc.Global.{Global}
use Rattle.std.proofs.lemmas.Bool.{false_from_ne_true}
use Rattle.std.proofs.lemmas.Map.Lookups.{exact_bytes}
use Rattle.std.proofs.lemmas.Map.Views.{tells_apart}
use Rattle.std.proofs.lemmas.Slice.Eq.{bytes_eq-Decides}
use Rattle.depot_base.proofs.GeneralLaws.{vec_cmp}
use Rattle.depot_world.specs.Forgetting.{labels_without}
use Rattle.depot_world.specs.Run.{Labelled, made_in}
use Rattle.depot_world.proofs.AlikeRuns.{made_without}
use Rattle.depot_scenario.specs.Labels.{AreLabels, given_of_label, named_in}
use Rattle.depot_scenario.specs.declared.label_table.Given.{Given}

-- ---- a label that is put in or taken out

-- it names what it was put in with, or nothing, and others name what they named
pub named_once_changed : {V : Type 0} (old new : BTreeMap (Vec ℕ Global) V) (name : List ℕ) (o : Option V) → UpdatesBy vec_cmp (λ k. slice_cmp nat_cmp name k.items) old new o → (label : List ℕ)
    → named_in label new.entries ≡ cond (bytes_eq name label) o (named_in label old.entries)
unfolding KeepsOthers
named_once_changed old new name o u label = choice (bytes_eq name label) refl where
  choice : (b : Bool) → bytes_eq name label ≡ b → named_in label new.entries ≡ cond b o (named_in label old.entries)
  choice true same = subst (λ (l : List ℕ). named_in l new.entries ≡ o) ((bytes_eq-Decides name label).0 same) u.1
  choice false other =
      u.3 (λ (k : Vec ℕ Global). is_eq (slice_cmp nat_cmp label k.items)) (λ x y. (eq_by_cmp_equiv nat_list_cmp_total).congr label x.items y.items)
      (λ k at. false_from_ne_true (is_eq (slice_cmp nat_cmp label k.items)) (λ also.
      let same : bytes_eq name label ≡ true = (bytes_eq-Decides name label).1 (tells_apart exact_bytes name k.items at ∙ sym (tells_apart exact_bytes label k.items also)) in
      absurd cc))

pub named_once_put : {V : Type 0} (old new : BTreeMap (Vec ℕ Global) V) (name : List ℕ) (g : V) → UpdatesBy vec_cmp (λ k. slice_cmp nat_cmp name k.items) old new (Some g) → (label : List ℕ)
    → named_in label new.entries ≡ cond (bytes_eq name label) (Some g) (named_in label old.entries)
named_once_put old new name g u label = named_once_changed old new name (Some g) u label

-- a label that is taken out names nothing of a run without it
pub labels_fewer : (old new : BTreeMap (Vec ℕ Global) Given) (ms : List Labelled) (gone : List ℕ) → AreLabels old.entries ms → UpdatesBy vec_cmp (λ k. slice_cmp nat_cmp gone k.items) old new None → AreLabels new.entries (labels_without gone ms)
labels_fewer old new ms gone are u label =
    named_once_changed old new gone None u label ∙ (by_label (bytes_eq gone label) ∙ ap (option_map given_of_label) (sym (made_without ms gone label))) where
      by_label : (b : Bool) → cond b None (named_in label old.entries) ≡ option_map given_of_label (cond b None (made_in ms label))
      by_label true = refl
      by_label false = are label

-- ---- a label more of a run

-- what was made first stays
made_stays : (ms : List Labelled) (m x : Labelled) (label : List ℕ) → made_in ms label ≡ Some x → made_in (ms ++ m ∷ []) label ≡ Some x
unfolding made_in
made_stays [] m x label is = absurd cc
made_stays (y ∷ ms) m x label is = choice (bytes_eq y.label label) is (made_stays ms m x label) where
  choice : (b : Bool) → cond b (Some y) (made_in ms label) ≡ Some x → (made_in ms label ≡ Some x → made_in (ms ++ m ∷ []) label ≡ Some x) → cond b (Some y) (made_in (ms ++ m ∷ []) label) ≡ Some x
  choice true is rest = is
  choice false is rest = rest is

-- and where nothing was, the last is found
made_now : (ms : List Labelled) (m : Labelled) (label : List ℕ) → made_in ms label ≡ None → made_in (ms ++ m ∷ []) label ≡ cond (bytes_eq m.label label) (Some m) None
unfolding made_in
made_now [] m label none = refl
made_now (y ∷ ms) m label none = choice (bytes_eq y.label label) none (made_now ms m label) where
  choice : (b : Bool) → cond b (Some y) (made_in ms label) ≡ None → (made_in ms label ≡ None → made_in (ms ++ m ∷ []) label ≡ cond (bytes_eq m.label label) (Some m) None)
      → cond b (Some y) (made_in (ms ++ m ∷ []) label) ≡ cond (bytes_eq m.label label) (Some m) None
  choice true none rest = absurd cc
  choice false none rest = rest none

-- ---- both

nothing_given : (o : Option Given) (p : Option Labelled) → o ≡ option_map given_of_label p → is_some o ≡ false → p ≡ None
nothing_given o None e none = refl
nothing_given o (Some m) e none = let some : is_some o ≡ true = ap is_some e in absurd cc

something_given : (o : Option Given) → o ≡ option_map given_of_label None → is_some o ≡ true → ⊥
something_given o e some = let none : is_some o ≡ false = ap is_some e in cc

-- a label that named something names it still
pub labels_stay : (entries : _) (ms : List Labelled) (m : Labelled) → AreLabels entries ms → is_some (named_in m.label entries) ≡ true → AreLabels entries (ms ++ m ∷ [])
labels_stay entries ms m are there label = by_made (made_in ms label) refl where
  by_made : (o : Option Labelled) → made_in ms label ≡ o → named_in label entries ≡ option_map given_of_label (made_in (ms ++ m ∷ []) label)
  by_made (Some x) is = are label ∙ ap (option_map given_of_label) (is ∙ sym (made_stays ms m x label is))
  by_made None is = by_label (bytes_eq m.label label) refl where
    by_label : (b : Bool) → bytes_eq m.label label ≡ b → named_in label entries ≡ option_map given_of_label (made_in (ms ++ m ∷ []) label)
    by_label true same =
        absurd (something_given (named_in label entries) (are label ∙ ap (option_map given_of_label) is) (subst (λ (l : List ℕ). is_some (named_in l entries) ≡ true) ((bytes_eq-Decides m.label label).0 same) there))
    by_label false other = are label ∙ ap (option_map given_of_label) (is ∙ sym (made_now ms m label is ∙ ap (λ (b : Bool). cond b (Some m) None) other))

-- a label that named nothing is put in
pub labels_more : (old new : BTreeMap (Vec ℕ Global) Given) (ms : List Labelled) (m : Labelled) (name : Vec ℕ Global) → AreLabels old.entries ms → name.items ≡ m.label → is_some (named_in m.label old.entries) ≡ false
    → Updates vec_cmp old new name (Some (given_of_label m)) → AreLabels new.entries (ms ++ m ∷ [])
labels_more old new ms m name are is absent u label =
    named_once_put old new name.items (given_of_label m) u label ∙ (ap (λ (l : List ℕ). cond (bytes_eq l label) (Some (given_of_label m)) (named_in label old.entries)) is ∙ by_label (bytes_eq m.label label) refl) where
      by_label : (b : Bool) → bytes_eq m.label label ≡ b → cond b (Some (given_of_label m)) (named_in label old.entries) ≡ option_map given_of_label (made_in (ms ++ m ∷ []) label)
      by_label true same =
          let none : made_in ms label ≡ None = nothing_given (named_in label old.entries) (made_in ms label) (are label) (subst (λ (l : List ℕ). is_some (named_in l old.entries) ≡ false) ((bytes_eq-Decides m.label label).0 same) absent) in
          ap (option_map given_of_label) (sym (made_now ms m label none ∙ ap (λ (b : Bool). cond b (Some m) None) same))
      by_label false other = are label ∙ ap (option_map given_of_label) (by_made (made_in ms label) refl) where
        by_made : (o : Option Labelled) → made_in ms label ≡ o → made_in ms label ≡ made_in (ms ++ m ∷ []) label
        by_made (Some x) is = is ∙ sym (made_stays ms m x label is)
        by_made None is = is ∙ sym (made_now ms m label is ∙ ap (λ (b : Bool). cond b (Some m) None) other)

-- ---- plain labels

-- ---- bytes
