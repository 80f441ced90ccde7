-- Readers in an ordered map, and in a run.
use Rattle.std.proofs.Common.{◌≡◌, ℕ, List, [], ◌∷◌, ◌++◌, Bool, true, false, cond, Option, Some, None, is_some, Vec, refl, sym, ap, subst, ◌∙◌}
use Rattle.std.specs.BTreeMap.{BTreeMap, UpdatesBy}
use Rattle.std.specs.Cmp.Lexicographic.{slice_cmp}
use Rattle.std.specs.Ordering.{nat_cmp}
use Rattle.std.specs.Str.{bytes_eq}
use Rattle.std.specs.declared.alloc.Global.{Global}
use Rattle.std.proofs.lemmas.Bool.{both_ways}
use Rattle.std.proofs.lemmas.Slice.Eq.{bytes_eq-Decides}
use Rattle.depot_base.proofs.GeneralLaws.{vec_cmp}
use Rattle.depot_model.specs.readers.Readers.{Reader}
use Rattle.depot_scenario.specs.Labels.{named_in}
use Rattle.depot_scenario.proofs.LabelTables.{named_once_put}
use Rattle.depot_requests.specs.ReaderRequests.{use_served, used_by}
use Rattle.depot_requests.specs.declared.reader_reply.ReaderReply.TheVariants as told
use Rattle.depot_requests.specs.declared.reader_request.ReaderUse.{ReaderUse}
use Rattle.depot_world.specs.Run.{NamedReader, put_reader, reader_in, readers_with}
use Rattle.depot_simulation.specs.Readers.{AreReaders, IsMade, IsNamed, first_named}

-- ---- what was made under a name of a run

abbrev reader_of : Option NamedReader → Option Reader
reader_of None = None
reader_of (Some r) = r.reader

pub reader_is : (rs : List NamedReader) (name : List ℕ) → reader_in rs name ≡ reader_of (first_named rs name)
unfolding reader_in first_named
reader_is [] name = refl
reader_is (r ∷ rs) name = choice (bytes_eq r.name name) (reader_is rs name) where
  choice : (b : Bool) → reader_in rs name ≡ reader_of (first_named rs name) → cond b r.reader (reader_in rs name) ≡ reader_of (cond b (Some r) (first_named rs name))
  choice true rest = refl
  choice false rest = rest

-- what was made first stays
first_stays : (rs : List NamedReader) (r x : NamedReader) (name : List ℕ) → first_named rs name ≡ Some x → first_named (rs ++ r ∷ []) name ≡ Some x
unfolding first_named
first_stays [] r x name is = absurd cc
first_stays (y ∷ rs) r x name is = choice (bytes_eq y.name name) is (first_stays rs r x name) where
  choice : (b : Bool) → cond b (Some y) (first_named rs name) ≡ Some x → (first_named rs name ≡ Some x → first_named (rs ++ r ∷ []) name ≡ Some x) → cond b (Some y) (first_named (rs ++ r ∷ []) name) ≡ Some x
  choice true is rest = is
  choice false is rest = rest is

-- and where nothing was, the last is found
first_now : (rs : List NamedReader) (r : NamedReader) (name : List ℕ) → first_named rs name ≡ None → first_named (rs ++ r ∷ []) name ≡ cond (bytes_eq r.name name) (Some r) None
unfolding first_named
first_now [] r name none = refl
first_now (y ∷ rs) r name none = choice (bytes_eq y.name name) none (first_now rs r name) where
  choice : (b : Bool) → cond b (Some y) (first_named rs name) ≡ None → (first_named rs name ≡ None → first_named (rs ++ r ∷ []) name ≡ cond (bytes_eq r.name name) (Some r) None)
      → cond b (Some y) (first_named (rs ++ r ∷ []) name) ≡ cond (bytes_eq r.name name) (Some r) None
  choice true none rest = absurd cc
  choice false none rest = rest none

-- a reader in place of one of its name
abbrev again : NamedReader → Reader → NamedReader
again x r = record { name = x.name; reader = Some r }

first_put : (rs : List NamedReader) (name : List ℕ) (r : Reader) (x : NamedReader) → first_named rs name ≡ Some x → (label : List ℕ) → first_named (put_reader name r rs) label ≡ cond (bytes_eq name label) (Some (again x r)) (first_named rs label)
unfolding first_named put_reader
first_put [] name r x is label = absurd cc
first_put (y ∷ rs) name r x is label = by_name (bytes_eq y.name name) refl is (λ e. first_put rs name r x e label) where
  by_name : (b : Bool) → bytes_eq y.name name ≡ b → cond b (Some y) (first_named rs name) ≡ Some x → (first_named rs name ≡ Some x → first_named (put_reader name r rs) label ≡ cond (bytes_eq name label) (Some (again x r)) (first_named rs label))
      → first_named (cond b (record { name = y.name; reader = Some r } ∷ rs) (y ∷ put_reader name r rs)) label ≡ cond (bytes_eq name label) (Some (again x r)) (cond (bytes_eq y.name label) (Some y) (first_named rs label))
  by_name true same e rest =
      let here : y ≡ x = cc in
      let named = (bytes_eq-Decides y.name name).0 same in
      ap (λ (z : NamedReader). cond (bytes_eq y.name label) (Some (again z r)) (first_named rs label)) here ∙ (ap (λ (n : List ℕ). cond (bytes_eq n label) (Some (again x r)) (first_named rs label)) named
      ∙ (by_label (bytes_eq name label) ∙ ap (λ (n : List ℕ). cond (bytes_eq name label) (Some (again x r)) (cond (bytes_eq n label) (Some y) (first_named rs label))) (sym named))) where
        by_label : (b : Bool) → cond b (Some (again x r)) (first_named rs label) ≡ cond b (Some (again x r)) (cond b (Some y) (first_named rs label))
        by_label true = refl
        by_label false = refl
  by_name false other e rest = ap (cond (bytes_eq y.name label) (Some y)) (rest e) ∙ by_both (bytes_eq y.name label) (bytes_eq name label) refl refl where
    by_both : (b c : Bool) → bytes_eq y.name label ≡ b → bytes_eq name label ≡ c
        → cond b (Some y) (cond c (Some (again x r)) (first_named rs label)) ≡ cond c (Some (again x r)) (cond b (Some y) (first_named rs label))
    by_both true true is_y is_name = absurd (both_ways (bytes_eq y.name name) other ((bytes_eq-Decides y.name name).1 ((bytes_eq-Decides y.name label).0 is_y ∙ sym ((bytes_eq-Decides name label).0 is_name))))
    by_both true false is_y is_name = refl
    by_both false true is_y is_name = refl
    by_both false false is_y is_name = refl

-- ---- what is kept of a name

pub is_there : {X : Type 0} (o : Option X) (x : X) → Some x ≡ o → is_some o ≡ true
is_there o x e = ap (λ p. is_some p) (sym e)

-- where nothing is kept, nothing was made, and the other way round
nothing_made : {R : Type 0} (reads : Reader → R → Type 0) (o : Option (Option R)) (m : Option NamedReader) → IsNamed reads o m → o ≡ None → m ≡ None
nothing_made reads None None named is = refl
nothing_made reads None (Some r) named is = absurd named
nothing_made reads (Some k) m named is = absurd cc

nothing_kept : {R : Type 0} (reads : Reader → R → Type 0) (o : Option (Option R)) (m : Option NamedReader) → IsNamed reads o m → m ≡ None → is_some o ≡ false
nothing_kept reads None m named is = refl
nothing_kept reads (Some k) None named is = absurd named
nothing_kept reads (Some k) (Some r) named is = absurd cc

-- what is kept is what was made
pub made_there : {R : Type 0} (reads : Reader → R → Type 0) (entries : List (Vec ℕ Global × Option R)) (rs : List NamedReader) (name : List ℕ) (k : Option R) → AreReaders reads entries rs → Some k ≡ named_in name entries → IsMade reads k (reader_in rs name)
made_there {R = R} reads entries rs name k are is = subst (λ (o : Option Reader). IsMade reads k o) (sym (reader_is rs name)) (of (first_named rs name) (subst (λ (o : Option (Option R)). IsNamed reads o (first_named rs name)) (sym is) (are name))) where
  of : (m : Option NamedReader) → IsNamed reads (Some k) m → IsMade reads k (reader_of m)
  of None named = absurd named
  of (Some r) named = named

pub none_there : {R : Type 0} (reads : Reader → R → Type 0) (entries : List (Vec ℕ Global × Option R)) (rs : List NamedReader) (name : List ℕ) → AreReaders reads entries rs → None ≡ named_in name entries → reader_in rs name ≡ None
none_there reads entries rs name are is = reader_is rs name ∙ ap reader_of (nothing_made reads (named_in name entries) (first_named rs name) (are name) (sym is))

-- ---- a name more

-- a name under which something was made keeps it
pub readers_stay : {R : Type 0} (reads : Reader → R → Type 0) (entries : List (Vec ℕ Global × Option R)) (rs : List NamedReader) (r : NamedReader) → AreReaders reads entries rs → is_some (named_in r.name entries) ≡ true → AreReaders reads entries (rs ++ r ∷ [])
readers_stay reads entries rs r are there name = by_made (first_named rs name) refl (are name) where
  by_made : (m : Option NamedReader) → first_named rs name ≡ m → IsNamed reads (named_in name entries) (first_named rs name) → IsNamed reads (named_in name entries) (first_named (rs ++ r ∷ []) name)
  by_made (Some x) is named = subst (λ (m : Option NamedReader). IsNamed reads (named_in name entries) m) (is ∙ sym (first_stays rs r x name is)) named
  by_made None is named = by_name (bytes_eq r.name name) refl where
    by_name : (b : Bool) → bytes_eq r.name name ≡ b → IsNamed reads (named_in name entries) (first_named (rs ++ r ∷ []) name)
    by_name true same =
        absurd (both_ways (is_some (named_in name entries)) (nothing_kept reads (named_in name entries) (first_named rs name) named is) (subst (λ (l : List ℕ). is_some (named_in l entries) ≡ true) ((bytes_eq-Decides r.name name).0 same) there))
    by_name false other = subst (λ (m : Option NamedReader). IsNamed reads (named_in name entries) m) (is ∙ sym (first_now rs r name is ∙ ap (λ (b : Bool). cond b (Some r) None) other)) named

nothing_at : {X : Type 0} (o : Option X) → is_some o ≡ false → o ≡ None
nothing_at None is = refl
nothing_at (Some x) is = absurd cc

-- a name under which nothing was made is put in
pub readers_more : {R : Type 0} (reads : Reader → R → Type 0) (old new : BTreeMap (Vec ℕ Global) (Option R)) (rs : List NamedReader) (name : List ℕ) (k : Option R) (made : Option Reader) → AreReaders reads old.entries rs → is_some (named_in name old.entries) ≡ false
    → IsMade reads k made → UpdatesBy vec_cmp (λ x. slice_cmp nat_cmp name x.items) old new (Some k) → AreReaders reads new.entries (rs ++ record { name = name; reader = made } ∷ [])
readers_more {R = R} reads old new rs name k made are absent is_made u label =
    subst (λ (o : Option (Option R)). IsNamed reads o (first_named (rs ++ r ∷ []) label)) (sym (named_once_put old new name k u label)) (by_name (bytes_eq name label) refl) where
      r : NamedReader
      r = record { name = name; reader = made }

      by_name : (b : Bool) → bytes_eq name label ≡ b → IsNamed reads (cond b (Some k) (named_in label old.entries)) (first_named (rs ++ r ∷ []) label)
      by_name true same =
          let kept : is_some (named_in label old.entries) ≡ false = subst (λ (l : List ℕ). is_some (named_in l old.entries) ≡ false) ((bytes_eq-Decides name label).0 same) absent in
          let none = nothing_made reads (named_in label old.entries) (first_named rs label) (are label) (nothing_at (named_in label old.entries) kept) in
          subst (λ (m : Option NamedReader). IsNamed reads (Some k) m) (sym (first_now rs r label none ∙ ap (λ (b : Bool). cond b (Some r) None) same)) is_made
      by_name false other = subst (λ (m : Option NamedReader). IsNamed reads (named_in label old.entries) m) (by_made (first_named rs label) refl) (are label) where
        by_made : (m : Option NamedReader) → first_named rs label ≡ m → first_named rs label ≡ first_named (rs ++ r ∷ []) label
        by_made (Some x) is = is ∙ sym (first_stays rs r x label is)
        by_made None is = is ∙ sym (first_now rs r label is ∙ ap (λ (b : Bool). cond b (Some r) None) other)

-- ---- a reader that goes on

abbrev IsGone : {R : Type 0} → (Reader → R → Type 0) → Option R → ReaderUse → Option Reader → Type 0
IsGone reads k asked made = IsMade reads k (use_served made asked).reader

-- what is kept of the name is what is made of it now
pub readers_go_on : {R : Type 0} (reads : Reader → R → Type 0) (old new : BTreeMap (Vec ℕ Global) (Option R)) (rs : List NamedReader) (name : List ℕ) (asked : ReaderUse) (was k : Option R) → AreReaders reads old.entries rs → Some was ≡ named_in name old.entries
    → UpdatesBy vec_cmp (λ x. slice_cmp nat_cmp name x.items) old new (Some k) → ((made : Option Reader) → IsMade reads was made → IsGone reads k asked made) → AreReaders reads new.entries (readers_with name (use_served (reader_in rs name) asked).reader rs)
readers_go_on {R = R} reads old new rs name asked was k are is u goes label =
    subst (λ (o : Option (Option R)). IsNamed reads o (first_named (readers_with name (use_served (reader_in rs name) asked).reader rs) label)) (sym (named_once_put old new name k u label))
    (by_first (first_named rs name) refl) where
      by_first : (m : Option NamedReader) → first_named rs name ≡ m → IsNamed reads (cond (bytes_eq name label) (Some k) (named_in label old.entries)) (first_named (readers_with name (use_served (reader_in rs name) asked).reader rs) label)
      by_first None none = absurd (both_ways (is_some (named_in name old.entries)) (nothing_kept reads (named_in name old.entries) (first_named rs name) (are name) none) (is_there (named_in name old.entries) was is))
      by_first (Some x) found =
          let made : reader_in rs name ≡ x.reader = reader_is rs name ∙ ap reader_of found in
          subst (λ (o : Option Reader). IsNamed reads (cond (bytes_eq name label) (Some k) (named_in label old.entries)) (first_named (readers_with name (use_served o asked).reader rs) label)) (sym made)
          (by_reader x.reader refl (goes x.reader (subst (λ (o : Option Reader). IsMade reads was o) made (made_there reads old.entries rs name was are is)))) where
            by_reader : (o : Option Reader) → x.reader ≡ o → IsGone reads k asked o → IsNamed reads (cond (bytes_eq name label) (Some k) (named_in label old.entries)) (first_named (readers_with name (use_served o asked).reader rs) label)
            by_reader None nothing gone = by_name (bytes_eq name label) refl where
              by_name : (b : Bool) → bytes_eq name label ≡ b → IsNamed reads (cond b (Some k) (named_in label old.entries)) (first_named rs label)
              by_name true same =
                  subst (λ (m : Option NamedReader). IsNamed reads (Some k) m) (sym (ap (first_named rs) (sym ((bytes_eq-Decides name label).0 same)) ∙ found)) (subst (λ (o : Option Reader). IsMade reads k o) (sym nothing) gone)
              by_name false other = are label
            by_reader (Some r) something gone =
                subst (λ (m : Option NamedReader). IsNamed reads (cond (bytes_eq name label) (Some k) (named_in label old.entries)) m) (sym (first_put rs name (used_by r asked).reader x found label)) (by_name (bytes_eq name label)) where
                  by_name : (b : Bool) → IsNamed reads (cond b (Some k) (named_in label old.entries)) (cond b (Some (again x (used_by r asked).reader)) (first_named rs label))
                  by_name true = gone
                  by_name false = are label

-- where there is none, all stay
pub readers_of_none : {R : Type 0} (reads : Reader → R → Type 0) (entries : List (Vec ℕ Global × Option R)) (rs : List NamedReader) (name : List ℕ) (asked : ReaderUse) → AreReaders reads entries rs → None ≡ named_in name entries → AreReaders reads entries (readers_with name (use_served (reader_in rs name) asked).reader rs)
readers_of_none reads entries rs name asked are is = subst (λ (o : Option Reader). AreReaders reads entries (readers_with name (use_served o asked).reader rs)) (sym (none_there reads entries rs name are is)) are

-- and that is replied
pub none_replied : {R : Type 0} (reads : Reader → R → Type 0) (entries : List (Vec ℕ Global × Option R)) (rs : List NamedReader) (name : List ℕ) (asked : ReaderUse) → AreReaders reads entries rs → None ≡ named_in name entries → told.NoReader ≡ (use_served (reader_in rs name) asked).reply
none_replied reads entries rs name asked are is = ap (λ (o : Option Reader). (use_served o asked).reply) (sym (none_there reads entries rs name are is))
