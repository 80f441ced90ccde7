-- What is read of a map from keys to lists.
use Rattle.std.proofs.Common.{◌≡◌, ◌-◌, ◌<◌, ℕ, List, [], ◌∷◌, Bool, true, false, cond, Option, Some, Vec, is_some, refl, sym, ap, subst, ◌∙◌, vec_len}
use Rattle.std.specs.Vec.{vec_capacity}
use Rattle.std.specs.declared.alloc.Global.{Global}
use Rattle.std.specs.declared.cmp.Ordering.{Ordering}
use Rattle.std.specs.declared.cmp.Ordering.TheVariants.{Less, Equal, Greater}
use Rattle.std.specs.Ordering.{nat_cmp, is_eq, match_ordering}
use Rattle.std.specs.Cmp.Lexicographic.{slice_cmp}
use Rattle.std.specs.Str.{bytes_eq}
use Rattle.std.specs.Map.{lookup, set_value}
use Rattle.std.specs.Option.{option_map_or}
use Rattle.std.specs.BTreeMap.{insert_entry}
use Rattle.std.proofs.lemmas.Map.Text.{is_eq-slice_cmp}
use Rattle.std.proofs.lemmas.Map.Lookups.{exact_bytes}
use Rattle.std.proofs.lemmas.Map.Views.{tells_apart}
use Rattle.std.proofs.lemmas.Slice.Eq.{bytes_eq-Decides}
use Rattle.depot_base.proofs.GeneralLaws.{vec_cmp}
use Rattle.depot_order.specs.KeyLists.{latest_of, room_of, key_lists}

abbrev Entries : Type 0
Entries = List (Vec ℕ Global × Vec ℕ Global)

-- what is read of the list of a key, or d where there is none
abbrev pub read : {X : Type 0} → (Vec ℕ Global → X) → X → List ℕ → Entries → X
read f d key [] = d
read f d key (e ∷ es) = cond (bytes_eq key e.0.items) (f e.1) (read f d key es)

-- the memory that a list has over
abbrev pub spare : Vec ℕ Global → ℕ
spare v = vec_capacity v - vec_len v

pub latest_read : (key : List ℕ) (es : Entries) → latest_of key (key_lists es) ≡ read (λ v. v.items) [] key es
latest_read key [] = refl
latest_read key (e ∷ es) = ap (λ (l : List ℕ). cond (bytes_eq key e.0.items) e.1.items l) (latest_read key es)

pub room_read : (key : List ℕ) (es : Entries) → room_of key (key_lists es) ≡ read spare 0 key es
room_read key [] = refl
room_read key (e ∷ es) = ap (λ (n : ℕ). cond (bytes_eq key e.0.items) (spare e.1) n) (room_read key es)

-- ---- what a look-up finds

-- the test of a look-up
abbrev pub is_key : List ℕ → Vec ℕ Global → Bool
is_key key k = is_eq (slice_cmp nat_cmp key k.items)

abbrev pub found_in : List ℕ → Entries → Option (Vec ℕ Global)
found_in key es = lookup (is_key key) es

read_chosen : {X : Type 0} (f : Vec ℕ Global → X) (d : X) (b c : Bool) → b ≡ c → (v : Vec ℕ Global) (x : X) (r : Option (Vec ℕ Global)) → x ≡ option_map_or f r d → cond b (f v) x ≡ option_map_or f (cond c (Some v) r) d
read_chosen f d true true e v x r h = refl
read_chosen f d false false e v x r h = h
read_chosen f d true false e v x r h = absurd cc
read_chosen f d false true e v x r h = absurd cc

pub read-lookup : {X : Type 0} (f : Vec ℕ Global → X) (d : X) (key : List ℕ) (es : Entries) → read f d key es ≡ option_map_or f (found_in key es) d
read-lookup f d key [] = refl
read-lookup f d key (e ∷ es) = read_chosen f d (bytes_eq key e.0.items) (is_key key e.0) (sym (is_eq-slice_cmp key e.0.items)) e.1 (read f d key es) (found_in key es) (read-lookup f d key es)

-- ---- what a change of one list changes

swap : {X : Type 0} (a b : Bool) (x y z : X) → (a ≡ true → b ≡ true → ⊥) → cond a x (cond b y z) ≡ cond b y (cond a x z)
swap true true x y z never = absurd (never refl refl)
swap true false x y z never = refl
swap false true x y z never = refl
swap false false x y z never = refl

twice : {X : Type 0} (a b : Bool) (x y z : X) → a ≡ b → cond a x z ≡ cond b x (cond a y z)
twice true true x y z e = refl
twice true false x y z e = absurd cc
twice false true x y z e = absurd cc
twice false false x y z e = refl

same_key : (key : List ℕ) (k : Vec ℕ Global) → is_key key k ≡ true → key ≡ k.items
same_key key k e = tells_apart exact_bytes key k.items e

never_both : (other key : List ℕ) (k : Vec ℕ Global) → is_key key k ≡ false → bytes_eq other k.items ≡ true → bytes_eq other key ≡ true → ⊥
never_both other key k apart p q =
    let same : key ≡ k.items = sym ((bytes_eq-Decides other key).0 q) ∙ (bytes_eq-Decides other k.items).0 p in
    let is : is_key key k ≡ true = is_eq-slice_cmp key k.items ∙ (bytes_eq-Decides key k.items).1 same in
    cc

-- another list in place of one that is there
pub read-set_value : {X : Type 0} (f : Vec ℕ Global → X) (d : X) (key other : List ℕ) (es : Entries) (v : Vec ℕ Global) → is_some (found_in key es) ≡ true → read f d other (set_value (is_key key) es v) ≡ cond (bytes_eq other key) (f v) (read f d other es)
read-set_value f d key other [] v there = absurd cc
read-set_value {X = X} f d key other (e ∷ es) v there = go (is_key key e.0) refl (read-set_value f d key other es v) there where
  go : (b : Bool) → is_key key e.0 ≡ b → (is_some (found_in key es) ≡ true → read f d other (set_value (is_key key) es v) ≡ cond (bytes_eq other key) (f v) (read f d other es)) → is_some (cond b (Some e.1) (found_in key es)) ≡ true
      → read f d other (cond b ((e.0, v) ∷ es) (e ∷ set_value (is_key key) es v)) ≡ cond (bytes_eq other key) (f v) (cond (bytes_eq other e.0.items) (f e.1) (read f d other es))
  go true is h there = twice (bytes_eq other e.0.items) (bytes_eq other key) (f v) (f e.1) (read f d other es) (ap (bytes_eq other) (sym (same_key key e.0 is)))
  go false is h there =
      ap (λ (x : X). cond (bytes_eq other e.0.items) (f e.1) x) (h there)
      ∙ swap (bytes_eq other e.0.items) (bytes_eq other key) (f e.1) (f v) (read f d other es) (never_both other key e.0 is)

-- a list that is put in, whether or not one is there
pub read-insert_entry : {X : Type 0} (f : Vec ℕ Global → X) (d : X) (other : List ℕ) (es : Entries) (k v : Vec ℕ Global) → read f d other (insert_entry vec_cmp es k v) ≡ cond (bytes_eq other k.items) (f v) (read f d other es)
read-insert_entry f d other [] k v = refl
read-insert_entry {X = X} f d other (e ∷ es) k v = go (vec_cmp k e.0) refl (read-insert_entry f d other es k v) where
  go : (o : Ordering) → vec_cmp k e.0 ≡ o → read f d other (insert_entry vec_cmp es k v) ≡ cond (bytes_eq other k.items) (f v) (read f d other es)
      → read f d other (match_ordering o ((k, v) ∷ e ∷ es) ((e.0, v) ∷ es) (e ∷ insert_entry vec_cmp es k v)) ≡ cond (bytes_eq other k.items) (f v) (cond (bytes_eq other e.0.items) (f e.1) (read f d other es))
  go Less is h = refl
  go Equal is h = twice (bytes_eq other e.0.items) (bytes_eq other k.items) (f v) (f e.1) (read f d other es) (ap (bytes_eq other) (sym (same_key k.items e.0 (ap is_eq is))))
  go Greater is h =
      ap (λ (x : X). cond (bytes_eq other e.0.items) (f e.1) x) h
      ∙ swap (bytes_eq other e.0.items) (bytes_eq other k.items) (f e.1) (f v) (read f d other es) (never_both other k.items e.0 (ap is_eq is))

-- ---- the latest items and the room of a key

some_read : {X : Type 0} (f : Vec ℕ Global → X) (d : X) (key bytes : List ℕ) (es : Entries) (o : Option (Vec ℕ Global)) → bytes ≡ key → o ≡ found_in bytes es → read f d key es ≡ option_map_or f o d
some_read f d key bytes es o same e = read-lookup f d key es ∙ ap (λ (p : Option (Vec ℕ Global)). option_map_or f p d) (ap (λ (k : List ℕ). found_in k es) (sym same) ∙ sym e)

pub latest_found : (key bytes : List ℕ) (es : Entries) (o : Option (Vec ℕ Global)) → bytes ≡ key → o ≡ found_in bytes es → latest_of key (key_lists es) ≡ option_map_or (λ v. v.items) o []
latest_found key bytes es o same e = latest_read key es ∙ some_read (λ v. v.items) [] key bytes es o same e

pub room_found : (key bytes : List ℕ) (es : Entries) (o : Option (Vec ℕ Global)) → bytes ≡ key → o ≡ found_in bytes es → room_of key (key_lists es) ≡ option_map_or spare o 0
room_found key bytes es o same e = room_read key es ∙ some_read spare 0 key bytes es o same e

pub latest_put : (other : List ℕ) (es new : Entries) (k v : Vec ℕ Global) → new ≡ insert_entry vec_cmp es k v → latest_of other (key_lists new) ≡ cond (bytes_eq other k.items) v.items (latest_of other (key_lists es))
latest_put other es new k v e = latest_read other new ∙ (ap (read (λ v. v.items) [] other) e ∙ (read-insert_entry (λ v. v.items) [] other es k v ∙ ap (λ (l : List ℕ). cond (bytes_eq other k.items) v.items l) (sym (latest_read other es))))

pub room_put : (other : List ℕ) (es new : Entries) (k v : Vec ℕ Global) → new ≡ insert_entry vec_cmp es k v → room_of other (key_lists new) ≡ cond (bytes_eq other k.items) (spare v) (room_of other (key_lists es))
room_put other es new k v e = room_read other new ∙ (ap (read spare 0 other) e ∙ (read-insert_entry spare 0 other es k v ∙ ap (λ (n : ℕ). cond (bytes_eq other k.items) (spare v) n) (sym (room_read other es))))

pub latest_set : (key other : List ℕ) (es new : Entries) (v : Vec ℕ Global) → is_some (found_in key es) ≡ true → new ≡ set_value (is_key key) es v → latest_of other (key_lists new) ≡ cond (bytes_eq other key) v.items (latest_of other (key_lists es))
latest_set key other es new v there e = latest_read other new ∙ (ap (read (λ v. v.items) [] other) e ∙ (read-set_value (λ v. v.items) [] key other es v there ∙ ap (λ (l : List ℕ). cond (bytes_eq other key) v.items l) (sym (latest_read other es))))

pub room_set : (key other : List ℕ) (es new : Entries) (v : Vec ℕ Global) → is_some (found_in key es) ≡ true → new ≡ set_value (is_key key) es v → room_of other (key_lists new) ≡ cond (bytes_eq other key) (spare v) (room_of other (key_lists es))
room_set key other es new v there e = room_read other new ∙ (ap (read spare 0 other) e ∙ (read-set_value spare 0 key other es v there ∙ ap (λ (n : ℕ). cond (bytes_eq other key) (spare v) n) (sym (room_read other es))))

-- ---- the key itself, and others

pub at_own : {X : Type 0} (key : List ℕ) (x y : X) → cond (bytes_eq key key) x y ≡ x
at_own {X = X} key x y = ap (λ (b : Bool). cond b x y) ((bytes_eq-Decides key key).1 refl)

pub at_other : {X : Type 0} (other key : List ℕ) (x y : X) → (other ≡ key → ⊥) → cond (bytes_eq other key) x y ≡ y
at_other {X = X} other key x y apart = go (bytes_eq other key) refl where
  go : (b : Bool) → bytes_eq other key ≡ b → cond b x y ≡ y
  go true e = absurd (apart ((bytes_eq-Decides other key).0 e))
  go false e = refl

-- where what is put for a key is what is there, nothing changes
pub at_each : {X : Type 0} (f : List ℕ → X) (other key : List ℕ) (x : X) → x ≡ f key → cond (bytes_eq other key) x (f other) ≡ f other
at_each {X = X} f other key x same = go (bytes_eq other key) refl where
  go : (b : Bool) → bytes_eq other key ≡ b → cond b x (f other) ≡ f other
  go true e = same ∙ ap f (sym ((bytes_eq-Decides other key).0 e))
  go false e = refl

-- what holds of both holds of the one that is chosen
pub chosen : (b : Bool) (m n : ℕ) → 0 < m → 0 < n → 0 < cond b m n
chosen true m n p q = p
chosen false m n p q = q

-- ---- where room is found for a key

pub reserved_same : (other key : List ℕ) (es new : Entries) (k v : Vec ℕ Global) → k.items ≡ key → v.items ≡ latest_of key (key_lists es) → new ≡ insert_entry vec_cmp es k v → latest_of other (key_lists new) ≡ latest_of other (key_lists es)
reserved_same other key es new k v k_is v_is e = latest_put other es new k v e ∙ at_each (λ (h : List ℕ). latest_of h (key_lists es)) other k.items v.items (v_is ∙ ap (λ (h : List ℕ). latest_of h (key_lists es)) (sym k_is))

pub reserved_room : (key : List ℕ) (es new : Entries) (k v : Vec ℕ Global) → k.items ≡ key → 0 < spare v → new ≡ insert_entry vec_cmp es k v → 0 < room_of key (key_lists new)
reserved_room key es new k v k_is some e =
    let own : room_of k.items (key_lists new) ≡ spare v = room_put k.items es new k v e ∙ at_own k.items (spare v) (room_of k.items (key_lists es)) in
    subst (λ (h : List ℕ). 0 < room_of h (key_lists new)) k_is (subst (λ (n : ℕ). 0 < n) (sym own) some)

pub reserved_rooms : (other : List ℕ) (es new : Entries) (k v : Vec ℕ Global) → 0 < spare v → new ≡ insert_entry vec_cmp es k v → 0 < room_of other (key_lists es) → 0 < room_of other (key_lists new)
reserved_rooms other es new k v some e had = subst (λ (n : ℕ). 0 < n) (sym (room_put other es new k v e)) (chosen (bytes_eq other k.items) (spare v) (room_of other (key_lists es)) some had)
