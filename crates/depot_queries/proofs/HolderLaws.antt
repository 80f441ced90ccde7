-- What a list that is put into the map of holders changes.
use Rattle.std.proofs.Common.{◌≡◌, ◌∙◌, ◌<◌, ◌+◌, ◌||◌, ℕ, Bool, true, false, cond, List, [], length, take, get_or, Option, Some, Vec, vec_len, refl, sym, ap}
use Rattle.std.specs.Vec.{vec_capacity}
use Rattle.std.specs.BTreeMap.{BTreeMap, get}
use Rattle.std.specs.Cmp.Lexicographic.{slice_cmp}
use Rattle.std.specs.Option.{option_map_or}
use Rattle.std.specs.Ordering.{nat_cmp, is_eq}
use Rattle.std.specs.Str.{bytes_eq}
use Rattle.std.specs.declared.alloc.Global.{Global}
use Rattle.std.proofs.lemmas.Bool.{lt-ltb, or_right}
use Rattle.std.proofs.lemmas.Map.Text.{is_eq-slice_cmp}
use Rattle.std.proofs.lemmas.Slice.Eq.{bytes_eq-Decides}
use Rattle.depot_base.proofs.GeneralLaws.{bytes_eq_comm, take_next, any_push}
use Rattle.depot_model.specs.lists.Lists.{is_among}
use Rattle.depot_model.specs.worlds.Receipts.{put_number}
use Rattle.depot_queries.proofs.RisingPuts.{put_again}
use Rattle.depot_queries.specs.RisingPlaces.{has_place_in, stands_in}

abbrev pub Lists : Type 0
Lists = BTreeMap (List ℕ) (Vec ℕ Global)

abbrev pub kept : Lists → List ℕ → Option (Vec ℕ Global)
kept lists id = get (slice_cmp nat_cmp) lists id

abbrev pub nodes_in : Option (Vec ℕ Global) → List ℕ
nodes_in o = option_map_or (λ list. list.items) o []

abbrev pub place_in : ℕ → Option (Vec ℕ Global) → Bool
place_in node o = option_map_or (λ list. has_place_in list node) o false

-- the map's clause on a list that is put in
abbrev pub PutsList : Lists → Lists → List ℕ → Vec ℕ Global → Type 0
PutsList old new id list = (other : List ℕ) → kept new other ≡ cond (is_eq (slice_cmp nat_cmp id other)) (Some list) (kept old other)

put_in : (old new : Lists) (id : List ℕ) (list : Vec ℕ Global) → PutsList old new id list → (other : List ℕ) → kept new other ≡ cond (bytes_eq other id) (Some list) (kept old other)
put_in old new id list puts other = puts other ∙ ap (λ (b : Bool). cond b (Some list) (kept old other)) (is_eq-slice_cmp id other ∙ bytes_eq_comm id other)

-- a list with the same nodes in place of another
pub same_nodes : (old new : Lists) (id : List ℕ) (list : Vec ℕ Global) → PutsList old new id list → list.items ≡ nodes_in (kept old id) → (other : List ℕ) → nodes_in (kept new other) ≡ nodes_in (kept old other)
same_nodes old new id list puts same other = ap nodes_in (put_in old new id list puts other) ∙ by_test (bytes_eq other id) refl where
  by_test : (b : Bool) → bytes_eq other id ≡ b → nodes_in (cond b (Some list) (kept old other)) ≡ nodes_in (kept old other)
  by_test true e = same ∙ ap (λ (x : List ℕ). nodes_in (kept old x)) (sym ((bytes_eq-Decides other id).0 e))
  by_test false e = refl

-- a list with a node more in place of another
pub node_noted : (old new : Lists) (id : List ℕ) (node : ℕ) (list : Vec ℕ Global) → PutsList old new id list → list.items ≡ put_number node (nodes_in (kept old id)) → (other : List ℕ)
    → nodes_in (kept new other) ≡ cond (bytes_eq other id) (put_number node (nodes_in (kept old other))) (nodes_in (kept old other))
node_noted old new id node list puts is other = ap nodes_in (put_in old new id list puts other) ∙ by_test (bytes_eq other id) refl where
  by_test : (b : Bool) → bytes_eq other id ≡ b → nodes_in (cond b (Some list) (kept old other)) ≡ cond b (put_number node (nodes_in (kept old other))) (nodes_in (kept old other))
  by_test true e = is ∙ ap (λ (x : List ℕ). put_number node (nodes_in (kept old x))) (sym ((bytes_eq-Decides other id).0 e))
  by_test false e = refl

-- a list with a place for a node has one, and the others keep theirs
pub places_stay : (old new : Lists) (id : List ℕ) (node : ℕ) (list : Vec ℕ Global) → PutsList old new id list → has_place_in list node ≡ true → (other : List ℕ) → place_in node (kept old other) ≡ true → place_in node (kept new other) ≡ true
places_stay old new id node list puts place other had = ap (place_in node) (put_in old new id list puts other) ∙ by_test (bytes_eq other id) where
  by_test : (b : Bool) → place_in node (cond b (Some list) (kept old other)) ≡ true
  by_test true = place
  by_test false = had

-- memory for a node is a place for it
pub place_over : (list : Vec ℕ Global) (node : ℕ) → vec_len list < vec_capacity list → has_place_in list node ≡ true
place_over list node some = or_right (stands_in node list.items) _ (lt-ltb (vec_len list) (vec_capacity list) some)

-- ---- one after the other

-- the nodes that are noted for the first of some ids, and for one more
pub noted_more : (ids : List (List ℕ)) (i : ℕ) (id other before mid new : List ℕ) (node : ℕ) → i < length ids → id ≡ get_or ids i id → mid ≡ cond (is_among other (take i ids)) (put_number node before) before
    → new ≡ cond (bytes_eq other id) (put_number node mid) mid → new ≡ cond (is_among other (take (i + 1) ids)) (put_number node before) before
noted_more ids i id other before mid new node low is so_far one =
    one ∙ (ap (λ (ns : List ℕ). cond (bytes_eq other id) (put_number node ns) ns) so_far ∙ (by_tests (is_among other (take i ids)) (bytes_eq other id)
    ∙ ap (λ (b : Bool). cond b (put_number node before) before) (sym (ap (is_among other) (take_next ids i id low is) ∙ any_push (bytes_eq other) (take i ids) id)))) where
      by_tests : (a b : Bool) → cond b (put_number node (cond a (put_number node before) before)) (cond a (put_number node before) before) ≡ cond (a || b) (put_number node before) before
      by_tests true true = put_again node before
      by_tests true false = refl
      by_tests false true = refl
      by_tests false false = refl
