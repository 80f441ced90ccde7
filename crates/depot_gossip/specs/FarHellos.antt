-- A hello that names, beside the leaves, ids further back.
use Rattle.std.specs.Prelude.{ℕ, suc, zero, ◌+◌, ◌-◌, List, [], ◌∷◌, length, map, take, Option, Some, None, slice_get, if◌then◌else◌}
use Rattle.std.specs.List.{flat_map}
use Rattle.depot_base.specs.declared.limits.TheConstants.{MOST_LEAVES}
use Rattle.depot_base.specs.declared.record.Record.{Record}
use Rattle.depot_base.specs.declared.update.Update.{Update}
use Rattle.depot_graph.specs.Kept.{prev_places}
use Rattle.depot_model.specs.declared.hello.Hello.{Hello}
use Rattle.depot_model.specs.declared.hello.HelloLeaf.{HelloLeaf}
use Rattle.depot_model.specs.checks.Checks.{Setting}
use Rattle.depot_model.specs.exchange.Hello.{hello_leaf_rises, hello_of, leaves_named, named_leaf}
use Rattle.depot_model.specs.lists.Items.{places_of, updates_at}
use Rattle.depot_model.specs.journals.Journal.{accepted}
use Rattle.depot_gossip.specs.declared.far.TheConstants.{MOST_FAR}

-- ---- chains, by the places of the updates: for each place the list has the place of its prev, if any

-- the place of the prev of a place
abbrev pub one_back : List (Option ℕ) → ℕ → Option ℕ
one_back prevs place = elim (slice_get prevs place) [ None ↦ None | Some before ↦ before ]

-- the place so many prevs back
unfoldable pub back : List (Option ℕ) → ℕ → ℕ → Option ℕ
back prevs zero place = Some place
back prevs (suc n) place = elim (one_back prevs place) [ None ↦ None | Some before ↦ back prevs n before ]

-- so many places back from a place, as far as its chain goes: the first is so many steps back, and each next one twice
-- as many steps before the one before it
unfoldable pub far_behind : List (Option ℕ) → ℕ → ℕ → ℕ → List ℕ
far_behind prevs zero steps place = []
far_behind prevs (suc n) steps place = elim (back prevs steps place) [ None ↦ [] | Some far ↦ far ∷ far_behind prevs n (steps + steps) far ]

-- the places 1, 3, 7, 15 .. back from those with these ids
unfoldable pub far_places : List Update → List (List ℕ) → List ℕ
far_places us ids = flat_map (far_behind (prev_places us) MOST_FAR 1) (places_of us ids)

-- ---- the hello

-- a leaf put into its place among rising ones, unless it is there
unfoldable pub put_leaf : HelloLeaf → List HelloLeaf → List HelloLeaf
put_leaf l [] = l ∷ []
put_leaf l (k ∷ ks) = if hello_leaf_rises (Some k) l then k ∷ put_leaf l ks else (if hello_leaf_rises (Some l) k then l ∷ k ∷ ks else k ∷ ks)

-- one after the other
unfoldable pub put_leaves : List HelloLeaf → List HelloLeaf → List HelloLeaf
put_leaves [] ks = ks
put_leaves (l ∷ ls) ks = put_leaves ls (put_leaf l ks)

-- The places further back from leaves for which a hello has room. Those of the first leaves come first, so of the last
-- leaves the furthest ones are left out.
abbrev pub far_for : List Update → List HelloLeaf → List ℕ
far_for us leaves = take (MOST_LEAVES - length leaves) (far_places us (map (λ l. l.id) leaves))

-- the leaves, and with them the updates further back
unfoldable pub far_leaves : List Update → List HelloLeaf → List HelloLeaf
far_leaves us leaves = put_leaves (map named_leaf (updates_at us (far_for us leaves))) leaves

-- the far hello of a node with this journal: its hello, and the ids 1, 3, 7, 15 .. back in each leaf's chain
unfoldable pub far_hello : Setting → List Record → Hello
far_hello here J = record (hello_of here J) { leaves = far_leaves (accepted J) (leaves_named J) }
