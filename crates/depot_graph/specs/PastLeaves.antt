-- Leaves as the history text lists them.
use Rattle.std.specs.Prelude.{◌≡◌, ℕ, List, ◌++◌, filter, map, Option, Some, unwrap_or}
use Rattle.std.specs.Int.{w16, w64}
use Rattle.depot_base.specs.Cursor.{numeral}
use Rattle.depot_base.specs.declared.update.Update.{Update}
use Rattle.depot_model.specs.lists.Lists.{is_among}
use Rattle.depot_model.specs.texts.Texts.{id_of_update}
use Rattle.depot_model.specs.lists.Items.{at, place_of_id, place_of_prev, updates_at, PrecedesAt}
use Rattle.depot_model.specs.checks.Own.{next_entries}
use Rattle.depot_graph.specs.declared.leaf.Leaf.{Leaf}

-- a row of the history text: writer, clock, id
abbrev pub row_of : Leaf → List ℕ
row_of l = numeral w16 l.writer ++ (numeral w64 l.clock ++ l.id)

-- an update of the list, with its place
abbrev pub leaf_in : List Update → Update → Leaf
leaf_in us t = record { writer = t.writer; id = id_of_update t; clock = t.clock; item = unwrap_or (place_of_id (id_of_update t) us) 0 }

-- the updates that are at these places, each once, in the order of the list
abbrev pub updates_at_places : List Update → List ℕ → List Update
updates_at_places us places = filter (λ t. is_among (id_of_update t) (map id_of_update (updates_at us places))) us

-- the update at a place is of another writer than this node, and doesn't precede the last one of the node
pub record IsUnseen (us : List Update) (me : ℕ) (last : Option ℕ) (n : ℕ) : Type 0 where
  pub other : at us n (λ t. t.writer ≡ me → ⊥)
  pub apart : (p : ℕ) → last ≡ Some p → PrecedesAt us n p → ⊥

-- Where the update of this id, the last of a node, is at this place, these are the places of the entries of the node's
-- next update.
abbrev pub AreNextEntries : ℕ → List Update → Option ℕ → List ℕ → Type 0
AreNextEntries me us prev items = (id : List ℕ) → place_of_prev id us ≡ prev → updates_at us items ≡ next_entries me us id
