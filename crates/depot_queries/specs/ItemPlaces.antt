-- Accepted updates and the places of their records: numbers that belong to them, the one that a record accepts, and
-- leaves.
use Rattle.std.specs.Prelude.{◌≡◌, ℕ, List, [], ◌∷◌, Bool, Option, Some, None, unwrap_or, slice_get, if◌then◌else◌}
use Rattle.depot_base.specs.declared.record.Record.{Record}
use Rattle.depot_base.specs.declared.update.Update.{Update}
use Rattle.depot_model.specs.declared.hello.HelloLeaf.{HelloLeaf}
use Rattle.depot_model.specs.exchange.Hello.{record_place}
use Rattle.depot_model.specs.journals.Journal.{accepted, accepted_at}
use Rattle.depot_model.specs.texts.Texts.{id_of_update}
use Rattle.depot_queries.specs.declared.leaf_order.OrderedLeaf.{OrderedLeaf}

-- the numbers that belong to the updates that pass a test
abbrev pub beside : (Update → Bool) → List Update → List ℕ → List ℕ
beside test [] ns = []
beside test (u ∷ us) [] = []
beside test (u ∷ us) (n ∷ ns) = if test u then n ∷ beside test us ns else beside test us ns

-- the item of the update that the record of a place accepts, or none where it accepts none
abbrev pub IsItemAt : List Record → ℕ → Option ℕ → Type 0
IsItemAt J place None = accepted_at J place ≡ []
IsItemAt J place (Some item) = (u : Update) × ((slice_get (accepted J) item ≡ Some u) × (accepted_at J place ≡ u ∷ []))

-- an accepted update, with the place of its record
abbrev pub leaf_with_place : List Record → Update → OrderedLeaf
leaf_with_place J t = record { writer = t.writer; id = id_of_update t; place = unwrap_or (record_place J (id_of_update t)) 0 }

-- how a hello names it
abbrev pub name_of : OrderedLeaf → HelloLeaf
name_of l = record { writer = l.writer; id = l.id }
