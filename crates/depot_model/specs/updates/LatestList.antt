-- The latest writes of a key as a list, in a list in which each parent comes before its children.
use Rattle.std.specs.Prelude.{ℕ, List, filter, Bool, not, ◌&&◌}
use Rattle.std.specs.List.{list_any}
use Rattle.std.specs.Ordering.{is_lt}
use Rattle.depot_base.specs.declared.update.Update.{Update}
use Rattle.depot_model.specs.texts.Contents.{writes}
use Rattle.depot_model.specs.journals.Journal.{has_id}
use Rattle.depot_model.specs.updates.Order.{past, listed}
use Rattle.depot_model.specs.texts.Texts.{id_of_update}
use Rattle.depot_model.specs.lists.Insertion.{order_by}

-- one update comes before another in the listed order
abbrev pub is_listed_before : Update → Update → Bool
is_listed_before t u = is_lt (listed t u)

-- an update that writes the key and that no write of it follows
abbrev pub is_last : List ℕ → List Update → Update → Bool
is_last key us u = writes key u && not (list_any (λ v. writes key v && has_id (past v us) (id_of_update u)) us)

-- the latest writes of a key, in the listed order
unfoldable pub latest_in : List ℕ → List Update → List Update
latest_in key us = order_by is_listed_before (filter (is_last key us) us)
