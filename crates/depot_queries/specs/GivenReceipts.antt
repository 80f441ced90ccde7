-- The ids for which an update gives receipts.
use Rattle.std.specs.Prelude.{List, ℕ, Option, option_and_then, is_some}
use Rattle.std.specs.List.{flat_map}
use Rattle.std.specs.Option.{option_to_list}
use Rattle.depot_base.specs.declared.update.Update.{Update}
use Rattle.depot_model.specs.lists.Lists.{when}
use Rattle.depot_model.specs.worlds.ReadTests.{value_written}
use Rattle.depot_model.specs.worlds.Receipts.{receipt_of}

-- the id for which an update gives a receipt under this key, where it does
abbrev pub id_given : Update → List ℕ → Option (List ℕ)
id_given u key = option_and_then (λ h. when (is_some (value_written key u)) h) (receipt_of key)

-- the ids for which it gives receipts, in the order of its writes
abbrev pub ids_given : Update → List (List ℕ)
ids_given u = flat_map (λ w. option_to_list (id_given u w.key)) u.writes
