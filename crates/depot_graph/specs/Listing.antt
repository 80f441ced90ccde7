-- The listed order, by places.
use Rattle.std.specs.Prelude.{◌≡◌, ℕ, List, true}
use Rattle.std.specs.Ordering.{is_lt}
use Rattle.depot_base.specs.declared.update.Update.{Update}
use Rattle.depot_model.specs.updates.Order.{listed}
use Rattle.depot_model.specs.lists.Items.{at}

-- the update at place a comes before the one at place b in the listed order
abbrev pub ListedAt : List Update → ℕ → ℕ → Type 0
ListedAt us a b = at us a (λ t. at us b (λ u. is_lt (listed t u) ≡ true))
