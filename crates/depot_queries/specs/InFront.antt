-- The own vouchers that name some of a list of ids, by place.
use Rattle.std.specs.Prelude.{◌≡◌, ℕ, List, true}
use Rattle.depot_base.specs.declared.record.Record.{Record}
use Rattle.depot_model.specs.lists.Lists.{IsIn}
use Rattle.depot_readings.specs.FrontPlaces.{vouches_at}

-- These are the places of the own vouchers that name one of these ids.
pub record AreVoucherPlaces (J : List Record) (ids : List (List ℕ)) (found : List ℕ) : Type 0 where
  pub all : (id : List ℕ) (place : ℕ) → IsIn id ids → vouches_at J id place ≡ true → IsIn place found
  pub only : (place : ℕ) → IsIn place found → (id : List ℕ) × (IsIn id ids × (vouches_at J id place ≡ true))
