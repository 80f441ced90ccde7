-- The places of the records that accepted the updates.
use Rattle.std.specs.Prelude.{ℕ, List, length, Bool, nat_lt}
use Rattle.depot_base.specs.declared.record.Record.{Record}
use Rattle.depot_model.specs.exchange.Bundle.{records_where}
use Rattle.depot_model.specs.journals.Journal.{accepted_by}

-- the record accepts an update
abbrev pub accepts : Record → Bool
accepts r = nat_lt 0 (length (accepted_by r))

-- the places, from 0, of the records that accept the updates, in the order of the updates
abbrev pub accept_places : List Record → List ℕ
accept_places J = records_where accepts 0 J

-- What is seen of the places that are kept: the places, and how many more have reserved memory.
pub record PlacesWithRoom : Type 0 where
  pub places : List ℕ
  pub room : ℕ
