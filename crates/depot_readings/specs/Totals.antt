-- What is counted of a journal.
use Rattle.std.specs.Prelude.{◌≡◌, ℕ, List, length, ◌++◌}
use Rattle.depot_base.specs.declared.record.Record.{Record}
use Rattle.depot_base.specs.declared.statement.Statement.{Statement}
use Rattle.depot_model.specs.updates.History.{greatest_clock}
use Rattle.depot_model.specs.journals.Journal.{accepted, own, last_own, update_in}
use Rattle.depot_model.specs.checks.Room.{foreign_leaves}
use Rattle.depot_readings.specs.LeavesWith.{number_after}
use Rattle.depot_readings.specs.declared.totals.Totals.{Totals}

-- the counts are those of these records
pub record AreTotals (me : ℕ) (J : List Record) (t : Totals) : Type 0 where
  pub own : t.own ≡ length (own J)
  pub leaves : t.leaves ≡ length (foreign_leaves me J)
  pub clock : t.clock ≡ greatest_clock (accepted J)
  pub last : t.last ≡ last_own J

-- the counts are those of these records and a new statement of another after them
pub record AreTaken (me : ℕ) (J : List Record) (s : Statement) (t : Totals) : Type 0 where
  pub own : t.own ≡ length (own J)
  pub leaves : t.leaves ≡ number_after (accepted J) (length (foreign_leaves me J)) s
  pub clock : t.clock ≡ greatest_clock (accepted J ++ update_in s)
  pub last : t.last ≡ last_own J
