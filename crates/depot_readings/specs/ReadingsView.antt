-- What is seen of readings.
use Rattle.std.specs.Prelude.{ℕ, List}
use Rattle.depot_base.specs.declared.key.RosterEntry.{RosterEntry}
use Rattle.depot_base.specs.declared.record.Record.{Record}
use Rattle.depot_model.specs.checks.Checks.{Setting}
use Rattle.depot_model.specs.texts.Roster.{Verifies}

-- What is seen: the node's own number, its roster, and the records that were read.
pub record Known : Type 0 where
  pub me : ℕ
  pub listed : List RosterEntry
  pub records : List Record

-- the setting of the node
abbrev pub standing : Verifies → Known → Setting
standing verifies v = record { verifies = verifies; me = v.me; listed = v.listed }

-- the same node, of which these records were read
abbrev pub with_more_records : Known → List Record → Known
with_more_records v J = record { me = v.me; listed = v.listed; records = J }
