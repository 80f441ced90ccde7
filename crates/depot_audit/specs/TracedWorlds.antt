-- The world that lawful traces make, and the table of its records.
use Rattle.std.specs.Prelude.{List}
use Rattle.std.specs.List.{flat_map}
use Rattle.depot_base.specs.declared.record.Record.{Record}
use Rattle.depot_model.specs.worlds.World.{World}
use Rattle.depot_audit.specs.MetTexts.{IsMetOf}
use Rattle.depot_audit.specs.declared.met.Met.{Met}

-- the records of its nodes, one journal after the other
abbrev pub world_records : World → List Record
world_records W = flat_map (λ c. c.journal) W.nodes

-- the table of these records
abbrev pub IsMetIn : World → Met → Type 0
IsMetIn W met = IsMetOf (world_records W) met
