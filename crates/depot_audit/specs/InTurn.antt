-- What is found of nodes that are checked in turn.
use Rattle.std.specs.Prelude.{◌≡◌, List, Option, Some, None}
use Rattle.std.specs.List.{AllByRecursion}
use Rattle.depot_base.specs.declared.key.RosterEntry.{RosterEntry}
use Rattle.depot_model.specs.checks.RecordFaults.{HaveFaultAt}
use Rattle.depot_model.specs.texts.Roster.{Verifies}
use Rattle.depot_model.specs.worlds.Traces.{Trace, IsLawfulTrace, HasRightReads, IsFirstBad, FirstAt, at_node}
use Rattle.depot_traces.specs.declared.finding.Finding.{Finding}
use Rattle.depot_traces.specs.declared.finding.Finding.TheVariants.{Unlawful, Answer}

-- The first whose records aren't lawful; else, where those of all are, the first with a read that isn't what its journal showed; else
-- there is none, and all reads are.
abbrev pub IsTurnOf : Verifies → List RosterEntry → List Trace → Option Finding → Type 0
IsTurnOf verifies listed ts None = AllByRecursion (HasRightReads verifies listed) ts
IsTurnOf verifies listed ts (Some (Unlawful node place fault)) = FirstAt (IsLawfulTrace verifies listed) ts (λ t. (t.node ≡ node) × HaveFaultAt (at_node verifies listed t) t.texts place fault)
IsTurnOf verifies listed ts (Some (Answer node place)) = AllByRecursion (IsLawfulTrace verifies listed) ts × FirstAt (HasRightReads verifies listed) ts (λ t. (t.node ≡ node) × IsFirstBad verifies listed t place)
IsTurnOf verifies listed ts (Some f) = ⊥
