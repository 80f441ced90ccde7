-- Nodes whose records are lawful and whose reads are right make a world.
use Rattle.std.proofs.Common.{List, [], ◌∷◌, Some, refl}
use Rattle.std.specs.List.{AllByRecursion}
use Rattle.depot_base.specs.declared.key.RosterEntry.{RosterEntry}
use Rattle.depot_model.specs.texts.Roster.{Verifies}
use Rattle.depot_model.specs.worlds.Traces.{Trace, HasRightReads, AreNodesOf, AreTraced, IsFindingOf, by_node, traced_node}
use Rattle.depot_model.specs.worlds.World.{Correct, World}
use Rattle.depot_traces.specs.SeenTraces.{finding_of}
use Rattle.depot_traces.specs.declared.finding.Finding.{Finding}
use Rattle.depot_traces.specs.declared.finding.Finding.TheVariants.{Unlawful, Answer}
use Rattle.depot_audit.specs.InTurn.{IsTurnOf}

-- the nodes of traces that are right
nodes_of : (verifies : Verifies) (listed : List RosterEntry) (ts : List Trace) → AllByRecursion (HasRightReads verifies listed) ts → (cs : List Correct) × AreNodesOf verifies listed ts cs
nodes_of verifies listed [] all = ([], tt)
nodes_of verifies listed (t ∷ ts) all =
    let rest = nodes_of verifies listed ts all.1 in
    let J = all.0.0 in
    (traced_node t J ∷ rest.0, ((J, (all.0.1.0, (all.0.1.1, refl))), rest.1))

pub makes_world : (verifies : Verifies) (listed : List RosterEntry) (traces : List Trace) → AllByRecursion (HasRightReads verifies listed) (by_node traces) → (W : World) × AreTraced verifies listed traces W
makes_world verifies listed traces all =
    let nodes = nodes_of verifies listed (by_node traces) all in
    (record { verifies = verifies; listed = listed; nodes = nodes.0; judged = [] }, record { nodes = nodes.0; are = nodes.1; is = refl })

pub turn_is_finding : (verifies : Verifies) (listed : List RosterEntry) (traces : List Trace) (f : Finding) → IsTurnOf verifies listed (by_node traces) (Some f) → IsFindingOf verifies listed traces (finding_of f)
turn_is_finding verifies listed traces (Unlawful node place fault) found = found
turn_is_finding verifies listed traces (Answer node place) found = found
turn_is_finding verifies listed traces f found = absurd found
