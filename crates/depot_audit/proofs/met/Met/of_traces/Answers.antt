use Rattle.std.proofs.Common.{List, map}
use Rattle.std.specs.List.{flat_map}
use Rattle.std.proofs.lemmas.Result.{IfOk-weaker}
use Rattle.depot_model.specs.worlds.World.{Correct, World}
use Rattle.depot_traces.specs.SeenTraces.{trace_of}
use Rattle.depot_audit.specs.MetTexts.{AreToldBy, IsMetOf}
use Rattle.depot_model.specs.worlds.Traces.{IsWorldOf}
use Rattle.depot_audit.specs.TracedWorlds.{IsMetIn}
use Rattle.depot_audit.proofs.NodesOfTraces.{told_in}
use Rattle.depot_audit.proofs.met.Met.of_traces.Goals as goal

pub met_of-requires : goal.met_of-requires
met_of-requires c = (c.requires.0.nodes, told_in c.requires.0 c.args.traces.now c.requires.1)

pub returns : goal.returns
returns c =
    IfOk-weaker c.met_of.result
    (λ met. (cs : List Correct) → AreToldBy cs (map (λ t. t.now) c.args.traces.now) → IsMetOf (flat_map (λ d. d.journal) cs) met)
    (λ met. (W : World) → IsWorldOf (map (λ t. trace_of t.now) c.args.traces.now) W → IsMetIn W met)
    (λ met is W of. is W.nodes (told_in W c.args.traces.now of)) c.met_of.ensures
