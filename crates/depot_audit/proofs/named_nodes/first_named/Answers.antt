use Rattle.std.proofs.Common.{◌≡◌, List, map, option_map, ◌∙◌}
use Rattle.std.proofs.lemmas.Result.{IfOk-weaker}
use Rattle.depot_model.specs.worlds.Audit.{named_node}
use Rattle.depot_model.specs.worlds.World.{Correct, World}
use Rattle.depot_traces.specs.SeenTraces.{finding_of, trace_of}
use Rattle.depot_audit.specs.Lookups.{nodes_in, first_accusing}
use Rattle.depot_audit.specs.MetTexts.{AreToldBy}
use Rattle.depot_model.specs.worlds.Traces.{IsWorldOf}
use Rattle.depot_audit.proofs.NamedNodes.{named_is}
use Rattle.depot_audit.proofs.NodesOfTraces.{told_in}
use Rattle.depot_audit.proofs.named_nodes.first_named.Goals as goal

pub first_keeping-requires : goal.first_keeping-requires
first_keeping-requires c = (c.requires.0.nodes, told_in c.requires.0 c.args.traces.now c.requires.1)

pub returns : goal.returns
returns c =
    IfOk-weaker c.first_keeping.result
    (λ found. (cs : List Correct) → AreToldBy cs (map (λ t. t.now) c.args.traces.now) → option_map finding_of found ≡ first_accusing (nodes_in (map (λ t. t.now) c.args.traces.now)) cs)
    (λ found. (W : World) → IsWorldOf (map (λ t. trace_of t.now) c.args.traces.now) W → option_map finding_of found ≡ named_node W)
    (λ found is W of. let told = told_in W c.args.traces.now of in is W.nodes told ∙ named_is W (map (λ t. t.now) c.args.traces.now) told) c.first_keeping.ensures
