use Rattle.std.proofs.Common.{◌+◌, length, map, take}
use Rattle.depot_readings.specs.ReadingsView.{standing}
use Rattle.depot_decide.proofs.TakenTexts.{IsTaking}
use Rattle.depot_traces.specs.SeenTraces.{read_of}
use Rattle.depot_audit.specs.OneNode.{AreRightUpTo}
use Rattle.depot_audit.proofs.one_node.take_trace.Given as goal

abbrev pub invariant-loop-text : goal.invariant-loop-text
invariant-loop-text g l =
    IsTaking (standing g.S.Scheme.verifies l.fn.readings) g.S.Scheme.verifies (take l.text-index l.texts) l.readings × AreRightUpTo (length l.readings.records + 1) l.readings.records (map read_of l.reads) l.right
