use Rattle.std.proofs.Common.{List, ◌++◌, take}
use Rattle.depot_base.specs.declared.record.Record.{Record}
use Rattle.depot_audit.specs.MetTexts.{AreTexts, IsMetOf}
use Rattle.depot_audit.proofs.met.Met.take_texts.Given as goal

abbrev pub invariant-loop-text : goal.invariant-loop-text
invariant-loop-text l = (rs K : List Record) → AreTexts K (take l.text-index l.texts) → IsMetOf rs l.fn.self → IsMetOf (rs ++ K) l.self
