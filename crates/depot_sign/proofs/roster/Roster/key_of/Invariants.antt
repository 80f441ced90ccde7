use Rattle.std.proofs.Common.{◌≡◌, drop}
use Rattle.depot_model.specs.texts.Roster.{key_of}
use Rattle.depot_sign.proofs.roster.Roster.key_of.Given as goal

abbrev pub invariant-loop-entry : goal.invariant-loop-entry
invariant-loop-entry l = key_of l.fn.self l.node ≡ key_of (drop l.entry-index l.entry-items) l.node
