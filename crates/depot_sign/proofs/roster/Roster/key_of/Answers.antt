use Rattle.std.proofs.Common.{sym, ◌∙◌}
use Rattle.depot_sign.proofs.Keys.{found_here, not_here, nowhere}
use Rattle.depot_sign.proofs.roster.Roster.key_of.Goals as goal

pub returns-then-eq : goal.returns-then-eq
returns-then-eq c = sym (c.loop-entry.invariant ∙ found_here _ _ _ c.entry-item.result c.loop-entry-test.true c.entry-item.is (sym c.if-eq.ensures))

pub loop-entry-preserved : goal.loop-entry-preserved
loop-entry-preserved c = c.loop-entry.invariant ∙ not_here _ _ _ c.entry-item.result c.loop-entry-test.true c.entry-item.is (sym c.if-eq.ensures)

pub returns : goal.returns
returns c = sym (c.loop-entry.invariant ∙ nowhere _ _ _ c.loop-entry-test.false)
