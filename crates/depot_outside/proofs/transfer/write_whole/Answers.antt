use Rattle.std.proofs.Common.{Bor, ℕ, List, sym, subst, rules}
use Rattle.depot_outside.proofs.PieceWriting.{HasWritten, more_written, none_written, front_written}
use Rattle.depot_outside.proofs.transfer.write_whole.Goals as goal
use Rattle.depot_outside.proofs.transfer.write_whole.Goals.{in-Ok, in-Err}

pub returns-in-Ok-eq0-clause-front : goal.returns-in-Ok-eq0-clause-front
returns-in-Ok-eq0-clause-front g c = front_written _ _ _ _ (more_written _ _ _ _ _ c.in-Ok-eq0.field-0 c.loop.invariant (search rules))

pub returns-in-Err-2-clause-front : goal.returns-in-Err-2-clause-front
returns-in-Err-2-clause-front g c = front_written _ _ _ _ (none_written _ _ _ _ _ c.loop.invariant c.in-Err-2.ensures.bytes)

pub returns-clause-front : goal.returns-clause-front
returns-clause-front g c = front_written _ _ _ _ c.loop.invariant

pub loop-preserved : goal.loop-preserved
loop-preserved g c =
    let P : Bor (List ℕ) → Type 0 = λ rest. HasWritten (g.W.Write.contents c.args.to.now) (g.W.Write.contents c.write.new.self) c.args.bytes.now rest.now in
    elim c.match-write.branch [
      | in-Ok w ↦ subst P (sym w.rest-is) (more_written _ _ _ _ _ _ c.loop.invariant w.in-Ok.ensures.bytes)
      | in-Err w ↦ subst P (sym w.rest-is) (none_written _ _ _ _ _ c.loop.invariant w.in-Err.ensures.bytes)
    ]
