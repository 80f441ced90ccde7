use Rattle.std.proofs.Common.{rules, ◌≡◌, ◌++◌, ◌+◌, ◌∷◌, [], length, arith, subst, sym}
use Rattle.depot_base.specs.File.{framed}
use Rattle.depot_journal.specs.Mirrored.{EndWithin, bodies_at}
use Rattle.depot_journal.specs.declared.span.Span.{Span}
use Rattle.depot_journal.proofs.RecordBlocks.{one_more, one_longer}
use Rattle.depot_journal.proofs.Mirrors.{within_more}
use Rattle.depot_journal.proofs.FileParsing.{found_more, found_long}
use Rattle.depot_journal.proofs.file_parse.parse.Goals as goal

pub overflow_cast-end : goal.overflow_cast-end
overflow_cast-end c =
    let split : c.loop-text.rest.now ≡ 1 ∷ (framed c.in-Some.text.now ++ c.in-Some.after.now) = search rules in
    omega (arith, found_long c.args.file.now c.loop-text.rest.now c.in-Some.text.now c.in-Some.after.now _ c.loop-text.end c.loop-text.invariant.read c.loop-text.invariant.at split, c.requires.short)

pub loop-text-preserved : goal.loop-text-preserved
loop-text-preserved c =
    let was = c.loop-text.invariant in
    let text = c.in-Some.text.now in
    let span : Span = record { start = c.loop-text.end + 5; end = c.loop-text.end + 5 + length text } in
    let split : c.loop-text.rest.now ≡ 1 ∷ (framed text ++ c.in-Some.after.now) = search rules in
    let pushed : c.push.new.self.items ≡ c.loop-text.spans.items ++ span ∷ [] = search rules in
    let bodies : bodies_at c.args.file.now c.push.new.self.items ≡ bodies_at c.args.file.now c.loop-text.spans.items ++ text ∷ [] = found_more c.args.file.now c.loop-text.rest.now text c.in-Some.after.now _ _ span c.loop-text.end was.read was.at split pushed (omega arith) (omega arith) in
    record {
      read = one_more _ _ _ _ _ _ was.read split bodies;
      at = omega (arith, one_longer _ text _ _ was.at bodies);
      within = subst (EndWithin (c.loop-text.end + 5 + length text)) (sym pushed) (within_more c.loop-text.end (c.loop-text.end + 5 + length text) c.loop-text.spans.items span (omega arith) was.within (omega arith) (omega arith));
      few = search rules;
      left = search rules;
    }
