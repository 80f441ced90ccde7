use Rattle.std.proofs.Common.{arith, sym, ap, ◌∙◌}
use Rattle.std.specs.Option.{option_copied}
use Rattle.depot_questions.proofs.LeastLaws.{all_noted, none_noted, one_noted, one_passed}
use Rattle.depot_questions.proofs.keys.note_each.Goals as goal

pub loop-at-init : goal.loop-at-init
loop-at-init c = none_noted (option_copied c.args.after) c.args.least.now.keys c.args.writes.now _ c.requires (omega arith)

pub note-requires : goal.note-requires
note-requires c = c.loop-at.invariant.few

pub loop-at-preserved-in-Continue-1 : goal.loop-at-preserved-in-Continue-1
loop-at-preserved-in-Continue-1 c =
    one_noted (option_copied c.args.after) c.args.least.now.keys c.loop-at.least.keys c.note.new.least.keys c.args.writes.now c.loop-at.at c.index-writes-at.result c.bytes-key.result.now c.loop-at-test.true (omega (arith, c.loop-at-test.true, c.loop-at.auto.at)) c.index-writes-at.is (c.bytes-key.ensures.same ∙ ap (λ (w : _). w.key) (sym c.index-writes-at.is)) (sym c.is_above.ensures ∙ c.if-is_above.true) c.in_ok-note.ensures.few c.in_ok-note.ensures.put c.loop-at.invariant

pub loop-at-preserved : goal.loop-at-preserved
loop-at-preserved c =
    one_passed (option_copied c.args.after) c.args.least.now.keys c.loop-at.least.keys c.args.writes.now c.loop-at.at c.index-writes-at.result c.bytes-key.result.now c.loop-at-test.true (omega (arith, c.loop-at-test.true, c.loop-at.auto.at)) c.index-writes-at.is (c.bytes-key.ensures.same ∙ ap (λ (w : _). w.key) (sym c.index-writes-at.is)) (sym c.is_above.ensures ∙ c.if-is_above.false) c.loop-at.invariant

pub returns-clause-few : goal.returns-clause-few
returns-clause-few c = c.loop-at.invariant.few

pub returns-clause-put : goal.returns-clause-put
returns-clause-put c = all_noted (option_copied c.args.after) c.args.least.now.keys c.loop-at.least.keys c.args.writes.now c.loop-at.at (omega (arith, c.loop-at-test.false)) c.loop-at.invariant
