use Rattle.std.proofs.Common.{sym, ◌∙◌}
use Rattle.depot_kept.proofs.KindLaws.{bodies_by_fields, bodies_by_ids, ids_differ}
use Rattle.depot_kept.proofs.kinds.have_one_body.Goals as goal

pub returns-then-eq : goal.returns-then-eq
returns-then-eq c = bodies_by_fields _ _ c.is_same.result c.requires.a c.requires.b c.is_same.ensures

pub returns-else-eq : goal.returns-else-eq
returns-else-eq c = rw c.if-eq.false (bodies_by_ids _ _ c.requires.a c.requires.b (λ e. ids_differ c.args.a_id.now c.args.b_id.now _ c.eq.ensures c.if-eq.false (c.requires.a_id ∙ e ∙ sym c.requires.b_id)))
