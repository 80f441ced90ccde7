use Rattle.std.proofs.Common.{refl}
use Rattle.depot_questions.proofs.LeastLaws.{so_many}
use Rattle.depot_questions.proofs.keys.page_of.Goals as goal

pub returns : goal.returns
returns c = so_many c.args.keys.now _ c.min-count.result _ c.in_ok-copies.field-0 refl refl c.min-count.ensures c.in_ok-copies.ensures
