use Rattle.depot_order.proofs.RowMaking.{joined_front}
use Rattle.depot_order.proofs.row.join_row.Goals as goal

pub returns : goal.returns
returns c = λ k low. joined_front c.args.row.now c.args.with.now c.max_into.new.a c.requires c.max_into.ensures k
