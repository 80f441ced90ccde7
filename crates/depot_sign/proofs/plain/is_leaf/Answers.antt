use Rattle.depot_sign.proofs.KeyLeaves.{high_tree, no_quotient}
use Rattle.depot_sign.proofs.plain.is_leaf.Goals as goal

pub returns-then-key-ge32 : goal.returns-then-key-ge32
returns-then-key-ge32 c = high_tree c.args.key.now.height c.args.seq c.if-key-ge32.true c.ranges.seq.fits

pub returns-else-key-ge32 : goal.returns-else-key-ge32
returns-else-key-ge32 c = no_quotient c.args.key.now.height c.args.seq
