-- Who made a statement, and which of its statements it is.
use Rattle.std.specs.Prelude.{ℕ}
use Rattle.depot_base.specs.declared.statement.Statement.{Statement}
use Rattle.depot_base.specs.declared.statement.Statement.TheVariants as statement

-- who made it
abbrev pub writer_of : Statement → ℕ
writer_of (statement.Update u) = u.writer
writer_of (statement.Voucher v) = v.node

-- the one-time leaf that signs it
abbrev pub seq_of : Statement → ℕ
seq_of (statement.Update u) = u.seq
seq_of (statement.Voucher v) = v.seq
