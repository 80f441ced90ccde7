-- Whether a statement names an update, by what is kept of that.
use Rattle.std.specs.Prelude.{ℕ, List, Bool, false, ◌&&◌, ◌||◌, ◌==◌}
use Rattle.depot_base.specs.Statement.{writer_of, seq_of}
use Rattle.depot_base.specs.declared.statement.Statement.{Statement}
use Rattle.depot_base.specs.declared.statement.Statement.TheVariants as statement
use Rattle.depot_model.specs.lists.Lists.{is_among}
use Rattle.depot_model.specs.updates.Order.{parents}
use Rattle.depot_model.specs.readers.Trimming.{has_prev}
use Rattle.depot_trim.specs.declared.marks.UpdateMark.{UpdateMark}

-- an id is that of a parent of it
abbrev pub has_parent : Statement → List ℕ → Bool
has_parent (statement.Update u) h = is_among h (parents u)
has_parent (statement.Voucher v) h = false

-- it names the update of a mark
unfoldable pub names_mark : Statement → UpdateMark → Bool
names_mark s m = has_parent s m.id || ((writer_of s == m.writer) && ((seq_of s == m.seq) || has_prev s m.prev))
