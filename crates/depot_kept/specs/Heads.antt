-- The newest link of each mark.
use Rattle.std.specs.Prelude.{ℕ, ◌-◌, List, [], ◌∷◌, Option, Some, vec_len, if◌then◌else◌}
use Rattle.std.specs.Vec.{vec_capacity}
use Rattle.depot_kept.specs.declared.marks.StatementMark.{StatementMark}
use Rattle.depot_kept.specs.declared.heads.Fresh.{Fresh}
use Rattle.depot_kept.specs.declared.heads.Heads.{Heads}
use Rattle.depot_kept.specs.Links.{same_mark}
use Rattle.depot_kept.specs.Settled.{settled}

-- the newest link of a mark, given the newest one before these links, of which the first is the oldest
abbrev pub newest_of : Option ℕ → List Fresh → StatementMark → Option ℕ
newest_of before [] mark = before
newest_of before (f ∷ fs) mark = newest_of (if same_mark f.mark mark then Some f.link else before) fs mark

-- the newest link of a mark
unfoldable pub head : Heads → StatementMark → Option ℕ
head heads mark = newest_of (settled heads.settled mark) heads.fresh.items mark

-- how many links more have reserved memory
unfoldable pub spare_heads : Heads → ℕ
spare_heads heads = vec_capacity heads.fresh - vec_len heads.fresh
