-- The marks under which a statement is kept, and those under which one that came is looked up.
use Rattle.std.specs.Prelude.{ℕ, List, [], ◌∷◌, Bool}
use Rattle.std.specs.List.{list_any}
use Rattle.depot_base.specs.declared.statement.Statement.{Statement}
use Rattle.depot_base.specs.declared.statement.Statement.TheVariants as statements
use Rattle.depot_kept.specs.declared.marks.StatementMark.{StatementMark}
use Rattle.depot_kept.specs.declared.marks.StatementMark.TheVariants as marks
use Rattle.depot_kept.specs.Links.{same_mark}

-- the marks of a statement with this id
abbrev pub marks_of : Statement → List ℕ → List StatementMark
marks_of (statements.Update u) id = marks.Number u.writer u.seq ∷ marks.Prev u.writer u.prev ∷ marks.Id id ∷ []
marks_of (statements.Voucher v) id = marks.Number v.node v.seq ∷ []

-- whether a statement with this id has a mark
unfoldable pub has_mark : Statement → List ℕ → StatementMark → Bool
has_mark s id mark = list_any (λ m. same_mark m mark) (marks_of s id)

-- A statement with this id contradicts only statements that have one of these marks.
abbrev pub asked_of : Statement → List ℕ → List StatementMark
asked_of (statements.Update u) id = marks.Number u.writer u.seq ∷ marks.Prev u.writer u.prev ∷ marks.Id u.prev ∷ marks.Prev u.writer id ∷ []
asked_of (statements.Voucher v) id = marks.Number v.node v.seq ∷ []
