-- The first statement, of those at some places, that a statement contradicts.
use Rattle.std.specs.Prelude.{◌≡◌, ℕ, ◌<◌, List, Option, Some, None, nat_lt, if◌then◌else◌}
use Rattle.std.specs.List.{slice_get}
use Rattle.depot_base.specs.declared.statement.Statement.{Statement}
use Rattle.depot_model.specs.lists.Lists.{IsIn}
use Rattle.depot_model.specs.updates.Contradictions.{kind_of}
use Rattle.depot_kept.specs.declared.seen_statements.Found.{Found}
use Rattle.depot_kept.specs.declared.kept_statement.KeptStatement.{KeptStatement}

-- that of the two which was kept first
abbrev pub earlier_kept : Option Found → Option Found → Option Found
earlier_kept None b = b
earlier_kept (Some x) None = Some x
earlier_kept (Some x) (Some y) = if nat_lt y.index x.index then Some y else Some x

-- the entry at the place that was found contradicts the statement in that kind
pub record IsContradictedAt (es : List KeptStatement) (s : Statement) (found : Found) : Type 0 where
  pub entry : KeptStatement
  pub at : slice_get es found.index ≡ Some entry
  pub kind : kind_of entry.statement s ≡ Some found.kind

-- a place before the one that was found, or any where none was
abbrev pub IsBefore : ℕ → Option Found → Type 0
IsBefore place None = Unit {0}
IsBefore place (Some found) = place < found.index

-- What was found contradicts the statement, and no entry at one of these places before it does.
pub record IsFirstOf (es : List KeptStatement) (places : List ℕ) (s : Statement) (found : Option Found) : Type 0 where
  pub here : (f : Found) → found ≡ Some f → IsContradictedAt es s f
  pub before : (place : ℕ) (e : KeptStatement) → IsIn place places → IsBefore place found → slice_get es place ≡ Some e → kind_of e.statement s ≡ None
