-- What a look-up among kept statements finds.
use Rattle.std.specs.Prelude.{◌≡◌, ℕ, ◌<◌, List, Bool, Option, Some, None, slice_get}
use Rattle.std.specs.Str.{bytes_eq}
use Rattle.depot_base.specs.declared.statement.Statement.{Statement}
use Rattle.depot_base.specs.declared.statement.Signed.{Signed}
use Rattle.depot_kept.specs.declared.seen_statements.Found.{Found}
use Rattle.depot_model.specs.texts.Texts.{text_of_statement}
use Rattle.depot_model.specs.updates.Contradictions.{kind_of}
use Rattle.depot_model.specs.checks.Checks.{opponent}

-- what is seen: the signed statements in the order in which they were kept, and how many more have reserved memory
pub record KeptSigned : Type 0 where
  pub kept : List Signed
  pub room : ℕ

-- The statement at the place that was found is the first that contradicts, and it does so in the kind that was found.
pub record IsOpponentAt (kept : List Signed) (s : Statement) (found : Found) : Type 0 where
  pub signed : Signed
  pub at : slice_get kept found.index ≡ Some signed
  pub kind : kind_of signed.statement s ≡ Some found.kind
  pub before : (place : ℕ) (f : Signed) → place < found.index → slice_get kept place ≡ Some f → kind_of f.statement s ≡ None
  pub opponent : opponent kept s ≡ Some (signed, found.kind)

-- that first one, or nothing exactly where none contradicts
abbrev pub IsContradiction : List Signed → Statement → Option Found → Type 0
IsContradiction kept s None = opponent kept s ≡ None
IsContradiction kept s (Some found) = IsOpponentAt kept s found

-- whether a signed statement has the same body as this one
abbrev pub has_body_of : Statement → Signed → Bool
has_body_of s kept = bytes_eq (text_of_statement kept.statement) (text_of_statement s)
