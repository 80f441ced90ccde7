-- The checks after that of the signature.
use Rattle.std.specs.Prelude.{◌≡◌, List, [], ◌∷◌, ◌++◌, Option, Some, None, Result, Ok, Err, slice_get}
use Rattle.depot_base.specs.declared.statement.Signed.{Signed}
use Rattle.depot_base.specs.declared.statement.Statement.{Statement}
use Rattle.depot_base.specs.declared.statement.Statement.TheVariants as statements
use Rattle.depot_base.specs.declared.update.Update.{Update}
use Rattle.depot_base.specs.declared.voucher.Voucher.{Voucher}
use Rattle.depot_base.specs.declared.proof.Kind.{Kind}
use Rattle.depot_base.specs.declared.record.Record.{Record}
use Rattle.depot_base.specs.declared.record.Record.TheVariants.{Foreign}
use Rattle.depot_base.specs.declared.check.Check.{Check}
use Rattle.depot_model.specs.lists.Lists.{first}
use Rattle.depot_model.specs.checks.Checks.{given_statement, content_of, forked, refused_as_convicted, added, exposed}
use Rattle.depot_kept.specs.declared.seen_statements.Found.{Found}
use Rattle.depot_accept.specs.CheckResults.{AreDue, IsUpdateBehind}
use Rattle.depot_accept.specs.declared.answer.Pass.{Pass}
use Rattle.depot_accept.specs.declared.answer.Pass.TheVariants as pass
use Rattle.depot_accept.specs.declared.answer.CheckError.{CheckError}
use Rattle.depot_accept.specs.declared.answer.CheckError.TheVariants as failed

-- what was found among these kept statements is this opponent
abbrev pub IsOpponent : List Signed → Option (Signed × Kind) → Option Found → Type 0
IsOpponent kept o None = o ≡ None
IsOpponent kept o (Some found) = (s : Signed) × ((slice_get kept found.index ≡ Some s) × (o ≡ Some (s, found.kind)))

-- the first of these checks that fails, or none
abbrev pub failed_after_signature : List Record → Statement → Option Check
failed_after_signature J s = first (content_of J s ++ (forked J s ∷ refused_as_convicted J s ∷ []))

-- None of them fails, and the journal grows by the convictions that are due and by the statement's own record.
pub record Passes (J : List Record) (s : Signed) (found : Option Found) : Type 0 where
  pub none : failed_after_signature J s.statement ≡ None
  pub due : List Record
  pub grows : added J (given_statement s) ≡ due ++ Foreign s ∷ []
  pub by : AreDue J s found due

-- their result for a statement that is new, and was signed by another node of the roster
abbrev pub IsCheckedAfterSignature : List Record → Signed → Result Pass CheckError → Type 0
IsCheckedAfterSignature J s (Ok pass.Known) = ⊥
IsCheckedAfterSignature J s (Ok (pass.Update found behind)) = IsUpdateBehind J s behind × Passes J s found
IsCheckedAfterSignature J s (Ok pass.Voucher) = (v : Voucher) × ((s.statement ≡ statements.Voucher v) × Passes J s None)
IsCheckedAfterSignature J s (Err failed.Memory) = (u : Update) × (s.statement ≡ statements.Update u)
IsCheckedAfterSignature J s (Err (failed.Refused check found)) = (failed_after_signature J s.statement ≡ Some check) × AreDue J s found (exposed J (given_statement s) check)
