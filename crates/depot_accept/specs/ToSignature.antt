-- The checks up to that of the signature, which ask of the journal only whether the statement is known.
use Rattle.std.specs.Prelude.{◌≡◌, List, [], true, false, Some, None, Ok, Err}
use Rattle.depot_base.specs.declared.check.Check.{Check}
use Rattle.depot_base.specs.declared.record.Record.{Record}
use Rattle.depot_base.specs.declared.statement.Signed.{Signed}
use Rattle.depot_model.specs.declared.taken.Taken.TheVariants.{Known}
use Rattle.depot_model.specs.checks.Checks.{Setting, given_statement, is_known, answer_by, answer_to, growth}
use Rattle.depot_model.specs.lists.Lists.{first}
use Rattle.depot_model.specs.readers.Pruning.{checks_to_signature}
use Rattle.depot_accept.specs.AfterSignature.{failed_after_signature}
use Rattle.depot_accept.specs.declared.answer.Front.{Front}
use Rattle.depot_accept.specs.declared.answer.Front.TheVariants as front

-- The statement is here.
pub record IsHere (here : Setting) (J : List Record) (s : Signed) : Type 0 where
  pub known : is_known here J (given_statement s) ≡ true
  pub answer : answer_to here J (given_statement s) ≡ Ok Known

-- It is new, this is the first of these checks that fails, and nothing grows by it.
pub record FailsEarly (here : Setting) (J : List Record) (s : Signed) (c : Check) : Type 0 where
  pub new : is_known here J (given_statement s) ≡ false
  pub failed : first (checks_to_signature here s) ≡ Some c
  pub answer : answer_to here J (given_statement s) ≡ Err c
  pub grows : growth here J (given_statement s) ≡ []

-- It is new, none of these checks fails, and those after them are left.
pub record PassesEarly (here : Setting) (J : List Record) (s : Signed) : Type 0 where
  pub new : is_known here J (given_statement s) ≡ false
  pub passed : first (checks_to_signature here s) ≡ None
  pub left : answer_to here J (given_statement s) ≡ answer_by false (failed_after_signature J s.statement)

-- what these checks make of a statement
abbrev pub IsCheckedToSignature : Setting → List Record → Signed → Front → Type 0
IsCheckedToSignature here J s front.Known = IsHere here J s
IsCheckedToSignature here J s (front.Refused c) = FailsEarly here J s c
IsCheckedToSignature here J s front.Passed = PassesEarly here J s
