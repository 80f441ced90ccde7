-- A journal without the signed statements of trimmed updates, over which a reader's checks are run; and what is below.
use Rattle.std.specs.Prelude.{◌≡◌, ℕ, List, [], ◌∷◌, map, find, Bool, not, ◌||◌, ◌==◌, Option, None, is_some, option_map, if◌then◌else◌}
use Rattle.std.specs.List.{list_any}
use Rattle.depot_base.specs.Statement.{writer_of}
use Rattle.depot_base.specs.declared.check.Check.{Check}
use Rattle.depot_base.specs.declared.check.Check.TheVariants as check
use Rattle.depot_base.specs.declared.update.Update.{Update}
use Rattle.depot_base.specs.declared.statement.Statement.{Statement}
use Rattle.depot_base.specs.declared.statement.Statement.TheVariants as statement
use Rattle.depot_base.specs.declared.statement.Signed.{Signed}
use Rattle.depot_base.specs.declared.record.Record.{Record}
use Rattle.depot_base.specs.declared.record.Record.TheVariants.{OwnPut, Foreign}
use Rattle.depot_model.specs.lists.Lists.{when, first}
use Rattle.depot_model.specs.texts.Texts.{id_of_update, id_of_statement}
use Rattle.depot_model.specs.texts.Roster.{has_node, is_signed}
use Rattle.depot_model.specs.journals.Journal.{update_in, has_id}
use Rattle.depot_model.specs.checks.Checks.{Setting, Given, given_statement, is_known, answer_to, growth}
use Rattle.depot_model.specs.readers.Trimming.{names}

-- ---- pruned journals

-- the statement is one of these updates, by its id
abbrev pub is_given_up : List Update → Statement → Bool
is_given_up trimmed s = list_any (λ u. has_id trimmed (id_of_update u)) (update_in s)

abbrev pub pruned_statement : List Update → Signed → Statement → Record
pruned_statement trimmed s (statement.Update u) = if has_id trimmed (id_of_update u) then OwnPut u [] else Foreign s
pruned_statement trimmed s (statement.Voucher v) = Foreign s

-- a record of another's update that is given up is seen as a put, without its signature
abbrev pub pruned_by : List Update → Record → Record
pruned_by trimmed (Foreign s) = pruned_statement trimmed s s.statement
pruned_by trimmed r = r

unfoldable pub pruned : List Update → List Record → List Record
pruned trimmed J = map (pruned_by trimmed) J

-- ---- what is below

-- the checks of the writer and of the signature, which come before all that asks the journal
abbrev pub checks_to_signature : Setting → Signed → List (Option Check)
checks_to_signature here s =
    when (not (has_node here.listed (writer_of s.statement))) (check.UnknownWriter (writer_of s.statement)) ∷
    when (writer_of s.statement == here.me) (check.NotMine (id_of_statement s.statement)) ∷
    when (not (is_signed here.verifies here.listed s)) (check.BadSignature (writer_of s.statement)) ∷ []

-- the first trimmed update that a statement names, where it passes these checks and isn't known
unfoldable pub below_of : Setting → List Record → List Update → Signed → Option (List ℕ)
below_of here J trimmed s = if is_known here J (given_statement s) || is_some (first (checks_to_signature here s)) then None else option_map id_of_update (find (names s.statement) trimmed)

-- what a node is given has the same answer and the same growth over both journals
pub record AnswersAlike (here : Setting) (J K : List Record) (x : Given) : Type 0 where
  pub answer : answer_to here K x ≡ answer_to here J x
  pub growth : growth here K x ≡ growth here J x
