-- What a check answers.
use Rattle.std.specs.Prelude.{◌≡◌, List, [], ◌∷◌, ◌++◌, Option, Some, None, Result, Ok, Err, slice_get}
use Rattle.depot_base.specs.declared.statement.Signed.{Signed}
use Rattle.depot_base.specs.declared.statement.Statement.TheVariants as statements
use Rattle.depot_base.specs.declared.update.Update.{Update}
use Rattle.depot_base.specs.declared.voucher.Voucher.{Voucher}
use Rattle.depot_base.specs.declared.record.Record.{Record}
use Rattle.depot_base.specs.declared.record.Record.TheVariants.{Foreign, Conviction}
use Rattle.depot_model.specs.declared.taken.Taken.TheVariants.{New, Known}
use Rattle.depot_model.specs.checks.Checks.{Setting, given_statement, answer_to, growth}
use Rattle.depot_model.specs.updates.Conviction.{proof_of}
use Rattle.depot_model.specs.lists.Items.{AreItemsOf}
use Rattle.depot_model.specs.journals.Journal.{accepted, foreign}
use Rattle.depot_model.specs.updates.Order.{parents}
use Rattle.depot_kept.specs.declared.seen_statements.Found.{Found}
use Rattle.depot_graph.specs.UpdateRows.{IsJoinedRow}
use Rattle.depot_accept.specs.declared.answer.Parents.{Parents}
use Rattle.depot_accept.specs.declared.answer.Pass.{Pass}
use Rattle.depot_accept.specs.declared.answer.Pass.TheVariants as pass
use Rattle.depot_accept.specs.declared.answer.CheckError.{CheckError}
use Rattle.depot_accept.specs.declared.answer.CheckError.TheVariants as failed

-- these are the convictions that are due for a statement: none, or the one by the kept statement that was found
abbrev pub AreDue : List Record → Signed → Option Found → List Record → Type 0
AreDue J s None due = due ≡ []
AreDue J s (Some found) due = (kept : Signed) × ((slice_get (foreign J) found.index ≡ Some kept) × (due ≡ Conviction (proof_of found.kind kept s) ∷ []))

-- The statement is new, and the journal grows by the convictions that are due and by its own record.
pub record IsNew (here : Setting) (J : List Record) (s : Signed) (found : Option Found) : Type 0 where
  pub answer : answer_to here J (given_statement s) ≡ Ok New
  pub due : List Record
  pub grows : growth here J (given_statement s) ≡ due ++ Foreign s ∷ []
  pub by : AreDue J s found due

-- The statement is an update, and these are the items of its parents among the accepted updates, with their joined row.
pub record IsUpdateBehind (J : List Record) (s : Signed) (found : Parents) : Type 0 where
  pub update : Update
  pub is : s.statement ≡ statements.Update update
  pub behind : AreItemsOf (accepted J) (parents update) found.items.items
  pub joined : IsJoinedRow (accepted J) found.items.items found.row.items

-- what a journal answers to a statement, and which conviction is due; Memory may come in place of each answer to an
-- update
abbrev pub IsChecked : Setting → List Record → Signed → Result Pass CheckError → Type 0
IsChecked here J s (Ok pass.Known) = answer_to here J (given_statement s) ≡ Ok Known
IsChecked here J s (Ok (pass.Update found behind)) = IsUpdateBehind J s behind × IsNew here J s found
IsChecked here J s (Ok pass.Voucher) = (v : Voucher) × ((s.statement ≡ statements.Voucher v) × IsNew here J s None)
IsChecked here J s (Err failed.Memory) = (u : Update) × (s.statement ≡ statements.Update u)
IsChecked here J s (Err (failed.Refused check found)) = (answer_to here J (given_statement s) ≡ Err check) × AreDue J s found (growth here J (given_statement s))
