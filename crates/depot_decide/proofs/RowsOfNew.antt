-- Updates of others that a journal grows by come with the rows of their parents.
use Rattle.std.proofs.Common.{◌≡◌, List, [], ◌∷◌, Option, Some, None, Result, Ok, refl, sym, ap, subst, ◌∙◌, inl, inr}
use Rattle.depot_base.specs.declared.check.Check.{Check}
use Rattle.depot_base.specs.declared.proof.Proof.{Proof}
use Rattle.depot_base.specs.declared.record.Record.{Record}
use Rattle.depot_base.specs.declared.record.Record.TheVariants.{Foreign, Conviction}
use Rattle.depot_base.specs.declared.statement.Signed.{Signed}
use Rattle.depot_base.specs.declared.statement.Statement.TheVariants as statements
use Rattle.depot_base.specs.declared.update.Update.{Update}
use Rattle.depot_model.specs.declared.taken.Taken.{Taken}
use Rattle.depot_model.specs.declared.taken.Taken.TheVariants.{New}
use Rattle.depot_model.specs.checks.Checks.{Setting, given_statement}
use Rattle.depot_model.specs.lists.Items.{AreItemsOf}
use Rattle.depot_model.specs.journals.Journal.{accepted}
use Rattle.depot_model.specs.lists.Lists.{IsIn}
use Rattle.depot_model.specs.updates.Order.{parents}
use Rattle.depot_kept.specs.declared.seen_statements.Found.{Found}
use Rattle.depot_graph.specs.UpdateRows.{IsJoinedRow}
use Rattle.depot_accept.specs.CheckResults.{IsNew, IsChecked}
use Rattle.depot_accept.specs.StateView.{View, IsStateOf}
use Rattle.depot_accept.specs.declared.answer.Parents.{Parents}
use Rattle.depot_accept.specs.declared.answer.Pass.TheVariants as pass
use Rattle.depot_decide.specs.Deciding.{ComesWithRow, ComeWithRow, IsDecided}
use Rattle.depot_decide.specs.declared.decision.Decision.{Decision}
use Rattle.depot_decide.proofs.NewStatements.{only_given}

-- where no statement of another is among the records
pub nothing_comes : (us : List Update) (given : Option Parents) → ComeWithRow us [] given
nothing_comes us given s u never is = absurd never

pub conviction_comes : (us : List Update) (p : Proof) (given : Option Parents) → ComeWithRow us (Conviction p ∷ []) given
conviction_comes us p given s u (inl same) is = absurd cc
conviction_comes us p given s u (inr never) is = absurd never

-- a decision by which nothing grows
pub none_come : (us : List Update) (answer : Result Taken Check) (d : Decision) → d ≡ record { answer = answer; growth = []; parents = None } → ComeWithRow us d.growth d.parents
none_come us answer d is = subst (λ (e : Decision). ComeWithRow us e.growth e.parents) (sym is) (nothing_comes us None)

-- the statement that is decided comes so
pub decided_comes : (us : List Update) (here : Setting) (J : List Record) (s : Signed) (answer : Result Taken Check) (new : List Record) (given : Option Parents)
    → IsDecided here J (given_statement s) answer new → ((u : Update) → s.statement ≡ statements.Update u → ComesWithRow us u given) → ComeWithRow us new given
decided_comes us here J s answer new given d comes = λ t u on is.
    let same : given_statement s ≡ given_statement t = only_given here J (given_statement s) t (subst (λ (rs : List Record). IsIn (Foreign t) rs) (sym d.grows) on) in
    let one : s ≡ t = cc in
    comes u (ap (λ (x : Signed). x.statement) one ∙ is)

module _ {S : Type 0} (here : Setting) (v : View S) (s : Signed) where
  -- a new one
  pub new_comes : (found : Option Found) (new : List Record) (given : Option Parents) → (J : List Record) × (IsStateOf J v × IsNew here J s found) → ((J : List Record) → IsStateOf J v → IsNew here J s found → IsDecided here J (given_statement s) (Ok New) new)
      → ((u : Update) → s.statement ≡ statements.Update u → ComesWithRow v.accepted u given) → ComeWithRow v.accepted new given
  new_comes found new given (J, (state, is)) decides comes = decided_comes v.accepted here J s (Ok New) new given (decides J state is) comes

  -- by what the checks say: a voucher is no update
  pub voucher_comes : (J : List Record) × (IsStateOf J v × IsChecked here J s (Ok pass.Voucher)) → (u : Update) → s.statement ≡ statements.Update u → ComesWithRow v.accepted u None
  voucher_comes (J, (state, (voucher, (is, new)))) u also = let never : statements.Voucher voucher ≡ statements.Update u = sym is ∙ also in absurd cc

  -- an update comes with what was found of its parents
  pub update_comes : (found : Option Found) (given : Parents) → (J : List Record) × (IsStateOf J v × IsChecked here J s (Ok (pass.Update found given))) → (u : Update) → s.statement ≡ statements.Update u → ComesWithRow v.accepted u (Some given)
  update_comes found given (J, (state, (behind, new))) u also =
      let both : statements.Update behind.update ≡ statements.Update u = sym behind.is ∙ also in
      let one : behind.update ≡ u = cc in
      record {
        behind = given;
        is = refl;
        items = subst (λ (us : List Update). AreItemsOf us (parents u) given.items.items) state.accepted (subst (λ (w : Update). AreItemsOf (accepted J) (parents w) given.items.items) one behind.behind);
        row = subst (λ (us : List Update). IsJoinedRow us given.items.items given.row.items) state.accepted behind.joined;
      }
