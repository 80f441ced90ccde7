-- What is appended for a statement, and the convictions that are due.
use Rattle.std.proofs.Common.{◌≡◌, ℕ, zero, suc, ◌<◌, Bool, true, false, List, [], ◌∷◌, ◌++◌, length, Some, None, refl, sym, ap, subst, ◌∙◌, arith}
use Rattle.std.specs.Prelude.{Option, Err}
use Rattle.std.specs.List.{slice_get}
use Rattle.depot_base.specs.Statement.{writer_of}
use Rattle.depot_base.specs.declared.check.Check.{Check}
use Rattle.depot_base.specs.declared.check.Check.TheVariants as check
use Rattle.depot_base.specs.declared.proof.Kind.{Kind}
use Rattle.depot_base.specs.declared.record.Record.{Record}
use Rattle.depot_base.specs.declared.record.Record.TheVariants.{Foreign, Conviction}
use Rattle.depot_base.specs.declared.statement.Signed.{Signed}
use Rattle.depot_base.specs.declared.statement.Statement.{Statement}
use Rattle.depot_base.specs.declared.statement.Statement.TheVariants as statements
use Rattle.depot_base.specs.declared.update.Update.{Update}
use Rattle.depot_base.specs.declared.voucher.Voucher.{Voucher}
use Rattle.depot_model.specs.lists.Items.{AreItemsOf}
use Rattle.depot_model.specs.lists.Lists.{first, is_among, is_one_of}
use Rattle.depot_model.specs.updates.Order.{parents}
use Rattle.depot_model.specs.texts.Texts.{id_of_statement, id_of_update}
use Rattle.depot_model.specs.journals.Journal.{foreign, vouched, is_convicted, is_vouched}
use Rattle.depot_model.specs.updates.Conviction.{proof_of}
use Rattle.depot_model.specs.checks.Checks.{given_statement, sight, content_checks, content_of, opponent, named_opponent, due, added, exposed}
use Rattle.depot_kept.specs.declared.seen_statements.Found.{Found}
use Rattle.depot_kept.specs.Opponents.{IsContradiction}
use Rattle.std.proofs.Math.Bool.{or-false}
use Rattle.depot_model.proofs.of_updates.DueLaws.{none_due, no_fork_vouched, no_fork_alone}
use Rattle.depot_model.proofs.of_texts.BodyLaws.{update_id}
use Rattle.depot_accept.specs.StateView.{View, IsStateOf}
use Rattle.depot_accept.specs.CheckResults.{AreDue, IsUpdateBehind}
use Rattle.depot_accept.specs.AfterSignature.{IsOpponent, failed_after_signature, Passes, IsCheckedAfterSignature}
use Rattle.depot_accept.specs.declared.answer.CheckError.{CheckError}
use Rattle.depot_accept.specs.declared.answer.Parents.{Parents}
use Rattle.depot_graph.specs.UpdateRows.{IsJoinedRow}
use Rattle.depot_accept.specs.declared.answer.CheckError.TheVariants as failed
use Rattle.depot_accept.proofs.LaterChecks.{no_fork_convicted, fork_is_told, not_refused, not_refused_vouched, refused_update, refused_voucher, fails_as_fork, fails_as_convicted, fails_nowhere}

-- ---- what the state says of the journal

-- whether the writer is convicted
pub writer_convicted : {S : Type 0} (J : List Record) (v w : View S) (s : Statement) (n : ℕ) (b : Bool) → v ≡ w → IsStateOf J w → writer_of s ≡ n → b ≡ is_one_of n v.convicted → is_convicted J (writer_of s) ≡ b
writer_convicted {S = S} J v w s n b seen st is e =
    st.convicted (writer_of s)
    ∙ ap (λ (m : ℕ). is_one_of m w.convicted) is
    ∙ ap (λ (x : View S). is_one_of n x.convicted) (sym seen)
    ∙ sym e

-- where the parents of an update are
pub behind_parents : {S : Type 0} (J : List Record) (w : View S) (s : Signed) (u : Update) (found : Parents) → s.statement ≡ statements.Update u → IsStateOf J w → AreItemsOf w.accepted (parents u) found.items.items → IsJoinedRow w.accepted found.items.items found.row.items → IsUpdateBehind J s found
behind_parents J w s u found is st are joined = record {
  update = u;
  is = is;
  behind = subst (λ (us : List Update). AreItemsOf us (parents u) found.items.items) (sym st.accepted) are;
  joined = subst (λ (us : List Update). IsJoinedRow us found.items.items found.row.items) (sym st.accepted) joined;
}

-- whether someone vouched for an update
pub update_vouched : {S : Type 0} (J : List Record) (v w : View S) (s : Statement) (u : Update) (id : List ℕ) (b : Bool) → v ≡ w → IsStateOf J w → s ≡ statements.Update u → id ≡ id_of_statement s → b ≡ is_among id v.vouched → is_vouched J s ≡ b
unfolding is_vouched
update_vouched {S = S} J v w (statements.Voucher x) u id b seen st is name e = absurd cc
update_vouched {S = S} J v w (statements.Update t) u id b seen st is name e =
    or-false (is_among (id_of_update t) (vouched J))
    ∙ ap (λ (h : List ℕ). is_among h (vouched J)) (sym (name ∙ update_id t))
    ∙ st.vouched id
    ∙ ap (λ (x : View S). is_among id x.vouched) (sym seen)
    ∙ sym e

-- nobody vouches for a voucher
pub voucher_alone : (J : List Record) (s : Statement) (v : Voucher) → s ≡ statements.Voucher v → is_vouched J s ≡ false
unfolding is_vouched
voucher_alone J (statements.Update u) v is = absurd cc
voucher_alone J (statements.Voucher w) v is = refl

-- the kept statements are those of the journal
pub same_foreign : {S : Type 0} (v w : View S) → v ≡ w → v.foreign ≡ w.foreign
same_foreign {S = S} v w seen = ap (λ (x : View S). x.foreign) seen

-- the first check of an update's content that fails
pub content_seen : {S : Type 0} (J : List Record) (v w : View S) (s : Statement) (u : Update) (o : Option Check) → v ≡ w → IsStateOf J w → s ≡ statements.Update u → o ≡ first (content_checks u (sight v.accepted u)) → first (content_of J s) ≡ o
content_seen {S = S} J v w s u o seen st is e =
    ap (λ (x : Statement). first (content_of J x)) is
    ∙ ap (λ (us : List Update). first (content_checks u (sight us u))) (st.accepted ∙ ap (λ (x : View S). x.accepted) (sym seen))
    ∙ sym e

-- ---- the convictions

is_due : (J : List Record) (s : Signed) (o : Signed × Kind) → is_convicted J (writer_of s.statement) ≡ false → due J s (Some o) ≡ Conviction (proof_of o.1 o.0 s) ∷ []
unfolding due
is_due J s o e = rw e refl

-- that by the opponent that was found
pub due_by : (J : List Record) (s : Signed) (o : Option (Signed × Kind)) (found : Option Found) → IsOpponent (foreign J) o found → is_convicted J (writer_of s.statement) ≡ false → AreDue J s found (due J s o)
unfolding due
due_by J s o None is free = ap (due J s) is
due_by J s o (Some found) is free = (is.0, (is.1.0, ap (due J s) is.1.1 ∙ is_due J s (is.0, found.kind) free))

-- what a look-up of contradictions finds is the opponent
as_opponent : (kept : List Signed) (s : Statement) (found : Option Found) → IsContradiction kept s found → IsOpponent kept (opponent kept s) found
as_opponent kept s None is = is
as_opponent kept s (Some found) is = (is.signed, (is.at, is.opponent))

pub opponent_found : {S : Type 0} (J : List Record) (v w : View S) (s : Statement) (found : Option Found) → v ≡ w → IsStateOf J w → IsContradiction v.foreign s found → IsOpponent (foreign J) (opponent (foreign J) s) found
opponent_found {S = S} J v w s found seen st is =
    subst (λ (fs : List Signed). IsOpponent fs (opponent fs s) found) (same_foreign v w seen ∙ sym st.foreign) (as_opponent v.foreign s found is)

-- and it is at a place
pub found_within : (fs gs : List Signed) (s : Statement) (found : Found) → fs ≡ gs → IsContradiction fs s (Some found) → found.index < length gs
found_within fs gs s found seen is = subst (λ (l : List Signed). found.index < length l) seen (read_within fs found.index is.signed is.at) where
  read_within : (xs : List Signed) (n : ℕ) (x : Signed) → slice_get xs n ≡ Some x → n < length xs
  read_within [] n x e = absurd cc
  read_within (y ∷ ys) zero x e = omega arith
  read_within (y ∷ ys) (suc n) x e = let r = read_within ys n x e in omega arith

-- the one that a step back names
pub named_found : {S : Type 0} (J : List Record) (w : View S) (s : Statement) (h : List ℕ) (found : Option Found) → IsStateOf J w → IsOpponent w.foreign (named_opponent w.foreign h s) found → IsOpponent (foreign J) (named_opponent (foreign J) h s) found
named_found J w s h found st is = subst (λ (fs : List Signed). IsOpponent fs (named_opponent fs h s) found) (sym st.foreign) is

-- ---- what is appended

added_vouched : (J : List Record) (s : Signed) → is_vouched J s.statement ≡ true → added J (given_statement s) ≡ due J s (opponent (foreign J) s.statement) ++ Foreign s ∷ []
unfolding added
added_vouched J s e = rw e refl

added_alone : (J : List Record) (s : Signed) → is_vouched J s.statement ≡ false → added J (given_statement s) ≡ [] ++ Foreign s ∷ []
unfolding added
added_alone J s e = rw e refl

-- a vouched update of a convicted writer
pub passes_convicted : (J : List Record) (s : Signed) (u : Update) → first (content_of J s.statement) ≡ None → s.statement ≡ statements.Update u → is_convicted J (writer_of s.statement) ≡ true → is_vouched J s.statement ≡ true → Passes J s None
passes_convicted J s u content is convicted vouched = record {
  none = fails_nowhere J s.statement content (no_fork_convicted J s.statement convicted) (not_refused_vouched J s.statement u is vouched);
  due = [];
  grows = added_vouched J s vouched ∙ ap (λ (ds : List Record). ds ++ Foreign s ∷ []) (none_due J s (opponent (foreign J) s.statement) convicted);
  by = refl;
}

-- one of a writer that isn't convicted
pub passes_vouched : (J : List Record) (s : Signed) (found : Option Found) → first (content_of J s.statement) ≡ None → is_convicted J (writer_of s.statement) ≡ false → is_vouched J s.statement ≡ true → IsOpponent (foreign J) (opponent (foreign J) s.statement) found → Passes J s found
passes_vouched J s found content free vouched is = record {
  none = fails_nowhere J s.statement content (no_fork_vouched J s.statement vouched) (not_refused J s.statement free);
  due = due J s (opponent (foreign J) s.statement);
  grows = added_vouched J s vouched;
  by = due_by J s (opponent (foreign J) s.statement) found is free;
}

-- a statement that contradicts nothing, for which nobody vouched
pub passes_alone : (J : List Record) (s : Signed) → first (content_of J s.statement) ≡ None → is_convicted J (writer_of s.statement) ≡ false → is_vouched J s.statement ≡ false → opponent (foreign J) s.statement ≡ None → Passes J s None
passes_alone J s content free alone none = record {
  none = fails_nowhere J s.statement content (no_fork_alone J s.statement none) (not_refused J s.statement free);
  due = [];
  grows = added_alone J s alone;
  by = refl;
}

-- ---- what is refused

-- by this refusal no conviction is due
pub refused_plainly : (J : List Record) (s : Signed) (c : Check) (e : CheckError) → failed_after_signature J s.statement ≡ Some c → exposed J (given_statement s) c ≡ [] → e ≡ failed.Refused c None → IsCheckedAfterSignature J s (Err e)
refused_plainly J s c e fails none is = subst (λ (x : CheckError). IsCheckedAfterSignature J s (Err x)) (sym is) (fails, none)

-- an update of a convicted writer, for which nobody vouched
pub update_refused : (J : List Record) (s : Signed) (u : Update) (e : CheckError) → first (content_of J s.statement) ≡ None → s.statement ≡ statements.Update u → is_convicted J (writer_of s.statement) ≡ true → is_vouched J s.statement ≡ false → e ≡ failed.Refused (check.Convicted u.writer) None → IsCheckedAfterSignature J s (Err e)
update_refused J s u e content is convicted alone =
    refused_plainly J s (check.Convicted u.writer) e (fails_as_convicted J s.statement (check.Convicted u.writer) content (no_fork_convicted J s.statement convicted) (refused_update J s.statement u is convicted alone)) refl

-- a voucher has no content to check
pub no_content : (J : List Record) (s : Statement) (v : Voucher) → s ≡ statements.Voucher v → first (content_of J s) ≡ None
no_content J (statements.Update u) v is = absurd cc
no_content J (statements.Voucher w) v is = refl

-- a voucher of a convicted node
pub voucher_refused : (J : List Record) (s : Signed) (v : Voucher) (e : CheckError) → s.statement ≡ statements.Voucher v → is_convicted J (writer_of s.statement) ≡ true → e ≡ failed.Refused (check.VoucherConvicted v.node) None → IsCheckedAfterSignature J s (Err e)
voucher_refused J s v e is convicted =
    refused_plainly J s (check.VoucherConvicted v.node) e (fails_as_convicted J s.statement (check.VoucherConvicted v.node) (no_content J s.statement v is) (no_fork_convicted J s.statement convicted) (refused_voucher J s.statement v is convicted)) refl

-- a fork
pub fork_refused : {S : Type 0} (J : List Record) (w : View S) (s : Signed) (id : List ℕ) (found : Found) (e : CheckError) → IsStateOf J w → first (content_of J s.statement) ≡ None → is_convicted J (writer_of s.statement) ≡ false → is_vouched J s.statement ≡ false → id ≡ id_of_statement s.statement
    → IsOpponent (foreign J) (opponent (foreign J) s.statement) (Some found) → ((kept : Signed) → slice_get w.foreign found.index ≡ Some kept → e ≡ failed.Refused (check.Forked (id_of_statement kept.statement) id found.kind) (Some found))
    → IsCheckedAfterSignature J s (Err e)
fork_refused J w s id found e st content free alone name is told =
    let c : Check = check.Forked (id_of_statement is.0.statement) (id_of_statement s.statement) found.kind in
    let told_so : e ≡ failed.Refused c (Some found) = told is.0 (ap (λ (l : List Signed). slice_get l found.index) (sym st.foreign) ∙ is.1.0) ∙ ap (λ (h : List ℕ). failed.Refused (check.Forked (id_of_statement is.0.statement) h found.kind) (Some found)) name in
    subst (λ (x : CheckError). IsCheckedAfterSignature J s (Err x)) (sym told_so)
    (fails_as_fork J s.statement c content (fork_is_told J s.statement (is.0, found.kind) free alone is.1.1), due_by J s (opponent (foreign J) s.statement) (Some found) is free)

-- ---- what a refusal by the content leaves behind

-- a step back of a convicted writer
pub none_exposed : (J : List Record) (s : Signed) (c : Check) (h : List ℕ) → c ≡ check.Backward h → is_convicted J (writer_of s.statement) ≡ true → exposed J (given_statement s) c ≡ []
none_exposed J s c h is convicted = ap (exposed J (given_statement s)) is ∙ none_due J s (named_opponent (foreign J) h s.statement) convicted

-- and of another
pub step_back_exposed : (J : List Record) (s : Signed) (c : Check) (h : List ℕ) (found : Option Found) → c ≡ check.Backward h → is_convicted J (writer_of s.statement) ≡ false → IsOpponent (foreign J) (named_opponent (foreign J) h s.statement) found → AreDue J s found (exposed J (given_statement s) c)
step_back_exposed J s c h found is free opposed =
    subst (λ (ds : List Record). AreDue J s found ds) (ap (exposed J (given_statement s)) (sym is)) (due_by J s (named_opponent (foreign J) h s.statement) found opposed free)
