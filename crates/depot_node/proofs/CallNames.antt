-- A call on the store, under the names of the answers of those who make it.
use Rattle.std.proofs.Common.{◌≡◌, ◌≢◌, ℕ, List, [], ◌++◌, true, false, Option, Some, None, Result, Ok, Err, refl, sym, ap, subst, ◌∙◌, inr}
use Rattle.std.specs.Prelude.{IsErrAnd, IsErrOf}
use Rattle.std.proofs.lemmas.List.{append_cancel_left}
use Rattle.depot_base.specs.declared.check.Check.{Check}
use Rattle.depot_base.specs.declared.check.Full.{Full}
use Rattle.depot_base.specs.declared.record.Record.{Record}
use Rattle.depot_model.specs.declared.bundle.VoucherError.{VoucherError}
use Rattle.depot_model.specs.declared.bundle.VoucherError.TheVariants as unvouched
use Rattle.depot_model.specs.declared.put_answers.PutDone.{PutDone}
use Rattle.depot_model.specs.declared.put_answers.PutError.{PutError}
use Rattle.depot_model.specs.declared.put_answers.PutError.TheVariants as unput
use Rattle.depot_model.specs.declared.taken.TakeError.{TakeError}
use Rattle.depot_model.specs.declared.taken.TakeError.TheVariants as untaken
use Rattle.depot_model.specs.declared.taken.Taken.{Taken}
use Rattle.depot_model.specs.checks.Checks.{Setting}
use Rattle.depot_model.specs.journals.JournalCalls.{IsStable, IsJournalCall}
use Rattle.depot_model.specs.checks.Room.{full_by}
use Rattle.depot_model.specs.checks.Taking.{Form, TakesAs, growth_of_text}
use Rattle.depot_model.proofs.of_journals.JournalCallLaws.{idle_call, renamed_call}
use Rattle.depot_model.proofs.of_journals.TakeLaws.{one_answer}
use Rattle.depot_outside.specs.declared.disk.Disk.{Ghosts}
use Rattle.depot_decide.specs.Deciding.{AnswersAs, IsCarriedOut}
use Rattle.depot_node.specs.Holdings.{Holding, journal_on}
use Rattle.depot_node.specs.StoreCalls.{IsCarryCall, IsCommitCall, IsWriteCall}
use Rattle.depot_node.specs.declared.commit.CommitError.{CommitError}
use Rattle.depot_node.specs.declared.commit.CommitError.TheVariants as refused
use Rattle.depot_node.specs.declared.commit.WriteError.{WriteError}
use Rattle.depot_node.specs.declared.commit.WriteError.TheVariants as unwritten

-- ---- a write that a commit makes

abbrev pub commit_answer : Result (Unit {0}) WriteError → Result (Unit {0}) CommitError
commit_answer (Ok done) = Ok done
commit_answer (Err unwritten.Memory) = Err refused.Memory
commit_answer (Err unwritten.Disk) = Err refused.Disk

pub commit_call : {D : Type 0} (g : Ghosts D) (old new : Holding D) (appends : List Record) (result : Result (Unit {0}) WriteError) → IsWriteCall g old new appends result → IsCommitCall g old new appends (commit_answer result)
commit_call g old new appends (Ok done) call = renamed_call (λ s. s, λ s. s) (λ e. cc, λ e. cc) (λ e. absurd e) call
commit_call g old new appends (Err unwritten.Memory) call = renamed_call (λ s. s, λ s. s) (λ e. cc, λ e. cc) (λ e. refl) call
commit_call g old new appends (Err unwritten.Disk) call = renamed_call (λ s. s, λ s. s) (λ e. refl, λ e. refl) (λ e. absurd (e refl)) call

-- ---- a commit that a put makes

abbrev pub put_answer : PutDone → Result (Unit {0}) CommitError → Result PutDone PutError
put_answer done (Ok u) = Ok done
put_answer done (Err refused.Memory) = Err unput.Memory
put_answer done (Err refused.Disk) = Err unput.Disk
put_answer done (Err (refused.Full what)) = Err (unput.Full what)

pub put_call : {D : Type 0} (g : Ghosts D) (old new : Holding D) (appends given : List Record) (done : PutDone) (result : Result (Unit {0}) CommitError) → appends ≡ given → IsCommitCall g old new appends result
    → IsJournalCall (journal_on g) old new given (IsErrOf (put_answer done result) unput.Stopped) (IsErrOf (put_answer done result) unput.Disk) (IsErrAnd (put_answer done result) (λ e. e ≢ unput.Disk))
put_call g old new appends given done result same call = subst (λ (rs : List Record). IsJournalCall (journal_on g) old new rs (IsErrOf (put_answer done result) unput.Stopped) (IsErrOf (put_answer done result) unput.Disk) (IsErrAnd (put_answer done result) (λ e. e ≢ unput.Disk))) same (by_answer result call) where
  by_answer : (r : Result (Unit {0}) CommitError) → IsCommitCall g old new appends r → IsJournalCall (journal_on g) old new appends (IsErrOf (put_answer done r) unput.Stopped) (IsErrOf (put_answer done r) unput.Disk) (IsErrAnd (put_answer done r) (λ e. e ≢ unput.Disk))
  by_answer (Ok u) c = renamed_call (λ s. absurd s, λ e. cc) (λ e. cc, λ e. cc) (λ e. absurd e) c
  by_answer (Err refused.Memory) c = renamed_call (λ s. absurd s, λ e. cc) (λ e. cc, λ e. cc) (λ e. (λ is. cc)) c
  by_answer (Err refused.Disk) c = renamed_call (λ s. absurd s, λ e. cc) (λ e. refl, λ e. refl) (λ e. absurd (e refl)) c
  by_answer (Err (refused.Full what)) c = renamed_call (λ s. absurd s, λ e. cc) (λ e. cc, λ e. cc) (λ e. (λ is. cc)) c

-- ---- and one for vouchers

abbrev pub voucher_answer : Result (Unit {0}) CommitError → Result (Unit {0}) VoucherError
voucher_answer (Ok u) = Ok u
voucher_answer (Err refused.Memory) = Err unvouched.Memory
voucher_answer (Err refused.Disk) = Err unvouched.Disk
voucher_answer (Err (refused.Full what)) = Err (unvouched.Full what)

pub voucher_call : {D : Type 0} (g : Ghosts D) (old new : Holding D) (appends given : List Record) (result : Result (Unit {0}) CommitError) → appends ≡ given → IsCommitCall g old new appends result
    → IsJournalCall (journal_on g) old new given (IsErrOf (voucher_answer result) unvouched.Stopped) (IsErrOf (voucher_answer result) unvouched.Disk) (IsErrAnd (voucher_answer result) (λ e. e ≢ unvouched.Disk))
voucher_call g old new appends given result same call = subst (λ (rs : List Record). IsJournalCall (journal_on g) old new rs (IsErrOf (voucher_answer result) unvouched.Stopped) (IsErrOf (voucher_answer result) unvouched.Disk) (IsErrAnd (voucher_answer result) (λ e. e ≢ unvouched.Disk))) same (by_answer result call) where
  by_answer : (r : Result (Unit {0}) CommitError) → IsCommitCall g old new appends r → IsJournalCall (journal_on g) old new appends (IsErrOf (voucher_answer r) unvouched.Stopped) (IsErrOf (voucher_answer r) unvouched.Disk) (IsErrAnd (voucher_answer r) (λ e. e ≢ unvouched.Disk))
  by_answer (Ok u) c = renamed_call (λ s. absurd s, λ e. cc) (λ e. cc, λ e. cc) (λ e. absurd e) c
  by_answer (Err refused.Memory) c = renamed_call (λ s. absurd s, λ e. cc) (λ e. cc, λ e. cc) (λ e. (λ is. cc)) c
  by_answer (Err refused.Disk) c = renamed_call (λ s. absurd s, λ e. cc) (λ e. refl, λ e. refl) (λ e. absurd (e refl)) c
  by_answer (Err (refused.Full what)) c = renamed_call (λ s. absurd s, λ e. cc) (λ e. cc, λ e. cc) (λ e. (λ is. cc)) c

-- ---- and one that carries a decision out

pub answered_call : {D : Type 0} (g : Ghosts D) (old new : Holding D) (appends : List Record) (answer : Result Taken Check) (result : Result Taken TakeError) → AnswersAs answer result → IsCommitCall g old new appends (Ok tt) → IsCarryCall g old new appends result
answered_call g old new appends (Ok taken) result is call = subst (λ (r : Result Taken TakeError). IsCarryCall g old new appends r) (sym is) (renamed_call (λ s. s, λ s. s) (λ e. cc, λ e. cc) (λ e. absurd cc) call)
answered_call g old new appends (Err c) result is call = subst (λ (r : Result Taken TakeError). IsCarryCall g old new appends r) (sym is) (renamed_call (λ s. s, λ s. s) (λ e. cc, λ e. cc) (λ e. absurd cc) call)

abbrev pub carry_answer : CommitError → TakeError
carry_answer refused.Memory = untaken.Memory
carry_answer refused.Disk = untaken.Disk
carry_answer (refused.Full what) = untaken.Full what

pub refused_call : {D : Type 0} (g : Ghosts D) (old new : Holding D) (appends : List Record) (e : CommitError) → IsCommitCall g old new appends (Err e) → IsCarryCall g old new appends (Err (carry_answer e))
refused_call g old new appends refused.Memory call = renamed_call (λ s. s, λ s. s) (λ e. cc, λ e. cc) (λ e. (λ is. cc)) call
refused_call g old new appends refused.Disk call = renamed_call (λ s. s, λ s. s) (λ e. refl, λ e. refl) (λ e. absurd cc) call
refused_call g old new appends (refused.Full what) call = renamed_call (λ s. s, λ s. s) (λ e. cc, λ e. cc) (λ e. absurd cc) call

-- ---- of a text

-- Where this is decided of a text, whatever comes of it is what a node answers to the text.
abbrev pub IsOfText : Form → Setting → List Record → List ℕ → Result Taken Check → List Record → Type 0
IsOfText form here J text answer new = (result : Result Taken TakeError) (then : List Record) → IsCarriedOut here.me J answer new result then → TakesAs form here J text result then

-- where there is room, the growth of a text is the one that was decided
growth_is : (form : Form) (here : Setting) (J : List Record) (text : List ℕ) (answer : Result Taken Check) (new : List Record) → IsOfText form here J text answer new → full_by here.me J new ≡ None → growth_of_text here J form text ≡ new
growth_is form here J text (Ok taken) new takes room =
    append_cancel_left J (growth_of_text here J form text) new (sym (one_answer form here J text (Ok taken) (J ++ new) (takes (Ok taken) (J ++ new) (refl, (room, refl))) tt).1)
growth_is form here J text (Err c) new takes room =
    append_cancel_left J (growth_of_text here J form text) new (sym (one_answer form here J text (Err (untaken.Refused c)) (J ++ new) (takes (Err (untaken.Refused c)) (J ++ new) (refl, (room, refl))) tt).1)

-- what is carried out ran
pub never_stopped : (me : ℕ) (J : List Record) (answer : Result Taken Check) (new : List Record) (result : Result Taken TakeError) (then : List Record) → IsCarriedOut me J answer new result then → IsErrOf result untaken.Stopped → ⊥
never_stopped me J answer new (Ok taken) then carried is = cc
never_stopped me J answer new (Err untaken.Stopped) then carried is = carried
never_stopped me J answer new (Err untaken.Memory) then carried is = cc
never_stopped me J answer new (Err untaken.Disk) then carried is = cc
never_stopped me J answer new (Err (untaken.Full what)) then carried is = cc
never_stopped me J answer new (Err (untaken.Refused c)) then carried is = cc

-- A call that carries a decision out is said of the growth of the text: where there is no room, nothing was done.
pub taken_call : {D : Type 0} (g : Ghosts D) → ((v : Holding D) (file : List ℕ) → g.left_since v.disk (g.moment v.disk) file → g.may_leave v.disk file) → ((v : Holding D) → g.after v.disk [] v.disk)
    → (form : Form) (here : Setting) (text : List ℕ) (answer : Result Taken Check) (new : List Record) (old then : Holding D) (result : Result Taken TakeError) → IsStable (journal_on g) old → old.stopped ≡ false → here.me ≡ old.me → IsOfText form here old.records text answer new
    → IsCarriedOut old.me old.records answer new result then.records → ((what : Full) → full_by old.me old.records new ≡ Some what → then ≡ old) → IsCarryCall g old then new result
    → IsJournalCall (journal_on g) old then (growth_of_text here old.records form text) (IsErrOf result untaken.Stopped) (IsErrOf result untaken.Disk) (IsErrOf result untaken.Memory)
taken_call {D} g only_now none form here text answer new old then result stable ran mine takes carried full call = by_room (full_by old.me old.records new) refl where
  grown : List Record
  grown = growth_of_text here old.records form text

  Said : Holding D → List Record → Type 0
  Said v rs = IsJournalCall (journal_on g) old v rs (IsErrOf result untaken.Stopped) (IsErrOf result untaken.Disk) (IsErrOf result untaken.Memory)

  untrue : true ≡ false → ⊥
  untrue e = cc

  by_room : (o : Option Full) → full_by old.me old.records new ≡ o → Said then grown
  by_room None room =
      let is = growth_is form here old.records text answer new takes (ap (λ (n : ℕ). full_by n old.records new) mine ∙ room) in
      subst (λ (rs : List Record). Said then rs) (sym is) (renamed_call (λ s. absurd s, λ s. never_stopped old.me old.records answer new result then.records carried s) (λ f. f, λ f. f) (λ i. i) call)
  by_room (Some what) is =
      let same : then ≡ old = full what is in
      let well : IsErrOf result untaken.Disk → ⊥ = λ f. untrue (sym (call.stops.left.1 (inr f)) ∙ ap (λ (v : Holding D). v.stopped) same ∙ ran) in
      subst (λ (v : Holding D). Said v grown) (sym same)
      (idle_call (journal_on g) only_now none old grown stable (λ s. absurd (never_stopped old.me old.records answer new result then.records carried s), λ was. absurd (untrue (sym was ∙ ran))) well)
