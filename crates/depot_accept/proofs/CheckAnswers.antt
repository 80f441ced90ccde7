-- The answer to a statement, and what the journal grows by.
use Rattle.std.proofs.Common.{◌≡◌, ℕ, Bool, Some, true, false, eqb, List, [], None, refl, sym, ap, subst, ◌∙◌}
use Rattle.std.specs.Prelude.{Option, Result, Ok, Err}
use Rattle.std.specs.Option.{option_map_or}
use Rattle.depot_base.specs.Statement.{writer_of, seq_of}
use Rattle.depot_base.specs.declared.key.PublicKey.{PublicKey}
use Rattle.depot_base.specs.declared.key.RosterEntry.{RosterEntry}
use Rattle.depot_base.specs.declared.check.Check.{Check}
use Rattle.depot_base.specs.declared.check.Check.TheVariants as check
use Rattle.depot_base.specs.declared.record.Record.{Record}
use Rattle.depot_base.specs.declared.statement.Signed.{Signed}
use Rattle.depot_model.specs.declared.taken.Taken.TheVariants.{Known}
use Rattle.depot_model.specs.lists.Lists.{first}
use Rattle.depot_model.specs.readers.Pruning.{checks_to_signature}
use Rattle.depot_model.specs.texts.Texts.{id_of_statement}
use Rattle.depot_model.specs.texts.Roster.{Verifies, key_of, has_node, is_signed}
use Rattle.depot_model.specs.checks.Checks.{Setting, given_statement, is_kept, statement_checks, first_failed_check, is_known, answer_by, answer_to, exposed, growth_by, growth}
use Rattle.depot_kept.specs.declared.seen_statements.Found.{Found}
use Rattle.depot_accept.specs.StateView.{View, setting}
use Rattle.depot_accept.specs.CheckResults.{AreDue, IsNew, IsChecked}
use Rattle.depot_accept.specs.AfterSignature.{failed_after_signature, Passes, IsCheckedAfterSignature}
use Rattle.depot_accept.specs.ToSignature.{IsHere, FailsEarly, PassesEarly}
use Rattle.depot_accept.specs.declared.answer.Pass.{Pass}
use Rattle.depot_accept.specs.declared.answer.Pass.TheVariants as pass
use Rattle.depot_accept.specs.declared.answer.CheckError.{CheckError}
use Rattle.depot_accept.specs.declared.answer.CheckError.TheVariants as failed

-- ---- the answer

-- the roster doesn't have the writer
unknown_writer : (here : Setting) (J : List Record) (s : Signed) → has_node here.listed (writer_of s.statement) ≡ false → answer_to here J (given_statement s) ≡ Err (check.UnknownWriter (writer_of s.statement))
unfolding answer_to is_known first_failed_check statement_checks
unknown_writer here J s e = rw e refl

-- the statement is kept
pub answers_known : (here : Setting) (J : List Record) (s : Signed) → has_node here.listed (writer_of s.statement) ≡ true → is_kept J s.statement ≡ true → answer_to here J (given_statement s) ≡ Ok Known
unfolding answer_to is_known
answers_known here J s e kept = rw (e, kept) refl

-- it isn't, and names this node
not_mine : (here : Setting) (J : List Record) (s : Signed) → has_node here.listed (writer_of s.statement) ≡ true → is_kept J s.statement ≡ false → eqb (writer_of s.statement) here.me ≡ true → answer_to here J (given_statement s) ≡ Err (check.NotMine (id_of_statement s.statement))
unfolding answer_to is_known first_failed_check statement_checks
not_mine here J s e kept mine = rw (e, kept, mine) refl

-- it names another, and the signature doesn't verify
bad_signature : (here : Setting) (J : List Record) (s : Signed) → has_node here.listed (writer_of s.statement) ≡ true → is_kept J s.statement ≡ false → eqb (writer_of s.statement) here.me ≡ false → is_signed here.verifies here.listed s ≡ false
    → answer_to here J (given_statement s) ≡ Err (check.BadSignature (writer_of s.statement))
unfolding answer_to is_known first_failed_check statement_checks
bad_signature here J s e kept other unsigned = rw (e, kept, other, unsigned) refl

-- it does, and the checks after it are left
answers_after_signature : (here : Setting) (J : List Record) (s : Signed) → has_node here.listed (writer_of s.statement) ≡ true → is_kept J s.statement ≡ false → eqb (writer_of s.statement) here.me ≡ false → is_signed here.verifies here.listed s ≡ true
    → answer_to here J (given_statement s) ≡ answer_by false (failed_after_signature J s.statement)
unfolding answer_to is_known first_failed_check statement_checks
answers_after_signature here J s e kept other verified = rw (e, kept, other, verified) refl

-- ---- the answer with the conviction that is due

-- a statement that passes them is new
new_by_passing : (here : Setting) (J : List Record) (s : Signed) (found : Option Found) → answer_to here J (given_statement s) ≡ answer_by false (failed_after_signature J s.statement) → Passes J s found → IsNew here J s found
unfolding growth
new_by_passing here J s found answer is =
    let new = answer ∙ ap (answer_by false) is.none in
    record { answer = new; due = is.due; grows = ap (growth_by J (given_statement s)) new ∙ is.grows; by = is.by }

-- what the checks after that of the signature make of a statement that comes to them
pub by_later_checks : (here : Setting) (J : List Record) (s : Signed) (r : Result Pass CheckError) → answer_to here J (given_statement s) ≡ answer_by false (failed_after_signature J s.statement) → IsCheckedAfterSignature J s r → IsChecked here J s r
unfolding growth
by_later_checks here J s (Ok pass.Known) answer is = absurd is
by_later_checks here J s (Ok (pass.Update found behind)) answer is = (is.0, new_by_passing here J s found answer is.1)
by_later_checks here J s (Ok pass.Voucher) answer is = (is.0, (is.1.0, new_by_passing here J s None answer is.1.1))
by_later_checks here J s (Err failed.Memory) answer is = is
by_later_checks here J s (Err (failed.Refused c found)) answer is =
    let told = answer ∙ ap (answer_by false) is.0 in
    (told, subst (λ (ds : List Record). AreDue J s found ds) (sym (ap (growth_by J (given_statement s)) told)) is.1)

-- the given key is the one that the roster has for the writer
pub signed_by : (verifies : Verifies) (w : List RosterEntry) (s : Signed) (key : PublicKey) (seq : ℕ) (body signature : List ℕ) (b : Bool) → key_of w (writer_of s.statement) ≡ Some key → seq ≡ seq_of s.statement → body ≡ s.body → signature ≡ s.signature → b ≡ verifies key seq body signature → b ≡ is_signed verifies w s
unfolding is_signed
signed_by verifies w s key seq body signature b known number text by e =
    e ∙ ap (λ (n : ℕ). verifies key n body signature) number ∙ ap (λ (t : List ℕ). verifies key (seq_of s.statement) t signature) text ∙ ap (λ (t : List ℕ). verifies key (seq_of s.statement) s.body t) by
    ∙ ap (λ (o : Option PublicKey). option_map_or (λ k. verifies k (seq_of s.statement) s.body s.signature) o false) (sym known)

-- ---- up to the signature

fails_early : (here : Setting) (J : List Record) (s : Signed) (c : Check) → is_known here J (given_statement s) ≡ false → first (checks_to_signature here s) ≡ Some c → answer_to here J (given_statement s) ≡ Err c → exposed J (given_statement s) c ≡ [] → FailsEarly here J s c
unfolding growth
fails_early here J s c new failed answer none = record { new = new; failed = failed; answer = answer; grows = ap (growth_by J (given_statement s)) answer ∙ none }

-- it isn't known where its writer is unknown, or it isn't kept
new_by_writer : (here : Setting) (J : List Record) (s : Signed) → has_node here.listed (writer_of s.statement) ≡ false → is_known here J (given_statement s) ≡ false
unfolding is_known
new_by_writer here J s e = rw e refl

new_by_kept : (here : Setting) (J : List Record) (s : Signed) → has_node here.listed (writer_of s.statement) ≡ true → is_kept J s.statement ≡ false → is_known here J (given_statement s) ≡ false
unfolding is_known
new_by_kept here J s e kept = rw (e, kept) refl

known_by_kept : (here : Setting) (J : List Record) (s : Signed) → has_node here.listed (writer_of s.statement) ≡ true → is_kept J s.statement ≡ true → is_known here J (given_statement s) ≡ true
unfolding is_known
known_by_kept here J s e kept = rw (e, kept) refl

-- ---- of the journal whose state is seen

pub early_known : {S : Type 0} (verifies : Verifies) (J : List Record) (v w : View S) (s : Signed) (n : ℕ) → v ≡ w → n ≡ writer_of s.statement → has_node v.listed n ≡ true → is_kept J s.statement ≡ true → IsHere (setting verifies w) J s
early_known {S = S} verifies J v w s n seen is known kept =
    let node = ap (has_node v.listed) (sym is) ∙ known in
    subst (λ (x : View S). IsHere (setting verifies x) J s) seen
    (record { known = known_by_kept (setting verifies v) J s node kept; answer = answers_known (setting verifies v) J s node kept })

pub early_unknown : {S : Type 0} (verifies : Verifies) (J : List Record) (v w : View S) (s : Signed) (n : ℕ) → v ≡ w → n ≡ writer_of s.statement → has_node v.listed n ≡ false → FailsEarly (setting verifies w) J s (check.UnknownWriter n)
early_unknown {S = S} verifies J v w s n seen is unknown =
    let node = ap (has_node v.listed) (sym is) ∙ unknown in
    subst (λ (x : View S). FailsEarly (setting verifies x) J s (check.UnknownWriter n)) seen
    (fails_early (setting verifies v) J s (check.UnknownWriter n) (new_by_writer (setting verifies v) J s node) (rw (node, is) refl)
    (unknown_writer (setting verifies v) J s node ∙ ap (λ (m : ℕ). Err (check.UnknownWriter m)) (sym is)) refl)

pub early_mine : {S : Type 0} (verifies : Verifies) (J : List Record) (v w : View S) (s : Signed) (n : ℕ) (id : List ℕ) → v ≡ w → n ≡ writer_of s.statement → has_node v.listed n ≡ true → is_kept J s.statement ≡ false → eqb n v.me ≡ true → id ≡ id_of_statement s.statement → FailsEarly (setting verifies w) J s (check.NotMine id)
early_mine {S = S} verifies J v w s n id seen is known new mine name =
    let node = ap (has_node v.listed) (sym is) ∙ known in
    let same = ap (λ (m : ℕ). eqb m v.me) (sym is) ∙ mine in
    subst (λ (x : View S). FailsEarly (setting verifies x) J s (check.NotMine id)) seen
    (fails_early (setting verifies v) J s (check.NotMine id) (new_by_kept (setting verifies v) J s node new) (rw (node, same, name) refl)
    (not_mine (setting verifies v) J s node new same ∙ ap (λ (h : List ℕ). Err (check.NotMine h)) (sym name)) refl)

pub early_unsigned : {S : Type 0} (verifies : Verifies) (J : List Record) (v w : View S) (s : Signed) (n : ℕ) → v ≡ w → n ≡ writer_of s.statement → has_node v.listed n ≡ true → is_kept J s.statement ≡ false → eqb n v.me ≡ false → is_signed verifies v.listed s ≡ false → FailsEarly (setting verifies w) J s (check.BadSignature n)
early_unsigned {S = S} verifies J v w s n seen is known new other unsigned =
    let node = ap (has_node v.listed) (sym is) ∙ known in
    let apart = ap (λ (m : ℕ). eqb m v.me) (sym is) ∙ other in
    subst (λ (x : View S). FailsEarly (setting verifies x) J s (check.BadSignature n)) seen
    (fails_early (setting verifies v) J s (check.BadSignature n) (new_by_kept (setting verifies v) J s node new) (rw (node, apart, unsigned, is) refl)
    (bad_signature (setting verifies v) J s node new apart unsigned ∙ ap (λ (m : ℕ). Err (check.BadSignature m)) (sym is)) refl)

pub early_passed : {S : Type 0} (verifies : Verifies) (J : List Record) (v w : View S) (s : Signed) (n : ℕ) → v ≡ w → n ≡ writer_of s.statement → has_node v.listed n ≡ true → is_kept J s.statement ≡ false → eqb n v.me ≡ false → is_signed verifies v.listed s ≡ true → PassesEarly (setting verifies w) J s
early_passed {S = S} verifies J v w s n seen is known new other verified =
    let node = ap (has_node v.listed) (sym is) ∙ known in
    let apart = ap (λ (m : ℕ). eqb m v.me) (sym is) ∙ other in
    subst (λ (x : View S). PassesEarly (setting verifies x) J s) seen
    (record { new = new_by_kept (setting verifies v) J s node new; passed = rw (node, apart, verified) refl; left = answers_after_signature (setting verifies v) J s node new apart verified })

-- ---- both halves

-- what is reported up to the signature is the answer, or the checks after it give it
pub checked_known : (here : Setting) (J : List Record) (s : Signed) → IsHere here J s → IsChecked here J s (Ok pass.Known)
checked_known here J s is = is.answer

pub checked_early : (here : Setting) (J : List Record) (s : Signed) (c : Check) (e : CheckError) → FailsEarly here J s c → e ≡ failed.Refused c None → IsChecked here J s (Err e)
checked_early here J s c e fails is = subst (λ (x : CheckError). IsChecked here J s (Err x)) (sym is) (fails.answer, fails.grows)

pub checked_later : (here : Setting) (J : List Record) (s : Signed) (r : Result Pass CheckError) → PassesEarly here J s → IsCheckedAfterSignature J s r → IsChecked here J s r
checked_later here J s r passes is = by_later_checks here J s r passes.left is
