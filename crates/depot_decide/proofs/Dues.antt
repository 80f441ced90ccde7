-- The convictions that are due for a statement, and what the journal grows by.
use Rattle.std.proofs.Common.{◌≡◌, ℕ, ◌<◌, length, inl, inr, Bool, true, false, cond, List, [], ◌∷◌, ◌++◌, Option, Some, None, Result, Ok, Err, refl, sym, ap, subst, ◌∙◌}
use Rattle.std.specs.List.{slice_get}
use Rattle.std.proofs.lemmas.Option.{slice_get_cases}
use Rattle.sha2.specs.Sha256.{sha256}
use Rattle.depot_base.specs.Parts.{is_below}
use Rattle.depot_base.specs.Statement.{writer_of}
use Rattle.depot_base.specs.declared.check.Check.{Check}
use Rattle.depot_base.specs.declared.check.Check.TheVariants as check
use Rattle.depot_base.specs.declared.proof.Kind.{Kind}
use Rattle.depot_base.specs.declared.proof.Proof.{Proof}
use Rattle.depot_base.specs.declared.proof.Proof.TheVariants.{Pair}
use Rattle.depot_base.specs.declared.record.Record.{Record}
use Rattle.depot_base.specs.declared.record.Record.TheVariants.{Foreign, Conviction}
use Rattle.depot_base.specs.declared.statement.Signed.{Signed}
use Rattle.depot_model.specs.declared.taken.Taken.{Taken}
use Rattle.depot_model.specs.declared.taken.Taken.TheVariants.{New, Known}
use Rattle.depot_model.specs.checks.Checks.{Setting, given_statement, answer_to, opponent, named_opponent, due, added, exposed, growth_by, growth}
use Rattle.depot_model.specs.updates.Contradictions.{contradicts}
use Rattle.depot_model.specs.updates.Conviction.{proof_of}
use Rattle.depot_model.specs.journals.Journal.{foreign, is_convicted, is_vouched}
use Rattle.depot_model.specs.texts.Texts.{IsSigned, id_of_statement}
use Rattle.depot_model.specs.updates.Judgement.{IsContrary}
use Rattle.depot_model.proofs.of_texts.BodyLaws.{body_is_text}
use Rattle.depot_model.proofs.of_updates.ContradictionLaws.{contradicts_comm}
use Rattle.depot_laws.proofs.convicting.Contrary.{IsOpponent, opponent_is, named_opponent_is, of_proof_of}
use Rattle.depot_kept.specs.declared.seen_statements.Found.{Found}
use Rattle.depot_accept.specs.CheckResults.{AreDue, IsNew, IsChecked}
use Rattle.depot_accept.specs.StateView.{View, IsStateOf}
use Rattle.depot_accept.specs.declared.answer.CheckError.{CheckError}
use Rattle.depot_accept.specs.declared.answer.Pass.{Pass}
use Rattle.depot_accept.specs.declared.answer.Pass.TheVariants as pass
use Rattle.depot_decide.specs.Deciding.{IsDecided, IsDueBy}
use Rattle.depot_decide.proofs.Decided.{decided_by}

-- ---- the halves of a proof

contrary_made : (k : Kind) (a b : Signed) → contradicts k a.statement b.statement ≡ true → IsContrary (proof_of k a b)
contrary_made k a b e = of_proof_of IsContrary k a b e (contradicts_comm k b.statement a.statement ∙ e)

contrary_halves : (k : Kind) (a b : Signed) → IsContrary (proof_of k a b) → contradicts k a.statement b.statement ≡ true
unfolding proof_of
contrary_halves k a b = choice (is_below a.body b.body) where
  choice : (t : Bool) → IsContrary (cond t (Pair k a b) (Pair k b a)) → contradicts k a.statement b.statement ≡ true
  choice true e = e
  choice false e = contradicts_comm k a.statement b.statement ∙ e

-- ---- what comes first

-- where these begin with a conviction, the halves of its proof are contrary
abbrev StartContrary : List Record → Type 0
StartContrary (Conviction p ∷ rs) = IsContrary p
StartContrary rs = Unit {0}

due_start : (J : List Record) (s : Signed) (o : Option (Signed × Kind)) → ((by : Signed × Kind) → o ≡ Some by → IsOpponent (foreign J) s.statement by) → StartContrary (due J s o)
unfolding due
due_start J s None opposed = tt
due_start J s (Some by) opposed = choice (is_convicted J (writer_of s.statement)) where
  choice : (b : Bool) → StartContrary (cond b [] (Conviction (proof_of by.1 by.0 s) ∷ []))
  choice true = tt
  choice false = contrary_made by.1 by.0 s (opposed by refl).contradict

start_more : (rs : List Record) (s : Signed) → StartContrary rs → StartContrary (rs ++ Foreign s ∷ [])
start_more [] s start = tt
start_more (Conviction p ∷ rs) s start = start
start_more (r ∷ rs) s start = tt

opponent_due : (J : List Record) (s : Signed) → StartContrary (due J s (opponent (foreign J) s.statement))
opponent_due J s = due_start J s (opponent (foreign J) s.statement) (λ by is. opponent_is (foreign J) s.statement by is)

added_start : (J : List Record) (s : Signed) → StartContrary (added J (given_statement s))
unfolding added
added_start J s = choice (is_vouched J s.statement) where
  choice : (b : Bool) → StartContrary (cond b (due J s (opponent (foreign J) s.statement)) [] ++ Foreign s ∷ [])
  choice true = start_more (due J s (opponent (foreign J) s.statement)) s (opponent_due J s)
  choice false = tt

exposed_start : (J : List Record) (s : Signed) (c : Check) → StartContrary (exposed J (given_statement s) c)
exposed_start J s (check.Forked kept came kind) = opponent_due J s
exposed_start J s (check.Backward h) = due_start J s (named_opponent (foreign J) h s.statement) (λ by is. named_opponent_is (foreign J) h s.statement by is)
exposed_start J s c = tt

answer_start : (J : List Record) (s : Signed) (answer : Result Taken Check) → StartContrary (growth_by J (given_statement s) answer)
answer_start J s (Ok Known) = tt
answer_start J s (Ok New) = added_start J s
answer_start J s (Err c) = exposed_start J s c

growth_start : (here : Setting) (J : List Record) (s : Signed) → StartContrary (growth here J (given_statement s))
unfolding growth
growth_start here J s = answer_start J s (answer_to here J (given_statement s))

-- the kept statement of a conviction that is due contradicts the one that came
pub due_contradicts : (here : Setting) (J : List Record) (s : Signed) (found : Found) (kept : Signed) → IsDueBy here J s found → slice_get (foreign J) found.index ≡ Some kept → contradicts found.kind kept.statement s.statement ≡ true
due_contradicts here J s found kept by at =
    let both : Some by.kept ≡ Some kept = sym by.known ∙ at in
    let same : by.kept ≡ kept = cc in
    contrary_halves found.kind kept s (subst (λ (k : Signed). IsContrary (proof_of found.kind k s)) same (subst StartContrary by.first (growth_start here J s)))

-- ---- what is checked

-- the id is SHA-256 of the body as it was read
pub id_of_body : (s : Signed) (id : List ℕ) → IsSigned s → id ≡ sha256 s.body → id ≡ id_of_statement s.statement
unfolding id_of_statement
id_of_body s id fits is = is ∙ ap sha256 (body_is_text s fits)

-- ---- over a state

slice_get_low : {X : Type 0} (xs : List X) (n : ℕ) (x : X) → slice_get xs n ≡ Some x → n < length xs
slice_get_low xs n x at = elim (slice_get_cases xs n).1 [
  | inl there ↦ there.1
  | inr past ↦ (let never : Some x ≡ None = sym at ∙ past.1 in absurd cc)
]

-- the statement that was found is one of those that are kept
pub found_is_kept : {S : Type 0} (v : View S) (here : Setting) (s : Signed) (found : Found) → (J : List Record) × (IsStateOf J v × IsDueBy here J s found) → found.index < length v.foreign
found_is_kept v here s found (J, (state, due)) = slice_get_low v.foreign found.index due.kept (sym (ap (λ (fs : List Signed). slice_get fs found.index) state.foreign) ∙ due.known)

-- so it contradicts the one that came
pub found_contradicts : {S : Type 0} (v : View S) (here : Setting) (s : Signed) (found : Found) (kept : Signed) → slice_get v.foreign found.index ≡ Some kept → (J : List Record) × (IsStateOf J v × IsDueBy here J s found) → contradicts found.kind kept.statement s.statement ≡ true
found_contradicts v here s found kept at (J, (state, due)) = due_contradicts here J s found kept due (ap (λ (fs : List Signed). slice_get fs found.index) state.foreign ∙ at)

-- the proof by both is the conviction that is due
pub due_by_found : {S : Type 0} (v : View S) (s : Signed) (found : Found) (kept : Signed) (p : Proof) → slice_get v.foreign found.index ≡ Some kept → p ≡ proof_of found.kind kept s → (J : List Record) → IsStateOf J v → AreDue J s (Some found) (Conviction p ∷ [])
due_by_found v s found kept p at is = λ J state. (kept, (ap (λ (fs : List Signed). slice_get fs found.index) state.foreign ∙ at, ap (λ (q : Proof). Conviction q ∷ []) is))

-- what the checks say, as it was found to be
pub checked_as : {S : Type 0} (here : Setting) (v : View S) (s : Signed) (r x : Result Pass CheckError) → r ≡ x → (J : List Record) × (IsStateOf J v × IsChecked here J s r) → (J : List Record) × (IsStateOf J v × IsChecked here J s x)
checked_as here v s r x is (J, (state, checked)) = (J, (state, subst (IsChecked here J s) is checked))

-- of a voucher, and of an update
pub voucher_is_new : {S : Type 0} (here : Setting) (v : View S) (s : Signed) → (J : List Record) × (IsStateOf J v × IsChecked here J s (Ok pass.Voucher)) → (J : List Record) × (IsStateOf J v × IsNew here J s None)
voucher_is_new here v s (J, (state, checked)) = (J, (state, checked.1.1))

pub update_is_new : {S : Type 0} (here : Setting) (v : View S) (s : Signed) (found : Option Found) (items : _) → (J : List Record) × (IsStateOf J v × IsChecked here J s (Ok (pass.Update found items))) → (J : List Record) × (IsStateOf J v × IsNew here J s found)
update_is_new here v s found items (J, (state, checked)) = (J, (state, checked.1))

-- ---- what is decided

-- of one that is known
pub decided_known : (here : Setting) (J : List Record) (s : Signed) → IsChecked here J s (Ok pass.Known) → IsDecided here J (given_statement s) (Ok Known) []
decided_known here J s is = decided_by here J (given_statement s) (Ok Known) [] is refl
