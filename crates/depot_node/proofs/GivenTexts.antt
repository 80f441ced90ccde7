-- The text of a statement of another with which what was decided ends.
use Rattle.std.proofs.Common.{ℕ, Bool, true, false, List, [], ◌∷◌, ◌++◌, Option, Some, None, Result, Ok, Err, refl, sym, subst, if◌then◌else◌}
use Rattle.depot_base.specs.declared.check.Check.{Check}
use Rattle.depot_base.specs.declared.check.Check.TheVariants as check
use Rattle.depot_base.specs.declared.proof.Kind.{Kind}
use Rattle.depot_base.specs.declared.proof.Proof.{Proof}
use Rattle.depot_base.specs.declared.record.Record.{Record}
use Rattle.depot_base.specs.declared.record.Record.TheVariants.{Foreign, Conviction}
use Rattle.depot_base.specs.declared.statement.Signed.{Signed}
use Rattle.depot_base.specs.declared.voucher.Voucher.{Voucher}
use Rattle.depot_model.specs.declared.taken.Taken.{Taken}
use Rattle.depot_model.specs.declared.taken.Taken.TheVariants.{New, Known}
use Rattle.depot_model.specs.checks.Checks.{Setting, given_statement, given_proof, given_value, added, due, growth, growth_by}
use Rattle.depot_model.specs.texts.Texts.{text_of_signed}
use Rattle.depot_model.specs.checks.Vouching.{records_of}
use Rattle.depot_readings.specs.RecordTexts.{IsGiven}
use Rattle.depot_decide.specs.Deciding.{DecidesProof, DecidesStatement, DecidesValue, IsDecided}

-- a conviction alone
convicted : (p : Proof) (text : List ℕ) (b : Bool) → IsGiven (if b then [] else Conviction p ∷ []) text
convicted p text true = tt
convicted p text false = tt

-- a statement, maybe after a conviction
behind : (p : Proof) (s : Signed) (b : Bool) → IsGiven ((if b then [] else Conviction p ∷ []) ++ Foreign s ∷ []) (text_of_signed s)
behind p s true = refl
behind p s false = refl

due_given : (J : List Record) (s : Signed) (o : Option (Signed × Kind)) (text : List ℕ) → IsGiven (due J s o) text
unfolding due
due_given J s None text = tt
due_given J s (Some o) text = convicted _ text _

due_then_given : (J : List Record) (s : Signed) (o : Option (Signed × Kind)) → IsGiven (due J s o ++ Foreign s ∷ []) (text_of_signed s)
unfolding due
due_then_given J s None = refl
due_then_given J s (Some o) = behind _ s _

maybe_due : (J : List Record) (s : Signed) (o : Option (Signed × Kind)) (b : Bool) → IsGiven ((if b then due J s o else []) ++ Foreign s ∷ []) (text_of_signed s)
maybe_due J s o true = due_then_given J s o
maybe_due J s o false = refl

grown_given : (J : List Record) (s : Signed) (answer : Result Taken Check) → IsGiven (growth_by J (given_statement s) answer) (text_of_signed s)
unfolding added
grown_given J s (Ok Known) = tt
grown_given J s (Ok New) = maybe_due J s _ _
grown_given J s (Err (check.Forked kept came kind)) = due_given J s _ (text_of_signed s)
grown_given J s (Err (check.Backward h)) = due_given J s _ (text_of_signed s)
grown_given J s (Err c) = tt

statement_given_by : (here : Setting) (J : List Record) (s : Signed) (answer : Result Taken Check) (new : List Record) → IsDecided here J (given_statement s) answer new → IsGiven new (text_of_signed s)
unfolding growth
statement_given_by here J s answer new d = subst (λ (rs : List Record). IsGiven rs (text_of_signed s)) d.grows (grown_given J s _)

-- what is decided of a text of a statement ends with it, where it ends with a statement
pub statement_given : (here : Setting) (J : List Record) (text : List ℕ) (answer : Result Taken Check) (new : List Record) → DecidesStatement here J text answer new → IsGiven new text
statement_given here J text (Err (check.IllFormed at)) new d = subst (λ (rs : List Record). IsGiven rs text) (sym d.1) tt
statement_given here J text (Ok taken) new d = subst (λ (t : List ℕ). IsGiven new t) (sym d.1.1.0) (statement_given_by here J d.0 (Ok taken) new d.1.1.1)
statement_given here J text (Err c) new d = subst (λ (t : List ℕ). IsGiven new t) (sym d.1.1.0) (statement_given_by here J d.0 (Err c) new d.1.1.1)

-- ---- what else is decided doesn't end with one

proof_grows : (J : List Record) (p : Proof) (answer : Result Taken Check) (text : List ℕ) → IsGiven (growth_by J (given_proof p) answer) text
unfolding added
proof_grows J p (Ok Known) text = tt
proof_grows J p (Ok New) text = tt
proof_grows J p (Err c) text = tt

value_grows : (J : List Record) (v : List ℕ) (answer : Result Taken Check) (text : List ℕ) → IsGiven (growth_by J (given_value v) answer) text
unfolding added
value_grows J v (Ok Known) text = tt
value_grows J v (Ok New) text = tt
value_grows J v (Err c) text = tt

proof_given_by : (here : Setting) (J : List Record) (p : Proof) (answer : Result Taken Check) (new : List Record) (text : List ℕ) → IsDecided here J (given_proof p) answer new → IsGiven new text
unfolding growth
proof_given_by here J p answer new text d = subst (λ (rs : List Record). IsGiven rs text) d.grows (proof_grows J p _ text)

value_given_by : (here : Setting) (J : List Record) (v : List ℕ) (answer : Result Taken Check) (new : List Record) (text : List ℕ) → IsDecided here J (given_value v) answer new → IsGiven new text
unfolding growth
value_given_by here J v answer new text d = subst (λ (rs : List Record). IsGiven rs text) d.grows (value_grows J v _ text)

pub proof_given : (here : Setting) (J : List Record) (text given : List ℕ) (answer : Result Taken Check) (new : List Record) → DecidesProof here J text answer new → IsGiven new given
proof_given here J text given (Err (check.IllFormed at)) new d = subst (λ (rs : List Record). IsGiven rs given) (sym d.1) tt
proof_given here J text given (Ok taken) new d = proof_given_by here J d.0 (Ok taken) new given d.1.1.1
proof_given here J text given (Err c) new d = proof_given_by here J d.0 (Err c) new given d.1.1.1

pub value_given : (here : Setting) (J : List Record) (text given : List ℕ) (answer : Result Taken Check) (new : List Record) → DecidesValue here J text answer new → IsGiven new given
value_given here J text given (Err (check.IllFormed at)) new d = subst (λ (rs : List Record). IsGiven rs given) (sym d.1) tt
value_given here J text given (Ok taken) new d = value_given_by here J d.0 (Ok taken) new given d.1.1.1
value_given here J text given (Err c) new d = value_given_by here J d.0 (Err c) new given d.1.1.1

-- nor do own vouchers
pub vouchers_given : (vs : List Voucher) (text : List ℕ) → IsGiven (records_of vs) text
vouchers_given [] text = tt
vouchers_given (v ∷ []) text = tt
vouchers_given (v ∷ w ∷ vs) text = vouchers_given (w ∷ vs) text
