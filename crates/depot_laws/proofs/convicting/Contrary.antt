-- Proofs that are made of a kept statement and one that comes.
use Rattle.std.proofs.Common.{◌≡◌, ℕ, Bool, true, false, eqb, cond, List, [], ◌∷◌, ◌++◌, Option, Some, None, Ok, refl, ap, subst, ◌∙◌, inl, inr}
use Rattle.std.specs.Option.{option_map}
use Rattle.std.proofs.lemmas.Bool.{eqb-true}
use Rattle.depot_base.specs.Parts.{is_below}
use Rattle.depot_base.specs.Statement.{writer_of}
use Rattle.depot_base.specs.declared.statement.Statement.{Statement}
use Rattle.depot_base.specs.declared.statement.Signed.{Signed}
use Rattle.depot_base.specs.declared.proof.Kind.{Kind}
use Rattle.depot_base.specs.declared.proof.Kind.TheVariants.{SameNumber, SamePrev, Backward}
use Rattle.depot_base.specs.Shown.{shown_first, shown_second}
use Rattle.depot_base.specs.declared.proof.Proof.{Proof}
use Rattle.depot_base.specs.declared.proof.Proof.TheVariants.{Pair}
use Rattle.depot_base.specs.declared.record.Record.{Record}
use Rattle.depot_base.specs.declared.record.Record.TheVariants.{Birth, OwnPut, OwnVoucher, Foreign, Conviction, Held}
use Rattle.depot_model.specs.declared.taken.Taken.TheVariants.{New}
use Rattle.depot_model.specs.lists.Lists.{IsIn, when, first}
use Rattle.depot_model.specs.texts.Texts.{IsSigned}
use Rattle.depot_model.specs.texts.Roster.{has_node, is_signed}
use Rattle.depot_model.specs.updates.Contradictions.{contradicts, kind_of}
use Rattle.depot_model.specs.updates.Judgement.{first_failed_point}
use Rattle.depot_model.specs.updates.Conviction.{proof_of}
use Rattle.depot_model.specs.journals.Journal.{foreign, foreign_by, accused}
use Rattle.depot_model.specs.checks.Checks.{Setting, given_statement, answer_to, opponent, is_update_with, named_opponent, proof_checks}
use Rattle.depot_model.specs.journals.Lawful.{IsAllowed, IsLawful}
use Rattle.depot_model.proofs.lists.FirstLaws.{first_is, when-both}
use Rattle.depot_model.proofs.of_updates.ContradictionLaws.{same_writer}
use Rattle.depot_model.proofs.of_updates.JudgementLaws.{IsGood-proof_of}
use Rattle.depot_laws.proofs.lists.Splits.{given_by}
use Rattle.depot_laws.proofs.records.Taken.{new_is}
use Rattle.depot_laws.proofs.records.LawfulRecords.{IsSigned-from_record}

-- ---- opponents

-- what the three kinds say of two statements, each by its test
abbrev pub kinds : Statement → Statement → List (Option Kind)
kinds a b = when (contradicts SameNumber a b) SameNumber ∷ when (contradicts SamePrev a b) SamePrev ∷ when (contradicts Backward a b) Backward ∷ []

shown_kind : (a b : Statement) (k l : Kind) → when (contradicts k a b) k ≡ Some l → contradicts l a b ≡ true
shown_kind a b k l e = let w = when-both (contradicts k a b) k l e in subst (λ (x : Kind). contradicts x a b ≡ true) w.1 w.0

-- the kind in which two contradict each other
pub kind_is : (a b : Statement) (k : Kind) → kind_of a b ≡ Some k → contradicts k a b ≡ true
unfolding kind_of
kind_is a b k e = first_is (λ (x : Kind). contradicts x a b ≡ true) (kinds a b) k (shown_kind a b SameNumber, (shown_kind a b SamePrev, (shown_kind a b Backward, tt))) e

-- the opponent is one of these, and contradicts the statement
pub record IsOpponent (fs : List Signed) (s : Statement) (o : Signed × Kind) : Type 0 where
  pub on : IsIn o.0 fs
  pub contradict : contradicts o.1 o.0.statement s ≡ true

behind : (f : Signed) (fs : List Signed) (s : Statement) (o : Signed × Kind) → IsOpponent fs s o → IsOpponent (f ∷ fs) s o
behind f fs s o h = record { on = inr h.on; contradict = h.contradict }

here_by : (f : Signed) (fs : List Signed) (s : Statement) (k : Kind) → kind_of f.statement s ≡ Some k → IsOpponent (f ∷ fs) s (f, k)
here_by f fs s k e = record { on = inl refl; contradict = kind_is f.statement s k e }

pair_is : (p q : Signed × Kind) → Some p ≡ Some q → p ≡ q
pair_is p q e = cc

opponent_step : (f : Signed) (fs : List Signed) (s : Statement) (o : Signed × Kind) (k : Option Kind) (rest : Option (Signed × Kind)) → kind_of f.statement s ≡ k → (rest ≡ Some o → IsOpponent fs s o)
    → (elim k as (λ x. Option (Signed × Kind)) [ None ↦ rest | Some j ↦ Some (f, j) ]) ≡ Some o → IsOpponent (f ∷ fs) s o
opponent_step f fs s o None rest is later e = behind f fs s o (later e)
opponent_step f fs s o (Some k) rest is later e = subst (λ (p : Signed × Kind). IsOpponent (f ∷ fs) s p) (pair_is (f, k) o e) (here_by f fs s k is)

pub opponent_is : (fs : List Signed) (s : Statement) (o : Signed × Kind) → opponent fs s ≡ Some o → IsOpponent fs s o
unfolding opponent
opponent_is [] s o e = absurd cc
opponent_is (f ∷ fs) s o e = opponent_step f fs s o (kind_of f.statement s) (opponent fs s) refl (λ later. opponent_is fs s o later) e

mapped_step : (f : Signed) (fs : List Signed) (s : Statement) (o : Signed × Kind) (k : Option Kind) → kind_of f.statement s ≡ k → option_map (λ j. (f, j)) k ≡ Some o → IsOpponent (f ∷ fs) s o
mapped_step f fs s o None is e = absurd cc
mapped_step f fs s o (Some k) is e = subst (λ (p : Signed × Kind). IsOpponent (f ∷ fs) s p) (pair_is (f, k) o e) (here_by f fs s k is)

named_step : (f : Signed) (fs : List Signed) (s : Statement) (o : Signed × Kind) (b : Bool) (rest : Option (Signed × Kind)) → (rest ≡ Some o → IsOpponent fs s o)
    → cond b (option_map (λ j. (f, j)) (kind_of f.statement s)) rest ≡ Some o → IsOpponent (f ∷ fs) s o
named_step f fs s o true rest later e = mapped_step f fs s o (kind_of f.statement s) refl e
named_step f fs s o false rest later e = behind f fs s o (later e)

pub named_opponent_is : (fs : List Signed) (h : List ℕ) (s : Statement) (o : Signed × Kind) → named_opponent fs h s ≡ Some o → IsOpponent fs s o
unfolding named_opponent
named_opponent_is [] h s o e = absurd cc
named_opponent_is (f ∷ fs) h s o e = named_step f fs s o (is_update_with h f.statement) (named_opponent fs h s) (λ later. named_opponent_is fs h s o later) e

-- ---- kept statements

-- the writer is a node of the roster, and not this one, and the signature verifies
pub record IsGenuine (here : Setting) (s : Signed) : Type 0 where
  pub known : has_node here.listed (writer_of s.statement) ≡ true
  pub other : eqb (writer_of s.statement) here.me ≡ false
  pub signed : is_signed here.verifies here.listed s ≡ true

-- a statement that is new is genuine
pub new_is_genuine : (here : Setting) (J : List Record) (s : Signed) → answer_to here J (given_statement s) ≡ Ok New → IsGenuine here s
new_is_genuine here J s e = let n = new_is here J s e in record { known = n.passes.known; other = n.passes.other; signed = n.passes.signed }

-- the record that keeps a statement of another
pub foreign_is : (s : Signed) (r : Record) → IsIn s (foreign_by r) → r ≡ Foreign s
foreign_is s (Birth node h) never = absurd never
foreign_is s (OwnPut u value) never = absurd never
foreign_is s (OwnVoucher v) never = absurd never
foreign_is s (Foreign t) (inl same) = ap (λ (x : Signed). Foreign x) same
foreign_is s (Foreign t) (inr never) = absurd never
foreign_is s (Conviction p) never = absurd never
foreign_is s (Held value) never = absurd never

-- where a kept statement is
pub record IsKeptAt (here : Setting) (J : List Record) (s : Signed) : Type 0 where
  pub before : List Record
  pub after : List Record
  pub is : J ≡ before ++ Foreign s ∷ after
  pub allowed : IsAllowed here before (Foreign s)

pub kept_at : (here : Setting) (J : List Record) (s : Signed) → IsLawful here J → IsIn s (foreign J) → IsKeptAt here J s
kept_at here J s l on =
    let g = given_by foreign_by s J on in
    let same = foreign_is s g.by g.given in
    let is : J ≡ g.before ++ Foreign s ∷ g.after = g.is ∙ ap (λ (x : Record). g.before ++ x ∷ g.after) same in
    record { before = g.before; after = g.after; is = is; allowed = l.each g.before (Foreign s) g.after is }

-- a kept statement has a text
pub kept_is_signed : (here : Setting) (J : List Record) (s : Signed) → IsLawful here J → IsIn s (foreign J) → IsSigned s
kept_is_signed here J s l on = IsSigned-from_record s (kept_at here J s l on).allowed.text

-- and is genuine
pub kept_is_genuine : (here : Setting) (J : List Record) (s : Signed) → IsLawful here J → IsIn s (foreign J) → IsGenuine here s
kept_is_genuine here J s l on = let k = kept_at here J s l on in new_is_genuine here k.before s k.allowed.may.0

-- ---- the proof that is made

-- what holds of the two in either order holds of the proof that is made of them
pub of_proof_of : (P : Proof → Type 0) (k : Kind) (a b : Signed) → P (Pair k a b) → P (Pair k b a) → P (proof_of k a b)
unfolding proof_of
of_proof_of P k a b one two = choice (is_below a.body b.body) where
  choice : (t : Bool) → P (cond t (Pair k a b) (Pair k b a))
  choice true = one
  choice false = two

-- who the proof of two statements names
pub accused_is : (k : Kind) (a b : Signed) → contradicts k a.statement b.statement ≡ true → accused (proof_of k a b) ≡ writer_of b.statement
accused_is k a b contradict = of_proof_of (λ (p : Proof). accused p ≡ writer_of b.statement) k a b (eqb-true _ _ (same_writer k a.statement b.statement contradict)) refl

-- the checks of a proof that fails no point of a judge, and names another node
pub checks_of_good : (here : Setting) (p : Proof) → eqb (accused p) here.me ≡ false → first_failed_point here.verifies here.listed p ≡ None → first (proof_checks here p) ≡ None
unfolding proof_checks
checks_of_good here p other good = rw (good, other) refl

-- the proof of two genuine statements passes the checks
pub made_passes : (here : Setting) (k : Kind) (a b : Signed) → IsSigned a → IsSigned b → IsGenuine here a → IsGenuine here b → contradicts k a.statement b.statement ≡ true → first (proof_checks here (proof_of k a b)) ≡ None
made_passes here k a b fits_a fits_b true_a true_b contradict =
    let both = of_proof_of (λ (p : Proof). (is_signed here.verifies here.listed (shown_first p) ≡ true) × (is_signed here.verifies here.listed (shown_second p) ≡ true)) k a b (true_a.signed, true_b.signed) (true_b.signed, true_a.signed) in
    let other : eqb (accused (proof_of k a b)) here.me ≡ false = rw (accused_is k a b contradict) true_b.other in
    checks_of_good here (proof_of k a b) other (IsGood-proof_of k a b fits_a fits_b contradict here.verifies here.listed both.0 both.1)
