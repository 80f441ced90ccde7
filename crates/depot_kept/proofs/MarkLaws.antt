-- Which marks statements that contradict each other share.
use Rattle.std.proofs.Common.{◌≡◌, ℕ, List, [], ◌∷◌, Bool, true, false, eqb, not, nat_le, ◌&&◌, ◌||◌, None, if◌then◌else◌, refl, sym, ap, subst, ◌∙◌}
use Rattle.std.specs.List.{AllByRecursion, list_any}
use Rattle.std.specs.Str.{bytes_eq}
use Rattle.std.proofs.lemmas.Slice.Eq.{bytes_eq-Decides}
use Rattle.depot_base.specs.Zeros.{zeros}
use Rattle.depot_base.specs.declared.statement.Statement.{Statement}
use Rattle.depot_base.specs.declared.statement.Statement.TheVariants as statements
use Rattle.depot_base.specs.declared.update.Update.{Update}
use Rattle.depot_base.specs.declared.proof.Kind.TheVariants.{SameNumber, SamePrev, Backward}
use Rattle.depot_model.specs.lists.Lists.{when, first}
use Rattle.depot_model.specs.texts.Texts.{id_of_statement, id_of_update}
use Rattle.depot_model.specs.updates.Contradictions.{goes_back, is_of_kind, contradicts, kind_of}
use Rattle.depot_model.specs.checks.Checks.{is_update_with}
use Rattle.std.proofs.Math.Bool.{and-false}
use Rattle.std.proofs.lemmas.Bool.{or_from}
use Rattle.depot_kept.specs.declared.kept_statement.KeptStatement.{KeptStatement}
use Rattle.depot_kept.specs.declared.marks.StatementMark.TheVariants as marks
use Rattle.depot_kept.specs.StatementMarks.{has_mark, asked_of}
use Rattle.depot_kept.specs.Entries.{IsEntry}
use Rattle.depot_kept.specs.Keeping.{is_under}
use Rattle.depot_model.proofs.of_texts.BodyLaws.{update_id}

-- ---- tests

-- the last of several tests
alone : (a : Bool) → (a || false) ≡ false → a ≡ false
alone true e = absurd cc
alone false e = refl

-- bytes that differ do so both ways
other_way : (x y : List ℕ) → bytes_eq x y ≡ false → bytes_eq y x ≡ false
other_way x y differ = by_test (bytes_eq y x) refl
  where
    by_test : (b : Bool) → bytes_eq y x ≡ b → b ≡ false
    by_test false e = refl
    by_test true e = let same : y ≡ x = (bytes_eq-Decides y x).0 e in let one : bytes_eq x y ≡ true = (bytes_eq-Decides x y).1 (sym same) in cc

-- ---- a statement that has none of the marks that are asked for

-- one that isn't named as a prev isn't stepped after
not_back : (t u : Update) → bytes_eq (id_of_update t) u.prev ≡ false → goes_back t u ≡ false
not_back t u differ = by_test (bytes_eq u.prev zeros)
  where
    by_test : (b : Bool) → (list_any (bytes_eq (id_of_update t)) (if b then [] else u.prev ∷ []) && (nat_le u.seq t.seq || nat_le u.clock t.clock)) ≡ false
    by_test true = refl
    by_test false = rw differ refl

-- two statements of which no test holds, by the tests of their writers, their bodies and the kinds
none_of : (w b n p q : Bool) → (w && n) ≡ false → (w && p) ≡ false → (w && q) ≡ false →
    first (when (w && not b && n) SameNumber ∷ when (w && not b && p) SamePrev ∷ when (w && not b && q) Backward ∷ []) ≡ None
none_of false b n p q number prev back = refl
none_of true true n p q number prev back = refl
none_of true false n p q number prev back = rw (number, prev, back) refl

-- of one writer, neither goes back
back_by : (w j back forth : Bool) → back ≡ false → (w && j) ≡ false → (j ≡ false → forth ≡ false) → (w && (back || forth)) ≡ false
back_by false j back forth no_back e follows = refl
back_by true j back forth no_back e follows = or_from back forth no_back (follows e)

-- A statement that has none of the marks that another asks for doesn't contradict it.
pub asked_alone : (a : Statement) (a_id : List ℕ) (b : Statement) (b_id : List ℕ) → a_id ≡ id_of_statement a → b_id ≡ id_of_statement b → AllByRecursion (λ m. has_mark a a_id m ≡ false) (asked_of b b_id) → kind_of a b ≡ None
unfolding kind_of contradicts is_of_kind has_mark
asked_alone (statements.Voucher v) a_id (statements.Voucher x) b_id a_is b_is absent = none_of (eqb v.node x.node) _ (eqb v.seq x.seq) false false (alone _ absent.0) (and-false _) (and-false _)
asked_alone (statements.Voucher v) a_id (statements.Update u) b_id a_is b_is absent = none_of (eqb v.node u.writer) _ (eqb v.seq u.seq) false false (alone _ absent.0) (and-false _) (and-false _)
asked_alone (statements.Update t) a_id (statements.Voucher v) b_id a_is b_is absent = none_of (eqb t.writer v.node) _ (eqb t.seq v.seq) false false (alone _ absent.0) (and-false _) (and-false _)
asked_alone (statements.Update t) a_id (statements.Update u) b_id a_is b_is (number, (prev, (named_prev, (names_it, rest)))) =
    let named : bytes_eq (id_of_update t) u.prev ≡ false = subst (λ (h : List ℕ). bytes_eq h u.prev ≡ false) (a_is ∙ update_id t) (alone _ named_prev) in
    let naming : (eqb t.writer u.writer && bytes_eq t.prev (id_of_update u)) ≡ false = subst (λ (h : List ℕ). (eqb t.writer u.writer && bytes_eq t.prev h) ≡ false) (b_is ∙ update_id u) (alone _ names_it) in
    none_of (eqb t.writer u.writer) _ (eqb t.seq u.seq) (bytes_eq t.prev u.prev) (goes_back t u || goes_back u t) (alone _ number) (alone _ prev)
    (back_by (eqb t.writer u.writer) (bytes_eq t.prev (id_of_update u)) (goes_back t u) (goes_back u t) (not_back t u named) naming (λ differ. not_back u t (other_way t.prev (id_of_update u) differ)))

-- ---- an update by its id

-- the mark of an id, by cases
by_id : (s : Statement) (id h : List ℕ) → id ≡ id_of_statement s → has_mark s id (marks.Id h) ≡ is_update_with h s
unfolding has_mark
by_id (statements.Update u) id h is = ap (λ (i : List ℕ). bytes_eq i h || false) (is ∙ update_id u)
by_id (statements.Voucher v) id h is = refl

-- an entry is under an id where it is an update with it
pub under_id : (e : KeptStatement) (h : List ℕ) → IsEntry e → is_under (marks.Id h) e ≡ is_update_with h e.statement
under_id e h entry = by_id e.statement e.id h entry.id
