-- The kind of a contradiction, by what tells the two statements apart.
use Rattle.std.proofs.Common.{◌≡◌, ℕ, Bool, true, false, eqb, Some, None, List, [], ◌++◌, refl, sym, ap, ◌∙◌}
use Rattle.std.specs.Str.{bytes_eq}
use Rattle.std.specs.Bool.{Decides}
use Rattle.std.proofs.lemmas.Bool.{eq-eqb, ne_eqb}
use Rattle.std.proofs.lemmas.Slice.Eq.{bytes_eq-Decides}
use Rattle.depot_base.specs.Statement.{writer_of, seq_of}
use Rattle.depot_base.specs.declared.update.Update.{Update}
use Rattle.depot_base.specs.declared.voucher.Voucher.{Voucher}
use Rattle.depot_base.specs.declared.statement.Statement.{Statement}
use Rattle.depot_base.specs.declared.statement.Statement.TheVariants as statements
use Rattle.depot_base.specs.declared.proof.Kind.TheVariants.{SameNumber}
use Rattle.depot_base.proofs.Combined.{prefix_free}
use Rattle.depot_model.specs.texts.Texts.{IsStatement, text_of_statement, id_of_statement, statement}
use Rattle.depot_model.specs.updates.Contradictions.{is_of_kind, contradicts, kind_of}
use Rattle.depot_model.proofs.of_texts.TextLaws.{statement_lawful}
use Rattle.depot_kept.specs.Kinds.{kind_by_prev}

-- two writers
pub other_writer : (a b : Statement) → (writer_of a ≡ writer_of b → ⊥) → kind_of a b ≡ None
unfolding kind_of contradicts is_of_kind
other_writer a b differ = rw (ne_eqb (writer_of a) (writer_of b) differ) refl

one_body_by : (a b : Statement) (w : Bool) → eqb (writer_of a) (writer_of b) ≡ w → bytes_eq (text_of_statement a) (text_of_statement b) ≡ true → kind_of a b ≡ None
unfolding kind_of contradicts is_of_kind
one_body_by a b true w same = rw (w, same) refl
one_body_by a b false w same = rw w refl

-- one body
pub one_body : (a b : Statement) → bytes_eq (text_of_statement a) (text_of_statement b) ≡ true → kind_of a b ≡ None
one_body a b same = one_body_by a b (eqb (writer_of a) (writer_of b)) refl same

-- one writer, different bodies, one number
pub one_number : (a b : Statement) → writer_of a ≡ writer_of b → bytes_eq (text_of_statement a) (text_of_statement b) ≡ false → seq_of a ≡ seq_of b → kind_of a b ≡ Some SameNumber
unfolding kind_of contradicts is_of_kind
one_number a b writer body seq = rw (eq-eqb (writer_of a) (writer_of b) writer, body, eq-eqb (seq_of a) (seq_of b) seq) refl

-- one writer, different bodies and numbers
pub by_prev : (t u : Update) → t.writer ≡ u.writer → bytes_eq (text_of_statement (statements.Update t)) (text_of_statement (statements.Update u)) ≡ false → (t.seq ≡ u.seq → ⊥) → kind_of (statements.Update t) (statements.Update u) ≡ kind_by_prev t u
unfolding kind_of contradicts is_of_kind
by_prev t u writer body seq = rw (eq-eqb t.writer u.writer writer, body, ne_eqb t.seq u.seq seq) refl

pub kept_voucher : (v : Voucher) (b : Statement) → v.node ≡ writer_of b → bytes_eq (text_of_statement (statements.Voucher v)) (text_of_statement b) ≡ false → (v.seq ≡ seq_of b → ⊥) → kind_of (statements.Voucher v) b ≡ None
unfolding kind_of contradicts is_of_kind
kept_voucher v b writer body seq = rw (eq-eqb v.node (writer_of b) writer, body, ne_eqb v.seq (seq_of b) seq) refl

pub came_voucher : (t : Update) (v : Voucher) → t.writer ≡ v.node → bytes_eq (text_of_statement (statements.Update t)) (text_of_statement (statements.Voucher v)) ≡ false → (t.seq ≡ v.seq → ⊥) → kind_of (statements.Update t) (statements.Voucher v) ≡ None
unfolding kind_of contradicts is_of_kind
came_voucher t v writer body seq = rw (eq-eqb t.writer v.node writer, body, ne_eqb t.seq v.seq seq) refl

-- the same, of statements that are known to be an update or a voucher
pub kept_is_voucher : (a b : Statement) (v : Voucher) → a ≡ statements.Voucher v → writer_of a ≡ writer_of b → bytes_eq (text_of_statement a) (text_of_statement b) ≡ false → (seq_of a ≡ seq_of b → ⊥) → None ≡ kind_of a b
kept_is_voucher (statements.Voucher w) b v is writer body seq = sym (kept_voucher w b writer body seq)
kept_is_voucher (statements.Update t) b v is writer body seq = absurd cc

pub came_is_voucher : (a b : Statement) (t : Update) (v : Voucher) → a ≡ statements.Update t → b ≡ statements.Voucher v → writer_of a ≡ writer_of b → bytes_eq (text_of_statement a) (text_of_statement b) ≡ false → (seq_of a ≡ seq_of b → ⊥) → None ≡ kind_of a b
came_is_voucher (statements.Update u) (statements.Voucher w) t v is also writer body seq = sym (came_voucher u w writer body seq)
came_is_voucher (statements.Update u) (statements.Update w) t v is also writer body seq = absurd cc
came_is_voucher (statements.Voucher u) b t v is also writer body seq = absurd cc

pub both_are_updates : (a b : Statement) (t u : Update) → a ≡ statements.Update t → b ≡ statements.Update u → writer_of a ≡ writer_of b → bytes_eq (text_of_statement a) (text_of_statement b) ≡ false → (seq_of a ≡ seq_of b → ⊥) → kind_by_prev t u ≡ kind_of a b
both_are_updates (statements.Update x) (statements.Update y) t u is also writer body seq =
    let first : x ≡ t = cc in
    let second : y ≡ u = cc in
    ap (λ (z : Update). kind_by_prev z u) (sym first) ∙ ap (λ (z : Update). kind_by_prev x z) (sym second) ∙ sym (by_prev x y writer body seq)
both_are_updates (statements.Update x) (statements.Voucher y) t u is also writer body seq = absurd cc
both_are_updates (statements.Voucher x) b t u is also writer body seq = absurd cc

pub ruleset kinds = (other_writer, one_body, one_number)

-- ---- bodies and ids

-- statements with one text are one
pub same_from_text : (a b : Statement) → IsStatement a → IsStatement b → text_of_statement a ≡ text_of_statement b → a ≡ b
same_from_text a b fits_a fits_b e = (prefix_free statement 47779 statement_lawful a b [] [] fits_a fits_b (ap (λ t. t ++ []) e)).0

-- the test of one body, by the ids and then the statements
pub bodies_by_ids : (a b : Statement) → IsStatement a → IsStatement b → (id_of_statement a ≡ id_of_statement b → ⊥) → false ≡ bytes_eq (text_of_statement a) (text_of_statement b)
bodies_by_ids a b fits_a fits_b differ = by_test (bytes_eq (text_of_statement a) (text_of_statement b)) refl
  where
    by_test : (r : Bool) → bytes_eq (text_of_statement a) (text_of_statement b) ≡ r → false ≡ r
    by_test true e =
        let one : text_of_statement a ≡ text_of_statement b = (bytes_eq-Decides (text_of_statement a) (text_of_statement b)).0 e in
        absurd (differ (ap (λ (s : Statement). id_of_statement s) (same_from_text a b fits_a fits_b one)))
    by_test false e = refl

pub bodies_by_fields : (a b : Statement) (r : Bool) → IsStatement a → IsStatement b → Decides r (a ≡ b) → r ≡ bytes_eq (text_of_statement a) (text_of_statement b)
bodies_by_fields a b r fits_a fits_b d = by_test r (bytes_eq (text_of_statement a) (text_of_statement b)) refl refl
  where
    by_test : (q p : Bool) → r ≡ q → bytes_eq (text_of_statement a) (text_of_statement b) ≡ p → q ≡ p
    by_test true true e f = refl
    by_test false false e f = refl
    by_test true false e f = let same : a ≡ b = d.0 e in let one : bytes_eq (text_of_statement a) (text_of_statement b) ≡ true = (bytes_eq-Decides (text_of_statement a) (text_of_statement b)).1 (ap (λ (s : Statement). text_of_statement s) same) in cc
    by_test false true e f = let same : a ≡ b = same_from_text a b fits_a fits_b ((bytes_eq-Decides (text_of_statement a) (text_of_statement b)).0 f) in let one : r ≡ true = d.1 same in cc

-- ids that were compared and differ
pub ids_differ : (x y : List ℕ) (r : Bool) → r ≡ bytes_eq x y → r ≡ false → x ≡ y → ⊥
ids_differ x y r is differ same = let one : bytes_eq x y ≡ true = (bytes_eq-Decides x y).1 same in cc
