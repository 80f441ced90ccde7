-- Whether a statement with the same body is held among the kept ones.
use Rattle.std.proofs.Common.{◌≡◌, ℕ, zero, suc, ◌<◌, List, [], ◌∷◌, ◌++◌, length, map, get_or, Bool, true, false, ◌||◌, Some, refl, sym, ap, subst, ◌∙◌, inl, inr}
use Rattle.std.specs.List.{slice_get, list_any}
use Rattle.std.proofs.lemmas.Bool.{eq-eqb}
use Rattle.std.proofs.lemmas.Option.{slice_get_read}
use Rattle.std.proofs.lemmas.List.{append-nil}
use Rattle.std.proofs.lemmas.Slice.Eq.{bytes_eq-Decides}
use Rattle.depot_base.specs.Statement.{writer_of, seq_of}
use Rattle.depot_base.specs.declared.statement.Statement.{Statement}
use Rattle.depot_base.specs.declared.statement.Statement.TheVariants as statements
use Rattle.depot_base.specs.declared.statement.Signed.{Signed}
use Rattle.depot_model.specs.lists.Lists.{IsIn}
use Rattle.depot_model.specs.texts.Texts.{IsStatement, text_of_statement}
use Rattle.depot_model.proofs.of_texts.BodyLaws.{IsStatement-from_signed}
use Rattle.depot_kept.specs.declared.kept_statement.KeptStatement.{KeptStatement}
use Rattle.depot_kept.specs.declared.marks.StatementMark.{StatementMark}
use Rattle.depot_kept.specs.declared.marks.StatementMark.TheVariants as marks
use Rattle.depot_kept.specs.declared.table.PlaceTable.{PlaceTable}
use Rattle.depot_kept.specs.Table.{places_with_mark}
use Rattle.depot_kept.specs.StatementMarks.{has_mark}
use Rattle.depot_kept.specs.Entries.{kept_signed, IsEntry, AreEntries}
use Rattle.depot_kept.specs.Keeping.{IsKeeping, is_under}
use Rattle.depot_kept.specs.Opponents.{has_body_of}
use Rattle.depot_kept.proofs.KindLaws.{same_from_text}
use Rattle.depot_kept.proofs.ListedPlaces.{is_next}
use Rattle.depot_kept.proofs.KeepLaws.{entry_of, met, place_low, number_of, is_number}
use Rattle.depot_model.proofs.lists.Members.{in_parts}

-- ---- entries

-- an entry that was read, by its place
pub entry_at : (es : List KeptStatement) (i : ℕ) (e : KeptStatement) → AreEntries es → i < length es → e ≡ get_or es i e → IsEntry e
entry_at es i e all low is = entry_of es i e all (slice_get_read es (length es) i e refl low is)

-- ---- at some places

-- No entry at these places has the statement's body.
pub record HasNone (es : List KeptStatement) (s : Statement) (places : List ℕ) : Type 0 where
  pub none : (place : ℕ) (e : KeptStatement) → IsIn place places → slice_get es place ≡ Some e → has_body_of s (kept_signed e) ≡ false

-- at no place
pub none_at_none : (es : List KeptStatement) (s : Statement) → HasNone es s []
none_at_none es s = record { none = λ place e known at. absurd known }

-- at one place more, whose entry was read and has another body
pub none_at_more : (es : List KeptStatement) (s : Statement) (places : List ℕ) (i : ℕ) (e : KeptStatement) → HasNone es s places → i < length es → e ≡ get_or es i e → has_body_of s (kept_signed e) ≡ false → HasNone es s (places ++ i ∷ [])
none_at_more es s places i e before low is differs = record {
  none = λ place x known at.
      elim (in_parts place places (i ∷ []) known) [
        | inl earlier ↦ before.none place x earlier at
        | inr last ↦ here place x last at
      ];
}
  where
    here : (place : ℕ) (x : KeptStatement) → IsIn place (i ∷ []) → slice_get es place ≡ Some x → has_body_of s (kept_signed x) ≡ false
    here place x (inl same) at =
        let there : slice_get es i ≡ Some x = subst (λ (j : ℕ). slice_get es j ≡ Some x) (sym same) at in
        let read : slice_get es i ≡ Some e = slice_get_read es (length es) i e refl low is in
        let one : e ≡ x = cc in
        subst (λ (y : KeptStatement). has_body_of s (kept_signed y) ≡ false) one differs
    here place x (inr none) at = absurd none

-- ---- entries and their signed statements

or_true : (a : Bool) → (a || true) ≡ true
or_true true = refl
or_true false = refl

-- an entry with the body settles it
any_at : (es : List KeptStatement) (s : Statement) (i : ℕ) (e : KeptStatement) → slice_get es i ≡ Some e → has_body_of s (kept_signed e) ≡ true → list_any (has_body_of s) (map kept_signed es) ≡ true
any_at [] s i e at has = absurd cc
any_at (y ∷ ys) s zero e at has =
    let same : y ≡ e = cc in
    let one : has_body_of s (kept_signed y) ≡ true = ap (λ (x : KeptStatement). has_body_of s (kept_signed x)) same ∙ has in
    rw one refl
any_at (y ∷ ys) s (suc i) e at has = ap (λ (b : Bool). has_body_of s (kept_signed y) || b) (any_at ys s i e at has) ∙ or_true (has_body_of s (kept_signed y))

none_any : (es : List KeptStatement) (s : Statement) → ((i : ℕ) (e : KeptStatement) → slice_get es i ≡ Some e → has_body_of s (kept_signed e) ≡ false) → list_any (has_body_of s) (map kept_signed es) ≡ false
none_any [] s all = refl
none_any (y ∷ ys) s all =
    let one : has_body_of s (kept_signed y) ≡ false = all 0 y refl in
    ap (λ (b : Bool). b || list_any (has_body_of s) (map kept_signed ys)) one ∙ none_any ys s (λ i e at. all (suc i) e at)

-- ---- the mark by which it is looked up

-- a statement has the mark of its number
has_number : (s : Statement) (id : List ℕ) → has_mark s id (number_of s) ≡ true
unfolding has_mark
has_number (statements.Update u) id = rw (eq-eqb u.writer u.writer refl, eq-eqb u.seq u.seq refl) refl
has_number (statements.Voucher v) id = rw (eq-eqb v.node v.node refl, eq-eqb v.seq v.seq refl) refl

-- so an entry with the statement's body has that mark, since the two are one statement
number_of_body : (e : KeptStatement) (s : Statement) → IsEntry e → IsStatement s → has_body_of s (kept_signed e) ≡ true → is_under (number_of s) e ≡ true
number_of_body e s entry fits has =
    let text : text_of_statement e.statement ≡ text_of_statement s = (bytes_eq-Decides (text_of_statement e.statement) (text_of_statement s)).0 has in
    let same : e.statement ≡ s = same_from_text e.statement s (IsStatement-from_signed (kept_signed e) entry.signed) fits text in
    subst (λ (m : Statement). has_mark e.statement e.id (number_of m) ≡ true) same (has_number e.statement e.id)

-- ---- what `holds` answers

-- an entry that was read has the body
pub held_here : (es : List KeptStatement) (kept : List Signed) (s : Statement) (i : ℕ) (e : KeptStatement) → map kept_signed es ≡ kept → i < length es → e ≡ get_or es i e → has_body_of s (kept_signed e) ≡ true → true ≡ list_any (has_body_of s) kept
held_here es kept s i e seen low is has =
    sym (any_at es s i e (slice_get_read es (length es) i e refl low is) has) ∙ ap (λ (l : List Signed). list_any (has_body_of s) l) seen

-- before the first place all that are listed under the statement's number are left
pub all_left : (table : PlaceTable) (s : Statement) (w n : ℕ) (rest : List ℕ) → w ≡ writer_of s → n ≡ seq_of s → rest ≡ places_with_mark table (marks.Number w n) → [] ++ rest ≡ places_with_mark table (number_of s)
all_left table s w n rest writer seq all = all ∙ ap (λ (m : StatementMark). places_with_mark table m) (is_number s w n writer seq)

-- the place that comes next is that of an entry
pub next_low : (es : List KeptStatement) (table : PlaceTable) (s : Statement) (before rest later : List ℕ) (place : ℕ) → IsKeeping es table → before ++ rest ≡ places_with_mark table (number_of s) → rest ≡ place ∷ later → place < length es
next_low es table s before rest later place keeping whole next = place_low es table (number_of s) place keeping (is_next before rest later (places_with_mark table (number_of s)) place whole next)

-- no entry that is listed under the statement's number has the body, and nothing is left
pub held_nowhere : (es : List KeptStatement) (table : PlaceTable) (kept : List Signed) (s : Statement) (before rest : List ℕ) → IsKeeping es table → map kept_signed es ≡ kept → IsStatement s →
    HasNone es s before → before ++ rest ≡ places_with_mark table (number_of s) → rest ≡ [] → false ≡ list_any (has_body_of s) kept
held_nowhere es table kept s before rest keeping seen fits none whole over = sym (none_any es s lacks) ∙ ap (λ (l : List Signed). list_any (has_body_of s) l) seen
  where
    given : before ≡ places_with_mark table (number_of s)
    given = sym (append-nil before) ∙ ap (λ (l : List ℕ). before ++ l) (sym over) ∙ whole

    lacks : (i : ℕ) (e : KeptStatement) → slice_get es i ≡ Some e → has_body_of s (kept_signed e) ≡ false
    lacks i e at = by_test (has_body_of s (kept_signed e)) refl
      where
        by_test : (b : Bool) → has_body_of s (kept_signed e) ≡ b → has_body_of s (kept_signed e) ≡ false
        by_test true has =
            let known : IsIn i (places_with_mark table (number_of s)) = met es table (number_of s) i e keeping at (number_of_body e s (entry_of es i e keeping.entries at) fits has) in
            none.none i e (subst (λ (l : List ℕ). IsIn i l) (sym given) known) at
        by_test false has = has
