-- What the look-ups among kept statements answer.
use Rattle.std.proofs.Common.{◌≡◌, ℕ, zero, suc, ◌+◌, ◌<◌, List, [], ◌∷◌, ◌++◌, map, Bool, true, false, cond, Option, Some, None, refl, sym, ap, subst, ◌∙◌, arith, inl, inr, ◌⊎◌}
use Rattle.std.specs.List.{slice_get, position, position_from, last_or, AllByRecursion}
use Rattle.std.specs.Option.{option_map}
use Rattle.std.specs.Iterator.{Drains, YieldsFirst}
use Rattle.std.proofs.lemmas.Option.{slice_get-map}
use Rattle.std.proofs.lemmas.Iterator.Adapters.{position_from-zero}
use Rattle.depot_base.specs.Statement.{writer_of, seq_of}
use Rattle.depot_base.specs.declared.statement.Statement.{Statement}
use Rattle.depot_base.specs.declared.statement.Statement.TheVariants as statements
use Rattle.depot_base.specs.declared.statement.Signed.{Signed}
use Rattle.depot_base.specs.declared.update.Update.{Update}
use Rattle.depot_base.specs.declared.voucher.Voucher.{Voucher}
use Rattle.depot_base.specs.declared.proof.Kind.{Kind}
use Rattle.depot_model.specs.lists.Lists.{IsIn}
use Rattle.depot_model.specs.texts.Texts.{id_of_statement}
use Rattle.depot_model.specs.updates.Contradictions.{kind_of}
use Rattle.depot_model.specs.checks.Checks.{opponent, is_update_with}
use Rattle.depot_model.proofs.lists.Members.{in_left, in_right}
use Rattle.depot_kept.specs.declared.seen_statements.Found.{Found}
use Rattle.depot_kept.specs.declared.kept_statement.KeptStatement.{KeptStatement}
use Rattle.depot_kept.specs.declared.marks.StatementMark.{StatementMark}
use Rattle.depot_kept.specs.declared.marks.StatementMark.TheVariants as marks
use Rattle.depot_kept.specs.declared.table.PlaceTable.{PlaceTable}
use Rattle.depot_kept.specs.declared.table.Places.{Places}
use Rattle.depot_kept.specs.Table.{places_with_mark}
use Rattle.depot_kept.specs.PlacesLeft.{left}
use Rattle.depot_kept.specs.Entries.{kept_signed, IsEntry}
use Rattle.depot_kept.specs.Keeping.{IsKeeping, is_under, places_under}
use Rattle.depot_kept.specs.Firsts.{IsContradictedAt, IsBefore, IsFirstOf, earlier_kept}
use Rattle.depot_kept.specs.Opponents.{IsContradiction}
use Rattle.depot_kept.proofs.MarkLaws.{asked_alone, under_id}
use Rattle.depot_kept.proofs.ListedPlaces.{last_place, drained}
use Rattle.depot_kept.proofs.KeepLaws.{entry_of, met, is_number}
use Rattle.depot_kept.proofs.FirstOpponents.{first_of_both}

-- ---- the first that contradicts

-- one more at the front, by how it contradicts
abbrev in_front : Signed → List Signed → Statement → Option Kind → Option (Signed × Kind)
in_front g gs s o = elim o [
  | None ↦ opponent gs s
  | Some k ↦ Some (g, k)
]

-- and so is its answer
opponent_step : (g : Signed) (gs : List Signed) (s : Statement) (o : Option Kind) → kind_of g.statement s ≡ o → opponent (g ∷ gs) s ≡ in_front g gs s o
unfolding opponent
opponent_step g gs s o e = ap (λ (x : Option Kind). in_front g gs s x) e

-- the first at a place, before which none contradicts
opponent_first : (fs : List Signed) (s : Statement) (i : ℕ) (f : Signed) (k : Kind) → slice_get fs i ≡ Some f → kind_of f.statement s ≡ Some k → ((j : ℕ) (g : Signed) → j < i → slice_get fs j ≡ Some g → kind_of g.statement s ≡ None) → opponent fs s ≡ Some (f, k)
opponent_first [] s i f k at kind before = absurd cc
opponent_first (g ∷ gs) s zero f k at kind before = let same : g ≡ f = cc in opponent_step g gs s (Some k) (ap (λ (x : Signed). kind_of x.statement s) same ∙ kind) ∙ ap (λ (x : Signed). Some (x, k)) same
opponent_first (g ∷ gs) s (suc i) f k at kind before = opponent_step g gs s None (before 0 g (omega arith) refl) ∙ opponent_first gs s i f k at kind (λ j h low e. before (suc j) h (omega arith) e)

-- none where none contradicts
opponent_none : (fs : List Signed) (s : Statement) → ((j : ℕ) (g : Signed) → slice_get fs j ≡ Some g → kind_of g.statement s ≡ None) → opponent fs s ≡ None
unfolding opponent
opponent_none [] s all = refl
opponent_none (g ∷ gs) s all = opponent_step g gs s None (all 0 g refl) ∙ opponent_none gs s (λ j h e. all (suc j) h e)

-- ---- entries and their signed statements

-- what holds of the entry at a place holds of the signed statement there
by_entry : (es : List KeptStatement) (s : Statement) (j : ℕ) (g : Signed) → ((e : KeptStatement) → slice_get es j ≡ Some e → kind_of e.statement s ≡ None) → slice_get (map kept_signed es) j ≡ Some g → kind_of g.statement s ≡ None
by_entry es s j g at e = by_read (slice_get es j) refl (sym (slice_get-map kept_signed es j) ∙ e)
  where
    by_read : (o : Option KeptStatement) → slice_get es j ≡ o → option_map kept_signed o ≡ Some g → kind_of g.statement s ≡ None
    by_read None read is = absurd cc
    by_read (Some x) read is = let same : kept_signed x ≡ g = cc in subst (λ (f : Signed). kind_of f.statement s ≡ None) same (at x read)

-- what was found, before which no entry contradicts the statement
answered : (es : List KeptStatement) (s : Statement) (found : Option Found) → ((f : Found) → found ≡ Some f → IsContradictedAt es s f) → ((place : ℕ) (e : KeptStatement) → IsBefore place found → slice_get es place ≡ Some e → kind_of e.statement s ≡ None) → IsContradiction (map kept_signed es) s found
answered es s None here before = opponent_none _ s (λ j g at. by_entry es s j g (λ e read. before j e tt read) at)
answered es s (Some f) here before =
    let mine : IsContradictedAt es s f = here f refl in
    let at : slice_get (map kept_signed es) f.index ≡ Some (kept_signed mine.entry) = slice_get-map kept_signed es f.index ∙ ap (option_map kept_signed) mine.at in
    let none : (j : ℕ) (g : Signed) → j < f.index → slice_get (map kept_signed es) j ≡ Some g → kind_of g.statement s ≡ None = λ j g low is. by_entry es s j g (λ e read. before j e low read) is in
    record { signed = kept_signed mine.entry; at = at; kind = mine.kind; before = none; opponent = opponent_first _ s f.index (kept_signed mine.entry) f.kind at mine.kind none }

-- the same for the first at places where each that contradicts the statement is listed
first_answered : (es : List KeptStatement) (s : Statement) (places : List ℕ) (found : Option Found) → IsFirstOf es places s found → ((place : ℕ) (e : KeptStatement) → slice_get es place ≡ Some e → IsIn place places ⊎ (kind_of e.statement s ≡ None)) → IsContradiction (map kept_signed es) s found
first_answered es s places found first all = answered es s found first.here before
  where
    before : (place : ℕ) (e : KeptStatement) → IsBefore place found → slice_get es place ≡ Some e → kind_of e.statement s ≡ None
    before place e low at = elim (all place e at) [
      | inl known ↦ first.before place e known low at
      | inr none ↦ none
    ]

-- ---- by the marks that are asked for

-- an entry is listed under a mark, or hasn't got it
listed_or : (es : List KeptStatement) (table : PlaceTable) (mark : StatementMark) (place : ℕ) (e : KeptStatement) → IsKeeping es table → slice_get es place ≡ Some e → IsIn place (places_with_mark table mark) ⊎ (is_under mark e ≡ false)
listed_or es table mark place e keeping at = by_test (is_under mark e) refl
  where
    by_test : (b : Bool) → is_under mark e ≡ b → IsIn place (places_with_mark table mark) ⊎ (is_under mark e ≡ false)
    by_test true has = inl (met es table mark place e keeping at has)
    by_test false absent = inr absent

-- the first under the mark that a voucher asks for is the first of all
voucher_answered : (es : List KeptStatement) (table : PlaceTable) (v : Voucher) (id : List ℕ) (found : Option Found) → IsKeeping es table → id ≡ id_of_statement (statements.Voucher v) → IsFirstOf es (places_with_mark table (marks.Number v.node v.seq)) (statements.Voucher v) found → IsContradiction (map kept_signed es) (statements.Voucher v) found
voucher_answered es table v id found keeping is first = first_answered es (statements.Voucher v) _ found first all
  where
    all : (place : ℕ) (e : KeptStatement) → slice_get es place ≡ Some e → IsIn place (places_with_mark table (marks.Number v.node v.seq)) ⊎ (kind_of e.statement (statements.Voucher v) ≡ None)
    all place e at = elim (listed_or es table (marks.Number v.node v.seq) place e keeping at) [
      | inl known ↦ inl known
      | inr absent ↦ inr (asked_alone e.statement e.id (statements.Voucher v) id (entry_of es place e keeping.entries at).id is (absent, tt))
    ]

-- the places under each mark that an update asks for
abbrev asked_places : PlaceTable → Update → List ℕ → List ℕ
asked_places table u id = (places_with_mark table (marks.Number u.writer u.seq) ++ places_with_mark table (marks.Prev u.writer u.prev)) ++ (places_with_mark table (marks.Id u.prev) ++ places_with_mark table (marks.Prev u.writer id))

-- the first under the marks that an update asks for is the first of all
update_answered : (es : List KeptStatement) (table : PlaceTable) (u : Update) (id : List ℕ) (found : Option Found) → IsKeeping es table → id ≡ id_of_statement (statements.Update u) → IsFirstOf es (asked_places table u id) (statements.Update u) found → IsContradiction (map kept_signed es) (statements.Update u) found
update_answered es table u id found keeping is first = first_answered es (statements.Update u) _ found first all
  where
    all : (place : ℕ) (e : KeptStatement) → slice_get es place ≡ Some e → IsIn place (asked_places table u id) ⊎ (kind_of e.statement (statements.Update u) ≡ None)
    all place e at = elim (listed_or es table (marks.Number u.writer u.seq) place e keeping at) [
      | inl known ↦ inl (in_left place (places_with_mark table (marks.Number u.writer u.seq) ++ places_with_mark table (marks.Prev u.writer u.prev)) (places_with_mark table (marks.Id u.prev) ++ places_with_mark table (marks.Prev u.writer id)) (in_left place (places_with_mark table (marks.Number u.writer u.seq)) (places_with_mark table (marks.Prev u.writer u.prev)) known))
      | inr number ↦ elim (listed_or es table (marks.Prev u.writer u.prev) place e keeping at) [
        | inl known ↦ inl (in_left place (places_with_mark table (marks.Number u.writer u.seq) ++ places_with_mark table (marks.Prev u.writer u.prev)) (places_with_mark table (marks.Id u.prev) ++ places_with_mark table (marks.Prev u.writer id)) (in_right place (places_with_mark table (marks.Number u.writer u.seq)) (places_with_mark table (marks.Prev u.writer u.prev)) known))
        | inr prev ↦ elim (listed_or es table (marks.Id u.prev) place e keeping at) [
          | inl known ↦ inl (in_right place (places_with_mark table (marks.Number u.writer u.seq) ++ places_with_mark table (marks.Prev u.writer u.prev)) (places_with_mark table (marks.Id u.prev) ++ places_with_mark table (marks.Prev u.writer id)) (in_left place (places_with_mark table (marks.Id u.prev)) (places_with_mark table (marks.Prev u.writer id)) known))
          | inr named ↦ elim (listed_or es table (marks.Prev u.writer id) place e keeping at) [
            | inl known ↦ inl (in_right place (places_with_mark table (marks.Number u.writer u.seq) ++ places_with_mark table (marks.Prev u.writer u.prev)) (places_with_mark table (marks.Id u.prev) ++ places_with_mark table (marks.Prev u.writer id)) (in_right place (places_with_mark table (marks.Id u.prev)) (places_with_mark table (marks.Prev u.writer id)) known))
            | inr naming ↦ inr (asked_alone e.statement e.id (statements.Update u) id (entry_of es place e keeping.entries at).id is (number, (prev, (named, (naming, tt)))))
          ]
        ]
      ]
    ]

-- ---- what `contradiction` answers

-- for a voucher
pub of_voucher : (es : List KeptStatement) (table : PlaceTable) (kept : List Signed) (s : Statement) (v : Voucher) (w n : ℕ) (id : List ℕ) (found : Option Found) → IsKeeping es table → map kept_signed es ≡ kept → s ≡ statements.Voucher v → w ≡ writer_of s → n ≡ seq_of s → id ≡ id_of_statement s →
    IsFirstOf es (places_with_mark table (marks.Number w n)) s found → IsContradiction kept s found
of_voucher es table kept (statements.Update u) v w n id found keeping seen is writer seq hash first = absurd cc
of_voucher es table kept (statements.Voucher x) v w n id found keeping seen is writer seq hash first =
    let P : StatementMark → Type 0 = λ (m : StatementMark). IsFirstOf es (places_with_mark table m) (statements.Voucher x) found in
    subst (λ (l : List Signed). IsContradiction l (statements.Voucher x) found) seen (voucher_answered es table x id found keeping hash (subst P (is_number (statements.Voucher x) w n writer seq) first))

-- for an update
pub of_update : (es : List KeptStatement) (table : PlaceTable) (kept : List Signed) (s : Statement) (u : Update) (w n : ℕ) (id : List ℕ) (a b c d : Option Found) → IsKeeping es table → map kept_signed es ≡ kept → s ≡ statements.Update u → w ≡ writer_of s → n ≡ seq_of s → id ≡ id_of_statement s →
    IsFirstOf es (places_with_mark table (marks.Number w n)) s a → IsFirstOf es (places_with_mark table (marks.Prev u.writer u.prev)) s b → IsFirstOf es (places_with_mark table (marks.Id u.prev)) s c → IsFirstOf es (places_with_mark table (marks.Prev u.writer id)) s d →
    IsContradiction kept s (earlier_kept (earlier_kept a b) (earlier_kept c d))
of_update es table kept (statements.Voucher v) u w n id a b c d keeping seen is writer seq hash number prev named naming = absurd cc
of_update es table kept (statements.Update t) u w n id a b c d keeping seen is writer seq hash number prev named naming =
    let same : u ≡ t = cc in
    let N : StatementMark → Type 0 = λ (m : StatementMark). IsFirstOf es (places_with_mark table m) (statements.Update t) a in
    let P : Update → Type 0 = λ (x : Update). IsFirstOf es (places_with_mark table (marks.Prev x.writer x.prev)) (statements.Update t) b in
    let Q : Update → Type 0 = λ (x : Update). IsFirstOf es (places_with_mark table (marks.Id x.prev)) (statements.Update t) c in
    let R : Update → Type 0 = λ (x : Update). IsFirstOf es (places_with_mark table (marks.Prev x.writer id)) (statements.Update t) d in
    let upper = first_of_both es _ _ (statements.Update t) a b (subst N (is_number (statements.Update t) w n writer seq) number) (subst P same prev) in
    let lower = first_of_both es _ _ (statements.Update t) c d (subst Q same named) (subst R same naming) in
    subst (λ (l : List Signed). IsContradiction l (statements.Update t) (earlier_kept (earlier_kept a b) (earlier_kept c d))) seen
    (update_answered es table t id _ keeping hash (first_of_both es _ _ (statements.Update t) (earlier_kept a b) (earlier_kept c d) upper lower))

-- ---- what `find` answers

-- the entries under an id are the updates with it
same_from : (h : List ℕ) (n : ℕ) (es : List KeptStatement) → AllByRecursion IsEntry es → position_from (is_under (marks.Id h)) n es ≡ position_from (λ s. is_update_with h s.statement) n (map kept_signed es)
same_from h n [] all = refl
same_from h n (e ∷ es) all =
    ap (λ (b : Bool). cond b (Some n) (position_from (is_under (marks.Id h)) (n + 1) es)) (under_id e h all.0)
    ∙ ap (λ (o : Option ℕ). cond (is_update_with h e.statement) (Some n) o) (same_from h (n + 1) es all.1)

-- the last place under an id
pub last_found : (es : List KeptStatement) (table : PlaceTable) (kept : List Signed) (h : List ℕ) (places : Places) (result : Option ℕ) → IsKeeping es table → map kept_signed es ≡ kept → left places ≡ places_with_mark table (marks.Id h) →
    (xs : List ℕ) × Drains (YieldsFirst left) places xs × (result ≡ last_or None xs) → result ≡ position (λ s. is_update_with h s.statement) kept
unfolding places_under
last_found es table kept h places result keeping seen all (xs, (behind, (at, yielded, ended)), is) =
    let given : xs ≡ places_under (marks.Id h) es = drained left places at behind xs yielded ended ∙ all ∙ keeping.listed (marks.Id h) in
    is
    ∙ ap (λ (l : List ℕ). last_or None l) given
    ∙ last_place (is_under (marks.Id h)) es
    ∙ position_from-zero (is_under (marks.Id h)) es
    ∙ same_from h 0 es keeping.entries
    ∙ sym (position_from-zero (λ (s : Signed). is_update_with h s.statement) (map kept_signed es))
    ∙ ap (λ (l : List Signed). position (λ (s : Signed). is_update_with h s.statement) l) seen
