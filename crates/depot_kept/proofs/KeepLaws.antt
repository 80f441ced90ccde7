-- What is kept, and what is listed of it.
use Rattle.std.proofs.Common.{◌≡◌, ℕ, ◌+◌, ◌<◌, ◌≤◌, List, [], ◌∷◌, ◌++◌, length, length-append, map, Bool, true, false, ◌||◌, sym, ap, subst, ◌∙◌, arith, inl, inr, Some, if◌then◌else◌}
use Rattle.std.specs.List.{slice_get}
use Rattle.std.proofs.lemmas.List.{map-append}
use Rattle.depot_base.specs.Statement.{writer_of, seq_of}
use Rattle.depot_base.specs.declared.statement.Statement.{Statement}
use Rattle.depot_base.specs.declared.statement.Statement.TheVariants as statements
use Rattle.depot_base.specs.declared.statement.Signed.{Signed}
use Rattle.depot_base.specs.declared.update.Update.{Update}
use Rattle.depot_base.specs.declared.voucher.Voucher.{Voucher}
use Rattle.depot_model.specs.lists.Lists.{IsIn}
use Rattle.depot_model.specs.texts.Texts.{IsSigned, id_of_statement}
use Rattle.depot_model.proofs.of_texts.BodyLaws.{body_is_text}
use Rattle.depot_model.proofs.lists.Elements.{each_at}
use Rattle.depot_model.proofs.lists.Members.{all_push}
use Rattle.depot_base.proofs.GeneralLaws.{or_none}
use Rattle.depot_kept.specs.declared.kept_statement.KeptStatement.{KeptStatement}
use Rattle.depot_kept.specs.declared.marks.StatementMark.{StatementMark}
use Rattle.depot_kept.specs.declared.marks.StatementMark.TheVariants as marks
use Rattle.depot_kept.specs.declared.table.PlaceTable.{PlaceTable}
use Rattle.depot_kept.specs.Links.{same_mark}
use Rattle.depot_kept.specs.Table.{link_count, places_with_mark}
use Rattle.depot_kept.specs.StatementMarks.{has_mark}
use Rattle.depot_kept.specs.Entries.{kept_signed, IsEntry, AreEntries}
use Rattle.depot_kept.specs.Keeping.{IsKeeping, places_before, places_under, is_under}
use Rattle.depot_kept.proofs.ListedPlaces.{one_more_place, is_listed, is_within}

-- ---- entries

-- what is kept of a signed statement
abbrev pub entry_for : Signed → List ℕ → KeptStatement
entry_for s id = record { statement = s.statement; signature = s.signature; id = id }

-- it is that signed statement again, since the body is the text of the statement
pub as_it_was : (s : Signed) (id : List ℕ) → IsSigned s → kept_signed (entry_for s id) ≡ s
as_it_was s id text = ap (λ (body : List ℕ). record { statement = s.statement; body = body; signature = s.signature }) (sym (body_is_text s text))

-- an entry at a place
pub entry_of : (es : List KeptStatement) (i : ℕ) (e : KeptStatement) → AreEntries es → slice_get es i ≡ Some e → IsEntry e
entry_of es i e all at = each_at IsEntry es i e all at

-- ---- nothing, and one more

-- nothing is listed where nothing is kept
pub nothing_kept : (es : List KeptStatement) (table : PlaceTable) → es ≡ [] → ((mark : StatementMark) → places_with_mark table mark ≡ []) → link_count table ≡ 0 → IsKeeping es table
unfolding places_under
nothing_kept es table none empty count = rw none (record { entries = tt; listed = empty; few = omega (arith, count) })

-- what is kept with one statement more, listed under its marks
pub kept_more : (es : List KeptStatement) (old between new : PlaceTable) (s : Signed) (id : List ℕ) (place : ℕ) → IsKeeping es old → IsSigned s → id ≡ id_of_statement s.statement → place ≡ length es → ((mark : StatementMark) → places_with_mark between mark ≡ places_with_mark old mark) → link_count new ≤ link_count old + 3 →
    ((mark : StatementMark) → places_with_mark new mark ≡ (if has_mark s.statement id mark then place ∷ places_with_mark between mark else places_with_mark between mark)) → IsKeeping (es ++ entry_for s id ∷ []) new
unfolding places_under
kept_more es old between new s id place keeping text is last same count more =
    let last_place : place ≡ 0 + length es = omega arith in
    record {
      entries = all_push IsEntry es (entry_for s id) keeping.entries (record { signed = subst IsSigned (sym (as_it_was s id text)) text; id = is });
      listed = λ mark.
          more mark
          ∙ ap (λ (k : ℕ). if has_mark s.statement id mark then k ∷ places_with_mark between mark else places_with_mark between mark) last_place
          ∙ ap (λ (ps : List ℕ). if has_mark s.statement id mark then (0 + length es) ∷ ps else ps) (same mark ∙ keeping.listed mark)
          ∙ sym (one_more_place (is_under mark) 0 es (entry_for s id) []);
      few = let before = keeping.few in omega (arith, before, count, length-append es (entry_for s id ∷ []));
    }

-- and so one signed statement more is seen
pub seen_more : (es : List KeptStatement) (kept : List Signed) (s : Signed) (id : List ℕ) → IsSigned s → map kept_signed es ≡ kept → map kept_signed (es ++ entry_for s id ∷ []) ≡ kept ++ s ∷ []
seen_more es kept s id text seen =
    map-append kept_signed es (entry_for s id ∷ [])
    ∙ ap (λ (l : List Signed). l ++ kept_signed (entry_for s id) ∷ []) seen
    ∙ ap (λ (one : Signed). kept ++ one ∷ []) (as_it_was s id text)

-- ---- places

-- an entry with a mark is listed under it
pub met : (es : List KeptStatement) (table : PlaceTable) (mark : StatementMark) (place : ℕ) (e : KeptStatement) → IsKeeping es table → slice_get es place ≡ Some e → is_under mark e ≡ true → IsIn place (places_with_mark table mark)
unfolding places_under
met es table mark place e keeping at has =
    let here : 0 + place ≡ place = omega arith in
    rw (keeping.listed mark) (subst (λ (j : ℕ). IsIn j (places_before (is_under mark) 0 es [])) here (is_listed (is_under mark) 0 es [] place e at has))

-- what is listed is the place of an entry
pub place_low : (es : List KeptStatement) (table : PlaceTable) (mark : StatementMark) (place : ℕ) → IsKeeping es table → IsIn place (places_with_mark table mark) → place < length es
unfolding places_under
place_low es table mark place keeping known =
    let P : List ℕ → Type 0 = λ (l : List ℕ). IsIn place l in
    elim (is_within (is_under mark) 0 es [] place (subst P (keeping.listed mark) known)) [
      | inl nowhere ↦ absurd nowhere
      | inr low ↦ omega arith
    ]

-- ---- the marks of a statement

-- a place more, by a test that is one of several
by_one : (b : Bool) (place : ℕ) (ps : List ℕ) → (if b then place ∷ ps else ps) ≡ (if b || false then place ∷ ps else ps)
by_one b place ps = ap (λ (r : Bool). if r then place ∷ ps else ps) (or_none b)

-- the mark that each statement has
abbrev pub number_of : Statement → StatementMark
number_of s = marks.Number (writer_of s) (seq_of s)

-- the same mark from what was read
pub is_number : (s : Statement) (w n : ℕ) → w ≡ writer_of s → n ≡ seq_of s → marks.Number w n ≡ number_of s
is_number s w n writer seq = ap (λ (x : ℕ). marks.Number x n) writer ∙ ap (λ (x : ℕ). marks.Number (writer_of s) x) seq

-- a place more under that mark
pub under_number : (s : Statement) (w n : ℕ) (mark : StatementMark) (place : ℕ) (old new : List ℕ) → w ≡ writer_of s → n ≡ seq_of s → new ≡ (if same_mark (marks.Number w n) mark then place ∷ old else old) → new ≡ (if same_mark (number_of s) mark then place ∷ old else old)
under_number s w n mark place old new writer seq one = one ∙ ap (λ (m : StatementMark). if same_mark m mark then place ∷ old else old) (is_number s w n writer seq)

-- all the marks of a voucher
pub under_voucher : (s : Statement) (v : Voucher) (id : List ℕ) (mark : StatementMark) (place : ℕ) (old new : List ℕ) → s ≡ statements.Voucher v → new ≡ (if same_mark (number_of s) mark then place ∷ old else old) →
    new ≡ (if has_mark s id mark then place ∷ old else old)
unfolding has_mark
under_voucher (statements.Voucher w) v id mark place old new is one = one ∙ by_one (same_mark (marks.Number w.node w.seq) mark) place old
under_voucher (statements.Update u) v id mark place old new is one = absurd cc

-- a place more under each of three marks
three_marks : (u : Update) (id : List ℕ) (mark : StatementMark) (place : ℕ) (old first second new : List ℕ) → first ≡ (if same_mark (marks.Number u.writer u.seq) mark then place ∷ old else old) →
    second ≡ (if same_mark (marks.Prev u.writer u.prev) mark then place ∷ first else first) → new ≡ (if same_mark (marks.Id id) mark then place ∷ second else second) →
    new ≡ (if has_mark (statements.Update u) id mark then place ∷ old else old)
unfolding has_mark
three_marks u id (marks.Number w n) place old first second new one two three = three ∙ two ∙ one ∙ by_one (same_mark (marks.Number u.writer u.seq) (marks.Number w n)) place old
three_marks u id (marks.Prev w h) place old first second new one two three =
    three ∙ two ∙ ap (λ (ps : List ℕ). if same_mark (marks.Prev u.writer u.prev) (marks.Prev w h) then place ∷ ps else ps) one ∙ by_one (same_mark (marks.Prev u.writer u.prev) (marks.Prev w h)) place old
three_marks u id (marks.Id h) place old first second new one two three =
    three ∙ ap (λ (ps : List ℕ). if same_mark (marks.Id id) (marks.Id h) then place ∷ ps else ps) (two ∙ one) ∙ by_one (same_mark (marks.Id id) (marks.Id h)) place old

-- all the marks of an update
pub under_update : (s : Statement) (u : Update) (id : List ℕ) (mark : StatementMark) (place : ℕ) (old first second new : List ℕ) → s ≡ statements.Update u → first ≡ (if same_mark (number_of s) mark then place ∷ old else old) →
    second ≡ (if same_mark (marks.Prev u.writer u.prev) mark then place ∷ first else first) → new ≡ (if same_mark (marks.Id id) mark then place ∷ second else second) →
    new ≡ (if has_mark s id mark then place ∷ old else old)
under_update (statements.Update t) u id mark place old first second new is one two three =
    let same : t ≡ u = cc in
    let P : Update → Type 0 = λ (x : Update). second ≡ (if same_mark (marks.Prev x.writer x.prev) mark then place ∷ first else first) in
    three_marks t id mark place old first second new one (subst P (sym same) two) three
under_update (statements.Voucher v) u id mark place old first second new is one two three = absurd cc
