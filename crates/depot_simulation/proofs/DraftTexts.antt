-- The update that a faulty node signs has a text, and its parents were seen.
use Rattle.std.proofs.Common.{◌≡◌, ℕ, ◌≤◌, Bool, true, false, cond, eqb, leb, List, [], ◌∷◌, ◌++◌, length, map, Option, Some, None, option_map, option_and_then, refl, sym, ap, subst, ◌∙◌, inl, inr, arith}
use Rattle.std.specs.List.{AllByRecursion, list_any}
use Rattle.std.specs.Int.{w8}
use Rattle.std.specs.Str.{bytes_eq}
use Rattle.sha2.specs.Sha256.{sha256}
use Rattle.std.proofs.lemmas.Bool.{and_parts, both_ways, false_from_ne_true, or_left}
use Rattle.std.proofs.lemmas.Bool.Decides.{nat_tests}
use Rattle.std.proofs.lemmas.List.{length-map}
use Rattle.sha2.proofs.Facts256.{length-sha256}
use Rattle.depot_base.specs.Format.{bytes_of, list_of, number}
use Rattle.depot_base.specs.Parts.{deps_of, digest}
use Rattle.depot_base.specs.Zeros.{zeros}
use Rattle.depot_base.specs.declared.statement.Statement.TheVariants as statement
use Rattle.depot_base.specs.declared.update.Dep.{Dep}
use Rattle.depot_base.specs.Writes.{is_put}
use Rattle.depot_base.specs.declared.update.Update.{Update}
use Rattle.depot_base.specs.declared.write.Change.{Change}
use Rattle.depot_base.specs.declared.write.Write.{Write}
use Rattle.depot_model.specs.exchange.Bundle.{Signs}
use Rattle.depot_model.specs.updates.History.{by_id, history_hash}
use Rattle.depot_model.specs.journals.Journal.{has_id}
use Rattle.depot_model.specs.lists.Lists.{IsIn, is_among}
use Rattle.depot_model.specs.texts.Log.{firsts, firsts_behind}
use Rattle.depot_model.specs.updates.Order.{is_named, parents, past}
use Rattle.depot_model.specs.checks.Own.{entry_of, write_of}
use Rattle.depot_model.specs.texts.Texts.{IsStatement, IsUpdate, id_of_update, update_body, update_fields, version_of}
use Rattle.depot_model.specs.checks.Vouching.{rising}
use Rattle.depot_model.proofs.lists.Members.{all_from, among-append, among_from, any_from, in_last}
use Rattle.depot_laws.proofs.records.NewVouchers.{voucher_fits}
use Rattle.depot_laws.proofs.own_updates.OwnTexts.{entry_fits, id_is_digest}
use Rattle.depot_laws.proofs.records.LawfulRecords.{IsStatement-from_own_voucher}
use Rattle.depot_laws.proofs.lists.Sorted.{entries_follow}
use Rattle.depot_model.proofs.lists.RisingUpdates.{HaveOwnIds, rises_by_id, from_by_id, by_id_length as long_by_id}
use Rattle.depot_model.proofs.of_updates.ChangeLaws.{changes_written}
use Rattle.depot_model.proofs.of_texts.FieldFacts.{writes_fit}
use Rattle.depot_schedule.specs.EventWords.{FitsHistory, first_or}
use Rattle.depot_schedule.specs.declared.event.HistoryWord.{HistoryWord}
use Rattle.depot_schedule.specs.declared.event.HistoryWord.TheVariants as history_word
use Rattle.depot_schedule.specs.declared.event.Ref.{Ref}
use Rattle.depot_world.specs.Run.{Run, id_referred, plain_referred, referred}
use Rattle.depot_world.specs.FaultySigning.{all_of, all_referred, drafted, entries_of, history_by, prev_of_ref, updated, with_history}
use Rattle.depot_base.proofs.GeneralLaws.{all_both}
use Rattle.depot_simulation.specs.Drafts.{MaySign, MayVouchFor}
use Rattle.depot_scenario.specs.KnownUpdates.{HasSeenParents, MayAsk}
use Rattle.depot_simulation.specs.Asking.{asks_past}
use Rattle.depot_simulation.proofs.EventFields.{voucher_sizes}
use Rattle.depot_simulation.proofs.LabelledUpdates.{AreNamedWell, IsNamed, as_many, as_many_ids, each_is, id_named}

-- ---- updates without those that occur earlier

-- none has an id that precedes them
new_firsts : (ids : List (List ℕ)) (us : List Update) (u : Update) → IsIn u (firsts_behind ids us) → is_among (id_of_update u) ids ≡ false
unfolding firsts_behind
new_firsts ids [] u never = absurd never
new_firsts ids (x ∷ us) u on = choice (is_among (id_of_update x) ids) refl on (λ there. new_firsts ids us u there) (λ there. new_firsts (ids ++ id_of_update x ∷ []) us u there) where
  choice : (b : Bool) → is_among (id_of_update x) ids ≡ b → IsIn u (cond b (firsts_behind ids us) (x ∷ firsts_behind (ids ++ id_of_update x ∷ []) us)) → (IsIn u (firsts_behind ids us) → is_among (id_of_update u) ids ≡ false)
      → (IsIn u (firsts_behind (ids ++ id_of_update x ∷ []) us) → is_among (id_of_update u) (ids ++ id_of_update x ∷ []) ≡ false) → is_among (id_of_update u) ids ≡ false
  choice true is there same more = same there
  choice false is (inl here) same more = ap (λ (v : Update). is_among (id_of_update v) ids) (sym here) ∙ is
  choice false is (inr there) same more = false_from_ne_true (is_among (id_of_update u) ids) (λ e.
      let h = id_of_update u in
      both_ways (is_among h (ids ++ id_of_update x ∷ [])) (more there) (among-append h ids (id_of_update x ∷ []) ∙ or_left (is_among h ids) (is_among h (id_of_update x ∷ [])) e))

-- no id occurs twice
apart_firsts : (ids : List (List ℕ)) (us : List Update) → HaveOwnIds (firsts_behind ids us)
unfolding firsts_behind
apart_firsts ids [] = tt
apart_firsts ids (x ∷ us) = choice (is_among (id_of_update x) ids) (apart_firsts ids us) (apart_firsts (ids ++ id_of_update x ∷ []) us) where
  choice : (b : Bool) → HaveOwnIds (firsts_behind ids us) → HaveOwnIds (firsts_behind (ids ++ id_of_update x ∷ []) us) → HaveOwnIds (cond b (firsts_behind ids us) (x ∷ firsts_behind (ids ++ id_of_update x ∷ []) us))
  choice true same more = same
  choice false same more = (
    all_from (λ (v : Update). id_of_update v ≡ id_of_update x → ⊥) (firsts_behind (ids ++ id_of_update x ∷ []) us) (λ v on e.
        both_ways (is_among (id_of_update v) (ids ++ id_of_update x ∷ [])) (new_firsts (ids ++ id_of_update x ∷ []) us v on)
        (among_from (id_of_update v) (ids ++ id_of_update x ∷ []) (subst (λ (h : List ℕ). IsIn h (ids ++ id_of_update x ∷ [])) (sym e) (in_last ids (id_of_update x))))),
    more,
  )

from_firsts : (ids : List (List ℕ)) (us : List Update) (u : Update) → IsIn u (firsts_behind ids us) → IsIn u us
unfolding firsts_behind
from_firsts ids [] u never = never
from_firsts ids (x ∷ us) u on = choice (is_among (id_of_update x) ids) on (λ there. from_firsts ids us u there) (λ there. from_firsts (ids ++ id_of_update x ∷ []) us u there) where
  choice : (b : Bool) → IsIn u (cond b (firsts_behind ids us) (x ∷ firsts_behind (ids ++ id_of_update x ∷ []) us)) → (IsIn u (firsts_behind ids us) → IsIn u us) → (IsIn u (firsts_behind (ids ++ id_of_update x ∷ []) us) → IsIn u us) → IsIn u (x ∷ us)
  choice true there same more = inr (same there)
  choice false (inl here) same more = inl here
  choice false (inr there) same more = inr (more there)

short_firsts : (ids : List (List ℕ)) (us : List Update) → length (firsts_behind ids us) ≤ length us
unfolding firsts_behind
short_firsts ids [] = omega arith
short_firsts ids (x ∷ us) = choice (is_among (id_of_update x) ids) (short_firsts ids us) (short_firsts (ids ++ id_of_update x ∷ []) us) where
  choice : (b : Bool) → length (firsts_behind ids us) ≤ length us → length (firsts_behind (ids ++ id_of_update x ∷ []) us) ≤ length us → length (cond b (firsts_behind ids us) (x ∷ firsts_behind (ids ++ id_of_update x ∷ []) us)) ≤ length (x ∷ us)
  choice true same more = omega (arith, same)
  choice false same more = omega (arith, more)

-- ---- its entries

-- what its entries come from
record AreEntries (run : Run) (writer : ℕ) (refs : List Ref) (es : List Update) : Type 0 where
  pub named : List Update
  pub are : all_referred run refs ≡ Some named
  pub others : list_any (λ u. eqb u.writer writer) named ≡ false
  pub is : by_id (firsts named) ≡ es

entries_are : (run : Run) (writer : ℕ) (refs : List Ref) (es : List Update) → entries_of run writer refs ≡ Some es → AreEntries run writer refs es
entries_are run writer refs es e = by_all (all_referred run refs) refl e where
  by_test : (us : List Update) (b : Bool) → all_referred run refs ≡ Some us → list_any (λ u. eqb u.writer writer) us ≡ b → cond b None (Some (by_id (firsts us))) ≡ Some es → AreEntries run writer refs es
  by_test us true are own is = absurd cc
  by_test us false are own is = record { named = us; are = are; others = own; is = cc }

  by_all : (o : Option (List Update)) → all_referred run refs ≡ o → option_and_then (λ us. cond (list_any (λ u. eqb u.writer writer) us) None (Some (by_id (firsts us)))) o ≡ Some es → AreEntries run writer refs es
  by_all None are is = absurd cc
  by_all (Some us) are is = by_test us (list_any (λ u. eqb u.writer writer) us) are refl is

-- each of them is named, and no id occurs twice
record AreGood (writer : ℕ) (seen : List Update) (es : List Update) : Type 0 where
  pub named : (u : Update) → IsIn u es → IsNamed seen u
  pub fit : (deps_of writer (length (map entry_of es))).fits (map entry_of es)

fit_in_order : (writer : ℕ) (us : List Update) → ((u : Update) → IsIn u us → IsUpdate u) → list_any (λ u. eqb u.writer writer) us ≡ false
    → (deps_of writer (length (map entry_of (by_id (firsts us))))).fits (map entry_of (by_id (firsts us)))
unfolding list_of
fit_in_order writer us fit others =
    let from : (u : Update) → IsIn u (by_id (firsts us)) → IsIn u us = λ u on. from_firsts [] us u (from_by_id u (firsts us) on) in (
      entries_follow writer [] (by_id (firsts us)) (rises_by_id (firsts us) (apart_firsts [] us)) (λ u on. refl) (λ u on. entry_fits u (fit u (from u on)))
          (λ u on. false_from_ne_true (eqb u.writer writer) (λ own. both_ways (list_any (λ v. eqb v.writer writer) us) others (any_from (λ v. eqb v.writer writer) u us (from u on) own))),
      refl,
    )

good_entries : (run : Run) (writer : ℕ) (refs : List Ref) (es : List Update) → AreNamedWell run → AreEntries run writer refs es → AreGood writer run.seen es
good_entries run writer refs es named_well e =
    let each = each_is run refs e.named named_well e.are in
    subst (λ (xs : List Update). AreGood writer run.seen xs) e.is (record {
      named = λ u on. each u (from_firsts [] e.named u (from_by_id u (firsts e.named) on));
      fit = fit_in_order writer e.named (λ u on. (each u on).fits) e.others;
    })

few_entries : (run : Run) (writer : ℕ) (refs : List Ref) (es : List Update) → AreEntries run writer refs es → length (map entry_of es) ≤ length refs
few_entries run writer refs es e =
    omega (arith, length-map es entry_of, ap (λ (xs : List Update). length xs) e.is, long_by_id (firsts e.named), short_firsts [] e.named, as_many run refs e.named e.are)

-- ---- its prev

-- it names nothing, or an update
record IsPrev (seen : List Update) (p : List ℕ) : Type 0 where
  pub fits : digest.fits p
  pub was : bytes_eq p zeros ≡ false → has_id seen p ≡ true

prev_is : (run : Run) (prev : Option Ref) (p : List ℕ) → AreNamedWell run → prev_of_ref run prev ≡ Some p → IsPrev run.seen p
unfolding bytes_of
prev_is run None p named_well is =
    let none : zeros ≡ p = cc in
    subst (λ (h : List ℕ). IsPrev run.seen h) none (record { fits = refl; was = λ e. absurd cc })
prev_is run (Some r) p named_well is = by_named (referred run r) refl is where
  by_named : (o : Option Update) → referred run r ≡ o → option_map id_of_update o ≡ Some p → IsPrev run.seen p
  by_named None named e = absurd cc
  by_named (Some u) named e =
      let here : id_of_update u ≡ p = cc in
      subst (λ (h : List ℕ). IsPrev run.seen h) here (record { fits = id_is_digest u; was = λ no. (named_well r u named).was })

-- ---- its parents

seen_prev : (seen : List Update) (p : List ℕ) → (bytes_eq p zeros ≡ false → has_id seen p ≡ true) → AllByRecursion (λ h. has_id seen h ≡ true) (cond (bytes_eq p zeros) [] (p ∷ []))
seen_prev seen p was = choice (bytes_eq p zeros) was where
  choice : (b : Bool) → (b ≡ false → has_id seen p ≡ true) → AllByRecursion (λ h. has_id seen h ≡ true) (cond b [] (p ∷ []))
  choice true known = tt
  choice false known = (known refl, tt)

seen_entries : (seen es : List Update) → ((u : Update) → IsIn u es → IsNamed seen u) → AllByRecursion (λ h. has_id seen h ≡ true) (map (λ d. d.id) (map entry_of es))
seen_entries seen [] named = tt
seen_entries seen (u ∷ es) named = ((named u (inl refl)).was, seen_entries seen es (λ v on. named v (inr on)))

-- ---- what a schedule says of it

history_is_digest : (seen : List Update) (history : HistoryWord) (u : Update) → FitsHistory history → digest.fits (history_by seen history u)
unfolding history_hash bytes_of
history_is_digest seen history_word.Right u fits = length-sha256 _
history_is_digest seen (history_word.Given h) u (long, bytes) = let p = and_parts (leb 32 (length h)) (leb (length h) 32) long in grind (arith, nat_tests, p.0, p.1)

-- ---- the update

-- what has to hold of its parts
record IsDrafted (writer : ℕ) (seen : List Update) (p : List ℕ) (es : List Update) : Type 0 where
  pub prev : IsPrev seen p
  pub entries : AreGood writer seen es
  pub few : length (map entry_of es) ≤ 1024

version_fits : (ws : List Write) → (number w8 1 2).fits (version_of ws)
unfolding number
version_fits [] = (omega arith, omega arith)
version_fits (w ∷ []) = one_or_two (is_put w.what) where
  one_or_two : (b : Bool) → (1 ≤ cond b 1 2) × (cond b 1 2 ≤ 2)
  one_or_two true = (omega arith, omega arith)
  one_or_two false = (omega arith, omega arith)
version_fits (w ∷ v ∷ ws) = (omega arith, omega arith)

text_of_draft : (writer seq clock : ℕ) (p : List ℕ) (changes : List Change) (seen es : List Update) (refs : List Ref) (history : HistoryWord) (h : List ℕ) → MaySign writer seq clock changes refs history → IsDrafted writer seen p es → digest.fits h
    → IsUpdate (with_history (drafted writer seq clock p (map write_of changes) es) h)
unfolding update_body update_fields number bytes_of
text_of_draft writer seq clock p changes seen es refs history h sized draft hash = (
  version_fits (map write_of changes),
  (
    (omega arith, omega arith),
    (
      sized.writer_is,
      (
        (omega arith, sized.seq_most),
        (
          (sized.clock_least, omega (arith, sized.clock_most)),
          (draft.prev.fits, (writes_fit (map write_of changes) (changes_written changes sized.changes_are), ((omega arith, draft.few), (draft.entries.fit, (hash, refl))))),
        ),
      ),
    ),
  ),
)

parents_of_draft : (writer seq clock : ℕ) (p : List ℕ) (changes : List Change) (seen es : List Update) (h : List ℕ) → IsDrafted writer seen p es → HasSeenParents seen (with_history (drafted writer seq clock p (map write_of changes) es) h)
parents_of_draft writer seq clock p changes seen es h draft =
    all_both (λ (x : List ℕ). has_id seen x ≡ true) (cond (bytes_eq p zeros) [] (p ∷ [])) (map (λ d. d.id) (map entry_of es)) (seen_prev seen p draft.prev.was) (seen_entries seen es draft.entries.named)

-- ---- its history hash

past-with_history : (u : Update) (h : List ℕ) (us : List Update) → past (with_history u h) us ≡ past u us
unfolding past
past-with_history u h [] = refl
past-with_history u h (t ∷ ts) = ap (λ (ps : List Update). cond (is_named t (u ∷ ps)) (t ∷ ps) ps) (past-with_history u h ts)

-- it doesn't matter what was in its place
history_by-with_history : (seen : List Update) (history : HistoryWord) (u : Update) (h : List ℕ) → history_by seen history (with_history u h) ≡ history_by seen history u
history_by-with_history seen history_word.Right u h = ap (λ (ps : List Update). history_hash ps) (past-with_history u h seen)
history_by-with_history seen (history_word.Given hash) u h = refl

-- ---- an update that a faulty node signs

-- it has a text, and its parents were seen
pub record IsSeenUpdate (seen : List Update) (u : Update) : Type 0 where
  pub fits : IsUpdate u
  pub parents : HasSeenParents seen u

drafted_is : (run : Run) (writer seq clock : ℕ) (prev : Option Ref) (p : List ℕ) (changes : List Change) (refs : List Ref) (history : HistoryWord) (es : List Update) → AreNamedWell run → MaySign writer seq clock changes refs history
    → prev_of_ref run prev ≡ Some p → entries_of run writer refs ≡ Some es → IsDrafted writer run.seen p es
drafted_is run writer seq clock prev p changes refs history es named_well may is are =
    let from = entries_are run writer refs es are in
    record { prev = prev_is run prev p named_well is; entries = good_entries run writer refs es named_well from; few = omega (arith, few_entries run writer refs es from, may.few) }

pub updated_is_seen : (run : Run) (sign : Signs) (writer seq clock : ℕ) (prev : Option Ref) (changes : List Change) (refs : List Ref) (history : HistoryWord) (u : Update) → AreNamedWell run
    → MaySign writer seq clock changes refs history → Some u ≡ updated sign run writer seq clock prev changes refs history → IsSeenUpdate run.seen u
unfolding updated
updated_is_seen run sign writer seq clock prev changes refs history u named_well may is = by_prev (prev_of_ref run prev) refl is where
  by_entries : (p : List ℕ) (o : Option (List Update)) → prev_of_ref run prev ≡ Some p → entries_of run writer refs ≡ o
      → Some u ≡ option_map (λ us. with_history (drafted writer seq clock p (map write_of changes) us) (history_by run.seen history (drafted writer seq clock p (map write_of changes) us))) o → IsSeenUpdate run.seen u
  by_entries p None named are e = absurd cc
  by_entries p (Some es) named are e =
      let d = drafted writer seq clock p (map write_of changes) es in
      let same : with_history d (history_by run.seen history d) ≡ u = cc in
      let draft = drafted_is run writer seq clock prev p changes refs history es named_well may named are in
      subst (λ (x : Update). IsSeenUpdate run.seen x) same (record {
        fits = text_of_draft writer seq clock p changes run.seen es refs history (history_by run.seen history d) may draft (history_is_digest run.seen history d may.history_fits);
        parents = parents_of_draft writer seq clock p changes run.seen es (history_by run.seen history d) draft;
      })

  by_prev : (o : Option (List ℕ)) → prev_of_ref run prev ≡ o
      → Some u ≡ option_and_then (λ p. option_map (λ us. with_history (drafted writer seq clock p (map write_of changes) us) (history_by run.seen history (drafted writer seq clock p (map write_of changes) us))) (entries_of run writer refs)) o → IsSeenUpdate run.seen u
  by_prev None named e = absurd cc
  by_prev (Some p) named e = by_entries p (entries_of run writer refs) named refl e

-- ---- as it is put together

-- its prev names nothing
pub no_prev : (sign : Signs) (run : Run) (writer seq clock : ℕ) (prev : Option Ref) (changes : List Change) (refs : List Ref) (history : HistoryWord) → None ≡ prev_of_ref run prev → None ≡ updated sign run writer seq clock prev changes refs history
unfolding updated
no_prev sign run writer seq clock prev changes refs history none = rw (← none) refl

-- its entries name nothing
pub no_entries : (sign : Signs) (run : Run) (writer seq clock : ℕ) (prev : Option Ref) (changes : List Change) (refs : List Ref) (history : HistoryWord) → None ≡ option_map (λ us. map entry_of us) (entries_of run writer refs)
    → None ≡ updated sign run writer seq clock prev changes refs history
unfolding updated
no_entries sign run writer seq clock prev changes refs history none = by_prev (prev_of_ref run prev) (entries_of run writer refs) none where
  by_prev : (o : Option (List ℕ)) (es : Option (List Update)) → None ≡ option_map (λ us. map entry_of us) es
      → None ≡ option_and_then (λ p. option_map (λ us. with_history (drafted writer seq clock p (map write_of changes) us) (history_by run.seen history (drafted writer seq clock p (map write_of changes) us))) es) o
  by_prev None es e = refl
  by_prev (Some p) None e = refl
  by_prev (Some p) (Some us) e = absurd cc

-- the updates that its entries name
record HasEntries (run : Run) (writer : ℕ) (refs : List Ref) (deps : List Dep) : Type 0 where
  pub entries : List Update
  pub are : entries_of run writer refs ≡ Some entries
  pub is : deps ≡ map entry_of entries

has_entries : (run : Run) (writer : ℕ) (refs : List Ref) (deps : List Dep) → Some deps ≡ option_map (λ us. map entry_of us) (entries_of run writer refs) → HasEntries run writer refs deps
has_entries run writer refs deps e = by_entries (entries_of run writer refs) refl e where
  by_entries : (o : Option (List Update)) → entries_of run writer refs ≡ o → Some deps ≡ option_map (λ us. map entry_of us) o → HasEntries run writer refs deps
  by_entries None are is = absurd cc
  by_entries (Some es) are is = record { entries = es; are = are; is = cc }

-- this is how the draft is put together
abbrev pub IsPutTogether : ℕ → ℕ → ℕ → List ℕ → List Change → List Dep → Update → Type 0
IsPutTogether writer seq clock p changes deps draft = (us : List Update) → deps ≡ map entry_of us → draft ≡ with_history (drafted writer seq clock p (map write_of changes) us) zeros

-- its parents were seen
pub draft_is_seen : (run : Run) (writer seq clock : ℕ) (prev : Option Ref) (p : List ℕ) (changes : List Change) (refs : List Ref) (history : HistoryWord) (deps : List Dep) (draft : Update) → AreNamedWell run
    → MaySign writer seq clock changes refs history → Some p ≡ prev_of_ref run prev → Some deps ≡ option_map (λ us. map entry_of us) (entries_of run writer refs) → IsPutTogether writer seq clock p changes deps draft → HasSeenParents run.seen draft
draft_is_seen run writer seq clock prev p changes refs history deps draft named_well may is are made =
    let es = has_entries run writer refs deps are in
    subst (λ (x : Update). HasSeenParents run.seen x) (sym (made es.entries es.is))
    (parents_of_draft writer seq clock p changes run.seen es.entries zeros (drafted_is run writer seq clock prev p changes refs history es.entries named_well may (sym is) es.are))

-- with its history hash it is the update
pub draft_is_updated : (sign : Signs) (run : Run) (writer seq clock : ℕ) (prev : Option Ref) (p : List ℕ) (changes : List Change) (refs : List Ref) (history : HistoryWord) (deps : List Dep) (draft u : Update) → Some p ≡ prev_of_ref run prev
    → Some deps ≡ option_map (λ us. map entry_of us) (entries_of run writer refs) → IsPutTogether writer seq clock p changes deps draft → u ≡ with_history draft (history_by run.seen history draft) → Some u ≡ updated sign run writer seq clock prev changes refs history
unfolding updated
draft_is_updated sign run writer seq clock prev p changes refs history deps draft u is are made now =
    let es = has_entries run writer refs deps are in
    let d = drafted writer seq clock p (map write_of changes) es.entries in
    let same : u ≡ with_history d (history_by run.seen history d) =
    now ∙ ap (λ (x : Update). with_history x (history_by run.seen history x)) (made es.entries es.is) ∙ ap (λ (h : List ℕ). with_history d h) (history_by-with_history run.seen history d zeros) in
    rw (← is, es.are) (ap (λ (x : Update). Some x) same)

-- ---- what a faulty node vouches for

voucher_sized : (node seq : ℕ) (refs : List Ref) (ids : List (List ℕ)) → MayVouchFor node seq refs → length ids ≡ length refs → ((h : List ℕ) → IsIn h ids → digest.fits h) → IsStatement (statement.Voucher (record { node = node; seq = seq; ids = rising ids }))
unfolding number
voucher_sized node seq refs ids (s, (label, fits)) long digests =
    let v = voucher_sizes s label node seq refs fits in
    IsStatement-from_own_voucher (record { node = node; seq = seq; ids = rising ids })
    (voucher_fits node seq ids v.node_is v.seq_most (record { some = omega (arith, long, v.some); most = omega (arith, long, v.few) }) digests)

-- each id that a reference names for a voucher is a digest
id_is_good : (run : Run) (r : Ref) (h : List ℕ) → id_referred run r ≡ Some h → digest.fits h
unfolding id_referred bytes_of
id_is_good run r h is = by_parts (plain_referred run r) (referred run r) is where
  by_parts : (o : Option (List ℕ)) (p : Option Update) → first_or (option_map sha256 o) (option_map id_of_update p) ≡ Some h → digest.fits h
  by_parts (Some bytes) p e = let same : sha256 bytes ≡ h = cc in subst (λ (x : List ℕ). length x ≡ 32) same (length-sha256 bytes)
  by_parts None None e = absurd cc
  by_parts None (Some u) e = let same : id_of_update u ≡ h = cc in subst (λ (x : List ℕ). digest.fits x) same (id_is_digest u)

-- a voucher for the ids that references name has a text
pub vouched_has_text : (run : Run) (node seq : ℕ) (refs : List Ref) (named ids : List (List ℕ)) → Some named ≡ all_of (map (id_referred run) refs) → ids ≡ rising named → MayVouchFor node seq refs → IsStatement (statement.Voucher (record { node = node; seq = seq; ids = ids }))
vouched_has_text run node seq refs named ids are is may =
    subst (λ (hs : List (List ℕ)). IsStatement (statement.Voucher (record { node = node; seq = seq; ids = hs }))) (sym is)
    (voucher_sized node seq refs named may (as_many_ids run refs named (sym are)) (λ h on. let r = id_named run refs named h (sym are) on in id_is_good run r.0 h r.1))

-- a right history that isn't asked for is that of an update without parents
pub may_ask : (asked : Bool) (run : Run) (writer seq clock : ℕ) (prev : Option Ref) (p : List ℕ) (changes : List Change) (refs : List Ref) (history : HistoryWord) (deps : List Dep) (draft : Update) → (asks_past prev refs history ≡ true → asked ≡ true)
    → Some p ≡ prev_of_ref run prev → Some deps ≡ option_map (λ us. map entry_of us) (entries_of run writer refs) → IsPutTogether writer seq clock p changes deps draft → MayAsk asked draft history
unfolding all_of firsts_behind by_id
may_ask asked run writer seq clock prev p changes refs (history_word.Given h) deps draft ask is are made = tt
may_ask asked run writer seq clock (Some r) p changes refs history_word.Right deps draft ask is are made = inr (ask refl)
may_ask asked run writer seq clock None p changes (r ∷ rs) history_word.Right deps draft ask is are made = inr (ask refl)
may_ask asked run writer seq clock None p changes [] history_word.Right deps draft ask is are made =
    let zero : p ≡ zeros = cc in
    let none : deps ≡ [] = cc in
    let with : List ℕ → Update = λ q. with_history (drafted writer seq clock q (map write_of changes) []) zeros in
    inl (subst (λ (x : Update). parents x ≡ []) (sym (made [] none)) (subst (λ (q : List ℕ). parents (with q) ≡ []) (sym zero) refl))
