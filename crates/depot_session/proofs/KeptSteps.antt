-- The reads that are kept of a run, command by command.
use Rattle.std.proofs.Common.{◌≡◌, ◌<◌, ◌≤◌, ℕ, zero, suc, ◌+◌, IsTrue, List, [], ◌∷◌, ◌++◌, length, map, drop, get_or, Option, Some, None, Result, Ok, Err, refl, sym, ap, subst, ◌∙◌, inl, inr, arith}
use Rattle.std.specs.Prelude.{is_some, IsSome, IfSome, OnOk}
use Rattle.std.specs.List.{AllByRecursion, list_any}
use Rattle.std.proofs.Math.Seq.{drop-length}
use Rattle.std.proofs.lemmas.List.{drop-append-le, length-append, map-append}
use Rattle.depot_base.specs.declared.record.Record.{Record}
use Rattle.depot_model.proofs.lists.Members.{all_push, any_from}
use Rattle.depot_model.specs.lists.Lists.{IsIn}
use Rattle.depot_model.specs.exchange.Bundle.{Signs}
use Rattle.depot_model.specs.checks.Checks.{Setting}
use Rattle.depot_model.specs.worlds.World.{Read}
use Rattle.depot_script.specs.declared.command.Command.{Command}
use Rattle.depot_script.specs.declared.command.Command.TheVariants as command
use Rattle.depot_traces.specs.SeenTraces as seen
use Rattle.depot_traces.specs.TraceTexts.{read_text}
use Rattle.depot_traces.specs.declared.trace.ReadTrace.{ReadTrace}
use Rattle.depot_world.specs.Audits.{traced_read}
use Rattle.depot_requests.specs.Effects.{read_at_end}
use Rattle.depot_session.specs.KeptReads.{AreOfRun, FitWithin, IsOneMore, KeepsReads, is_export}
use Rattle.depot_session.specs.Sessions.{Session, answers_of, reads_of_run, step_of}
use Rattle.depot_session.proofs.CorrectSteps.{IsNoGet, step_reads}
use Rattle.depot_session.proofs.StepGrowth.{step_begun}

-- ---- what is kept

-- within a limit it is within a higher one
pub fit_so : (n m : ℕ) (reads : Option (List ReadTrace)) → n ≤ m → FitWithin n reads → FitWithin m reads
fit_so n m None le fit = tt
fit_so n m (Some rs) le fit = (fit.0, omega (arith, le, fit.1))

-- where a session has the reads of another, it is of both runs
of_run_so : (s t : Session) (reads : Option (List ReadTrace)) → t.earlier ≡ s.earlier → t.correct.reads ≡ s.correct.reads → AreOfRun s reads → AreOfRun t reads
of_run_so s t None begun same are = tt
of_run_so s t (Some rs) begun same are =
    let P : ℕ → List Read → Type 0 = λ n all. (n ≤ length all) × (map seen.read_of rs ≡ map traced_read (drop n all)) in
    subst (λ (all : List Read). P t.earlier all) (sym same) (subst (λ (n : ℕ). P n s.correct.reads) (sym begun) are)

-- what is kept is few, and each has a text
pub few_kept : (reads : Option (List ReadTrace)) (rs : List ReadTrace) → FitWithin 100000 reads → reads ≡ Some rs → length rs ≤ 1000000
few_kept reads rs fit is = let here : FitWithin 100000 (Some rs) = subst (FitWithin 100000) is fit in omega (arith, here.1)

pub fit_kept : (reads : Option (List ReadTrace)) (rs : List ReadTrace) → FitWithin 100000 reads → reads ≡ Some rs → AllByRecursion read_text.fits rs
fit_kept reads rs fit is = let here : FitWithin 100000 (Some rs) = subst (FitWithin 100000) is fit in here.0

-- and they are the reads of the run
pub kept_are : (s : Session) (reads : Option (List ReadTrace)) (rs : List ReadTrace) → AreOfRun s reads → reads ≡ Some rs → map seen.read_of rs ≡ map traced_read (reads_of_run s)
kept_are s reads rs are is = let here : AreOfRun s (Some rs) = subst (AreOfRun s) is are in here.1

-- ---- a command

-- a command that reads nothing keeps what is kept
keeps_same : (here : Setting) (sign : Signs) (J : List Record) (c : Command) (reads : Option (List ReadTrace)) → IsNoGet c → KeepsReads here sign J c reads reads
keeps_same here sign J c reads other = record {
  kept = refl;
  fit = λ n fit. fit_so n (n + 1) reads (omega arith) fit;
  of_run = λ s at are. of_run_so s (step_of here sign s c).session reads (step_begun here sign s c) (step_reads here sign s c other) are;
}

pub keeps_unread : (here : Setting) (sign : Signs) (J : List Record) (reads : Option (List ReadTrace)) (c d : Command) → c ≡ d → IsNoGet d → KeepsReads here sign J c reads reads
keeps_unread here sign J reads c d is other = subst (λ (x : Command). KeepsReads here sign J x reads reads) (sym is) (keeps_same here sign J d reads other)

-- a command that is none reads nothing
no_get : (c : Command) → ((key : List ℕ) → c ≡ command.Get key → ⊥) → IsNoGet c
no_get (command.Get key) not = not key refl
no_get other not = tt

pub keeps_silent : (here : Setting) (sign : Signs) (J : List Record) (reads : Option (List ReadTrace)) (c : Command) → ((key : List ℕ) → c ≡ command.Get key → ⊥) → KeepsReads here sign J c reads reads
keeps_silent here sign J reads c not = keeps_same here sign J c reads (no_get c not)

-- one more follows those of the run
more_of_run : (s : Session) (J : List Record) (key : List ℕ) (rs : List ReadTrace) (r : ReadTrace) (all : List Read) → all ≡ s.correct.reads ++ read_at_end s.correct.journal key ∷ [] → s.correct.journal ≡ J → seen.read_of r ≡ traced_read (read_at_end J key) → AreOfRun s (Some rs)
    → (s.earlier ≤ length all) × (map seen.read_of (rs ++ r ∷ []) ≡ map traced_read (drop s.earlier all))
more_of_run s J key rs r all all_is at is are =
    let one : Read = read_at_end s.correct.journal key in
    let long = ap length all_is ∙ length-append s.correct.reads (one ∷ []) in
    let behind : drop s.earlier all ≡ drop s.earlier s.correct.reads ++ one ∷ [] = ap (drop s.earlier) all_is ∙ drop-append-le s.earlier s.correct.reads (one ∷ []) are.0 in (
      omega (arith, are.0, long),
      map-append seen.read_of rs (r ∷ []) ∙ (λ i. are.1 i ++ (is ∙ ap (λ (K : List Record). traced_read (read_at_end K key)) (sym at)) i ∷ [])
          ∙ sym (ap (map traced_read) behind ∙ map-append traced_read (drop s.earlier s.correct.reads) (one ∷ [])),
    )

-- a read keeps one more
pub keeps_more : (here : Setting) (sign : Signs) (J : List Record) (key : List ℕ) (old new : Option (List ReadTrace)) → IsOneMore J key old new → KeepsReads here sign J (command.Get key) old new
unfolding step_of
keeps_more here sign J key None new more = record {
  kept = ap is_some more;
  fit = λ n fit. subst (FitWithin (n + 1)) (sym more) tt;
  of_run = λ s at are. subst (AreOfRun (step_of here sign s (command.Get key)).session) (sym more) tt;
}
keeps_more here sign J key (Some rs) new (r, (new_is, (fits, is))) = record {
  kept = ap is_some new_is;
  fit = λ n fit. subst (FitWithin (n + 1)) (sym new_is) (all_push read_text.fits rs r fit.0 fits, omega (arith, fit.1, length-append rs (r ∷ [])));
  of_run = λ s at are. subst (AreOfRun (step_of here sign s (command.Get key)).session) (sym new_is) (more_of_run s J key rs r (s.correct.reads ++ read_at_end s.correct.journal key ∷ []) refl at is are);
}

-- whatever a command answers
pub on_ok : {X E : Type 0} (r : Result X E) (P : Type 0) → P → OnOk r P
on_ok (Ok x) P p = p
on_ok (Err e) P p = tt

-- ---- a script

-- a run begins without reads
none_of_run : (s : Session) (reads : Option (List ReadTrace)) → s.earlier ≡ length s.correct.reads → IfSome reads (λ rs. rs ≡ []) → AreOfRun s reads
none_of_run s None begun none = tt
none_of_run s (Some rs) begun none = (
  omega (arith, begun),
  ap (map seen.read_of) none ∙ sym (ap (λ (n : ℕ). map traced_read (drop n s.correct.reads)) begun ∙ ap (map traced_read) (drop-length s.correct.reads)),
)

-- before its first command
pub first_of_run : (here : Setting) (sign : Signs) (s : Session) (reads : Option (List ReadTrace)) → s.earlier ≡ length s.correct.reads → IfSome reads (λ rs. rs ≡ []) → AreOfRun (answers_of here sign s []).session reads
unfolding answers_of
first_of_run here sign s reads begun none = none_of_run s reads begun none

pub none_fit : (reads : Option (List ReadTrace)) → IfSome reads (λ rs. rs ≡ []) → FitWithin 0 reads
none_fit None none = tt
none_fit (Some rs) none = subst (λ (x : List ReadTrace). FitWithin 0 (Some x)) (sym none) (tt, omega arith)

-- a command of a script, by its place
is_of : (cs : List Command) (i : ℕ) (c : Command) → i < length cs → c ≡ get_or cs i c → IsIn c cs
is_of [] i c within is = absurd (omega (arith, within))
is_of (x ∷ cs) zero c within is = inl (sym is)
is_of (x ∷ cs) (suc i) c within is = inr (is_of cs i c (omega (arith, within)) is)

-- reads are kept where a command hands in a trace
pub kept_for : (cs : List Command) (i : ℕ) (c : Command) (reads : Option (List ReadTrace)) → i < length cs → c ≡ get_or cs i c → is_some reads ≡ list_any is_export cs → IsTrue (is_export c) → IsSome reads
kept_for cs i c reads within is kept exports = kept ∙ any_from is_export c cs (is_of cs i c within is) exports
