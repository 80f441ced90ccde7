-- A stream that is fed to a node in pieces: what is printed of it, and what becomes of the node.
use Rattle.std.proofs.Common.{◌≡◌, ◌≢◌, ◌↔◌, ℕ, Bool, false, List, [], ◌++◌, append_assoc, is_some, Some, None, Result, Ok, Err, refl, sym, ap, subst, ◌∙◌}
use Rattle.std.specs.Prelude.{IfErr, IfOk, IsErrOf}
use Rattle.std.proofs.lemmas.List.{append-nil}
use Rattle.depot_base.specs.declared.check.Full.{Full}
use Rattle.depot_base.specs.declared.record.Record.{Record}
use Rattle.depot_answers.specs.declared.exchange_answers.Closing.TheVariants as closing
use Rattle.depot_streams.specs.NodeCalls.{IsFeedCall}
use Rattle.depot_streams.specs.Pieces.{AreOf, Feeds, Stream, at_work, stream_of, report_of_stream}
use Rattle.depot_streams.specs.declared.feed_error.FeedError.{FeedError}
use Rattle.depot_streams.specs.declared.feed_error.FeedError.TheVariants as error
use Rattle.depot_streams.proofs.LawfulCalls.{renamed_on}
use Rattle.depot_streams.proofs.PieceLaws.{IsUnderWay, at_work_again}
use Rattle.depot_model.specs.checks.Checks.{Setting}
use Rattle.depot_model.specs.exchange.Feeding.{Feeding, ending_of, fed, report_of}
use Rattle.depot_model.specs.declared.bundle.Report.{Report}
use Rattle.depot_model.specs.declared.node_state.NodeState.{Ghosts}
use Rattle.depot_model.proofs.of_journals.FeedLaws.{fed_in_pieces}
use Rattle.depot_service.specs.Printing.{IsToldOf}

-- ---- what is reported

-- what a feed keeps determines its report
pub kept_tells : (s : Feeding) → report_of s ≡ report_of_stream (stream_of s)
unfolding report_of ending_of
kept_tells s = refl

told_by : (s : Feeding) (S : Stream) (report : Report) → report ≡ report_of_stream S → S ≡ stream_of s → report_of s ≡ report
told_by s S report is kept = kept_tells s ∙ sym (ap report_of_stream kept) ∙ sym is

pub told_ill : (here : Setting) (s : Feeding) (bytes : List ℕ) (S : Stream) (J : List Record) (at : ℕ) (report : Report) → report ≡ report_of_stream S → Feeds here s bytes (Err (error.IllFormed at)) S J
    → IsToldOf (fed here s bytes) (record { report = report; closing = Some (closing.IllFormed at) }) × (J ≡ (fed here s bytes).journal)
told_ill here s bytes S J at report is f = (record { report = told_by (fed here s bytes) S report is f.1.stream; closing = f.0 }, f.1.journal)

pub told_full : (here : Setting) (s : Feeding) (bytes : List ℕ) (S : Stream) (J : List Record) (what : Full) (report : Report) → report ≡ report_of_stream S → Feeds here s bytes (Err (error.Full what)) S J
    → IsToldOf (fed here s bytes) (record { report = report; closing = Some (closing.Full what) }) × (J ≡ (fed here s bytes).journal)
told_full here s bytes S J what report is f = (record { report = told_by (fed here s bytes) S report is f.1.stream; closing = f.0 }, f.1.journal)

-- ---- what was fed

-- one piece more
pub under_way_on : (here there : Setting) (s : Feeding) (bytes rest piece behind : List ℕ) (now : Feeding) (S : Stream) (J : List Record) → there ≡ here → IsUnderWay here s bytes rest now → rest ≡ piece ++ behind → Feeds there now piece (Ok tt) S J
    → IsUnderWay here s bytes behind (at_work S J)
under_way_on here there s bytes rest piece behind now S J stays u parts f = record {
  done = u.done ++ piece;
  parts = u.parts ∙ ap (λ (x : List ℕ). u.done ++ x) parts ∙ sym (append_assoc u.done piece behind);
  is = fed_in_pieces here s u.done piece ∙ ap (λ (x : Feeding). fed here x piece) u.is ∙ at_work_again (fed here now piece) S J (ap (λ (h : Setting). (fed h now piece).closed) (sym stays) ∙ f.0) (subst (λ (h : Setting). AreOf (fed h now piece) S J) stays f.1);
}

-- the feed isn't closed
pub goes_on : (here : Setting) (s : Feeding) (piece : List ℕ) (S : Stream) (J : List Record) → Feeds here s piece (Ok tt) S J → S.closed ≡ false
goes_on here s piece S J f = ap (λ (T : Stream). T.closed) f.1.stream ∙ ap is_some f.0

-- all of it was fed
all_fed : (here : Setting) (s now : Feeding) (bytes rest : List ℕ) → rest ≡ [] → IsUnderWay here s bytes rest now → fed here s bytes ≡ now
all_fed here s now bytes rest none u = ap (fed here s) (u.parts ∙ ap (λ (b : List ℕ). u.done ++ b) none ∙ append-nil u.done) ∙ u.is

-- what is reported of it then
pub told_all : (here : Setting) (s : Feeding) (bytes rest : List ℕ) (S : Stream) (J : List Record) (report : Report) → rest ≡ [] → IsUnderWay here s bytes rest (at_work S J) → S.closed ≡ false → report ≡ report_of_stream S
    → IsToldOf (fed here s bytes) (record { report = report; closing = None })
told_all here s bytes rest S J report none u going is =
    subst (λ (x : Feeding). IsToldOf x (record { report = report; closing = None })) (sym (all_fed here s (at_work S J) bytes rest none u))
    (record { report = told_by (at_work S J) S report is (ap (λ (b : Bool). record S { closed = b }) going); closing = refl })

-- ---- the answer

-- what holds of what is answered implies more
pub if_both : {X E : Type 0} (P Q R : X → Type 0) (r : Result X E) → ((x : X) → P x → Q x → R x) → IfOk r P → IfOk r Q → IfOk r R
if_both P Q R (Ok x) so p q = so x p q
if_both P Q R (Err e) so p q = tt

-- what a closed feed answers is this failure where the piece's is
pub same_failure : {X : Type 0} (e d : FeedError) (r : Result X FeedError) → IfOk r (λ _. e ≢ d) → IfErr r (λ x. x ≡ e) → IsErrOf {T = Unit {0}} (Err e) d ↔ IsErrOf r d
same_failure e d (Ok x) not same = (λ failed. let is : e ≡ d = cc in absurd (not is), λ never. absurd cc)
same_failure e d (Err x) not same = (λ failed. let is : e ≡ d = cc in ap Err (same ∙ is), λ failed. let is : x ≡ d = cc in ap Err (sym same ∙ is))

-- the same call, whose answer is named otherwise
pub renamed_fed : {N X Y : Type 0} (g : Ghosts N) {s : Feeding} {bytes : List ℕ} {was : Result X FeedError} {result : Result Y FeedError} (old new : N)
    → IsErrOf was error.Stopped ↔ IsErrOf result error.Stopped → IsErrOf was error.Disk ↔ IsErrOf result error.Disk → IsFeedCall g s bytes old new was → IsFeedCall g s bytes old new result
renamed_fed g old new stopped failed call = record { appends = call.appends; brings = call.brings; left = renamed_on g old new call.appends stopped failed call.left }
