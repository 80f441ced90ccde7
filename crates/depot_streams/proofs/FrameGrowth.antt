-- What a frame brings a journal, appended in full or as a prefix.
use Rattle.std.proofs.Common.{◌≡◌, ◌↔◌, ◌≤◌, ℕ, List, [], ◌++◌, false, Option, Some, None, Result, Ok, Err, refl, sym, ap, subst, ◌∙◌}
use Rattle.std.specs.Prelude.{IsErrOf}
use Rattle.std.proofs.lemmas.List.{append-nil}
use Rattle.depot_base.specs.declared.record.Record.{Record}
use Rattle.depot_base.specs.declared.check.Full.{Full}
use Rattle.depot_base.proofs.FormatLaws.{IsBytes}
use Rattle.depot_model.specs.declared.taken.Taken.{Taken}
use Rattle.depot_model.specs.declared.taken.TakeError.{TakeError}
use Rattle.depot_model.specs.declared.taken.TakeError.TheVariants as refused
use Rattle.depot_model.specs.checks.Checks.{Setting, Given, answer_to, growth}
use Rattle.depot_model.specs.checks.Room.{full_by}
use Rattle.depot_model.specs.checks.Limits.{IsCutShort}
use Rattle.depot_base.specs.declared.tags.FrameTag.TheVariants as tag
use Rattle.depot_model.specs.journals.JournalCalls.{Lasts, IsJournalCall}
use Rattle.depot_model.specs.journals.Replicas.{IsTakeCall, journal_of}
use Rattle.depot_model.specs.declared.node_state.NodeState.{Ghosts}
use Rattle.depot_model.proofs.of_journals.JournalCallLaws.{never_answered, renamed_call}
use Rattle.depot_model.specs.journals.Lawful.{IsLawful, is_empty}
use Rattle.depot_model.specs.texts.Frames.{Frame}
use Rattle.depot_model.specs.worlds.Causality.{puts_of}
use Rattle.depot_model.specs.exchange.Feeding.{take_frame, given_by}
use Rattle.depot_model.specs.checks.Taking.{Form, as_proof, as_statement, as_value, Outcome, outcome_within, outcome_of, appended_by, growth_of_text}
use Rattle.depot_laws.specs.Given.{HasText}
use Rattle.depot_laws.proofs.records.Growing.{grown_is_lawful}
use Rattle.depot_laws.proofs.exchanges.LawfulFeeds.{given_has_text}
use Rattle.depot_laws.proofs.of_audits.TrueReceipts.{growth_puts_none, silent_is_true}
use Rattle.depot_streams.specs.NodeCalls.{AnswersForOutcome, as_feed_answer, frame_of, IsFrameCall}
use Rattle.depot_streams.specs.Lasting.{IsToAppend, LastsIn}
use Rattle.depot_streams.specs.Pieces.{brought_by}
use Rattle.depot_streams.specs.declared.feed_error.FeedError.TheVariants as error
use Rattle.depot_streams.proofs.FeedRecords.{given_brings}
use Rattle.depot_streams.proofs.LastingStreams.{all_of, cut_of, to_append, none_in, IsPart}

-- ---- the journal is lawful with it

-- with what is appended for an outcome
outcome_is_lawful : (here : Setting) (J : List Record) (r : Result Given ℕ) → IsLawful here J → is_empty J ≡ false → ((x : Given) → r ≡ Ok x → HasText x) → IsLawful here (J ++ appended_by (outcome_of here J r))
outcome_is_lawful here J (Err at) l some fits = subst (λ (K : List Record). IsLawful here K) (sym (append-nil J)) l
outcome_is_lawful here J (Ok x) l some fits = by_room (full_by here.me J (growth here J x)) refl where
  by_room : (o : Option Full) → full_by here.me J (growth here J x) ≡ o → IsLawful here (J ++ appended_by (outcome_within o (answer_to here J x) (growth here J x)))
  by_room None room = grown_is_lawful here J x l some (fits x refl) room
  by_room (Some what) full = subst (λ (K : List Record). IsLawful here K) (sym (append-nil J)) l

-- with what a frame brings
frame_is_lawful : (here : Setting) (J : List Record) (f : Frame) → IsLawful here J → is_empty J ≡ false → IsBytes f.payload → IsLawful here (J ++ appended_by (take_frame here J f))
unfolding take_frame
frame_is_lawful here J f l some bytes = outcome_is_lawful here J (given_by f) l some (λ x e. given_has_text f x bytes e)

-- ---- it puts nothing

-- what is appended for an outcome puts nothing
outcome_puts_none : (here : Setting) (J : List Record) (r : Result Given ℕ) → puts_of (appended_by (outcome_of here J r)) ≡ []
outcome_puts_none here J (Err at) = refl
outcome_puts_none here J (Ok x) = by_room (full_by here.me J (growth here J x)) where
  by_room : (o : Option Full) → puts_of (appended_by (outcome_within o (answer_to here J x) (growth here J x))) ≡ []
  by_room None = growth_puts_none here J x
  by_room (Some what) = refl

-- nor does what a frame brings
frame_puts_none : (here : Setting) (J : List Record) (f : Frame) → puts_of (appended_by (take_frame here J f)) ≡ []
unfolding take_frame
frame_puts_none here J f = outcome_puts_none here J (given_by f)

-- ---- it was appended, or a prefix of it

-- what is appended where this is the outcome, and memory sufficed
outcome_part : (o : Outcome) (J then : List Record) (r : Result Taken TakeError) → (IsErrOf r refused.Stopped → ⊥) → (IsErrOf r refused.Memory → ⊥) → AnswersForOutcome o J (as_feed_answer r) then → IsPart J (appended_by o) then (IsErrOf (as_feed_answer r) error.Disk)
outcome_part o J then (Ok taken) runs room a = all_of J (appended_by o) then _ (a.grown ∙ ap (λ (x : Outcome). J ++ appended_by x) (sym a.is))
outcome_part o J then (Err (refused.Refused c)) runs room a = all_of J (appended_by o) then _ (a.grown ∙ ap (λ (x : Outcome). J ++ appended_by x) (sym a.is))
outcome_part o J then (Err refused.Memory) runs room a = absurd (room refl)
outcome_part o J then (Err refused.Disk) runs room a = cut_of J (appended_by o) then _ refl (subst (λ (x : Outcome). IsCutShort J (appended_by x) then) (sym a.is) a.cut)
outcome_part o J then (Err refused.Stopped) runs room a = absurd (runs refl)
outcome_part o J then (Err (refused.Full what)) runs room a = all_of J (appended_by o) then _ (a.1 ∙ sym (append-nil J) ∙ ap (λ (x : Outcome). J ++ appended_by x) (sym a.0))

-- ---- the three sorts of frames that are given

-- a proof
pub proof_brings : (here : Setting) (J : List Record) (payload : List ℕ) → growth_of_text here J as_proof payload ≡ brought_by here J (frame_of tag.Proof payload)
unfolding growth_of_text take_frame given_by
proof_brings here J payload = refl

-- a statement
pub statement_brings : (here : Setting) (J : List Record) (payload : List ℕ) → growth_of_text here J as_statement payload ≡ brought_by here J (frame_of tag.Statement payload)
unfolding growth_of_text take_frame given_by
statement_brings here J payload = refl

-- a value
pub value_brings : (here : Setting) (J : List Record) (payload : List ℕ) → growth_of_text here J as_value payload ≡ brought_by here J (frame_of tag.Value payload)
unfolding growth_of_text take_frame given_by
value_brings here J payload = refl

-- ---- what a node is left as

-- a feed's answer says of the disk and of a node that was stopped what the node's does
pub same_answer : (r : Result Taken TakeError) → (IsErrOf r refused.Disk ↔ IsErrOf (as_feed_answer r) error.Disk) × (IsErrOf r refused.Stopped ↔ IsErrOf (as_feed_answer r) error.Stopped)
same_answer r = ((λ is. ap as_feed_answer is, disk r), (λ is. ap as_feed_answer is, stopped r)) where
  disk : (r : Result Taken TakeError) → IsErrOf (as_feed_answer r) error.Disk → IsErrOf r refused.Disk
  disk (Ok taken) e = absurd cc
  disk (Err (refused.Refused c)) e = absurd cc
  disk (Err refused.Memory) e = absurd cc
  disk (Err refused.Disk) e = refl
  disk (Err refused.Stopped) e = absurd cc
  disk (Err (refused.Full what)) e = absurd cc

  stopped : (r : Result Taken TakeError) → IsErrOf (as_feed_answer r) error.Stopped → IsErrOf r refused.Stopped
  stopped (Ok taken) e = absurd cc
  stopped (Err (refused.Refused c)) e = absurd cc
  stopped (Err refused.Memory) e = absurd cc
  stopped (Err refused.Disk) e = absurd cc
  stopped (Err refused.Stopped) e = refl
  stopped (Err (refused.Full what)) e = absurd cc

module _ {N : Type 0} (g : Ghosts N) (f : Frame) (old new : N) (given : f.tag ≤ 3) (lawful : IsLawful (g.stands old) (g.records old)) (some : is_empty (g.records old) ≡ false) (bytes : IsBytes f.payload) where
  -- the frame was to bring what it brings, and memory sufficed
  brought_in : (r : Result Taken TakeError) → (IsErrOf r refused.Stopped → ⊥) → AnswersForOutcome (take_frame (g.stands old) (g.records old) f) (g.records old) (as_feed_answer r) (g.records new) → (IsErrOf r refused.Memory → ⊥)
      → Lasts (journal_of g) old new (brought_by (g.stands old) (g.records old) f) → LastsIn g (IsErrOf (as_feed_answer r) error.Disk) old new
  brought_in r runs answers room lasts = record {
    appends = brought_by (g.stands old) (g.records old) f;
    is = subst (λ (x : List Record). IsToAppend (g.stands old) (g.records old) x (g.records new) (IsErrOf (as_feed_answer r) error.Disk)) (given_brings (g.stands old) (g.records old) f given)
        (to_append (g.stands old) (g.records old) _ (g.records new) (IsErrOf (as_feed_answer r) error.Disk) (frame_is_lawful (g.stands old) (g.records old) f lawful some bytes)
        (silent_is_true (g.records old) _ (frame_puts_none (g.stands old) (g.records old) f)) (outcome_part (take_frame (g.stands old) (g.records old) f) (g.records old) (g.records new) r runs room answers));
    lasts = lasts;
  }

  -- a frame was given: it was to bring what it brings or, without memory, nothing
  given_in : (r : Result Taken TakeError) → (IsErrOf r refused.Stopped → ⊥) → AnswersForOutcome (take_frame (g.stands old) (g.records old) f) (g.records old) (as_feed_answer r) (g.records new)
      → Lasts (journal_of g) old new (brought_by (g.stands old) (g.records old) f) → (IsErrOf r refused.Memory → Lasts (journal_of g) old new []) → LastsIn g (IsErrOf (as_feed_answer r) error.Disk) old new
  given_in (Ok taken) runs answers lasts idle = brought_in (Ok taken) runs answers (λ e. cc) lasts
  given_in (Err (refused.Refused c)) runs answers lasts idle = brought_in (Err (refused.Refused c)) runs answers (λ e. cc) lasts
  given_in (Err refused.Memory) runs answers lasts idle = none_in g _ old new lawful answers (idle refl)
  given_in (Err refused.Disk) runs answers lasts idle = brought_in (Err refused.Disk) runs answers (λ e. cc) lasts
  given_in (Err refused.Stopped) runs answers lasts idle = absurd (runs refl)
  given_in (Err (refused.Full what)) runs answers lasts idle = brought_in (Err (refused.Full what)) runs answers (λ e. cc) lasts

  -- the node took what the frame gives
  pub given_call : (form : Form) (r : Result Taken TakeError) → g.stopped old ≡ false → growth_of_text (g.stands old) (g.records old) form f.payload ≡ brought_by (g.stands old) (g.records old) f
      → AnswersForOutcome (take_frame (g.stands old) (g.records old) f) (g.records old) (as_feed_answer r) (g.records new) → IsTakeCall g form old new f.payload r → IsFrameCall g f old new (as_feed_answer r)
  given_call form r ran grows answers call =
      let to : IsJournalCall (journal_of g) old new (brought_by (g.stands old) (g.records old) f) (IsErrOf r refused.Stopped) (IsErrOf r refused.Disk) (IsErrOf r refused.Memory) =
      subst (λ (x : List Record). IsJournalCall (journal_of g) old new x (IsErrOf r refused.Stopped) (IsErrOf r refused.Disk) (IsErrOf r refused.Memory)) grows call.journal in
      let same = same_answer r in
      record {
        node = record { same = call.same; journal = renamed_call same.1 same.0 (λ never. absurd never) to };
        lasts = given_in r (never_answered (g.stopped old) ran to.stops) answers to.lasts to.idle;
      }
