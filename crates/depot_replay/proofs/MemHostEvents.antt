-- The outcome of an event of a hosted node: it went without a crash, or a stop fell into it.
use Rattle.std.proofs.Common.{◌≡◌, ℕ, ◌*◌, List, [], ◌++◌, append_assoc, length, length-append, take, drop, false, true≢false, Option, None, Result, Ok, Err, IfOk, IsOk, refl, sym, ap, subst, ◌∙◌, arith}
use Rattle.std.proofs.Math.Seq.{drop-append_seam}
use Rattle.std.proofs.lemmas.List.{append-nil, take-append-drop}
use Rattle.depot_base.specs.Calls.{Call, made}
use Rattle.depot_base.specs.declared.record.Record.{Record}
use Rattle.depot_laws.proofs.lists.Splits.{lawful_front}
use Rattle.depot_laws.proofs.records.Growing.{still_some}
use Rattle.depot_model.specs.exchange.Bundle.{Signs}
use Rattle.depot_model.specs.checks.Checks.{Setting}
use Rattle.depot_model.specs.journals.Lawful.{IsLawful, is_empty}
use Rattle.depot_model.specs.texts.Roster.{Verifies}
use Rattle.depot_model.specs.journals.Stops.{calls_to_record}
use Rattle.depot_base.specs.declared.key.RosterEntry.{RosterEntry}
use Rattle.depot_outside.specs.Stopping.{State, CallsLead}
use Rattle.depot_world.specs.Run.{PendingStop, Host}
use Rattle.depot_requests.specs.Effects.{Effect, lines_after_arrow}
use Rattle.depot_world.specs.ScheduleStops.{EventResult, journal_left, standing_after, event_result}
use Rattle.depot_world.specs.Setups.{Setup}
use Rattle.depot_simulation.specs.Acting.{CameTo, IsHosted, ActorView}
use Rattle.depot_replay.specs.Disks.{Stopped, pending_of}
use Rattle.depot_replay.specs.PrintedRuns.{EndsAs}
use Rattle.depot_replay.specs.MemHostFacts.{lawful_there}
use Rattle.depot_requests.specs.declared.printing.Printed.{Printed}
use Rattle.depot_replay.specs.MemHosts.{Appends, IsBegunOn, IsCalled, IsKeptOn, stopped_line}
use Rattle.depot_replay.proofs.MemHostLaws.{IsCut, IsToCome, calls_counted, cut_short, kept_after, went_cut, went_well}

-- ---- what is printed of it

-- where an event had an outcome, something was printed
pub if_printed : {T X E F : Type 0} (r : Result T E) (printed : Result X F) (P : X → T → Type 0) (Q : T → Type 0) → ((x : X) (t : T) → printed ≡ Ok x → P x t → Q t) → IfOk r (λ _. IsOk printed) → IfOk r (λ t. IfOk printed (λ x. P x t)) → IfOk r Q
if_printed (Ok t) (Ok x) P Q so ok p = so x t refl p
if_printed (Ok t) (Err e) P Q so ok p = absurd (true≢false (sym ok))
if_printed (Err e) printed P Q so ok p = tt

-- what holds of what was printed
pub of_printed : {X E : Type 0} (printed : Result X E) (P : X → Type 0) → ((x : X) → printed ≡ Ok x → P x) → IfOk printed P
of_printed (Ok x) P so = so x refl
of_printed (Err e) P so = tt

-- ---- the node after it

-- the node afterwards is the one before it, with this journal and this stop
pub record IsThen (v w : ActorView) (J : List Record) (pending : Option PendingStop) : Type 0 where
  pub here : w.here ≡ v.here
  pub sign : w.sign ≡ v.sign
  pub journal : w.journal ≡ J
  pub pending_is : w.pending ≡ pending

-- an event that went as it goes, by calls of which none failed
pub came_well : (setup : Setup) (x : Host) (d : Effect) (v w : ActorView) (s t : State) (calls : List Call) (lines bytes : List ℕ) → IsHosted setup x v → v.pending ≡ pending_of s.next → IsToCome s → CallsLead s (made calls) t → d.calls ≡ length calls
    → IsThen v w d.journal (pending_of t.next) → lines ≡ lines_after_arrow d.answer d.behind → bytes ≡ d.bytes → CameTo setup (event_result x d) w lines bytes
came_well setup x d v w s t calls lines bytes mem_host pending to_come led count then is gives =
    subst (λ (g : EventResult). CameTo setup g w lines bytes) (sym (went_well x d s t calls (sym mem_host.pending ∙ pending) to_come led count))
    (record { hosted = record { here = then.here ∙ mem_host.here; sign = then.sign ∙ mem_host.sign; journal = then.journal; pending = then.pending_is }; lines_are = is; bytes_are = gives })

-- an event into which a stop fell
pub came_stopped : (setup : Setup) (x : Host) (d : Effect) (v w : ActorView) (s t : State) (cut : Stopped s t d.calls) (lines : List ℕ) → IsHosted setup x v → v.pending ≡ pending_of s.next → IsThen v w (journal_left v.journal d.journal cut.pending) None → lines ≡ stopped_line w.journal
    → CameTo setup (event_result x d) w lines []
came_stopped setup x d v w s t cut lines mem_host pending then is =
    let left : w.journal ≡ journal_left x.correct.journal d.journal cut.pending = then.journal ∙ ap (λ (J : List Record). journal_left J d.journal cut.pending) mem_host.journal in
    subst (λ (g : EventResult). CameTo setup g w lines []) (sym (went_cut x d s t cut (sym mem_host.pending ∙ pending)))
    (record {
      hosted = record { here = then.here ∙ mem_host.here; sign = then.sign ∙ mem_host.sign; journal = left; pending = then.pending_is };
      lines_are = is ∙ ap stopped_line left ∙ sym (append-nil (stopped_line (journal_left x.correct.journal d.journal cut.pending)));
      bytes_are = refl;
    })

-- ---- a call that appends

module _ {v : ActorView} {s t : State} {K longer : List Record} {failed : Type 0} (c : IsCalled v s t K longer failed) where
  -- the disk has the journal after it
  pub called_kept : (failed → ⊥) → IsKeptOn t K
  called_kept well =
      let whole = c.whole well in
      subst (IsKeptOn t) (sym (whole.0 ∙ c.grows)) (kept_after s t v.journal c.new c.begun.kept whole.1)

  counted : (d : Effect) → Appends d v.journal longer → d.calls ≡ 4 * length c.new
  counted d a = a.calls ∙ omega (arith, ap length c.grows, length-append v.journal c.new)

  -- it went as it goes
  pub called_well : (setup : Setup) (x : Host) (d : Effect) (w : ActorView) (lines bytes : List ℕ) → (failed → ⊥) → IsHosted setup x v → Appends d v.journal longer → IsThen v w K (pending_of t.next) → lines ≡ lines_after_arrow d.answer d.behind → bytes ≡ d.bytes → CameTo setup (event_result x d) w lines bytes
  called_well setup x d w lines bytes well mem_host a then is gives =
      let whole = c.whole well in
      came_well setup x d v w s t (calls_to_record v.journal c.new) lines bytes mem_host c.pending c.begun.kept.to_come whole.1 (counted d a ∙ sym (calls_counted v.journal c.new))
      (record { here = then.here; sign = then.sign; journal = then.journal ∙ whole.0 ∙ sym a.journal; pending_is = then.pending_is }) is gives

  -- the crash images of it
  pub cut_of : failed → IsCut s t v.journal c.new
  cut_of f = cut_short s t v.journal c.new c.begun.kept (c.part f)

  pub left_by_cut : failed → List Record
  left_by_cut f = v.journal ++ take (standing_after (cut_of f).stopped.pending) c.new

  pub begun_cut : (f : failed) → IsBegunOn v.here t (left_by_cut f)
  unfolding left_by_cut
  begun_cut f =
      let n = standing_after (cut_of f).stopped.pending in
      let all : longer ≡ (v.journal ++ take n c.new) ++ drop n c.new = c.grows ∙ ap (λ (x : List Record). v.journal ++ x) (sym (take-append-drop n c.new)) ∙ sym (append_assoc v.journal (take n c.new) (drop n c.new)) in
      record {
        lawful = lawful_front v.here (v.journal ++ take n c.new) (drop n c.new) (subst (IsLawful v.here) all c.lawful);
        some = still_some v.journal (take n c.new) c.begun.some;
        kept = (cut_of f).kept;
      }

  -- a stop fell into it
  pub called_cut : (setup : Setup) (x : Host) (d : Effect) (w : ActorView) (lines : List ℕ) (f : failed) → IsHosted setup x v → Appends d v.journal longer → IsThen v w (left_by_cut f) None → lines ≡ stopped_line w.journal → CameTo setup (event_result x d) w lines []
  unfolding left_by_cut
  called_cut setup x d w lines f mem_host a then is =
      let cut = cut_of f in
      let n = standing_after cut.stopped.pending in
      came_stopped setup x d v w s t (record { pending = cut.stopped.pending; waited = cut.stopped.waited; within = omega (arith, cut.stopped.within, counted d a); at_rest = cut.stopped.at_rest; none_waits = cut.stopped.none_waits }) lines mem_host c.pending
      (record {
        here = then.here;
        sign = then.sign;
        journal = then.journal ∙ ap (λ (x : List Record). v.journal ++ take n x) (sym (ap (drop (length v.journal)) (a.journal ∙ c.grows) ∙ drop-append_seam v.journal c.new));
        pending_is = then.pending_is;
      }) is

-- ---- what is printed of it

pub cut_ends : {v : ActorView} {s t : State} {K longer : List Record} (p : Option Printed) (none : p ≡ None) (c : IsCalled v s t K longer (p ≡ None)) (w : ActorView) (lines bytes : List ℕ) → IsThen v w (left_by_cut c none) None → lines ≡ stopped_line w.journal → bytes ≡ []
    → EndsAs v longer p w lines bytes
cut_ends p none c w lines bytes then is gives setup x d mem_host a print = subst (λ (b : List ℕ). CameTo setup (event_result x d) w lines b) (sym gives) (called_cut c setup x d w lines none mem_host a then is)

-- ---- a hosted node

-- a node is where it was started
pub same_setting : (verifies : Verifies) (me own : ℕ) (listed given : List RosterEntry) → me ≡ own → listed ≡ given → ◌≡◌ {A = Setting} (record { verifies = verifies; me = me; listed = listed }) (record { verifies = verifies; me = own; listed = given })
same_setting verifies me own listed given is_me is_listed = λ i. record { verifies = verifies; me = is_me i; listed = is_listed i }

-- how it is seen
abbrev pub seen_so : Setting → Signs → State → List Record → ActorView
seen_so here sign s J = record { here = here; sign = sign; journal = J; pending = pending_of s.next }

-- its journal has begun on its disk
pub begun_there : (verifies : Verifies) (me own : ℕ) (listed given : List RosterEntry) (s : State) (J : List Record) → me ≡ own → listed ≡ given → IsLawful (record { verifies = verifies; me = me; listed = listed }) J → is_empty J ≡ false → IsKeptOn s J
    → IsBegunOn (record { verifies = verifies; me = own; listed = given }) s J
begun_there verifies me own listed given s J is_me is_listed l some kept = record { lawful = lawful_there verifies me own listed given J is_me is_listed l; some = some; kept = kept }

-- two signers that give the same signatures
pub same_signs : (a b : Signs) → ((seq : ℕ) (body : List ℕ) → a seq body ≡ b seq body) → a ≡ b
same_signs a b same = λ i. λ seq body. same seq body i

-- a node that is seen so
pub view_is : (verifies : Verifies) (me : ℕ) (listed given : List RosterEntry) (sign : Signs) (J K : List Record) (pending waits : Option PendingStop) → listed ≡ given → J ≡ K → pending ≡ waits
    → ◌≡◌ {A = ActorView} (record { here = record { verifies = verifies; me = me; listed = listed }; sign = sign; journal = J; pending = pending }) (record { here = record { verifies = verifies; me = me; listed = given }; sign = sign; journal = K; pending = waits })
view_is verifies me listed given sign J K pending waits is_listed is_journal is_pending = λ i. record { here = record { verifies = verifies; me = me; listed = is_listed i }; sign = sign; journal = is_journal i; pending = is_pending i }
