-- What a hosted node does when asked, whatever the request.
use Rattle.std.proofs.Common.{◌≡◌, ◌↔◌, ℕ, List, ◌++◌, Option, Some, None, Result, Ok, Err, refl, sym, ap, subst, ◌∙◌}
use Rattle.std.specs.Prelude.{IsErrOf}
use Rattle.depot_base.specs.Format.{whole}
use Rattle.depot_base.specs.declared.record.Record.{Record}
use Rattle.depot_model.specs.exchange.Bundle.{Signs}
use Rattle.depot_model.specs.checks.Checks.{Setting}
use Rattle.depot_model.specs.worlds.World.{Correct}
use Rattle.depot_outside.specs.Stopping.{State}
use Rattle.depot_requests.specs.declared.printing.Printed.{Printed}
use Rattle.depot_requests.proofs.LawfulRequests.{served_is_lawful}
use Rattle.depot_requests.specs.Effects.{lines_after_arrow}
use Rattle.depot_requests.specs.Replies.{bytes_of_reply, lines_of_reply}
use Rattle.depot_requests.specs.Requests.{CarriesBytes, IsRequest, Served, effect_of, served}
use Rattle.depot_requests.specs.declared.reply.Halt.{Halt}
use Rattle.depot_requests.specs.declared.reply.Halt.TheVariants as halt
use Rattle.depot_requests.specs.declared.reply.Reply.{Reply}
use Rattle.depot_requests.specs.declared.request.Request.{Request}
use Rattle.depot_service.specs.RequestCalls.{Serves}
use Rattle.depot_simulation.specs.Acting.{ActorView, CameTo, IsHosted}
use Rattle.depot_world.specs.Run.{Host}
use Rattle.depot_world.specs.ScheduleStops.{event_result}
use Rattle.depot_world.specs.Setups.{Setup, signs_on, stands_on}
use Rattle.depot_replay.specs.MemHosts.{Appends, IsBegunOn, IsCalled}
use Rattle.depot_replay.specs.PrintedRuns.{EndsAs, IsPrintedSo, PrintsReply}
use Rattle.depot_replay.proofs.MemHostCalls.{IsDoneOn, appends_there}
use Rattle.depot_replay.proofs.MemHostEvents.{seen_so}

-- ---- the journal

-- what a request makes of a journal
abbrev pub request_longer : Request → Setting → Signs → List Record → List Record
request_longer r here sign J = (served here sign J r).journal

pub request_appends : (r : Request) (here : Setting) (sign : Signs) (c : Correct) → here.me ≡ c.node → Appends (effect_of here sign c r) c.journal (request_longer r here sign c.journal)
unfolding effect_of
request_appends r here sign c same = record { journal = refl; calls = refl }

-- what is printed of it
effect_lines : (r : Request) (here : Setting) (sign : Signs) (c : Correct) (K : List Record) (told : Reply) → served here sign c.journal r ≡ record { journal = K; reply = told } → lines_after_arrow (effect_of here sign c r).answer (effect_of here sign c r).behind ≡ lines_of_reply told
unfolding effect_of
effect_lines r here sign c K told is = ap (λ (d : Served). lines_of_reply d.reply) is

effect_bytes : (r : Request) (here : Setting) (sign : Signs) (c : Correct) (K : List Record) (told : Reply) → served here sign c.journal r ≡ record { journal = K; reply = told } → (effect_of here sign c r).bytes ≡ bytes_of_reply told
unfolding effect_of
effect_bytes r here sign c K told is = ap (λ (d : Served). bytes_of_reply d.reply) is

is_print : (r : Request) (here : Setting) (sign : Signs) (c : Correct) (K : List Record) (replied : Result Reply Halt) (printed : Option Printed) → Serves here sign c.journal r replied K → PrintsReply replied printed → IsPrintedSo printed (effect_of here sign c r)
is_print r here sign c K replied None serves prints = tt
is_print r here sign c K replied (Some p) serves (told, (is, (lines, bytes))) =
    let came : served here sign c.journal r ≡ record { journal = K; reply = told } = subst (λ (x : Result Reply Halt). Serves here sign c.journal r x K) is serves in
    (lines ∙ sym (effect_lines r here sign c K told came), bytes ∙ sym (effect_bytes r here sign c K told came))

-- a node that replied, and whose disk didn't fail, did all of it
did_all : (here : Setting) (sign : Signs) (J K : List Record) (r : Request) (replied : Result Reply Halt) → Serves here sign J r replied K → (IsErrOf replied halt.Memory → ⊥) → (IsErrOf replied halt.Stopped → ⊥) → (IsErrOf replied halt.Disk → ⊥) → K ≡ (served here sign J r).journal
did_all here sign J K r (Ok told) serves memory stopped disk = ap (λ (d : Served). d.journal) (sym serves)
did_all here sign J K r (Err halt.Memory) serves memory stopped disk = absurd (memory refl)
did_all here sign J K r (Err halt.Disk) serves memory stopped disk = absurd (disk refl)
did_all here sign J K r (Err halt.Stopped) serves memory stopped disk = absurd (stopped refl)

-- ---- the call

module _ (there here : Setting) (stands : there ≡ here) (given sign : Signs) (signs : given ≡ sign) (s t : State) (J K : List Record) (begun : IsBegunOn here s J) where
  pub request_hosted : (r : Request) (replied : Result Reply Halt) (printed : Option Printed) → IsRequest r → CarriesBytes r → Serves there given J r replied K → (IsErrOf replied halt.Memory → ⊥) → (IsErrOf replied halt.Stopped → ⊥)
      → (appends : List Record) → (served there given J r).journal ≡ J ++ appends → IsDoneOn s t J K appends (IsErrOf replied halt.Disk) → (printed ≡ None) ↔ IsErrOf replied halt.Disk → IsCalled (seen_so here sign s J) s t K (request_longer r here sign J) (printed ≡ None)
  request_hosted r replied printed is bytes serves memory stopped appends brings done so =
      let same : (served there given J r).journal ≡ (served here sign J r).journal = (λ i. (served (stands i) (signs i) J r).journal) in
      record {
        pending = refl;
        begun = begun;
        new = appends;
        grows = sym same ∙ brings;
        lawful = served_is_lawful here sign J begun.lawful begun.some r is bytes;
        whole = λ well.
            let all = did_all there given J K r replied serves memory stopped (λ f. well (so.1 f)) in
            (all ∙ same, done.whole (λ f. well (so.1 f)) appends (all ∙ brings));
        part = λ f. done.part (so.0 f);
      }

  pub request_turn : (r : Request) (replied : Result Reply Halt) (printed : Option Printed) (w : ActorView) (lines bytes : List ℕ) → Serves there given J r replied K → PrintsReply replied printed → EndsAs (seen_so here sign s J) (request_longer r here sign J) printed w lines bytes
      → (setup : Setup) (x : Host) → IsHosted setup x (seen_so here sign s J) → CameTo setup (event_result x (effect_of (stands_on setup x.correct.node) (signs_on setup x.correct.node) x.correct r)) w lines bytes
  request_turn r replied printed w lines bytes serves prints ends setup x mem_host =
      let setting : there ≡ stands_on setup x.correct.node = stands ∙ mem_host.here in
      let signing : given ≡ signs_on setup x.correct.node = signs ∙ mem_host.sign in
      ends setup x (effect_of (stands_on setup x.correct.node) (signs_on setup x.correct.node) x.correct r) mem_host (appends_there (request_longer r) (λ h sg c. effect_of h sg c r) (request_appends r) setup x (seen_so here sign s J) mem_host)
      (is_print r (stands_on setup x.correct.node) (signs_on setup x.correct.node) x.correct K replied printed
      (subst (λ (l : List Record). Serves (stands_on setup x.correct.node) (signs_on setup x.correct.node) l r replied K) mem_host.journal
      (subst (λ (g : Signs). Serves (stands_on setup x.correct.node) g J r replied K) signing (subst (λ (h : Setting). Serves h given J r replied K) setting serves))) prints)
