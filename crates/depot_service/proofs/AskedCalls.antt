-- What answering makes of a node, by what the call makes of it.
use Rattle.std.proofs.Common.{◌≡◌, ◌<◌, ℕ, Bool, true, false, List, [], ◌++◌, Result, Ok, Err, refl, sym, ap, subst, ◌∙◌, arith, inl, inr, append-nil}
use Rattle.std.specs.Prelude.{IsErrAnd}
use Rattle.depot_base.specs.declared.record.Record.{Record}
use Rattle.depot_gossip.specs.SendCalls.{IsSendCall, sent_by}
use Rattle.depot_gossip.specs.declared.send_request.SendRequest.{SendRequest}
use Rattle.depot_streams.proofs.LastingStreams.{lasts_so, nothing_in}
use Rattle.depot_streams.specs.Lasting.{LastsIn}
use Rattle.depot_model.proofs.of_journals.StopLaws.{idle_lasts}
use Rattle.depot_model.specs.journals.JournalCalls.{IsStable, StopsBy}
use Rattle.depot_model.specs.checks.Checks.{Setting}
use Rattle.depot_model.specs.exchange.Bundle.{Signs}
use Rattle.depot_model.specs.journals.Lawful.{IsLawful}
use Rattle.depot_model.specs.journals.Replicas.{IsNodeCall, journal_of}
use Rattle.depot_model.specs.journals.Stops.{LeavesAll}
use Rattle.depot_model.specs.declared.node_state.NodeState.{Ghosts}
use Rattle.depot_requests.specs.Requests.{Served, served}
use Rattle.depot_requests.specs.declared.reply.Halt.{Halt}
use Rattle.depot_requests.specs.declared.reply.Halt.TheVariants as halt
use Rattle.depot_requests.specs.declared.reply.Reply.{Reply}
use Rattle.depot_requests.specs.declared.request.Request.{Request}
use Rattle.depot_requests.specs.ReplyTexts.{text_of_reply}
use Rattle.depot_service.specs.RequestCalls.{IsRequestCall}
use Rattle.depot_service.specs.Answering.{AnswersAsked, IsAskedCall, IsServing, IsUnanswered, came_by, came_to}
use Rattle.depot_service.specs.declared.asked.Asked.{Asked}

-- a flag that is not true
not_true : (b : Bool) → (b ≡ true → ⊥) → b ≡ false
not_true true never = absurd (never refl)
not_true false never = refl

-- a node that wasn't stopped runs on unless its disk failed
runs_on : (was now : Bool) (stopped failed : Type 0) → was ≡ false → StopsBy was now stopped failed → (failed → ⊥) → now ≡ false
runs_on was now stopped failed ran stops well = not_true now (λ is. elim (stops.left.0 is) [ inl before ↦ (let wrong : true ≡ false = sym before ∙ ran in absurd cc) | inr fails ↦ well fails ])

-- of a node that serves, as its journal's calls ask it
pub stable_of : {N : Type 0} (g : Ghosts N) (n : N) → IsServing g n → IsStable (journal_of g) n
stable_of g n s = λ told. subst (λ (b : Bool). LeavesAll (g.records n) b (g.may_leave n)) (sym s.runs) (s.stable told)

-- ---- no answer

-- there is no answer, for a reason for which the journal is left so
pub unanswered : (here : Setting) (sign : Signs) (J : List Record) (a : Asked) (then : List Record) (result : Result (List ℕ) Halt) (why : Halt → Type 0)
    → IsErrAnd result why → ((e : Halt) → why e → IsUnanswered here sign J a e then) → AnswersAsked here sign J a result then
unanswered here sign J a then (Ok text) why is left = absurd is
unanswered here sign J a then (Err e) why is left = left e is

-- what is asked was done, and no memory was found for the message
pub unsaid : (here : Setting) (sign : Signs) (J : List Record) (a : Asked) (then : List Record) (result : Result (List ℕ) Halt)
    → IsErrAnd result (λ e. e ≡ halt.Memory) → then ≡ (came_by here sign J a).journal → AnswersAsked here sign J a result then
unsaid here sign J a then result is done = unanswered here sign J a then result (λ e. e ≡ halt.Memory) is (λ e memory. inr (memory, done))

-- ---- a call that may append

-- the call, by what is answered instead of a reply
asked_call : {N : Type 0} (g : Ghosts N) (old new : N) (then appends : List Record) {stopped was_failed nothing : Type 0} (failed : Type 0) → IsServing g old → then ≡ g.records old ++ appends
    → IsNodeCall g old new appends stopped was_failed nothing → LastsIn g was_failed old new → (was_failed → failed) → (failed → was_failed) → IsAskedCall g old new then failed
asked_call g old new then appends {was_failed = was_failed} failed running brings node lasts so back = record {
  same = node.same;
  appends = appends;
  brings = brings;
  lasts = node.journal.lasts;
  lawful = lasts_so g was_failed failed old new so lasts;
  runs = λ well. runs_on (g.stopped old) (g.stopped new) _ _ running.runs node.journal.stops (λ f. well (so f));
  cause = record { never_falls = node.journal.disk.cause.never_falls; rose = λ f. node.journal.disk.cause.rose (back f); only = λ rose. so (node.journal.disk.cause.only rose) };
  calm = node.journal.disk.calm;
}

-- ---- no reply was given

abbrev pub no_reply : Halt → Result Reply Halt
no_reply e = Err e

abbrev pub no_text : Halt → Result (List ℕ) Halt
no_text e = Err e

as_text : (e d : Halt) → no_reply e ≡ no_reply d → no_text e ≡ no_text d
as_text e d is = let p : e ≡ d = cc in ap no_text p

as_reply : (e d : Halt) → no_text e ≡ no_text d → no_reply e ≡ no_reply d
as_reply e d is = let p : e ≡ d = cc in ap no_reply p

none_failed : (reply : Reply) → Ok reply ≡ no_reply halt.Disk → ⊥
none_failed reply is = cc

-- a running node doesn't answer that it was stopped
never_stopped : {N : Type 0} (g : Ghosts N) (old new : N) (e : Halt) {failed : Type 0} → IsServing g old → StopsBy (g.stopped old) (g.stopped new) (no_reply e ≡ no_reply halt.Stopped) failed → no_text e ≡ no_text halt.Stopped → ⊥
never_stopped g old new e running stops is =
    let was : g.stopped old ≡ true = stops.answered.0 (as_reply e halt.Stopped is) in
    let wrong : true ≡ false = sym was ∙ running.runs in
    absurd cc

-- ---- a request

pub request_halted : {N : Type 0} (g : Ghosts N) (old new : N) (r : Request) (e : Halt) → IsServing g old → IsRequestCall g old new r (no_reply e)
    → IsAskedCall g old new (served (g.stands old) (g.signature_of old) (g.records old) r).journal (no_text e ≡ no_text halt.Disk)
request_halted g old new r e running call = asked_call g old new _ call.appends _ running call.brings call.node call.lasts (as_text e halt.Disk) (as_reply e halt.Disk)

pub request_never_stopped : {N : Type 0} (g : Ghosts N) (old new : N) (r : Request) (e : Halt) → IsServing g old → IsRequestCall g old new r (no_reply e) → no_text e ≡ no_text halt.Stopped → ⊥
request_never_stopped g old new r e running call is = never_stopped g old new e running call.node.journal.stops is

pub request_replied : {N : Type 0} (g : Ghosts N) (old new : N) (r : Request) (reply : Reply) (failed : Type 0) → (failed → ⊥) → IsServing g old → IsRequestCall g old new r (Ok reply)
    → IsAskedCall g old new (served (g.stands old) (g.signature_of old) (g.records old) r).journal failed
request_replied g old new r reply failed well running call = asked_call g old new _ call.appends failed running call.brings call.node call.lasts (λ is. absurd (none_failed reply is)) (λ is. absurd (well is))

-- ---- what is to be sent

pub sending_halted : {N : Type 0} (g : Ghosts N) (old new : N) (s : SendRequest) (e : Halt) → IsServing g old → IsSendCall g old new s (no_reply e)
    → IsAskedCall g old new (sent_by (g.stands old) (g.signature_of old) (g.records old) s).journal (no_text e ≡ no_text halt.Disk)
sending_halted g old new s e running call = asked_call g old new _ call.appends _ running call.brings call.node call.lasts (as_text e halt.Disk) (as_reply e halt.Disk)

pub sending_never_stopped : {N : Type 0} (g : Ghosts N) (old new : N) (s : SendRequest) (e : Halt) → IsServing g old → IsSendCall g old new s (no_reply e) → no_text e ≡ no_text halt.Stopped → ⊥
sending_never_stopped g old new s e running call is = never_stopped g old new e running call.node.journal.stops is

pub sending_replied : {N : Type 0} (g : Ghosts N) (old new : N) (s : SendRequest) (reply : Reply) (failed : Type 0) → (failed → ⊥) → IsServing g old → IsSendCall g old new s (Ok reply)
    → IsAskedCall g old new (sent_by (g.stands old) (g.signature_of old) (g.records old) s).journal failed
sending_replied g old new s reply failed well running call = asked_call g old new _ call.appends failed running call.brings call.node call.lasts (λ is. absurd (none_failed reply is)) (λ is. absurd (well is))

-- the message of a reply
pub replies : (then : List Record) (s : Served) (reply : Reply) (text : List ℕ) → s ≡ record { journal = then; reply = reply } → text ≡ text_of_reply reply → came_to s ≡ record { journal = then; text = text }
replies then s reply text is written = ap came_to is ∙ ap (λ (t : List ℕ). record { journal = then; text = t }) (sym written)

-- ---- a question

no_more : (n : ℕ) → n < n → ⊥
no_more n more = absurd (omega (arith, more))

-- a node that isn't called
pub untouched_asked : {N : Type 0} (g : Ghosts N) → ((n : N) (file : List ℕ) → g.left_since n (g.moment n) file → g.may_leave n file)
    → (n : N) (failed : Type 0) → (failed → ⊥) → IsLawful (g.stands n) (g.records n) → IsServing g n → IsAskedCall g n n (g.records n) failed
untouched_asked g only_now n failed well lawful running = record {
  same = record { stands = refl; key = refl; signs = refl };
  appends = [];
  brings = sym (append-nil (g.records n));
  lasts = idle_lasts (journal_of g) only_now n [] (stable_of g n running);
  lawful = nothing_in g only_now failed n lawful (stable_of g n running);
  runs = λ _. running.runs;
  cause = record { never_falls = omega arith; rose = λ f. absurd (well f); only = λ rose. absurd (no_more (g.faults n) rose) };
  calm = λ is. (is, refl);
}
