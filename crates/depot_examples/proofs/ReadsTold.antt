-- The reads of a node in the world of a schedule are those of its `get` events, and the judged proofs those with a verdict.
use Rattle.std.proofs.Common.{◌≡◌, ℕ, ◌≤◌, Bool, true, false, eqb, cond, List, [], ◌∷◌, ◌++◌, append_assoc, map, Option, Some, None, Result, Ok, Err, refl, sym, ap, subst, ◌∙◌, inl, inr, codes, arith}
use Rattle.std.specs.Prelude.{◌⊎◌, filter, option_map}
use Rattle.std.proofs.lemmas.Bool.{eqb-true, eq-eqb, cond-false}
use Rattle.std.proofs.lemmas.List.{append-nil, map-append}
use Rattle.depot_base.specs.Writes.{one_change}
use Rattle.depot_base.specs.declared.proof.Proof.{Proof}
use Rattle.depot_base.specs.declared.update.Update.{Update}
use Rattle.depot_model.specs.exchange.Bundle.{Signs}
use Rattle.depot_model.specs.checks.Checks.{Setting}
use Rattle.depot_model.specs.lists.Items.{AreDistinct}
use Rattle.depot_model.specs.updates.Judgement.{first_failed_point, verdict_of}
use Rattle.depot_model.specs.texts.Lines.{text_of_point, text_of_verdict}
use Rattle.depot_answers.specs.AnswerTexts.{spaced}
use Rattle.depot_model.specs.lists.Lists.{IsIn}
use Rattle.depot_model.specs.readers.Readers.{trim_of}
use Rattle.depot_model.specs.texts.Texts.{id_of_update}
use Rattle.depot_model.specs.checks.Vouching.{rising}
use Rattle.depot_model.specs.worlds.World.{Correct, Read}
use Rattle.depot_model.specs.declared.judgement.JudgeError.{JudgeError}
use Rattle.depot_model.proofs.lists.Members.{from_map, in_map, all_at}
use Rattle.depot_schedule.specs.Schedules.{FitsEvent, FitEvents, IsSchedule, with_event, before_events}
use Rattle.depot_schedule.specs.declared.event.Event.{Event}
use Rattle.depot_schedule.specs.declared.event.Event.TheVariants as event
use Rattle.depot_schedule.specs.declared.member.Member.{Member}
use Rattle.depot_schedule.specs.declared.schedule.Schedule.{Schedule}
use Rattle.depot_examples.specs.Asked.{key_read, keys_read, verdict_on, verdicts_on}
use Rattle.depot_requests.specs.Effects.{Effect}
use Rattle.depot_requests.specs.Requests.{effect_of, served}
use Rattle.depot_requests.specs.declared.request.Request.{Request}
use Rattle.depot_requests.specs.declared.request.Request.TheVariants as request
use Rattle.depot_schedule.specs.EventLines.{event_node, stop_line}
use Rattle.depot_world.specs.EventRequests.{label_by, piece_of, request_in}
use Rattle.depot_world.specs.ScheduleStops.{restart_by}
use Rattle.depot_world.specs.FaultySigning.{all_referred, updated, proof_in}
use Rattle.depot_world.specs.Run.{Run, Host, fresh_host, run_of, world_by, host_in, bytes_of_label, referred, with_host}
use Rattle.depot_world.specs.ScheduleStops.{event_result}
use Rattle.depot_world.specs.Setups.{Setup, setup_of, stands_on, signs_on}
use Rattle.depot_world.specs.Transcript.{Done, done_by_node, done_at_node, pending_at, asked_at, asked_for, trimmed_with, trim_at, done_by_update, judged_with, done, run_after, world_of}
use Rattle.depot_world.proofs.of_worlds.GoodRuns.{numbers_of}
use Rattle.depot_world.proofs.of_worlds.GoodWorlds.{schedule_makes_world}
use Rattle.depot_world.proofs.ReadCounts.{request_reads}
use Rattle.depot_examples.proofs.HostReads.{keys_of, Waits, HasRead, no_keys, no_keys_either, Follows, stays, node_follows, stop_follows}

-- ---- the reads of each event

-- a effect that reads nothing
silent : (s : Host) (reads : List Read) → reads ≡ s.correct.reads → map (λ (r : Read). r.key) reads ≡ keys_of s ++ []
silent s reads same = ap (λ (rs : List Read). map (λ (r : Read). r.key) rs) same ∙ sym (append-nil (keys_of s))

-- what a node is asked reads these keys
abbrev keys_by : Request → List (List ℕ)
keys_by (request.Get key) = key ∷ []
keys_by other = []

asked_reads : (here : Setting) (sign : Signs) (s : Host) (r : Request) → map (λ (x : Read). x.key) (effect_of here sign s.correct r).reads ≡ keys_of s ++ keys_by r
asked_reads here sign s (request.Get key) = ap (map (λ (x : Read). x.key)) (request_reads here sign s.correct (request.Get key)) ∙ map-append (λ (x : Read). x.key) s.correct.reads _
asked_reads here sign s other = silent s _ (request_reads here sign s.correct other)

-- a read makes no call
asked_calls : (here : Setting) (sign : Signs) (s : Host) (r : Request) → (keys_by r ≡ []) ⊎ ((effect_of here sign s.correct r).calls ≡ 0)
unfolding effect_of served
asked_calls here sign s (request.Get key) = inr (omega arith)
asked_calls here sign s other = inl refl

restart_silent : (s : Host) → map (λ (r : Read). r.key) (restart_by s.correct).reads ≡ keys_of s ++ []
unfolding restart_by
restart_silent s = silent s _ refl

-- the node of an event, and 0 where no node takes part
abbrev node_in : Event → ℕ
node_in (event.Put node key value) = node
node_in (event.Puts node changes) = node
node_in (event.Get node key) = node
node_in (event.Hello node label) = node
node_in (event.Bundle node hello label) = node
node_in (event.Give node label size) = node
node_in (event.Restart node) = node
node_in (event.Stop node call image) = node
node_in (event.Receipt node refs) = node
node_in (event.Settled node reference k) = node
node_in (event.Checkpoint node label) = node
node_in (event.Sign node label) = node
node_in (event.Trim node label name) = node
node_in other = 0

-- the keys that an event reads, whoever reads them
abbrev keys_in : Event → List (List ℕ)
keys_in (event.Get node key) = key ∷ []
keys_in other = []

-- a stop waits for a call
abbrev StopsLater : Event → Type 0
StopsLater (event.Stop node call image) = 1 ≤ call
StopsLater other = Unit {0}

stop_is : (s : Schedule) (node call image : ℕ) → stop_line.fits s (event.Stop node call image) → 1 ≤ call
unfolding stop_line
stop_is s node call image (of_node, (of_call, (of_image, same))) = of_call.0

stops_later : (s : Schedule) (e : Event) → FitsEvent s e → StopsLater e
stops_later s (event.Put node k v) fits = tt
stops_later s (event.Puts node cs) fits = tt
stops_later s (event.Get node k) fits = tt
stops_later s (event.Hello node label) fits = tt
stops_later s (event.Bundle node hello label) fits = tt
stops_later s (event.Give node label size) fits = tt
stops_later s (event.Restart node) fits = tt
stops_later s (event.Update label writer seq clock prev k v deps hash) fits = tt
stops_later s (event.Updates label writer seq clock prev cs deps hash) fits = tt
stops_later s (event.Voucher label writer seq refs) fits = tt
stops_later s (event.Proof label kind first second) fits = tt
stops_later s (event.Hollow label voucher plain) fits = tt
stops_later s (event.Judge label) fits = tt
stops_later s (event.Raw label bytes) fits = tt
stops_later s (event.Cut label source start count) fits = tt
stops_later s (event.Flip label source place) fits = tt
stops_later s (event.Join label first second) fits = tt
stops_later s (event.Stop node call image) fits = stop_is s node call image fits
stops_later s (event.Receipt node refs) fits = tt
stops_later s (event.Settled node reference k) fits = tt
stops_later s event.Audit fits = tt
stops_later s (event.Checkpoint node label) fits = tt
stops_later s (event.Sign node label) fits = tt
stops_later s (event.Trim node label name) fits = tt
stops_later s (event.Tgive name label) fits = tt
stops_later s (event.Tget name key) fits = tt

update_stays : (sign : Signs) (run : Run) (label : List ℕ) (values : List (List ℕ)) (o : Option Update) → run.hosts ≡ (done_by_update sign run label values o).run.hosts
update_stays sign run label values None = refl
update_stays sign run label values (Some u) = refl

judge_stays : (setup : Setup) (run : Run) (read : Result Proof ℕ) → run.hosts ≡ (judged_with setup run read).run.hosts
judge_stays setup run (Err at) = refl
judge_stays setup run (Ok p) = by_point (first_failed_point setup.suite.verifies setup.listed p) where
  by_point : (o : Option JudgeError)
      → run.hosts ≡ (elim o as (λ x. Done) [ Some f ↦ record { answer = spaced (text_of_point f); behind = []; run = run } | None ↦ record { answer = spaced (text_of_verdict (verdict_of p)); behind = []; run = record run { judged = run.judged ++ p ∷ [] } } ]).run.hosts
  by_point (Some f) = refl
  by_point None = refl

-- what a node is asked, if references name it

asked_follows : (setup : Setup) (run : Run) (node : ℕ) (label : Option (List ℕ)) (r : Request) → ((s : Host) → IsIn s run.hosts → Waits s) → Follows run (asked_at setup run node label r).run node (keys_by r)
asked_follows setup run node label r all =
    let here = stands_on setup node in
    let sign = signs_on setup node in
    node_follows run node label (λ s. effect_of here sign s.correct r) (keys_by r) all (λ s. asked_reads here sign s r) (λ s. asked_calls here sign s r)

receipts_follow : (setup : Setup) (run : Run) (node : ℕ) (o : Option (List Update)) → ((s : Host) → IsIn s run.hosts → Waits s) → Follows run (asked_for setup run node None (option_map (λ us. request.Receipt (rising (map id_of_update us))) o)).run node []
receipts_follow setup run node None all = stays run _ node refl
receipts_follow setup run node (Some us) all = asked_follows setup run node None (request.Receipt (rising (map id_of_update us))) all

settled_follows : (setup : Setup) (run : Run) (node k : ℕ) (o : Option Update) → ((s : Host) → IsIn s run.hosts → Waits s) → Follows run (asked_for setup run node None (option_map (λ u. request.Settled (id_of_update u) k) o)).run node []
settled_follows setup run node k None all = stays run _ node refl
settled_follows setup run node k (Some u) all = asked_follows setup run node None (request.Settled (id_of_update u) k) all

-- a reader is made: no node has a part in what it reads

trim_stays : (setup : Setup) (run : Run) (node : ℕ) (text name : List ℕ) → run.hosts ≡ (trim_at setup run node text name).run.hosts
unfolding trim_at
trim_stays setup run node text name = by_host (host_in run.hosts node) where
  by_host : (o : Option Host) → run.hosts ≡ (elim o as (λ x. Done) [ None ↦ record { answer = []; behind = []; run = run } | Some s ↦ trimmed_with run name (trim_of (stands_on setup node) s.correct.journal text) ]).run.hosts
  by_host None = refl
  by_host (Some s) = refl

event_follows : (setup : Setup) (run : Run) (e : Event) → ((s : Host) → IsIn s run.hosts → Waits s) → StopsLater e → Follows run (done setup run e).run (node_in e) (keys_in e)
unfolding done
event_follows setup run (event.Put node key value) all later = asked_follows setup run node None (request.Put (one_change key value)) all
event_follows setup run (event.Puts node changes) all later = asked_follows setup run node None (request.Put changes) all
event_follows setup run (event.Get node key) all later = asked_follows setup run node None (request.Get key) all
event_follows setup run (event.Hello node label) all later = asked_follows setup run node (Some label) request.Hello all
event_follows setup run (event.Bundle node hello label) all later = asked_follows setup run node (Some label) (request.Bundle (bytes_of_label run hello)) all
event_follows setup run (event.Give node label size) all later = asked_follows setup run node None (request.Take (bytes_of_label run label) (piece_of size)) all
event_follows setup run (event.Restart node) all later = node_follows run node None (λ s. restart_by s.correct) [] all (λ s. restart_silent s) (λ s. inl refl)
event_follows setup run (event.Update label writer seq clock prev key value deps history) all later = stays run _ 0 (update_stays (signs_on setup writer) run label _ (updated (signs_on setup writer) run writer seq clock prev (one_change key value) deps history))
event_follows setup run (event.Updates label writer seq clock prev changes deps history) all later = stays run _ 0 (update_stays (signs_on setup writer) run label _ (updated (signs_on setup writer) run writer seq clock prev changes deps history))
event_follows setup run (event.Voucher label writer seq refs) all later = stays run _ 0 refl
event_follows setup run (event.Proof label kind first second) all later = stays run _ 0 refl
event_follows setup run (event.Hollow label voucher plain) all later = stays run _ 0 refl
event_follows setup run (event.Judge label) all later = stays run _ 0 (judge_stays setup run (proof_in (bytes_of_label run label)))
event_follows setup run (event.Raw label bytes) all later = stays run _ 0 refl
event_follows setup run (event.Cut label source start count) all later = stays run _ 0 refl
event_follows setup run (event.Flip label source place) all later = stays run _ 0 refl
event_follows setup run (event.Join label first second) all later = stays run _ 0 refl
event_follows setup run (event.Stop node call image) all later = stop_follows run node call image later
event_follows setup run (event.Receipt node refs) all later = receipts_follow setup run node (all_referred run refs) all
event_follows setup run (event.Settled node reference k) all later = settled_follows setup run node k (referred run reference) all
event_follows setup run event.Audit all later = stays run _ 0 refl
event_follows setup run (event.Checkpoint node label) all later = asked_follows setup run node (Some label) request.Checkpoint all
event_follows setup run (event.Sign node label) all later = asked_follows setup run node None (request.Sign (bytes_of_label run label)) all
event_follows setup run (event.Trim node label name) all later = stays run _ node (trim_stays setup run node (bytes_of_label run label) name)
event_follows setup run (event.Tgive name label) all later = stays run _ 0 refl
event_follows setup run (event.Tget name key) all later = stays run _ 0 refl

-- ---- all events

-- of the keys of an event those of this node
none : (b : Bool) → cond b no_keys no_keys ≡ no_keys
none b = sym (no_keys_either b)

read_here : (node : ℕ) (e : Event) → cond (eqb (node_in e) node) (keys_in e) [] ≡ key_read node e
read_here node (event.Put n k v) = none (eqb n node)
read_here node (event.Puts n cs) = none (eqb n node)
read_here node (event.Get n k) = refl
read_here node (event.Hello n label) = none (eqb n node)
read_here node (event.Bundle n hello label) = none (eqb n node)
read_here node (event.Give n label size) = none (eqb n node)
read_here node (event.Restart n) = none (eqb n node)
read_here node (event.Update label writer seq clock prev k v deps hash) = none (eqb 0 node)
read_here node (event.Updates label writer seq clock prev cs deps hash) = none (eqb 0 node)
read_here node (event.Voucher label writer seq refs) = none (eqb 0 node)
read_here node (event.Proof label kind first second) = none (eqb 0 node)
read_here node (event.Hollow label voucher plain) = none (eqb 0 node)
read_here node (event.Judge label) = none (eqb 0 node)
read_here node (event.Raw label bytes) = none (eqb 0 node)
read_here node (event.Cut label source start count) = none (eqb 0 node)
read_here node (event.Flip label source place) = none (eqb 0 node)
read_here node (event.Join label first second) = none (eqb 0 node)
read_here node (event.Stop n call image) = none (eqb n node)
read_here node (event.Receipt n refs) = none (eqb n node)
read_here node (event.Settled n reference k) = none (eqb n node)
read_here node event.Audit = none (eqb 0 node)
read_here node (event.Checkpoint n label) = none (eqb n node)
read_here node (event.Sign n label) = none (eqb n node)
read_here node (event.Trim n label name) = none (eqb n node)
read_here node (event.Tgive name label) = none (eqb 0 node)
read_here node (event.Tget name key) = none (eqb 0 node)

record After (setup : Setup) (run : Run) (es : List Event) (node : ℕ) (keys : List (List ℕ)) : Type 0 where
  pub numbers : numbers_of (run_after setup run es).hosts ≡ numbers_of run.hosts
  pub reads : HasRead run.hosts node keys → HasRead (run_after setup run es).hosts node (keys ++ keys_read node es)

events_follow : (setup : Setup) (s : Schedule) (run : Run) (es : List Event) (node : ℕ) (keys : List (List ℕ)) → FitEvents s es → ((x : Host) → IsIn x run.hosts → Waits x) → After setup run es node keys
unfolding run_after
events_follow setup s run [] node keys fit all = record { numbers = refl; reads = λ has. record { host = has.host; at = has.at; are = has.are ∙ sym (append-nil keys) } }
events_follow setup s run (e ∷ es) node keys fit all =
    let f = event_follows setup run e all (stops_later s e fit.0) in
    let rest = events_follow setup (with_event s e) (done setup run e).run es node (keys ++ key_read node e) fit.1 (f.waits all) in
    record {
      numbers = rest.numbers ∙ f.numbers;
      reads = λ has.
          let next = f.reads node keys has in
          let at_end = rest.reads (record { host = next.host; at = next.at; are = next.are ∙ ap (λ (ks : List (List ℕ)). keys ++ ks) (read_here node e) }) in
          record { host = at_end.host; at = at_end.at; are = at_end.are ∙ append_assoc keys (key_read node e) (keys_read node es) };
    }

-- ---- before the first event

begin_unread : (setup : Setup) (ms : List Member) (node : ℕ) → IsIn node (numbers_of (map (λ (m : Member). fresh_host setup m.node) ms)) → HasRead (map (λ (m : Member). fresh_host setup m.node) ms) node []
unfolding host_in
begin_unread setup [] node never = absurd never
begin_unread setup (m ∷ ms) node on = choice (eqb m.node node) refl (λ there. begin_unread setup ms node there) where
  apart : false ≡ true → ⊥
  apart e = cc

  choice : (b : Bool) → eqb m.node node ≡ b → (IsIn node (numbers_of (map (λ (x : Member). fresh_host setup x.node) ms)) → HasRead (map (λ (x : Member). fresh_host setup x.node) ms) node []) → HasRead (map (λ (x : Member). fresh_host setup x.node) (m ∷ ms)) node []
  choice true same rest = record { host = fresh_host setup m.node; at = rw same refl; are = refl }
  choice false other rest = elim on [
    | inl here ↦ absurd (apart (sym other ∙ eq-eqb m.node node here))
    | inr there ↦ (let h = rest there in record { host = h.host; at = cond-false (eqb m.node node) (Some (fresh_host setup m.node)) _ other ∙ h.at; are = h.are })
  ]

-- no stop waits yet
begin_waits : (setup : Setup) (ms : List Member) (x : Host) → IsIn x (map (λ (m : Member). fresh_host setup m.node) ms) → Waits x
begin_waits setup ms x on a e = let m = from_map (λ (m : Member). fresh_host setup m.node) x ms on in absurd (none_waits m.0 m.1.1) where
  none_waits : (m : Member) → fresh_host setup m.node ≡ x → ⊥
  none_waits m same = let wrong : None ≡ Some a = ap (λ (y : Host). y.pending) same ∙ e in cc

-- ---- the law

-- in a list of hosts of which no two have a number, each is found by its own
found_by_number : (ss : List Host) (x : Host) → AreDistinct (numbers_of ss) → IsIn x ss → host_in ss x.correct.node ≡ Some x
unfolding host_in
found_by_number [] x distinct never = absurd never
found_by_number (t ∷ ss) x distinct (inl here) = subst (λ (y : Host). cond (eqb t.correct.node y.correct.node) (Some t) (host_in ss y.correct.node) ≡ Some y) here (rw (eq-eqb t.correct.node t.correct.node refl) refl)
found_by_number (t ∷ ss) x distinct (inr there) = cond-false (eqb t.correct.node x.correct.node) (Some t) _ (differs (eqb t.correct.node x.correct.node) refl) ∙ found_by_number ss x distinct.1 there where
  differs : (b : Bool) → eqb t.correct.node x.correct.node ≡ b → eqb t.correct.node x.correct.node ≡ false
  differs true same = absurd (all_at (λ (n : ℕ). n ≡ t.correct.node → ⊥) (numbers_of ss) x.correct.node distinct.0 (in_map (λ (y : Host). y.correct.node) x ss there) (sym (eqb-true t.correct.node x.correct.node same)))
  differs false other = other

same_nodes : (ss : List Host) → map (λ (c : Correct). c.node) (map (λ (s : Host). s.correct) ss) ≡ numbers_of ss
same_nodes [] = refl
same_nodes (s ∷ ss) = ap (λ (ns : List ℕ). s.correct.node ∷ ns) (same_nodes ss)

-- what a run begins with, and its outcome
begin_all : (setup : Setup) (ms : List Member) (node : ℕ) → IsIn node (numbers_of (run_of setup ms).hosts) → HasRead (run_of setup ms).hosts node []
unfolding run_of
begin_all setup ms node on = begin_unread setup (filter (λ (m : Member). m.correct) ms) node on

begin_still : (setup : Setup) (ms : List Member) (x : Host) → IsIn x (run_of setup ms).hosts → Waits x
unfolding run_of
begin_still setup ms x on = begin_waits setup (filter (λ (m : Member). m.correct) ms) x on

host_read : (setup : Setup) (s : Schedule) (x : Host) → IsSchedule s → AreDistinct (numbers_of (run_after setup (run_of setup s.members) s.events).hosts) → IsIn x (run_after setup (run_of setup s.members) s.events).hosts → keys_of x ≡ keys_read x.correct.node s.events
host_read setup s x is distinct on =
    let last = (run_after setup (run_of setup s.members) s.events).hosts in
    let a = events_follow setup (before_events s) (run_of setup s.members) s.events x.correct.node [] is.events (begin_still setup s.members) in
    let known : IsIn x.correct.node (numbers_of (run_of setup s.members).hosts) = subst (λ (ns : List ℕ). IsIn x.correct.node ns) a.numbers (in_map (λ (y : Host). y.correct.node) x last on) in
    let has = a.reads (begin_all setup s.members x.correct.node known) in
    let one : has.host ≡ x = some_is has.host (sym has.at ∙ found_by_number last x distinct on) in
    ap keys_of (sym one) ∙ has.are
  where
    some_is : (t : Host) → Some t ≡ Some x → t ≡ x
    some_is t e = cc

-- the keys of a node's reads are those of its gets
pub reads_are_gets : (s : Schedule) (c : Correct) → IsSchedule s → IsIn c (world_of s).nodes → map (λ (r : Read). r.key) c.reads ≡ keys_read c.node s.events
unfolding world_of world_by
reads_are_gets s c is on =
    let last = (run_after (setup_of s) (run_of (setup_of s) s.members) s.events).hosts in
    let m = from_map (λ (x : Host). x.correct) c last on in
    let distinct = subst AreDistinct (same_nodes last) (schedule_makes_world s is).distinct in
    subst (λ (d : Correct). map (λ (r : Read). r.key) d.reads ≡ keys_read d.node s.events) m.1.1 (host_read (setup_of s) s m.0 is distinct m.1.0)

-- ---- verdicts

node_judged : (run : Run) (node : ℕ) (label : Option (List ℕ)) (effect : Host → Effect) → (done_at_node run node label effect).run.judged ≡ run.judged ++ []
unfolding done_at_node with_host
node_judged run node label effect = by_host (host_in run.hosts node) where
  by_label : (l : Option (List ℕ)) (s : Host) → (done_by_node run l (event_result s (effect s))).run.judged ≡ run.judged ++ []
  by_label None s = sym (append-nil run.judged)
  by_label (Some name) s = sym (append-nil run.judged)

  by_host : (o : Option Host) → (elim o as (λ x. Done) [ None ↦ record { answer = []; behind = []; run = run } | Some s ↦ done_by_node run label (event_result s (effect s)) ]).run.judged ≡ run.judged ++ []
  by_host None = sym (append-nil run.judged)
  by_host (Some s) = by_label label s

stop_judged : (run : Run) (node call image : ℕ) → (pending_at run node call image).run.judged ≡ run.judged ++ []
unfolding pending_at with_host
stop_judged run node call image = by_host (host_in run.hosts node) where
  by_host : (o : Option Host) → (elim o as (λ x. Done) [ None ↦ record { answer = []; behind = []; run = run } | Some s ↦ record { answer = codes " armed"; behind = []; run = with_host run (record { correct = s.correct; pending = Some (record { call = call; image = image }) }) } ]).run.judged ≡ run.judged ++ []
  by_host None = sym (append-nil run.judged)
  by_host (Some s) = sym (append-nil run.judged)

update_judged : (sign : Signs) (run : Run) (label : List ℕ) (values : List (List ℕ)) (o : Option Update) → (done_by_update sign run label values o).run.judged ≡ run.judged ++ []
update_judged sign run label values None = sym (append-nil run.judged)
update_judged sign run label values (Some u) = sym (append-nil run.judged)

judge_judged : (setup : Setup) (run : Run) (read : Result Proof ℕ) → (judged_with setup run read).run.judged ≡ run.judged ++ elim read [ Err at ↦ [] | Ok p ↦ elim (first_failed_point setup.suite.verifies setup.listed p) [ Some point ↦ [] | None ↦ p ∷ [] ] ]
judge_judged setup run (Err at) = sym (append-nil run.judged)
judge_judged setup run (Ok p) = by_point (first_failed_point setup.suite.verifies setup.listed p) where
  by_point : (o : Option JudgeError)
      → (elim o as (λ x. Done) [ Some f ↦ record { answer = spaced (text_of_point f); behind = []; run = run } | None ↦ record { answer = spaced (text_of_verdict (verdict_of p)); behind = []; run = record run { judged = run.judged ++ p ∷ [] } } ]).run.judged
      ≡ run.judged ++ elim o as (λ x. List Proof) [ Some point ↦ [] | None ↦ p ∷ [] ]
  by_point (Some f) = sym (append-nil run.judged)
  by_point None = refl

asked_judged : (setup : Setup) (run : Run) (node : ℕ) (label : Option (List ℕ)) (o : Option Request) → (asked_for setup run node label o).run.judged ≡ run.judged ++ []
asked_judged setup run node label None = sym (append-nil run.judged)
asked_judged setup run node label (Some r) = node_judged run node label _

trim_judged : (setup : Setup) (run : Run) (node : ℕ) (text name : List ℕ) → (trim_at setup run node text name).run.judged ≡ run.judged ++ []
unfolding trim_at
trim_judged setup run node text name = by_host (host_in run.hosts node) where
  by_host : (o : Option Host) → (elim o as (λ x. Done) [ None ↦ record { answer = []; behind = []; run = run } | Some s ↦ trimmed_with run name (trim_of (stands_on setup node) s.correct.journal text) ]).run.judged ≡ run.judged ++ []
  by_host None = sym (append-nil run.judged)
  by_host (Some s) = sym (append-nil run.judged)

event_judges : (setup : Setup) (run : Run) (e : Event) → (done setup run e).run.judged ≡ run.judged ++ verdict_on setup run e
unfolding done
event_judges setup run (event.Restart node) = node_judged run node None _
event_judges setup run (event.Update label writer seq clock prev key value deps history) = update_judged (signs_on setup writer) run label _ (updated (signs_on setup writer) run writer seq clock prev (one_change key value) deps history)
event_judges setup run (event.Updates label writer seq clock prev changes deps history) = update_judged (signs_on setup writer) run label _ (updated (signs_on setup writer) run writer seq clock prev changes deps history)
event_judges setup run (event.Voucher label writer seq refs) = sym (append-nil run.judged)
event_judges setup run (event.Proof label kind first second) = sym (append-nil run.judged)
event_judges setup run (event.Hollow label voucher plain) = sym (append-nil run.judged)
event_judges setup run (event.Judge label) = judge_judged setup run (proof_in (bytes_of_label run label))
event_judges setup run (event.Raw label bytes) = sym (append-nil run.judged)
event_judges setup run (event.Cut label source start count) = sym (append-nil run.judged)
event_judges setup run (event.Flip label source place) = sym (append-nil run.judged)
event_judges setup run (event.Join label first second) = sym (append-nil run.judged)
event_judges setup run (event.Stop node call image) = stop_judged run node call image
event_judges setup run event.Audit = sym (append-nil run.judged)
event_judges setup run (event.Trim node label name) = trim_judged setup run node (bytes_of_label run label) name
event_judges setup run (event.Tgive name label) = sym (append-nil run.judged)
event_judges setup run (event.Tget name key) = sym (append-nil run.judged)
event_judges setup run e = asked_judged setup run (event_node e) (label_by e) (request_in run e)

events_judge : (setup : Setup) (run : Run) (es : List Event) → (run_after setup run es).judged ≡ run.judged ++ verdicts_on setup run es
unfolding run_after
events_judge setup run [] = sym (append-nil run.judged)
events_judge setup run (e ∷ es) =
    events_judge setup (done setup run e).run es
    ∙ ap (λ (ps : List Proof). ps ++ verdicts_on setup (done setup run e).run es) (event_judges setup run e)
    ∙ append_assoc run.judged (verdict_on setup run e) (verdicts_on setup (done setup run e).run es)

-- the judged proofs are those that events have verdicts on
pub judged_are_verdicts : (s : Schedule) → (world_of s).judged ≡ verdicts_on (setup_of s) (run_of (setup_of s) s.members) s.events
unfolding world_of world_by run_of
judged_are_verdicts s = events_judge (setup_of s) (run_of (setup_of s) s.members) s.events
