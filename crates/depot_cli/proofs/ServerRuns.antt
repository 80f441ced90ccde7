-- How `serve` ends, by the outcome of its roster, and its outcome where nothing fails.
use Rattle.std.proofs.Common.{◌≡◌, ◌≢◌, ◌⊎◌, ℕ, ◌+◌, List, [], ◌∷◌, ◌++◌, append_assoc, append-nil, length, length-append, take, drop, Bool, true, false, Option, Some, None, Result, Err, codes, refl, sym, ap, subst, ◌∙◌, arith, inl, inr}
use Rattle.std.proofs.Math.Seq.{drop-append_seam, take-append_seam}
use Rattle.std.proofs.lemmas.List.{append_cancel_left}
use Rattle.std.proofs.lemmas.Result.{IfOk-weaker}
use Rattle.std.proofs.lemmas.Slice.Eq.{bytes_eq-Decides}
use Rattle.std.specs.Str.{bytes_eq}
use Rattle.std.specs.Int.{w32, from_be_bytes}
use Rattle.std.specs.List.{flat_map}
use Rattle.std.specs.Result.{IfOk}
use Rattle.depot_base.specs.declared.key.RosterEntry.{RosterEntry}
use Rattle.depot_base.specs.declared.memory.Memory as absent
use Rattle.depot_base.specs.declared.record.Record.{Record}
use Rattle.depot_model.specs.texts.Lines.{text_of_roster_error}
use Rattle.depot_model.specs.texts.RosterText.{IsRefusedFor}
use Rattle.depot_model.specs.declared.roster_format.RosterError.{RosterError}
use Rattle.depot_model.specs.declared.roster_format.RosterError.TheVariants as roster_error
use Rattle.depot_node.specs.Starting.{LeavesFile}
use Rattle.depot_node.specs.declared.start_error.StartError.{StartError}
use Rattle.depot_node.specs.declared.start_error.StartError.TheVariants as refused
use Rattle.depot_outside.specs.Told.{Disks, HasFile, HasLoaded, Loads, Shelves, Sinks, WhereTold, Wrote}
use Rattle.depot_service.proofs.AskedFaults.{no_fault}
use Rattle.depot_service.specs.Bodies.{IsAskedFault}
use Rattle.depot_session.specs.Answering.{ServesBody}
use Rattle.depot_session.specs.Hearing.{NoRequestCame}
use Rattle.depot_session.specs.ServerRuns as runs
use Rattle.depot_session.specs.Serving.{AreAsking, BreaksOff, faults_risen}
use Rattle.depot_session.specs.declared.server_ending.ServeEnding.{ServeEnding}
use Rattle.depot_session.specs.declared.server_ending.ServeEnding.TheVariants as cut
use Rattle.depot_session.specs.declared.server_ending.ServerEnding.{ServerEnding}
use Rattle.depot_session.specs.declared.server_ending.ServerEnding.TheVariants as ending
use Rattle.depot_source.specs.Inputs.{Inputs}
use Rattle.depot_source.specs.Messages.{IsMessage, IsPartOfMessage, Message, text_of_message}
use Rattle.depot_session.specs.ScriptTelling.{Asked}
use Rattle.depot_session.specs.SessionRuns.{HasFailed}
use Rattle.depot_cli.specs.declared.invocation.Invocation.{Invocation}
use Rattle.depot_cli.specs.declared.invocation.Invocation.TheVariants as asked
use Rattle.depot_cli.specs.declared.invocation.ServerWords.{ServerWords}
use Rattle.depot_cli.specs.declared.outcome.CommandOutcome.{CommandOutcome}
use Rattle.depot_cli.specs.declared.status.Status.{Status}
use Rattle.depot_cli.specs.declared.status.Status.TheVariants.{Disk, Input, Memory, Sink}
use Rattle.depot_cli.specs.Nodes.{IsWellDisk, Results}
use Rattle.depot_cli.specs.Runs.{CommandEnds, IsRosterText, IsWell}
use Rattle.depot_cli.specs.Servers.{AllResults, CompletesServe, IsWellSource, RosterInputs, RunsServer, ServeResults, ServesRoster}
use Rattle.depot_cli.specs.Statuses.{status_of_server}
use Rattle.depot_cli.specs.Words.{command_of, served_words}
use Rattle.depot_cli.proofs.NodeRuns.{one_roster}
use Rattle.depot_cli.proofs.ThereFiles.{no_roster, not_lacking, one_file}

-- ---- the roster

-- a file that is no roster is reported
pub no_roster_told : (shelf : Shelves) (loads : Loads) (name bytes : List ℕ) (error : RosterError) (found : Result CommandOutcome absent.Memory) → HasLoaded loads (name ∷ []) → WhereTold shelf (shelf.file name ≡ Some bytes) → (error ≡ roster_error.Memory) ⊎ IsRefusedFor bytes error
    → IfOk found (λ o. (error ≢ roster_error.Memory) × (o ≡ record { status = Input; text = codes "input " ++ name ++ codes " " ++ text_of_roster_error error ++ codes "\n" })) → IfOk found (λ o. RosterInputs shelf loads name o.status o.text)
no_roster_told shelf loads name bytes error found named there (inl is) told = IfOk-weaker found _ _ (λ o so. absurd (so.0 is)) told
no_roster_told shelf loads name bytes error found named there (inr why) told =
    IfOk-weaker found _ _ (λ o so. subst (λ (x : CommandOutcome). RosterInputs shelf loads name x.status x.text) (sym so.1) (inr (named, (refl, λ is_told. record { bytes = bytes; there = there is_told; holds = record { error = error; cause = why; is = refl } })))) told

-- the node of a roster that was found is that of the words
pub roster_served : (listed : List RosterEntry) (n : ServerWords) (disk : Disks) (shelf : Shelves) (loads : Loads) (input : Inputs) (sink : Sinks) (same_disk same_files unread : Type 0) (status : Status) → same_files → HasLoaded loads (n.roster ∷ [])
    → WhereTold shelf (HasFile shelf n.roster (λ bytes. IsRosterText bytes listed)) → ServesRoster listed n disk input sink same_disk unread status → ServeResults n disk shelf loads input sink same_disk same_files unread status
roster_served listed n disk shelf loads input sink same_disk same_files unread status files loaded roster (inl (is, (kept, (untouched, none)))) =
    inl ((kept, (files, untouched)), inr (inl (record { is = is; text = []; begun = (inr loaded, refl); wrote = none })))
roster_served listed n disk shelf loads input sink same_disk same_files unread status files loaded roster (inr (ends, (is, ran))) =
    inr (record { files = files; loaded = loaded; listed = listed; roster = roster; ends = ends; status_is = is; runs = ran })

-- what is answered after a fault of the disk
pub after_disk_fault : (e : ServerEnding) (status : Status) → status ≡ status_of_server e → runs.IsAfterDiskFault e → (status ≡ Disk) ⊎ ((status ≡ Sink) ⊎ (status ≡ Memory))
after_disk_fault e status is (inl disk) = inl (is ∙ ap status_of_server disk)
after_disk_fault e status is (inr (inl sink)) = inr (inl (is ∙ ap status_of_server sink))
after_disk_fault e status is (inr (inr memory)) = inr (inr (is ∙ ap status_of_server memory))

-- ---- what comes in place of requests

-- what precedes as many bytes is the same
same_front : (a b r s : List ℕ) → length a ≡ length b → a ++ r ≡ b ++ s → (a ≡ b) × (r ≡ s)
same_front a b r s long is = (
  sym (take-append_seam a r) ∙ ap (take (length a)) is ∙ ap (λ (n : ℕ). take n (b ++ s)) long ∙ take-append_seam b s,
  sym (drop-append_seam a r) ∙ ap (drop (length a)) is ∙ ap (λ (n : ℕ). drop n (b ++ s)) long ∙ drop-append_seam b s,
)

-- so is the message
same_message : (f g : Message) (r s : List ℕ) → IsMessage f → IsMessage g → text_of_message f ++ r ≡ text_of_message g ++ s → (f ≡ g) × (r ≡ s)
same_message f g r s is_f is_g same =
    let heads = same_front f.head g.head (f.body ++ r) (g.body ++ s) (is_f.head ∙ sym is_g.head) (sym (append_assoc f.head f.body r) ∙ same ∙ append_assoc g.head g.body s) in
    let long : length f.body ≡ length g.body = sym is_f.says ∙ ap (from_be_bytes w32) heads.0 ∙ is_g.says in
    let bodies = same_front f.body g.body r s long heads.1 in
    (ap (λ (h : List ℕ). record { head = h; body = f.body }) heads.0 ∙ ap (λ (b : List ℕ). record { head = g.head; body = b }) bodies.0, bodies.1)

-- how long a message is, and what follows it
long_message : (m : Message) (r : List ℕ) → IsMessage m → length (text_of_message m ++ r) ≡ 4 + length m.body + length r
long_message m r is = length-append (text_of_message m) r ∙ ap (λ (n : ℕ). n + length r) (length-append m.head m.body ∙ ap (λ (n : ℕ). n + length m.body) is.head)

-- a part of a message isn't a whole one, whatever follows that
no_part : (m : Message) (r text : List ℕ) → IsMessage m → text ≡ text_of_message m ++ r → IsPartOfMessage text → ⊥
no_part m r text is same (inl short) = let long : length text ≡ 4 + length m.body + length r = ap length same ∙ long_message m r is in omega (arith, long, short)
no_part m r text is same (inr (head, part, (parts, (four, less)))) =
    let fronts = same_front head m.head part (m.body ++ r) (four ∙ sym is.head) (sym parts ∙ same ∙ append_assoc m.head m.body r) in
    let says : from_be_bytes w32 head ≡ length m.body = ap (from_be_bytes w32) fronts.0 ∙ is.says in
    let long : length part ≡ length m.body + length r = ap length fronts.1 ∙ length-append m.body r in
    omega (arith, less, says, long)

-- where requests are what comes, no bytes of their prefix are none
never_none : (requests : List Message) (over : Bool) (behind rest : List ℕ) (within : ℕ) → AreAsking requests → (over ≡ true → rest ≡ []) → behind ++ rest ≡ flat_map text_of_message requests → NoRequestCame over behind within → ⊥
never_none [] over behind rest within each ends is (inl (inl (four, wrong), none)) = let long : length behind + length rest ≡ 0 = sym (length-append behind rest) ∙ ap length is in omega (arith, long, four)
never_none [] over behind rest within each ends is (inl (inr (found, (least, part)), none)) = let long : length behind + length rest ≡ 0 = sym (length-append behind rest) ∙ ap length is in omega (arith, long, least)
never_none [] over behind rest within each ends is (inr (m, (is_m, (faulty, text)))) =
    let long : length behind + length rest ≡ 0 = sym (length-append behind rest) ∙ ap length is in
    let some : length behind ≡ length m.head + length m.body = ap length text ∙ length-append m.head m.body in
    omega (arith, long, some, is_m.head)
never_none (m ∷ ms) over behind rest within each ends is (inl (inl (four, wrong), none)) =
    let more = flat_map text_of_message ms in
    let fronts = same_front behind m.head rest (m.body ++ more) (four ∙ sym each.0.is.head) (is ∙ append_assoc m.head m.body more) in
    let says : from_be_bytes w32 behind ≡ length m.body = ap (from_be_bytes w32) fronts.0 ∙ each.0.is.says in
    wrong (omega (arith, says, each.0.is.fits.0), omega (arith, says, each.0.is.fits.1))
never_none (m ∷ ms) over behind rest within each ends is (inl (inr (found, (least, part)), none)) =
    no_part m (flat_map text_of_message ms) behind each.0.is (sym (ap (λ (r : List ℕ). behind ++ r) (ends found) ∙ append-nil behind) ∙ is) part
never_none (m ∷ ms) over behind rest within each ends is (inr (other, (is_other, (faulty, text)))) =
    let one = same_message other m rest (flat_map text_of_message ms) is_other each.0.is (sym (ap (λ (t : List ℕ). t ++ rest) text) ∙ is) in
    no_fault m.body within each.0.asks (subst (λ (x : Message). IsAskedFault x.body within) one.0 faulty)

-- nor are those that follow some of them
never_none_behind : (done requests : List Message) (over : Bool) (behind rest : List ℕ) (within : ℕ) → AreAsking done → AreAsking requests → (over ≡ true → rest ≡ []) → flat_map text_of_message done ++ (behind ++ rest) ≡ flat_map text_of_message requests
    → NoRequestCame over behind within → ⊥
never_none_behind [] requests over behind rest within are each ends is came = never_none requests over behind rest within each ends is came
never_none_behind (d ∷ ds) [] over behind rest within are each ends is came =
    let long = ap length (sym (append_assoc (text_of_message d) (flat_map text_of_message ds) (behind ++ rest)) ∙ is) in
    omega (arith, long, long_message d (flat_map text_of_message ds ++ (behind ++ rest)) are.0.is)
never_none_behind (d ∷ ds) (m ∷ ms) over behind rest within are each ends is came =
    let one = same_message d m (flat_map text_of_message ds ++ (behind ++ rest)) (flat_map text_of_message ms) are.0.is each.0.is (sym (append_assoc (text_of_message d) (flat_map text_of_message ds) (behind ++ rest)) ∙ is) in
    never_none_behind ds ms over behind rest within are.1 each.1 ends one.1 came

-- ---- what nothing prevents

no_fault_of_roster : (shelf : Shelves) (loads : Loads) (sink : Sinks) (n : ServerWords) (listed : List RosterEntry) (answer : Status) (text : List ℕ) → IsWell shelf sink → HasFile shelf n.roster (λ bytes. IsRosterText bytes listed) → RosterInputs shelf loads n.roster answer text → ⊥
no_fault_of_roster shelf loads sink n listed answer text well has (inl (loaded, (is, (lacks, line)))) = not_lacking shelf sink n.roster has.bytes well has.there lacks
no_fault_of_roster shelf loads sink n listed answer text well has (inr (loaded, (is, broken))) = no_roster shelf n.roster text (record { bytes = has.bytes; there = has.there; holds = (listed, has.holds) }) (broken well.tells)

-- a message that wasn't written whole wasn't for want of memory
unsaid_memory : (shelf : Shelves) (sink : Sinks) (text : List ℕ) (e : ServerEnding) (status : Status) → IsWell shelf sink → status ≡ status_of_server e → runs.IsUnsaid sink text e → status ≡ Memory
unsaid_memory shelf sink text ending.Memory status well is unsaid = is
unsaid_memory shelf sink text ending.Sink status well is unsaid = absurd (omega (arith, unsaid.0, well.sink_is_well))
unsaid_memory shelf sink text other status well is unsaid = absurd unsaid

-- a node that wasn't started over a lawful journal wasn't, too
unstarted_memory : (disk : Disks) (shelf : Shelves) (sink : Sinks) (error : StartError) (e : ServerEnding) (status : Status) → IsWell shelf sink → IsWellDisk disk → status ≡ status_of_server e → (LeavesFile error → ⊥) → (error ≡ refused.Disk → HasFailed disk)
    → runs.IsRefusalSaid sink error e → status ≡ Memory
unstarted_memory disk shelf sink error e status well disk_well is only failed (inr unsaid) = unsaid_memory shelf sink _ e status well is unsaid
unstarted_memory disk shelf sink refused.Memory e status well disk_well is only failed (inl said) = is ∙ ap status_of_server said.0
unstarted_memory disk shelf sink refused.Disk e status well disk_well is only failed (inl said) = absurd (omega (arith, failed refl, disk_well.is_well))
unstarted_memory disk shelf sink other e status well disk_well is only failed (inl said) = absurd (only tt)

-- after requests that were answered no others came, so that what came next is one
no_other : (input : Inputs) (done requests : List Message) (behind : List ℕ) (within : ℕ) → IsWellSource input → input.after ++ input.rest_after ≡ input.before ++ input.rest → input.rest ≡ flat_map text_of_message requests → AreAsking done → AreAsking requests
    → input.after ≡ (input.before ++ flat_map text_of_message done) ++ behind → NoRequestCame input.over behind within → ⊥
no_other input done requests behind within well whole gives are each given came =
    let texts = flat_map text_of_message done in
    let all : input.before ++ (texts ++ (behind ++ input.rest_after)) ≡ input.before ++ input.rest =
    sym (append_assoc input.before texts (behind ++ input.rest_after)) ∙ sym (append_assoc (input.before ++ texts) behind input.rest_after) ∙ ap (λ (x : List ℕ). x ++ input.rest_after) (sym given) ∙ whole in
    never_none_behind done requests input.over behind input.rest_after within are each well.ends (append_cancel_left input.before _ _ all ∙ gives) came

-- where nothing fails, and all that comes is requests, a run is cut short for want of memory alone
short_memory : (f : ServesBody) (J : List Record) (disk : Disks) (shelf : Shelves) (input : Inputs) (sink : Sinks) (done requests : List Message) (place : ℕ) (why : ServeEnding) (status : Status) → IsWell shelf sink → IsWellDisk disk → IsWellSource input
    → input.after ++ input.rest_after ≡ input.before ++ input.rest → input.rest ≡ flat_map text_of_message requests → AreAsking done → AreAsking requests → status ≡ status_of_server (runs.ending_of_served (Err why))
    → BreaksOff f (runs.StandsOn disk) J (input.before ++ flat_map text_of_message done) input.after input.over (faults_risen disk.faults_before disk.faults_after input sink) place why → status ≡ Memory
short_memory f J disk shelf input sink done requests place cut.Memory status well disk_well source_well whole gives are each is b = is
short_memory f J disk shelf input sink done requests place cut.Source status well disk_well source_well whole gives are each is b = absurd (omega (arith, b.cut.0, source_well.is_well))
short_memory f J disk shelf input sink done requests place cut.Disk status well disk_well source_well whole gives are each is b = absurd (omega (arith, b.cut.1.1, disk_well.is_well))
short_memory f J disk shelf input sink done requests place cut.Sink status well disk_well source_well whole gives are each is b = absurd (omega (arith, b.cut.0, well.sink_is_well))
short_memory f J disk shelf input sink done requests place (cut.Input at within) status well disk_well source_well whole gives are each is b = absurd (no_other input done requests b.behind within source_well whole gives are each b.given b.cut.came)

-- the run of a server over a lawful journal completes it, where nothing fails
pub serve_completes : (n : ServerWords) (disk : Disks) (shelf : Shelves) (loads : Loads) (input : Inputs) (sink : Sinks) (same_disk same_files unread : Type 0) (status : Status) → ServeResults n disk shelf loads input sink same_disk same_files unread status
    → IsWell shelf sink → IsWellDisk disk → IsWellSource input → CompletesServe disk shelf input (Some n) status
serve_completes n disk shelf loads input sink same_disk same_files unread status (inl (u, ends)) well disk_well source_well = λ listed J requests has keyed lawful records are gives. elim ends [
  | inl e ↦ absurd (no_fault_of_roster shelf loads sink n listed status e.text well has e.answered)
  | inr x ↦ elim x [
    | inl e ↦ inr e.is
    | inr e ↦ absurd (omega (arith, e.rose, well.sink_is_well))
  ]
]
serve_completes n disk shelf loads input sink same_disk same_files unread status (inr s) well disk_well source_well = λ listed J requests has keyed lawful records are gives.
    let found = s.roster well.tells in
    let listed_is : s.listed ≡ listed = one_roster has.bytes s.listed listed (subst (λ (x : List ℕ). IsRosterText x s.listed) (one_file shelf n.roster found.bytes has.bytes found.there has.there) found.holds) has.holds in
    let ran = subst (λ (l : List RosterEntry). RunsServer l n disk input sink same_disk unread s.ends) listed_is s.runs in
    elim (ran.answers.over disk_well.tells keyed J lawful records) [
      | inl u ↦ inr (unstarted_memory disk shelf sink u.error s.ends status well disk_well s.status_is u.only u.disk_failed u.said)
      | inr serves ↦ elim serves [
        | inl u ↦ inr (unsaid_memory shelf sink _ s.ends status well s.status_is u.unsaid)
        | inr x ↦ elim x [
          | inl whole ↦ inl (s.status_is ∙ ap status_of_server whole.ending_is)
          | inr short ↦ inr (short_memory _ _ disk shelf input sink short.done requests _ short.why status well disk_well source_well (ran.whole source_well.tells) gives short.each are (s.status_is ∙ ap status_of_server short.ending_is) short.breaks)
        ]
      ]
    ]

-- ---- any words

-- words of `serve` are no other command
pub served_is_none : (words : List (List ℕ)) (n : ServerWords) → served_words words ≡ Some n → command_of words ≡ None
unfolding served_words
served_is_none [] n is = absurd cc
served_is_none (verb ∷ []) n is = absurd cc
served_is_none (verb ∷ a ∷ []) n is = absurd cc
served_is_none (verb ∷ a ∷ b ∷ []) n is = absurd cc
served_is_none (verb ∷ a ∷ b ∷ c ∷ []) n is = absurd cc
served_is_none (verb ∷ a ∷ b ∷ c ∷ d ∷ []) n is = by_verb (bytes_eq verb (codes "serve")) refl where
  by_verb : (serves : Bool) → bytes_eq verb (codes "serve") ≡ serves → command_of (verb ∷ a ∷ b ∷ c ∷ d ∷ []) ≡ None
  by_verb true same = ap (λ (v : List ℕ). command_of (v ∷ a ∷ b ∷ c ∷ d ∷ [])) ((bytes_eq-Decides verb (codes "serve")).0 same)
  by_verb false other = absurd cc
served_is_none (verb ∷ a ∷ b ∷ c ∷ d ∷ e ∷ words) n is = absurd cc

-- where memory ran out before anything was done
pub without_memory_yet : (words : Option ServerWords) (command : Option Invocation) (disk : Disks) (shelf : Shelves) (loads : Loads) (calls : Asked) (input : Inputs) (sink : Sinks) (same_disk same_files unread : Type 0) → same_disk → same_files → unread
    → HasLoaded loads [] → Wrote sink [] → AllResults words command disk shelf loads calls input sink same_disk same_files unread Memory
without_memory_yet (Some n) command disk shelf loads calls input sink same_disk same_files unread kept files untouched none wrote = inl ((kept, (files, untouched)), inr (inl (record { is = refl; text = []; begun = (inl none, refl); wrote = wrote })))
without_memory_yet None command disk shelf loads calls input sink same_disk same_files unread kept files untouched none wrote = (untouched, results command) where
  ends : (c : Option Invocation) → CommandEnds shelf loads c sink Memory
  ends (Some (asked.Scan log key)) = inr (inl (record { is = refl; text = []; begun = (inl none, refl); wrote = wrote }))
  ends (Some (asked.Judge roster proof)) = inr (inl (record { is = refl; text = []; begun = (inl (inl none), refl); wrote = wrote }))
  ends (Some (asked.Replay schedule)) = inr (inl (record { is = refl; text = []; begun = (inl none, inl refl); wrote = wrote }))
  ends (Some (asked.Node n)) = inr (inl (record { is = refl; text = []; begun = (inl (inl none), refl); wrote = wrote }))
  ends (Some (asked.Audit roster traces)) = inr (inl (record { is = refl; text = []; begun = (inl (inl none), refl); wrote = wrote }))
  ends other = inr (inl (record { is = refl; text = []; begun = (none, refl); wrote = wrote }))

  results : (c : Option Invocation) → Results c disk shelf loads calls sink same_disk same_files Memory
  results (Some (asked.Node n)) = inl ((kept, files), ends (Some (asked.Node n)))
  results other = ((kept, files), ends other)
