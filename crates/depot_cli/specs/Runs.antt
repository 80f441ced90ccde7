-- What each command answers and prints, and how a run ends.
use Rattle.std.specs.Prelude.{◌≡◌, ◌<◌, ◌⊎◌, ◌↔◌, ℕ, ◌+◌, List, [], ◌∷◌, ◌++◌, codes, map, take, true, IsTrue, slice_get, Option, Some, None, Result, Ok, Err}
use Rattle.std.specs.Fmt.{decimal}
use Rattle.std.specs.List.{AllByRecursion}
use Rattle.hex.specs.Hex.{encode_lower}
use Rattle.depot_base.specs.declared.memory.Memory as absent
use Rattle.depot_base.specs.declared.update.Update.{Update}
use Rattle.depot_base.specs.declared.key.RosterEntry.{RosterEntry}
use Rattle.depot_model.specs.declared.judgement.Verdict.{Verdict}
use Rattle.depot_model.specs.declared.judgement.JudgeError.{JudgeError}
use Rattle.depot_model.specs.declared.judgement.JudgeError.TheVariants as point
use Rattle.depot_model.specs.texts.Texts.{IsRoster, text_of_roster}
use Rattle.depot_model.specs.texts.RosterText.{IsRefusedFor}
use Rattle.depot_model.specs.declared.roster_format.RosterError.{RosterError}
use Rattle.depot_model.specs.texts.Log.{IsLog, IsLogFault, first_orphan}
use Rattle.depot_model.specs.updates.Judgement.{IsJudgementOf}
use Rattle.depot_model.specs.texts.Winternitz.{root_of, winternitz_verifies}
use Rattle.depot_model.specs.texts.Lines.{text_of_verdict, text_of_point, text_of_roster_error}
use Rattle.depot_model.specs.worlds.Causality.{IsForkJoinCausal, ConvictsNoCorrectNode}
use Rattle.depot_model.specs.lists.Items.{AreDistinct}
use Rattle.depot_model.specs.texts.Roster.{has_node}
use Rattle.depot_model.specs.worlds.World.{IsAuthentic, IsCollisionFree}
use Rattle.depot_model.specs.worlds.Audit as audits
use Rattle.depot_model.specs.worlds.Traces.{IsFindingOf, IsCausalWorldOf}
use Rattle.depot_answers.specs.AnswerTexts.{text_of_faulty_line, text_of_finding}
use Rattle.depot_script.specs.Scripts.{script_of}
use Rattle.depot_schedule.specs.Schedules.{IsTextOfSchedule, schedule_of}
use Rattle.depot_lines.specs.declared.line_fault.LineFault.{LineFault}
use Rattle.depot_schedule.specs.declared.schedule.Schedule.{Schedule}
use Rattle.depot_world.specs.Transcript.{transcript_of, world_of}
use Rattle.depot_laws.specs.WorldFacts.{PairsConvictNoCorrectNode}
use Rattle.depot_world.specs.Loads.{load_of}
use Rattle.depot_world.specs.Summaries.{summary_of}
use Rattle.depot_session.specs.Sessions.{shelf_line}
use Rattle.depot_scan.specs.LogScans.{IsScanned, HasOrphan}
use Rattle.depot_outside.specs.Told.{Shelves, Loads, HasLoaded, HasFile, WhereTold, LacksFile, Sinks, Wrote, WroteFront}
use Rattle.depot_traces.specs.SeenTraces.{trace_of}
use Rattle.depot_traces.specs.TraceTexts.{IsTrace}
use Rattle.depot_traces.specs.declared.trace.Trace.{Trace}
use Rattle.depot_cli.specs.Handing.{AreForAudit, AreHanded, HasLoadedTraces, IsGathered, IsRefusedAt, nodes_of}
use Rattle.depot_cli.specs.declared.trace_files.GatheredTraces.{GatheredTraces}
use Rattle.depot_cli.specs.declared.trace_files.GatheredTraces.TheVariants as gathered
use Rattle.depot_cli.specs.declared.trace_files.TraceRefusal.{TraceRefusal}
use Rattle.depot_cli.specs.declared.trace_files.TraceRefusal.TheVariants as refusal
use Rattle.depot_cli.specs.declared.invocation.Invocation.{Invocation}
use Rattle.depot_cli.specs.declared.invocation.Invocation.TheVariants as asked
use Rattle.depot_cli.specs.declared.outcome.CommandOutcome.{CommandOutcome}
use Rattle.depot_cli.specs.declared.status.Status.{Status}
use Rattle.depot_cli.specs.declared.status.Status.TheVariants.{Done, Words, Input, Shelf, Sink, Memory, NoProof, NotLawful, Broken}

-- ---- the shelf

-- what a load of the name gives: the bytes of the file, or nothing
abbrev pub IsFileLoaded : Shelves → List ℕ → Option (List ℕ) → Type 0
IsFileLoaded shelf name (Some bytes) = WhereTold shelf (shelf.file name ≡ Some bytes) × (shelf.faults_after ≡ shelf.faults_before)
IsFileLoaded shelf name None = LacksFile shelf name

-- where the shelf failed nothing else is answered
abbrev pub EndsAtFault : Shelves → Status → Type 0
EndsAtFault shelf status = (status ≡ Shelf) ⊎ (shelf.faults_after ≡ shelf.faults_before)

-- ---- scan

-- the bytes are no log, and the text says where they go wrong
pub record IsNoLog (name text bytes : List ℕ) : Type 0 where
  pub at : ℕ
  pub fault : IsLogFault bytes at
  pub is : text ≡ codes "input " ++ name ++ codes " at " ++ decimal at ++ codes "\n"

-- the bytes are a log, and the text names the place of the first body with a parent that doesn't precede it
pub record IsOrphaned (text bytes : List ℕ) : Type 0 where
  pub place : ℕ
  pub orphan : HasOrphan bytes place
  pub is : text ≡ codes "not lawful " ++ decimal place ++ codes " 5 Missing\n"

-- what a scan of these bytes answers
abbrev pub ScanOf : List ℕ → List ℕ → List ℕ → Status → List ℕ → Type 0
ScanOf log key bytes Done text = IsScanned key text bytes
ScanOf log key bytes Input text = IsNoLog log text bytes
ScanOf log key bytes NotLawful text = IsOrphaned text bytes
ScanOf log key bytes status text = ⊥

-- what a scan answers, whether or not its log can be had
abbrev pub Scans : Shelves → List ℕ → List ℕ → Status → List ℕ → Type 0
Scans shelf log key Done text = WhereTold shelf (HasFile shelf log (IsScanned key text))
Scans shelf log key Input text = WhereTold shelf (HasFile shelf log (IsNoLog log text))
Scans shelf log key NotLawful text = WhereTold shelf (HasFile shelf log (IsOrphaned text))
Scans shelf log key Shelf text = LacksFile shelf log × (text ≡ shelf_line log)
Scans shelf log key status text = ⊥

-- ---- key

-- the root of the Winternitz key of a seed, in hex
abbrev pub PrintsKey : List ℕ → ℕ → Status → List ℕ → Type 0
PrintsKey seed height Done text = text ≡ encode_lower (root_of seed height) ++ codes "\n"
PrintsKey seed height status text = ⊥

-- ---- judge

-- the bytes are the text of this roster
pub record IsRosterText (bytes : List ℕ) (r : List RosterEntry) : Type 0 where
  pub fits : IsRoster r
  pub is : bytes ≡ text_of_roster r

-- the bytes are no roster's, and the text says why
pub record IsNoRoster (name text bytes : List ℕ) : Type 0 where
  pub error : RosterError
  pub cause : IsRefusedFor bytes error
  pub is : text ≡ codes "input " ++ name ++ codes " " ++ text_of_roster_error error ++ codes "\n"

-- the roster of the name is there, and is one
abbrev pub HasRoster : Shelves → List ℕ → Type 0
HasRoster shelf name = HasFile shelf name (λ bytes. (r : List RosterEntry) × IsRosterText bytes r)

-- a point, and not want of memory
abbrev pub IsPoint : JudgeError → Type 0
IsPoint point.Memory = ⊥
IsPoint e = Unit {0}

-- what judging these bytes under a roster answers
abbrev pub JudgementOf : List RosterEntry → List ℕ → Status → List ℕ → Type 0
JudgementOf listed bytes Done text = (v : Verdict) × ((text ≡ text_of_verdict v ++ codes "\n") × IsJudgementOf winternitz_verifies listed bytes (Ok v))
JudgementOf listed bytes NoProof text = (e : JudgeError) × (IsPoint e × ((text ≡ text_of_point e ++ codes "\n") × IsJudgementOf winternitz_verifies listed bytes (Err e)))
JudgementOf listed bytes status text = ⊥

-- what judging the proof of a name under a roster answers, whether or not it can be had
abbrev pub JudgesProof : Shelves → List RosterEntry → List ℕ → Status → List ℕ → Type 0
JudgesProof shelf listed proof Done text = (v : Verdict) × ((text ≡ text_of_verdict v ++ codes "\n") × WhereTold shelf (HasFile shelf proof (λ bytes. IsJudgementOf winternitz_verifies listed bytes (Ok v))))
JudgesProof shelf listed proof NoProof text = (e : JudgeError) × (IsPoint e × ((text ≡ text_of_point e ++ codes "\n") × WhereTold shelf (HasFile shelf proof (λ bytes. IsJudgementOf winternitz_verifies listed bytes (Err e)))))
JudgesProof shelf listed proof Shelf text = LacksFile shelf proof × (text ≡ shelf_line proof)
JudgesProof shelf listed proof status text = ⊥

-- what `judge` answers: the roster is loaded and parsed first, then the proof
abbrev pub Judges : Shelves → Loads → List ℕ → List ℕ → Status → List ℕ → Type 0
Judges shelf loads roster proof status text =
    (HasLoaded loads (roster ∷ []) × ((status ≡ Shelf) × (LacksFile shelf roster × (text ≡ shelf_line roster)))) ⊎
    ((HasLoaded loads (roster ∷ []) × ((status ≡ Input) × WhereTold shelf (HasFile shelf roster (IsNoRoster roster text)))) ⊎
    (HasLoaded loads (roster ∷ proof ∷ []) × ((listed : List RosterEntry) × (WhereTold shelf (HasFile shelf roster (λ bytes. IsRosterText bytes listed)) × JudgesProof shelf listed proof status text))))

-- ---- replay

-- The bytes are the text of a schedule, and the text is its transcript. So it describes a world that is fork-join
-- causal and convicts no correct node, while no correct node's signature is forged and no two hashed texts collide in
-- it. No proof of two statements names a correct node while none is forged, whether texts collide or not.
pub record IsReplayed (text bytes : List ℕ) : Type 0 where
  pub schedule : Schedule
  pub read : IsTextOfSchedule bytes schedule
  pub is : text ≡ transcript_of schedule
  pub causal : IsAuthentic (world_of schedule) → IsCollisionFree (world_of schedule) → IsForkJoinCausal (world_of schedule)
  pub convicts : IsAuthentic (world_of schedule) → IsCollisionFree (world_of schedule) → ConvictsNoCorrectNode (world_of schedule)
  pub pairs : IsAuthentic (world_of schedule) → PairsConvictNoCorrectNode (world_of schedule)

-- the bytes are no schedule's, and the text names the first faulty line and its first fault
pub record IsNoSchedule (name text bytes : List ℕ) : Type 0 where
  pub number : ℕ
  pub fault : LineFault
  pub first : schedule_of bytes ≡ Err (number, fault)
  pub is : text ≡ codes "input " ++ name ++ codes " " ++ text_of_faulty_line number fault ++ codes "\n"

-- what a replay of these bytes answers
abbrev pub ReplayOf : List ℕ → List ℕ → Status → List ℕ → Type 0
ReplayOf name bytes Done text = IsReplayed text bytes
ReplayOf name bytes Input text = IsNoSchedule name text bytes
ReplayOf name bytes status text = ⊥

-- what `replay` answers, whether or not its schedule can be had
abbrev pub Replays : Shelves → List ℕ → Status → List ℕ → Type 0
Replays shelf name Done text = WhereTold shelf (HasFile shelf name (IsReplayed text))
Replays shelf name Input text = WhereTold shelf (HasFile shelf name (IsNoSchedule name text))
Replays shelf name Shelf text = LacksFile shelf name × (text ≡ shelf_line name)
Replays shelf name status text = ⊥

-- ---- load

-- the summary of the replay of the schedule that the number makes
abbrev pub PrintsLoad : ℕ → Status → List ℕ → Type 0
PrintsLoad number Done text = text ≡ summary_of number (transcript_of (load_of number))
PrintsLoad number status text = ⊥

-- ---- node

-- the bytes are no script's, and the text names the first faulty line and its first fault
pub record IsNoScript (name text bytes : List ℕ) : Type 0 where
  pub number : ℕ
  pub fault : LineFault
  pub first : script_of bytes ≡ Err (number, fault)
  pub is : text ≡ codes "input " ++ name ++ codes " " ++ text_of_faulty_line number fault ++ codes "\n"

-- the bytes are the text of a roster
abbrev pub IsSomeRoster : List ℕ → Type 0
IsSomeRoster bytes = (r : List RosterEntry) × IsRosterText bytes r

-- What `node` answers if its roster or its script can't be had or isn't one: the roster is loaded and parsed first,
-- then the script.
abbrev pub NodeInputs : Shelves → Loads → List ℕ → List ℕ → Status → List ℕ → Type 0
NodeInputs shelf loads roster script status text =
    (HasLoaded loads (roster ∷ []) × ((status ≡ Shelf) × (LacksFile shelf roster × (text ≡ shelf_line roster)))) ⊎
    ((HasLoaded loads (roster ∷ []) × ((status ≡ Input) × WhereTold shelf (HasFile shelf roster (IsNoRoster roster text)))) ⊎
    ((HasLoaded loads (roster ∷ script ∷ []) × ((status ≡ Shelf) × (WhereTold shelf (HasFile shelf roster IsSomeRoster) × (LacksFile shelf script × (text ≡ shelf_line script))))) ⊎
    (HasLoaded loads (roster ∷ script ∷ []) × ((status ≡ Input) × (WhereTold shelf (HasFile shelf roster IsSomeRoster) × WhereTold shelf (HasFile shelf script (IsNoScript script text)))))))

-- ---- audit

-- yes is Done, and all else that an audit finds Broken
abbrev pub status_of_finding : audits.Finding → Status
status_of_finding audits.yes_found = Done
status_of_finding other = Broken

-- What an audit of these traces answers: their one finding. It is yes exactly when they make a world that is fork-join
-- causal, in which no conviction names one of their nodes.
pub record IsAudited (listed : List RosterEntry) (ts : List Trace) (status : Status) (text : List ℕ) : Type 0 where
  pub found : audits.Finding
  pub is : IsFindingOf winternitz_verifies listed (map trace_of ts) found
  pub yes : (found ≡ audits.yes_found) ↔ IsCausalWorldOf winternitz_verifies listed (map trace_of ts)
  pub status_is : status ≡ status_of_finding found
  pub text_is : text ≡ text_of_finding found ++ codes "\n"

-- why the file of a name is refused, as it is reported
abbrev pub text_of_refusal : List ℕ → TraceRefusal → List ℕ
text_of_refusal name refusal.Missing = shelf_line name
text_of_refusal name (refusal.IllFormed at) = codes "input " ++ name ++ codes " at " ++ decimal at ++ codes "\n"
text_of_refusal name (refusal.Twice node) = codes "input " ++ name ++ codes " twice " ++ decimal node ++ codes "\n"
text_of_refusal name refusal.Stranger = codes "input " ++ name ++ codes " at " ++ decimal 2 ++ codes "\n"

abbrev pub status_of_refusal : TraceRefusal → Status
status_of_refusal refusal.Missing = Shelf
status_of_refusal why = Input

-- the shelf failed in this run
abbrev pub HasShelfFailed : Shelves → Type 0
HasShelfFailed shelf = shelf.faults_before < shelf.faults_after

-- What the trace files of these names answer, given what was gathered of them.
abbrev pub AnswersGathered : List RosterEntry → List (List ℕ) → GatheredTraces → Status → List ℕ → Type 0
AnswersGathered listed names (gathered.Traces ts) status text = IsAudited listed ts status text
AnswersGathered listed names (gathered.Refused place why) status text = (status ≡ status_of_refusal why) × ((name : List ℕ) → slice_get names place ≡ Some name → text ≡ text_of_refusal name why)

-- What they answer after a roster: what was gathered of them, which files were loaded, and its answer.
abbrev pub AnswersFiles : Shelves → Loads → List RosterEntry → List (List ℕ) → Status → List ℕ → Type 0
AnswersFiles shelf loads listed names status text = (g : GatheredTraces) × (IsGathered shelf.tells shelf.file (HasShelfFailed shelf) (shelf.faults_after ≡ shelf.faults_before) loads listed names g × AnswersGathered listed names g status text)

-- The trace file of a place is refused: those before it were loaded and are traces of distinct nodes of the roster, and
-- none after it was loaded.
pub record RefusesTrace (shelf : Shelves) (loads : Loads) (listed : List RosterEntry) (roster : List ℕ) (names : List (List ℕ)) (status : Status) (text : List ℕ) : Type 0 where
  pub place : ℕ
  pub why : TraceRefusal
  pub loaded : HasLoaded loads (roster ∷ take (place + 1) names)
  pub refused : IsRefusedAt shelf.tells shelf.file (HasShelfFailed shelf) listed names place why
  pub status_is : status ≡ status_of_refusal why
  pub text_is : text ≡ text_of_refusal refused.name why

-- All trace files are traces of distinct nodes of the roster, and are audited.
pub record AuditsTraces (shelf : Shelves) (loads : Loads) (listed : List RosterEntry) (roster : List ℕ) (names : List (List ℕ)) (status : Status) (text : List ℕ) : Type 0 where
  pub traces : List Trace
  pub loaded : HasLoaded loads (roster ∷ names)
  pub handed : AreHanded shelf.tells shelf.file names traces
  pub for_audit : AreForAudit listed traces
  pub audited : IsAudited listed traces status text

-- What `audit` answers: the roster is loaded and parsed first, then the trace files one by one; then they are audited.
abbrev pub Audits : Shelves → Loads → List ℕ → List (List ℕ) → Status → List ℕ → Type 0
Audits shelf loads roster names status text =
    (HasLoaded loads (roster ∷ []) × ((status ≡ Shelf) × (LacksFile shelf roster × (text ≡ shelf_line roster)))) ⊎
    ((HasLoaded loads (roster ∷ []) × ((status ≡ Input) × WhereTold shelf (HasFile shelf roster (IsNoRoster roster text)))) ⊎
    ((listed : List RosterEntry) × (WhereTold shelf (HasFile shelf roster (λ bytes. IsRosterText bytes listed)) × (RefusesTrace shelf loads listed roster names status text ⊎ AuditsTraces shelf loads listed roster names status text))))

-- ---- any command

-- what the command answers and prints, and which files it loads, if memory is found and the sink doesn't fail
abbrev pub AnswersCommand : Shelves → Loads → Option Invocation → Status → List ℕ → Type 0
AnswersCommand shelf loads None status text = HasLoaded loads [] × ((status ≡ Words) × (text ≡ codes "words\n"))
AnswersCommand shelf loads (Some (asked.Scan log key)) status text = HasLoaded loads (log ∷ []) × Scans shelf log key status text
AnswersCommand shelf loads (Some (asked.Key seed height)) status text = HasLoaded loads [] × PrintsKey seed height status text
AnswersCommand shelf loads (Some (asked.Judge roster proof)) status text = Judges shelf loads roster proof status text
AnswersCommand shelf loads (Some (asked.Replay schedule)) status text = HasLoaded loads (schedule ∷ []) × Replays shelf schedule status text
AnswersCommand shelf loads (Some (asked.Load number)) status text = HasLoaded loads [] × PrintsLoad number status text
AnswersCommand shelf loads (Some (asked.Node n)) status text = NodeInputs shelf loads n.roster n.script status text
AnswersCommand shelf loads (Some (asked.Audit roster traces)) status text = Audits shelf loads roster traces status text

-- nothing, or a prefix of a text of which this holds
abbrev pub IsFrontOf : (List ℕ → Type 0) → List ℕ → Type 0
IsFrontOf P text = (text ≡ []) ⊎ ((whole : List ℕ) × ((n : ℕ) × ((text ≡ take n whole) × P whole)))

-- no file was loaded, or that of the name
abbrev pub LoadsAtMost : Loads → List ℕ → Type 0
LoadsAtMost loads name = HasLoaded loads [] ⊎ HasLoaded loads (name ∷ [])

-- the same of a roster; or it is one, and the file of the other name was loaded, too
abbrev pub LoadsBehindRoster : Shelves → Loads → List ℕ → List ℕ → Type 0
LoadsBehindRoster shelf loads roster other = LoadsAtMost loads roster ⊎ (HasLoaded loads (roster ∷ other ∷ []) × WhereTold shelf (HasRoster shelf roster))

-- at most the roster was loaded; or it is one, and a prefix of the files of these names was loaded, too, all but maybe
-- the last traces of distinct nodes of the roster
abbrev pub LoadsTracesBehindRoster : Shelves → Loads → List ℕ → List (List ℕ) → Type 0
LoadsTracesBehindRoster shelf loads roster names =
    LoadsAtMost loads roster ⊎ ((listed : List RosterEntry) × (WhereTold shelf (HasFile shelf roster (λ bytes. IsRosterText bytes listed)) × HasLoadedTraces shelf.tells shelf.file loads listed (roster ∷ []) names))

-- what had been loaded when memory ran out: of the files that the words name at most the first, and further ones only
-- after a roster
abbrev pub LoadsFirst : Shelves → Loads → Option Invocation → Type 0
LoadsFirst shelf loads (Some (asked.Scan log key)) = LoadsAtMost loads log
LoadsFirst shelf loads (Some (asked.Judge roster proof)) = LoadsBehindRoster shelf loads roster proof
LoadsFirst shelf loads (Some (asked.Replay schedule)) = LoadsAtMost loads schedule
LoadsFirst shelf loads (Some (asked.Node n)) = LoadsBehindRoster shelf loads n.roster n.script
LoadsFirst shelf loads (Some (asked.Audit roster traces)) = LoadsTracesBehindRoster shelf loads roster traces
LoadsFirst shelf loads command = HasLoaded loads []

-- what had been loaded and written when memory ran out: no text, or a prefix of the transcript that `replay` writes
-- line by line
abbrev pub Begins : Shelves → Loads → Option Invocation → List ℕ → Type 0
Begins shelf loads (Some (asked.Replay schedule)) text = LoadsAtMost loads schedule × IsFrontOf (AnswersCommand shelf loads (Some (asked.Replay schedule)) Done) text
Begins shelf loads command text = LoadsFirst shelf loads command × (text ≡ [])

-- ---- how a run ends

-- the run ended as the command answers, and its whole text was written
pub record EndsWhole (answers : Status → List ℕ → Type 0) (sink : Sinks) (status : Status) : Type 0 where
  pub text : List ℕ
  pub answered : answers status text
  pub wrote : Wrote sink text

-- memory ran out when this had been written
pub record EndsWithoutMemory (begins : List ℕ → Type 0) (sink : Sinks) (status : Status) : Type 0 where
  pub is : status ≡ Memory
  pub text : List ℕ
  pub begun : begins text
  pub wrote : Wrote sink text

-- the sink failed in this run: a prefix of the text that the command answers went out
pub record EndsCutShort (answers : Status → List ℕ → Type 0) (sink : Sinks) (status : Status) : Type 0 where
  pub is : status ≡ Sink
  pub rose : sink.faults_before < sink.faults_after
  pub answer : Status
  pub text : List ℕ
  pub answered : answers answer text
  pub wrote : WroteFront sink text

-- How a run ends.
abbrev pub Ends : (Status → List ℕ → Type 0) → (List ℕ → Type 0) → Sinks → Status → Type 0
Ends answers begins sink status = EndsWhole answers sink status ⊎ (EndsWithoutMemory begins sink status ⊎ EndsCutShort answers sink status)

-- how the run of a command ends
abbrev pub CommandEnds : Shelves → Loads → Option Invocation → Sinks → Status → Type 0
CommandEnds shelf loads command sink status = Ends (AnswersCommand shelf loads command) (Begins shelf loads command) sink status

-- how a run ends that writes its text at once
abbrev pub Finishes : Result CommandOutcome absent.Memory → Sinks → Status → Type 0
Finishes (Ok o) sink status = Ends (λ answer text. (answer ≡ o.status) × (text ≡ o.text)) (λ text. text ≡ []) sink status
Finishes (Err e) sink status = EndsWithoutMemory (λ text. text ≡ []) sink status

-- how a run ends that plays a schedule: the whole transcript is written, or a prefix of it
abbrev pub PlaysSchedule : Schedule → Sinks → Status → Type 0
PlaysSchedule s sink status = Ends (λ answer text. (answer ≡ Done) × (text ≡ transcript_of s)) (λ text. (n : ℕ) × (text ≡ take n (transcript_of s))) sink status

-- ---- what nothing prevents

-- no count of faults rose in this run, and the shelf's files are visible
pub record IsWell (shelf : Shelves) (sink : Sinks) : Type 0 where
  pub tells : IsTrue shelf.tells
  pub shelf_is_well : shelf.faults_after ≡ shelf.faults_before
  pub sink_is_well : sink.faults_after ≡ sink.faults_before

-- the bytes are a log in which every parent precedes its child
pub record IsWholeLog (bytes : List ℕ) : Type 0 where
  pub updates : List Update
  pub log : IsLog bytes updates
  pub whole : first_orphan updates ≡ None

-- the bytes are the text of a schedule
abbrev pub IsScheduleText : List ℕ → Type 0
IsScheduleText bytes = (s : Schedule) × IsTextOfSchedule bytes s

-- the files of these names are traces
abbrev pub AreTraceFiles : Shelves → List (List ℕ) → List Trace → Type 0
AreTraceFiles shelf names ts = AreHanded true shelf.file names ts × AllByRecursion IsTrace ts

-- of distinct nodes of the roster
abbrev pub AreOfRoster : List RosterEntry → List Trace → Type 0
AreOfRoster listed ts = AllByRecursion (λ t. has_node listed t.node ≡ true) ts × AreDistinct (nodes_of ts)

-- the outcome of such a run, if its files are there and in their grammars; `Memory` may replace each status. For `node`
-- it is given with its runs.
abbrev pub CommandCompletes : Shelves → Option Invocation → Status → Type 0
CommandCompletes shelf None status = (status ≡ Words) ⊎ (status ≡ Memory)
CommandCompletes shelf (Some (asked.Scan log key)) status = HasFile shelf log IsWholeLog → (status ≡ Done) ⊎ (status ≡ Memory)
CommandCompletes shelf (Some (asked.Key seed height)) status = (status ≡ Done) ⊎ (status ≡ Memory)
CommandCompletes shelf (Some (asked.Judge roster proof)) status = HasRoster shelf roster → HasFile shelf proof (λ bytes. Unit {0}) → (status ≡ Done) ⊎ ((status ≡ NoProof) ⊎ (status ≡ Memory))
CommandCompletes shelf (Some (asked.Load number)) status = (status ≡ Done) ⊎ (status ≡ Memory)
CommandCompletes shelf (Some (asked.Node n)) status = Unit {0}
CommandCompletes shelf (Some (asked.Audit roster names)) status = (listed : List RosterEntry) (ts : List Trace) → HasFile shelf roster (λ bytes. IsRosterText bytes listed) → AreTraceFiles shelf names ts → AreOfRoster listed ts → (status ≡ Done) ⊎ ((status ≡ Broken) ⊎ (status ≡ Memory))
CommandCompletes shelf (Some (asked.Replay schedule)) status = HasFile shelf schedule IsScheduleText → (status ≡ Done) ⊎ (status ≡ Memory)
