-- What `serve` makes of the disk, the source and the sink, and the outcome of each command.
use Rattle.std.specs.Prelude.{◌≡◌, ◌<◌, ◌⊎◌, ℕ, List, [], ◌∷◌, ◌++◌, true, IsTrue, Option, Some, None}
use Rattle.std.specs.List.{flat_map}
use Rattle.depot_base.specs.Faults.{HasCause}
use Rattle.depot_base.specs.declared.key.RosterEntry.{RosterEntry}
use Rattle.depot_base.specs.declared.record.Record.{Record}
use Rattle.depot_model.specs.journals.Lawful.{IsLawful}
use Rattle.depot_model.specs.texts.Roster.{key_of}
use Rattle.depot_model.specs.journals.Stops.{HasRecords}
use Rattle.depot_model.specs.texts.Winternitz.{winternitz_signature}
use Rattle.depot_outside.specs.declared.disk.Disk as disk_of
use Rattle.depot_outside.specs.declared.shelf.Shelf as shelf_of
use Rattle.depot_outside.specs.declared.sink.Sink as sink_of
use Rattle.depot_outside.specs.Told.{Disks, HasFile, HasLoaded, LacksFile, Loads, Shelves, Sinks, WhereTold, Wrote, disks, loads, shelves, sinks}
use Rattle.depot_session.specs.Answering.{ServesBody, serves_at}
use Rattle.depot_session.specs.ServerRuns.{AnswersInput, EndsByInput, IsServerRefused, IsServerStarted}
use Rattle.depot_session.specs.Serving.{AreAsking}
use Rattle.depot_session.specs.declared.server_ending.ServerEnding.{ServerEnding}
use Rattle.depot_session.specs.declared.server_ending.ServerEnding.TheVariants as ending
use Rattle.depot_session.specs.ScriptTelling.{Asked, asked as calls_on}
use Rattle.depot_session.specs.SessionRuns.{KeepsFile, Settles}
use Rattle.depot_session.specs.Sessions.{shelf_line}
use Rattle.depot_source.specs.Inputs.{Inputs, inputs}
use Rattle.depot_source.specs.Messages.{Message, text_of_message}
use Rattle.depot_source.specs.declared.source.Source as source_of
use Rattle.depot_winter.specs.TreeSigning.{key_of_seed}
use Rattle.depot_cli.specs.Nodes.{IsWellDisk, Results, node_at}
use Rattle.depot_cli.specs.Runs.{CommandCompletes, Ends, IsNoRoster, IsRosterText, IsWell, LoadsAtMost}
use Rattle.depot_cli.specs.Statuses.{status_of_server}
use Rattle.depot_cli.specs.declared.invocation.Invocation.{Invocation}
use Rattle.depot_cli.specs.declared.invocation.ServerWords.{ServerWords}
use Rattle.depot_cli.specs.declared.status.Status.{Status}
use Rattle.depot_cli.specs.declared.status.Status.TheVariants.{Done, Input, Memory, Shelf}

-- the outcome of the bodies of messages at the node of these words
abbrev pub serves_by : List RosterEntry → ServerWords → ServesBody
serves_by listed n = serves_at (node_at listed n.id) (winternitz_signature n.seed n.height)

-- A node of this roster was served.
--
-- Images: each crash image was possible before the run, or is a lawful journal that extends the old one; if the run
-- ended by its input or its source, all later crash images are one such journal. Requests, replies and journal: the
-- node is refused, which is written, and nothing of the source was read; or it starts, which is written, and the input
-- is served from its journal on. Over a lawful journal of this node, or none, that is the journal. If the roster lacks
-- its key the disk isn't touched. No visible input is lost. A fault of the sink or the source is answered exactly when
-- it came, one of the disk only then.
pub record RunsServer (listed : List RosterEntry) (n : ServerWords) (disk : Disks) (input : Inputs) (sink : Sinks) (same_disk unread : Type 0) (ends : ServerEnding) : Type 0 where
  pub images : IsTrue disk.tells → KeepsFile (node_at listed n.id) disk
  pub stable : IsTrue disk.tells → EndsByInput ends → Settles (node_at listed n.id) disk
  pub untouched : (key_of listed n.id ≡ Some (key_of_seed n.seed n.height) → ⊥) → same_disk
  pub begins : IsServerRefused (node_at listed n.id) (key_of_seed n.seed n.height) disk unread sink ends
      ⊎ IsServerStarted (node_at listed n.id) (key_of_seed n.seed n.height) (serves_by listed n) disk input unread sink ends
  pub answers : AnswersInput (node_at listed n.id) (key_of_seed n.seed n.height) (serves_by listed n) disk input unread sink ends
  pub whole : IsTrue input.tells → input.after ++ input.rest_after ≡ input.before ++ input.rest
  pub disk_failed : ends ≡ ending.Disk → disk.faults_before < disk.faults_after
  pub sink_cause : HasCause sink.faults_before sink.faults_after (ends ≡ ending.Sink)
  pub source_cause : HasCause input.faults_before input.faults_after (ends ≡ ending.Source)

-- A node was served, and the run ended with this status. The shelf was asked for its roster alone.
pub record ServesNode (n : ServerWords) (disk : Disks) (shelf : Shelves) (loads : Loads) (input : Inputs) (sink : Sinks) (same_disk same_files unread : Type 0) (status : Status) : Type 0 where
  pub files : same_files
  pub loaded : HasLoaded loads (n.roster ∷ [])
  pub listed : List RosterEntry
  pub roster : WhereTold shelf (HasFile shelf n.roster (λ bytes. IsRosterText bytes listed))
  pub ends : ServerEnding
  pub status_is : status ≡ status_of_server ends
  pub runs : RunsServer listed n disk input sink same_disk unread ends

-- The outcome of the node of a roster: memory ran out before it was looked for, and nothing has changed; or it was
-- served.
abbrev pub ServesRoster : List RosterEntry → ServerWords → Disks → Inputs → Sinks → (same_disk unread : Type 0) → Status → Type 0
ServesRoster listed n disk input sink same_disk unread status =
    ((status ≡ Memory) × (same_disk × (unread × Wrote sink []))) ⊎
    ((ends : ServerEnding) × ((status ≡ status_of_server ends) × RunsServer listed n disk input sink same_disk unread ends))

-- What `serve` answers where its roster can't be had or is none.
abbrev pub RosterInputs : Shelves → Loads → List ℕ → Status → List ℕ → Type 0
RosterInputs shelf loads roster status text =
    (HasLoaded loads (roster ∷ []) × ((status ≡ Shelf) × (LacksFile shelf roster × (text ≡ shelf_line roster)))) ⊎
    (HasLoaded loads (roster ∷ []) × ((status ≡ Input) × WhereTold shelf (HasFile shelf roster (IsNoRoster roster text))))

-- The outcome of `serve`. Its roster can't be had or is none, which is printed, or memory ran out before the node was
-- looked for; then disk, files and source are as they were. Or the node was served.
abbrev pub ServeResults : ServerWords → Disks → Shelves → Loads → Inputs → Sinks → (same_disk same_files unread : Type 0) → Status → Type 0
ServeResults n disk shelf loads input sink same_disk same_files unread status =
    ((same_disk × (same_files × unread)) × Ends (RosterInputs shelf loads n.roster) (λ text. LoadsAtMost loads n.roster × (text ≡ [])) sink status) ⊎
    ServesNode n disk shelf loads input sink same_disk same_files unread status

-- The outcome of words: those of `serve` serve its node. Any others are a command, or none, that reads nothing of the
-- source.
abbrev pub AllResults : Option ServerWords → Option Invocation → Disks → Shelves → Loads → Asked → Inputs → Sinks → (same_disk same_files unread : Type 0) → Status → Type 0
AllResults (Some n) command disk shelf loads calls input sink same_disk same_files unread status = ServeResults n disk shelf loads input sink same_disk same_files unread status
AllResults None command disk shelf loads calls input sink same_disk same_files unread status = unread × Results command disk shelf loads calls sink same_disk same_files status

-- A run that finds this disk, shelf, source and sink, and leaves those, ends with this status: this holds of what is
-- visible of them, and of whether disk, files and source are as they were.
abbrev pub BetweenAll : {F D I S : Type 0} → (Disks → Shelves → Loads → Asked → Inputs → Sinks → (same_disk same_files unread : Type 0) → Status → Type 0)
    → shelf_of.Ghosts F → F → F → disk_of.Ghosts D → D → D → source_of.Ghosts I → I → I → sink_of.Ghosts S → S → S → Status → Type 0
BetweenAll P f shelf shelf_then d disk disk_then i input input_then s out out_then status =
    P (disks d disk disk_then) (shelves f shelf shelf_then) (loads f shelf shelf_then) (calls_on f shelf shelf_then) (inputs i input input_then) (sinks s out out_then)
    (disk_then ≡ disk) ((f.file shelf_then ≡ f.file shelf) × (f.stores shelf_then ≡ f.stores shelf)) (input_then ≡ input) status

-- ---- where nothing fails

-- the outcome of words that aren't those of `serve`
abbrev pub CompletesOffline : Option ServerWords → Shelves → Option Invocation → Status → Type 0
CompletesOffline (Some n) shelf command status = Unit {0}
CompletesOffline None shelf command status = CommandCompletes shelf command status

-- no count of faults rose in this run, the coming input is visible, and at its end nothing comes
pub record IsWellSource (input : Inputs) : Type 0 where
  pub tells : IsTrue input.tells
  pub is_well : input.faults_after ≡ input.faults_before
  pub ends : input.over ≡ true → input.rest_after ≡ []

-- the outcome of `serve` over a lawful journal of its node, or none, if the input is requests; `Memory` may replace it
abbrev pub CompletesServe : Disks → Shelves → Inputs → Option ServerWords → Status → Type 0
CompletesServe disk shelf input (Some n) status = (listed : List RosterEntry) (J : List Record) (requests : List Message) → HasFile shelf n.roster (λ bytes. IsRosterText bytes listed)
    → key_of listed n.id ≡ Some (key_of_seed n.seed n.height) → IsLawful (node_at listed n.id) J → HasRecords J disk.file
    → AreAsking requests → input.rest ≡ flat_map text_of_message requests → (status ≡ Done) ⊎ (status ≡ Memory)
CompletesServe disk shelf input None status = Unit {0}

-- If no count of faults rises, the roster is there, and the input is requests to its end, `serve` does what it says.
abbrev pub ServeCompletes : Disks → Shelves → Inputs → Sinks → Option ServerWords → Status → Type 0
ServeCompletes disk shelf input sink words status = IsWell shelf sink → IsWellDisk disk → IsWellSource input → CompletesServe disk shelf input words status
