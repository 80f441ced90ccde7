-- What `node` makes of the disk, the shelf and the sink.
use Rattle.std.specs.Prelude.{◌≡◌, ◌<◌, ◌⊎◌, ℕ, List, Bool, [], ◌∷◌, ◌++◌, IsTrue, Option, Some}
use Rattle.depot_base.specs.declared.key.RosterEntry.{RosterEntry}
use Rattle.depot_base.specs.declared.record.Record.{Record}
use Rattle.depot_model.specs.checks.Checks.{Setting}
use Rattle.depot_model.specs.journals.Lawful.{IsLawful}
use Rattle.depot_model.specs.texts.Roster.{key_of}
use Rattle.depot_model.specs.journals.Stops.{HasRecords}
use Rattle.depot_model.specs.texts.Winternitz.{winternitz_signature, winternitz_verifies}
use Rattle.depot_outside.specs.declared.disk.Disk as disk_of
use Rattle.depot_outside.specs.declared.shelf.Shelf as shelf_of
use Rattle.depot_outside.specs.declared.sink.Sink as sink_of
use Rattle.depot_outside.specs.Told.{Disks, HasFile, HasLoaded, LacksFile, Loads, Shelves, Sinks, WhereTold, disks, loads, shelves, sinks}
use Rattle.depot_script.specs.Scripts.{IsTextOfScript}
use Rattle.depot_script.specs.declared.command.Command as line
use Rattle.depot_session.specs.declared.ending.ScriptEnding.{ScriptEnding}
use Rattle.depot_session.specs.declared.ending.ScriptEnding.TheVariants as ending
use Rattle.depot_session.specs.ScriptTelling.{Asked, asked as calls_on}
use Rattle.depot_session.specs.SessionRuns as runs
use Rattle.depot_session.specs.Sessions.{answers_of, loads_given, session_from, shelf_line}
use Rattle.depot_winter.specs.TreeSigning.{key_of_seed}
use Rattle.depot_cli.specs.Runs.{CommandEnds, Ends, IsNoScript, IsRosterText, IsWell}
use Rattle.depot_cli.specs.Statuses.{status_of}
use Rattle.depot_cli.specs.declared.invocation.Invocation.{Invocation}
use Rattle.depot_cli.specs.declared.invocation.Invocation.TheVariants as asked
use Rattle.depot_cli.specs.declared.invocation.NodeWords.{NodeWords}
use Rattle.depot_cli.specs.declared.status.Status.{Status}
use Rattle.depot_cli.specs.declared.status.Status.TheVariants.{Input, Memory, Shelf}

-- the setting of a node of a roster, with the Winternitz scheme
abbrev pub node_at : List RosterEntry → ℕ → Setting
node_at listed id = record { verifies = winternitz_verifies; me = id; listed = listed }

-- A script was run on a node of this roster.
--
-- Images: each crash image was possible before the run, or is a lawful journal that extends the old one; if the script
-- ended or met a limit, all later crash images are one such journal. Lines, files and journal: over a lawful journal of
-- this node, or none, they are the defined ones, or the run is cut short; each crash image was possible before the run,
-- or has that journal and a prefix of the records that the commands bring; and after the files of the first names the
-- shelf was asked for those of the commands that were carried out, and for nothing of a later one. Else the node is
-- refused for its key, its roster or its journal, and the shelf was asked for no more; if the roster lacks its key the
-- disk isn't touched.
pub record RunsScript (listed : List RosterEntry) (n : NodeWords) (commands : List line.Command) (first : List (List ℕ)) (disk : Disks) (shelf : Shelves) (calls : Asked) (sink : Sinks) (same_disk : Type 0) (ends : ScriptEnding) : Type 0 where
  pub images : IsTrue disk.tells → runs.KeepsFile (node_at listed n.id) disk
  pub stable : IsTrue disk.tells → (ends ≡ ending.Done) ⊎ (ends ≡ ending.Limit) → runs.Settles (node_at listed n.id) disk
  pub untouched : (key_of listed n.id ≡ Some (key_of_seed n.seed n.height) → ⊥) → same_disk
  pub begins : runs.RunBegins (node_at listed n.id) (key_of_seed n.seed n.height) first disk shelf calls sink ends
  pub answers : runs.AnswersScript (node_at listed n.id) (key_of_seed n.seed n.height) (winternitz_signature n.seed n.height) commands first disk shelf calls sink ends
  pub disk_failed : ends ≡ ending.Disk → disk.faults_before < disk.faults_after
  pub sink_failed : ends ≡ ending.Sink → sink.faults_before < sink.faults_after

-- the run loaded the files of these names, then those that a prefix of its script's commands loads, in their order, and
-- no others: before each of these a reader was made, or none was
abbrev pub LoadsFrom : List (List ℕ) → List line.Command → Loads → Type 0
LoadsFrom names commands loads = (made : List Bool) × HasLoaded loads (names ++ loads_given made commands)

-- A script was run, and the run ended with this status.
pub record RunsNode (n : NodeWords) (disk : Disks) (shelf : Shelves) (loads : Loads) (calls : Asked) (sink : Sinks) (same_disk : Type 0) (status : Status) : Type 0 where
  pub listed : List RosterEntry
  pub roster : WhereTold shelf (HasFile shelf n.roster (λ bytes. IsRosterText bytes listed))
  pub commands : List line.Command
  pub script : WhereTold shelf (HasFile shelf n.script (λ bytes. IsTextOfScript bytes commands))
  pub loaded : LoadsFrom (n.roster ∷ n.script ∷ []) commands loads
  pub ends : ScriptEnding
  pub status_is : status ≡ status_of ends
  pub runs : RunsScript listed n commands (n.roster ∷ n.script ∷ []) disk shelf calls sink same_disk ends

-- The outcome of the bytes of a script on a node of a roster: they are no script, which is printed; or memory ran out
-- before the node was started, and nothing else has changed; or the script was run.
abbrev pub RunsBytes : List RosterEntry → NodeWords → List ℕ → Disks → Shelves → Loads → Asked → Sinks → (same_disk same_files : Type 0) → Status → Type 0
RunsBytes listed n bytes disk shelf loads calls sink same_disk same_files status =
    ((same_disk × same_files) × (HasLoaded loads [] × Ends (λ answer text. (answer ≡ Input) × IsNoScript n.script text bytes) (λ text. text ≡ []) sink status)) ⊎
    ((commands : List line.Command) × (IsTextOfScript bytes commands × (LoadsFrom [] commands loads × ((ends : ScriptEnding) × ((status ≡ status_of ends) × RunsScript listed n commands [] disk shelf calls sink same_disk ends)))))

-- What `node` answers where its script can't be had or is none.
abbrev pub ScriptInputs : Shelves → Loads → List ℕ → Status → List ℕ → Type 0
ScriptInputs shelf loads script status text =
    (HasLoaded loads (script ∷ []) × ((status ≡ Shelf) × (LacksFile shelf script × (text ≡ shelf_line script)))) ⊎
    (HasLoaded loads (script ∷ []) × ((status ≡ Input) × WhereTold shelf (HasFile shelf script (IsNoScript script text))))

-- The outcome of the script of a name on a node of a roster.
abbrev pub RunsFile : List RosterEntry → NodeWords → Disks → Shelves → Loads → Asked → Sinks → (same_disk same_files : Type 0) → Status → Type 0
RunsFile listed n disk shelf loads calls sink same_disk same_files status =
    ((same_disk × same_files) × (HasLoaded loads (n.script ∷ []) × Ends (ScriptInputs shelf loads n.script) (λ text. text ≡ []) sink status)) ⊎
    ((commands : List line.Command) × (WhereTold shelf (HasFile shelf n.script (λ bytes. IsTextOfScript bytes commands)) × (LoadsFrom (n.script ∷ []) commands loads × ((ends : ScriptEnding) × ((status ≡ status_of ends) × RunsScript listed n commands (n.script ∷ []) disk shelf calls sink same_disk ends)))))

-- The outcome of a command. Every command but `node` leaves disk and files as they were and stores nothing, and so does
-- `node` if its roster or its script can't be had.
abbrev pub Results : Option Invocation → Disks → Shelves → Loads → Asked → Sinks → (same_disk same_files : Type 0) → Status → Type 0
Results (Some (asked.Node n)) disk shelf loads calls sink same_disk same_files status =
    ((same_disk × same_files) × CommandEnds shelf loads (Some (asked.Node n)) sink status) ⊎ RunsNode n disk shelf loads calls sink same_disk status
Results command disk shelf loads calls sink same_disk same_files status = (same_disk × same_files) × CommandEnds shelf loads command sink status

-- A run that finds this disk and shelf, and leaves those, ends with this status: this holds of what is visible of them,
-- and of whether disk and files are as they were.
abbrev pub Between : {F D S : Type 0} → (Disks → Shelves → Loads → Asked → Sinks → (same_disk same_files : Type 0) → Status → Type 0)
    → shelf_of.Ghosts F → F → F → disk_of.Ghosts D → D → D → sink_of.Ghosts S → S → S → Status → Type 0
Between P f shelf shelf_then d disk disk_then s out out_then status =
    P (disks d disk disk_then) (shelves f shelf shelf_then) (loads f shelf shelf_then) (calls_on f shelf shelf_then) (sinks s out out_then)
    (disk_then ≡ disk) ((f.file shelf_then ≡ f.file shelf) × (f.stores shelf_then ≡ f.stores shelf)) status

-- the outcome of a run of `node` where nothing fails, over a lawful journal of this node, or none; `Memory` may replace
-- it
abbrev pub CompletesNode : Disks → Shelves → Option Invocation → Status → Type 0
CompletesNode disk shelf (Some (asked.Node n)) status = (listed : List RosterEntry) (commands : List line.Command) (J : List Record) → HasFile shelf n.roster (λ bytes. IsRosterText bytes listed) → HasFile shelf n.script (λ bytes. IsTextOfScript bytes commands)
    → key_of listed n.id ≡ Some (key_of_seed n.seed n.height) → IsLawful (node_at listed n.id) J → HasRecords J disk.file
    → (status ≡ status_of (answers_of (node_at listed n.id) (winternitz_signature n.seed n.height) (session_from (node_at listed n.id) J [] shelf.file) commands).ending) ⊎ (status ≡ Memory)
CompletesNode disk shelf command status = Unit {0}

-- no count of faults rose in this run, and the disk's bytes are visible
pub record IsWellDisk (disk : Disks) : Type 0 where
  pub tells : IsTrue disk.tells
  pub is_well : disk.faults_after ≡ disk.faults_before

-- If no count of faults rises, each file is there and each is in its grammar, `node` does what it says.
abbrev pub NodeCompletes : Disks → Shelves → Sinks → Option Invocation → Status → Type 0
NodeCompletes disk shelf sink command status = IsWell shelf sink → IsWellDisk disk → CompletesNode disk shelf command status
