-- How `node` ends, by the outcome of its roster and its script.
use Rattle.std.proofs.Common.{◌≡◌, ◌≢◌, ◌⊎◌, ℕ, List, [], ◌∷◌, ◌++◌, Option, Some, Result, Ok, refl, sym, ap, subst, ◌∙◌, arith, inl, inr, codes}
use Rattle.depot_base.proofs.Decoding.{in_one_way}
use Rattle.depot_base.specs.declared.key.PublicKey.{PublicKey}
use Rattle.depot_base.specs.declared.key.RosterEntry.{RosterEntry}
use Rattle.depot_base.specs.declared.record.Record.{Record}
use Rattle.std.specs.Result.{IfOk}
use Rattle.std.proofs.lemmas.Result.{IfOk-weaker}
use Rattle.depot_base.specs.declared.memory.Memory as absent
use Rattle.depot_model.specs.exchange.Bundle.{Signs}
use Rattle.depot_model.specs.checks.Checks.{Setting}
use Rattle.depot_model.specs.texts.Lines.{text_of_roster_error}
use Rattle.depot_model.specs.texts.RosterText.{IsRefusedFor}
use Rattle.depot_model.specs.declared.roster_format.RosterError.{RosterError}
use Rattle.depot_model.specs.declared.roster_format.RosterError.TheVariants as roster_error
use Rattle.depot_model.specs.texts.Texts.{roster}
use Rattle.depot_model.proofs.of_texts.TextLaws.{roster_lawful}
use Rattle.depot_outside.specs.Told.{Disks, HasFile, HasLoaded, LacksFile, Loads, Shelves, Sinks, WhereTold, shelves}
use Rattle.depot_outside.specs.declared.shelf.Shelf.{Ghosts}
use Rattle.depot_script.specs.Scripts.{IsTextOfScript, script_of}
use Rattle.depot_script.specs.declared.command.Command as line
use Rattle.depot_script.proofs.ScriptLaws.{script_again}
use Rattle.depot_session.specs.declared.ending.ScriptEnding.{ScriptEnding}
use Rattle.depot_session.specs.declared.ending.ScriptEnding.TheVariants as ending
use Rattle.depot_session.specs.SessionRuns.{AsksFirst, AsksShort, AsksWhole, HasFailed, IsCutBy}
use Rattle.depot_session.specs.SessionRuns as runs
use Rattle.depot_session.specs.Sessions.{Session, loads_given}
use Rattle.depot_session.specs.ScriptTelling.{Asked}
use Rattle.depot_winter.specs.TreeSigning.{key_of_seed}
use Rattle.depot_cli.specs.declared.invocation.Invocation.{Invocation}
use Rattle.depot_cli.specs.declared.invocation.Invocation.TheVariants as asked
use Rattle.depot_cli.specs.declared.invocation.NodeWords.{NodeWords}
use Rattle.depot_cli.specs.declared.outcome.CommandOutcome.{CommandOutcome}
use Rattle.depot_cli.specs.declared.status.Status.{Status}
use Rattle.depot_cli.specs.declared.status.Status.TheVariants.{Input, Sink, Memory}
use Rattle.depot_cli.specs.Nodes.{CompletesNode, IsWellDisk, LoadsFrom, Results, RunsBytes, RunsFile, RunsScript, ScriptInputs, node_at}
use Rattle.depot_cli.specs.Runs.{AnswersCommand, Begins, CommandCompletes, IsNoScript, IsRosterText, IsWell, NodeInputs}
use Rattle.depot_cli.specs.Statuses.{status_of}
use Rattle.depot_cli.proofs.Completing.{ends_complete, no_roster, not_lacking, one_file}
use Rattle.depot_cli.proofs.Endings.{ends_so}

-- ---- the shelf

-- a file was loaded, and no fault came
pub same_shelves : {F : Type 0} (g : Ghosts F) (old mid new : F) → g.tells mid ≡ g.tells old → g.file mid ≡ g.file old → g.failed mid ≡ g.failed old → g.faults mid ≡ g.faults old → shelves g mid new ≡ shelves g old new
same_shelves g old mid new told same calm quiet = λ i. record {
  tells = told i;
  file = same i;
  file_after = g.file new;
  failed_before = calm i;
  failed_after = g.failed new;
  faults_before = quiet i;
  faults_after = g.faults new;
}

-- ---- the roster

-- a file that is no roster is reported
pub no_roster_answers : (shelf : Shelves) (loads : Loads) (n : NodeWords) (bytes : List ℕ) (error : RosterError) (found : Result CommandOutcome absent.Memory) → HasLoaded loads (n.roster ∷ []) → WhereTold shelf (shelf.file n.roster ≡ Some bytes) → (error ≡ roster_error.Memory) ⊎ IsRefusedFor bytes error
    → IfOk found (λ o. (error ≢ roster_error.Memory) × (o ≡ record { status = Input; text = codes "input " ++ n.roster ++ codes " " ++ text_of_roster_error error ++ codes "\n" })) → IfOk found (λ o. AnswersCommand shelf loads (Some (asked.Node n)) o.status o.text)
no_roster_answers shelf loads n bytes error found named there (inl is) told = IfOk-weaker found _ _ (λ o so. absurd (so.0 is)) told
no_roster_answers shelf loads n bytes error found named there (inr why) told =
    IfOk-weaker found _ _ (λ o so. subst (λ (x : CommandOutcome). AnswersCommand shelf loads (Some (asked.Node n)) x.status x.text) (sym so.1) (inr (inl (named, (refl, λ is_told. record { bytes = bytes; there = there is_told; holds = record { error = error; cause = why; is = refl } }))))) told

-- ---- the script

-- the loads of a run that loaded one file before
more_loads : (first whole : Loads) (one : List ℕ) (names : List (List ℕ)) → first.before ≡ whole.before ++ one ∷ [] → whole.after ≡ first.after → HasLoaded first names → HasLoaded whole (one ∷ names)
more_loads first whole one names before after has = after ∙ has ∙ ap (λ (x : List (List ℕ)). x ++ names) before ∙ append_one whole.before where
  append_one : (xs : List (List ℕ)) → (xs ++ one ∷ []) ++ names ≡ xs ++ (one ∷ names)
  append_one [] = refl
  append_one (x ∷ xs) = ap (λ (l : List (List ℕ)). x ∷ l) (append_one xs)

-- and a script's files after it
loads_from_more : (first whole : Loads) (one : List ℕ) (names : List (List ℕ)) (commands : List line.Command) → first.before ≡ whole.before ++ one ∷ [] → whole.after ≡ first.after → LoadsFrom names commands first → LoadsFrom (one ∷ names) commands whole
loads_from_more first whole one names commands before after loaded = (loaded.0, more_loads first whole one (names ++ loads_given loaded.0 commands) before after loaded.1)

-- what a shelf was asked for after one file was loaded, and what before, too
pub record IsBehind (calls whole : Asked) (one : List ℕ) : Type 0 where
  pub loads_before : calls.loads_before ≡ whole.loads_before ++ one ∷ []
  pub loads_after : whole.loads_after ≡ calls.loads_after
  pub stores_before : calls.stores_before ≡ whole.stores_before
  pub stores_after : whole.stores_after ≡ calls.stores_after

-- one file more was loaded first
more_first : (calls whole : Asked) (one : List ℕ) (first names : List (List ℕ)) → IsBehind calls whole one → calls.loads_after ≡ calls.loads_before ++ (first ++ names) → whole.loads_after ≡ whole.loads_before ++ ((one ∷ first) ++ names)
more_first calls whole one first names behind has = more_loads (record { before = calls.loads_before; after = calls.loads_after }) (record { before = whole.loads_before; after = whole.loads_after }) one (first ++ names) behind.loads_before behind.loads_after has

-- the same names were stored under
same_stores : (calls whole : Asked) (one : List ℕ) (names : List (List ℕ)) → IsBehind calls whole one → calls.stores_after ≡ calls.stores_before ++ names → whole.stores_after ≡ whole.stores_before ++ names
same_stores calls whole one names behind has = behind.stores_after ∙ has ∙ ap (λ (x : List (List ℕ)). x ++ names) behind.stores_before

module _ (first : List (List ℕ)) (one : List ℕ) (calls whole : Asked) (behind : IsBehind calls whole one) where
  -- what a node that was refused asked for
  refused_behind : AsksFirst first calls → AsksFirst (one ∷ first) whole
  refused_behind a = record { loads = more_loads (record { before = calls.loads_before; after = calls.loads_after }) (record { before = whole.loads_before; after = whole.loads_after }) one first behind.loads_before behind.loads_after a.loads; stores = behind.stores_after ∙ a.stores ∙ behind.stores_before }

  -- what a script that was carried out asked for
  whole_behind : (here : Setting) (sign : Signs) (s : Session) (commands : List line.Command) → AsksWhole here sign s commands first calls → AsksWhole here sign s commands (one ∷ first) whole
  whole_behind here sign s commands a = record {
    done = a.done;
    rest = a.rest;
    parts = a.parts;
    went_on = a.went_on;
    over = a.over;
    loads = more_first calls whole one first _ behind a.loads;
    stores = same_stores calls whole one _ behind a.stores;
  }

  -- what one that was cut short did
  short_behind : (here : Setting) (sign : Signs) (s : Session) (done rest : List line.Command) → AsksShort here sign s done rest first calls → AsksShort here sign s done rest (one ∷ first) whole
  short_behind here sign s done rest a = record {
    loads = elim a.loads [
      | inl loads ↦ inl (more_first calls whole one first _ behind loads)
      | inr loads ↦ inr (more_first calls whole one first _ behind loads)
    ];
    stores = elim a.stores [
      | inl stores ↦ inl (same_stores calls whole one _ behind stores)
      | inr stores ↦ inr (same_stores calls whole one _ behind stores)
    ];
  }

  begins_behind : (here : Setting) (key : PublicKey) (disk : Disks) (shelf : Shelves) (sink : Sinks) (e : ScriptEnding) → runs.RunBegins here key first disk shelf calls sink e → runs.RunBegins here key (one ∷ first) disk shelf whole sink e
  begins_behind here key disk shelf sink e (inl refused) = inl (refused.0, refused_behind refused.1)
  begins_behind here key disk shelf sink e (inr started) = inr started

  answered_behind : (here : Setting) (sign : Signs) (J : List Record) (s : Session) (commands : List line.Command) (disk : Disks) (shelf : Shelves) (sink : Sinks) (e : ScriptEnding) → runs.RunsAsAnswered here sign J s commands first disk shelf calls sink e
      → runs.RunsAsAnswered here sign J s commands (one ∷ first) disk shelf whole sink e
  answered_behind here sign J s commands disk shelf sink e (inl w) = inl (w.0, whole_behind here sign s commands w.1)
  answered_behind here sign J s commands disk shelf sink e (inr short) = inr (short.0, short_behind here sign s short.0.done short.0.rest short.1)

-- the outcome of a script, after one file more that was loaded first
runs_behind : (listed : List RosterEntry) (n : NodeWords) (commands : List line.Command) (first : List (List ℕ)) (one : List ℕ) (disk : Disks) (behind shelf : Shelves) (calls whole : Asked) (sink : Sinks) (same_disk : Type 0) (e : ScriptEnding) → behind ≡ shelf → IsBehind calls whole one
    → RunsScript listed n commands first disk behind calls sink same_disk e → RunsScript listed n commands (one ∷ first) disk shelf whole sink same_disk e
runs_behind listed n commands first one disk behind shelf calls whole sink same_disk e same asked_behind ran =
    let r = subst (λ (s : Shelves). RunsScript listed n commands first disk s calls sink same_disk e) same ran in
    record {
      images = r.images;
      stable = r.stable;
      untouched = r.untouched;
      begins = begins_behind first one calls whole asked_behind (node_at listed n.id) (key_of_seed n.seed n.height) disk shelf sink e r.begins;
      answers = record { over = λ told shelf_told keyed J reads lawful has are. answered_behind first one calls whole asked_behind _ _ J _ commands disk shelf sink e (r.answers.over told shelf_told keyed J reads lawful has are) };
      disk_failed = r.disk_failed;
      sink_failed = r.sink_failed;
    }

-- the script of the bytes of a file is that of its name
pub bytes_run : (listed : List RosterEntry) (n : NodeWords) (bytes : List ℕ) (disk : Disks) (behind shelf : Shelves) (first loads : Loads) (calls whole : Asked) (sink : Sinks) (same_disk same_mid same_files : Type 0) (status : Status) → behind ≡ shelf → first.before ≡ loads.before ++ n.script ∷ [] → loads.after ≡ first.after → IsBehind calls whole n.script → (same_mid → same_files)
    → WhereTold shelf (shelf.file n.script ≡ Some bytes) → RunsBytes listed n bytes disk behind first calls sink same_disk same_mid status → RunsFile listed n disk shelf loads whole sink same_disk same_files status
bytes_run listed n bytes disk behind shelf first loads calls whole sink same_disk same_mid same_files status same before after called so there (inl (u, (loaded, ends))) =
    let named = more_loads first loads n.script [] before after loaded in
    inl (
      (u.0, so u.1),
      (named, ends_so _ (ScriptInputs shelf loads n.script) _ (λ text. text ≡ []) sink status (λ answer text is. inr (named, (is.0, λ told. record { bytes = bytes; there = there told; holds = is.1 }))) (λ text none. none) ends),
    )
bytes_run listed n bytes disk behind shelf first loads calls whole sink same_disk same_mid same_files status same before after called so there (inr (commands, (is, (loaded, (e, (ends, runs)))))) =
    inr (commands, (λ told. record { bytes = bytes; there = there told; holds = is }, (loads_from_more first loads n.script [] commands before after loaded, (e, (ends, runs_behind listed n commands [] n.script disk behind shelf calls whole sink same_disk e same called runs)))))

-- what is reported of a script after a roster
input_behind : (n : NodeWords) (listed : List RosterEntry) (behind shelf : Shelves) (first loads : Loads) (answer : Status) (text : List ℕ) → behind ≡ shelf → first.before ≡ loads.before ++ n.roster ∷ [] → loads.after ≡ first.after → WhereTold shelf (HasFile shelf n.roster (λ bytes. IsRosterText bytes listed))
    → ScriptInputs behind first n.script answer text → NodeInputs shelf loads n.roster n.script answer text
input_behind n listed behind shelf first loads answer text same before after has (inl (loaded, (is, (lacks, line_is)))) =
    inr (inr (inl (more_loads first loads n.roster (n.script ∷ []) before after loaded, (is, (λ told. (let h = has told in record { bytes = h.bytes; there = h.there; holds = (listed, h.holds) }), (subst (λ (s : Shelves). LacksFile s n.script) same lacks, line_is))))))
input_behind n listed behind shelf first loads answer text same before after has (inr (loaded, (is, wrong))) =
    inr (inr (inr (more_loads first loads n.roster (n.script ∷ []) before after loaded, (is, (λ told. (let h = has told in record { bytes = h.bytes; there = h.there; holds = (listed, h.holds) }), subst (λ (s : Shelves). WhereTold s (HasFile s n.script (IsNoScript n.script text))) same wrong)))))

-- the node of a roster that was found is that of the words
pub file_run : (listed : List RosterEntry) (n : NodeWords) (disk : Disks) (behind shelf : Shelves) (first loads : Loads) (calls whole : Asked) (sink : Sinks) (same_disk same_mid same_files : Type 0) (status : Status) → behind ≡ shelf → first.before ≡ loads.before ++ n.roster ∷ [] → loads.after ≡ first.after → IsBehind calls whole n.roster → (same_mid → same_files)
    → WhereTold shelf (HasFile shelf n.roster (λ bytes. IsRosterText bytes listed)) → RunsFile listed n disk behind first calls sink same_disk same_mid status → Results (Some (asked.Node n)) disk shelf loads whole sink same_disk same_files status
file_run listed n disk behind shelf first loads calls whole sink same_disk same_mid same_files status same before after called so has (inl (u, (loaded, ends))) =
    let both = inr (more_loads first loads n.roster (n.script ∷ []) before after loaded, λ told. (let h = has told in record { bytes = h.bytes; there = h.there; holds = (listed, h.holds) })) in
    inl ((u.0, so u.1), ends_so _ (AnswersCommand shelf loads (Some (asked.Node n))) _ (Begins shelf loads (Some (asked.Node n))) sink status (λ answer text is. input_behind n listed behind shelf first loads answer text same before after has is) (λ text none. (both, none)) ends)
file_run listed n disk behind shelf first loads calls whole sink same_disk same_mid same_files status same before after called so has (inr (commands, (is, (loaded, (e, (ends, runs)))))) =
    inr (record {
      listed = listed;
      roster = has;
      commands = commands;
      script = subst (λ (s : Shelves). WhereTold s (HasFile s n.script (λ bytes. IsTextOfScript bytes commands))) same is;
      loaded = loads_from_more first loads n.roster (n.script ∷ []) commands before after loaded;
      ends = e;
      status_is = ends;
      runs = runs_behind listed n commands (n.script ∷ []) n.roster disk behind shelf calls whole sink same_disk e same called runs;
    })

-- ---- what nothing prevents

-- the outcome of another command than `node` completes it
pub results_complete : (disk : Disks) (shelf : Shelves) (loads : Loads) (calls : Asked) (sink : Sinks) (same_disk same_files : Type 0) (command : Option Invocation) (status : Status) → Results command disk shelf loads calls sink same_disk same_files status → IsWell shelf sink → CommandCompletes shelf command status
results_complete disk shelf loads calls sink same_disk same_files (Some (asked.Node n)) status r well = tt
results_complete disk shelf loads calls sink same_disk same_files other status r well = ends_complete shelf loads sink other status r.1 well

no_script : (shelf : Shelves) (name text : List ℕ) (commands : List line.Command) → HasFile shelf name (λ bytes. IsTextOfScript bytes commands) → HasFile shelf name (IsNoScript name text) → ⊥
no_script shelf name text commands good broken =
    let same = one_file shelf name good.bytes broken.bytes good.there broken.there in
    let is = subst (λ (x : List ℕ). IsTextOfScript x commands) same good.holds in
    let read = ap script_of is.is ∙ script_again commands is.has in
    let first = broken.holds.first in
    cc

no_fault_of_inputs : (shelf : Shelves) (loads : Loads) (sink : Sinks) (n : NodeWords) (listed : List RosterEntry) (commands : List line.Command) (answer : Status) (text : List ℕ) → IsWell shelf sink → HasFile shelf n.roster (λ bytes. IsRosterText bytes listed) → HasFile shelf n.script (λ bytes. IsTextOfScript bytes commands)
    → NodeInputs shelf loads n.roster n.script answer text → ⊥
no_fault_of_inputs shelf loads sink n listed commands answer text well has has_script (inl (loaded, (is, (lacks, line_is)))) = not_lacking shelf sink n.roster has.bytes well has.there lacks
no_fault_of_inputs shelf loads sink n listed commands answer text well has has_script (inr (inl (loaded, (is, broken)))) = no_roster shelf n.roster text (record { bytes = has.bytes; there = has.there; holds = (listed, has.holds) }) (broken well.tells)
no_fault_of_inputs shelf loads sink n listed commands answer text well has has_script (inr (inr (inl (loaded, (is, (some, (lacks, line_is))))))) = not_lacking shelf sink n.script has_script.bytes well has_script.there lacks
no_fault_of_inputs shelf loads sink n listed commands answer text well has has_script (inr (inr (inr (loaded, (is, (some, broken)))))) = no_script shelf n.script text commands has_script (broken well.tells)

-- a text is one roster's
pub one_roster : (bytes : List ℕ) (a b : List RosterEntry) → IsRosterText bytes a → IsRosterText bytes b → a ≡ b
one_roster bytes a b is other = (in_one_way roster _ roster_lawful).value a b is.fits other.fits (sym is.is ∙ other.is)

ok_is_one : {A E : Type 0} (a b : A) → ◌≡◌ {A = Result A E} (Ok a) (Ok b) → a ≡ b
ok_is_one a b e = cc

-- and one script's
one_script : (bytes : List ℕ) (a b : List line.Command) → IsTextOfScript bytes a → IsTextOfScript bytes b → a ≡ b
one_script bytes a b is other = ok_is_one a b (sym (ap script_of is.is ∙ script_again a is.has) ∙ ap script_of other.is ∙ script_again b other.has)

-- where nothing fails a run is cut short for want of memory alone
cut_by_memory : (disk : Disks) (shelf : Shelves) (sink : Sinks) (e : ScriptEnding) (status : Status) → IsWell shelf sink → IsWellDisk disk → status ≡ status_of e → IsCutBy (HasFailed disk) shelf sink e → status ≡ Memory
cut_by_memory disk shelf sink ending.Memory status well disk_well is cut = is
cut_by_memory disk shelf sink ending.Disk status well disk_well is cut = absurd (omega (arith, cut, disk_well.is_well))
cut_by_memory disk shelf sink ending.Shelf status well disk_well is cut = absurd (omega (arith, cut, well.shelf_is_well))
cut_by_memory disk shelf sink ending.Sink status well disk_well is cut = absurd (omega (arith, cut, well.sink_is_well))
cut_by_memory disk shelf sink other status well disk_well is cut = absurd cut

-- the run of a node over a lawful journal completes it, where nothing fails
node_completes : (disk : Disks) (shelf : Shelves) (loads : Loads) (calls : Asked) (sink : Sinks) (same_disk same_files : Type 0) (n : NodeWords) (status : Status) → Results (Some (asked.Node n)) disk shelf loads calls sink same_disk same_files status → IsWell shelf sink → IsWellDisk disk → CompletesNode disk shelf (Some (asked.Node n)) status
node_completes disk shelf loads calls sink same_disk same_files n status (inl (u, ends)) well disk_well = λ listed commands J has has_script keyed lawful records. elim ends [
  | inl e ↦ absurd (no_fault_of_inputs shelf loads sink n listed commands status e.text well has has_script e.answered)
  | inr x ↦ elim x [
    | inl e ↦ inr e.is
    | inr e ↦ absurd (omega (arith, e.rose, well.sink_is_well))
  ]
]
node_completes disk shelf loads calls sink same_disk same_files n status (inr r) well disk_well = λ listed commands J has has_script keyed lawful records.
    let found = r.roster well.tells in
    let found_script = r.script well.tells in
    let listed_is : r.listed ≡ listed = one_roster has.bytes r.listed listed (subst (λ (x : List ℕ). IsRosterText x r.listed) (one_file shelf n.roster found.bytes has.bytes found.there has.there) found.holds) has.holds in
    let commands_are : r.commands ≡ commands = one_script has_script.bytes r.commands commands (subst (λ (x : List ℕ). IsTextOfScript x r.commands) (one_file shelf n.script found_script.bytes has_script.bytes found_script.there has_script.there) found_script.holds) has_script.holds in
    let ran = subst (λ (c : List line.Command). RunsScript listed n c (n.roster ∷ n.script ∷ []) disk shelf calls sink same_disk r.ends) commands_are (subst (λ (l : List RosterEntry). RunsScript l n r.commands (n.roster ∷ n.script ∷ []) disk shelf calls sink same_disk r.ends) listed_is r.runs) in
    elim (ran.answers.over disk_well.tells well.tells keyed J [] lawful records (record { each = λ read on. absurd on; in_order = tt })) [
      | inl whole ↦ inl (r.status_is ∙ ap status_of whole.0.ending_is)
      | inr short ↦ inr (cut_by_memory disk shelf sink r.ends status well disk_well r.status_is short.0.cut)
    ]

pub results_complete_node : (disk : Disks) (shelf : Shelves) (loads : Loads) (calls : Asked) (sink : Sinks) (same_disk same_files : Type 0) (command : Option Invocation) (status : Status) → Results command disk shelf loads calls sink same_disk same_files status → IsWell shelf sink → IsWellDisk disk → CompletesNode disk shelf command status
results_complete_node disk shelf loads calls sink same_disk same_files (Some (asked.Node n)) status r well disk_well = node_completes disk shelf loads calls sink same_disk same_files n status r well disk_well
results_complete_node disk shelf loads calls sink same_disk same_files other status r well disk_well = tt
