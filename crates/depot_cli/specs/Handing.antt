-- Trace files in their order, and the first of them that is refused.
use Rattle.std.specs.Prelude.{◌≡◌, ◌⊎◌, ℕ, ◌+◌, ◌<◌, ◌≤◌, ◌==◌, List, [], ◌∷◌, ◌++◌, map, take, Bool, true, false, IsTrue, Option, Some, None, Err, slice_get}
use Rattle.std.specs.List.{AllByRecursion, list_any}
use Rattle.depot_base.specs.Reading.{Decodes}
use Rattle.depot_base.specs.declared.fault.DecodeError.TheVariants as errors
use Rattle.depot_base.specs.declared.key.RosterEntry.{RosterEntry}
use Rattle.depot_model.specs.lists.Items.{AreDistinct}
use Rattle.depot_model.specs.texts.Roster.{has_node}
use Rattle.depot_outside.specs.Told.{Loads, loads, HasLoaded}
use Rattle.depot_outside.specs.declared.shelf.Shelf.{Ghosts}
use Rattle.depot_traces.specs.TraceTexts.{trace_text, IsTrace, text_of_trace}
use Rattle.depot_traces.specs.declared.trace.Trace.{Trace}
use Rattle.depot_cli.specs.declared.trace_files.GatheredTraces.{GatheredTraces}
use Rattle.depot_cli.specs.declared.trace_files.GatheredTraces.TheVariants as gathered
use Rattle.depot_cli.specs.declared.trace_files.TraceRefusal.{TraceRefusal}
use Rattle.depot_cli.specs.declared.trace_files.TraceRefusal.TheVariants.{Missing, IllFormed, Twice, Stranger}
use Rattle.depot_cli.specs.declared.trace_files.TakenTrace.{TakenTrace}
use Rattle.depot_cli.specs.declared.trace_files.TakenTrace.TheVariants as taken

-- ---- traces for an audit

abbrev pub nodes_of : List Trace → List ℕ
nodes_of ts = map (λ t. t.node) ts

-- one of these traces is of this node
abbrev pub has_trace_of : ℕ → List Trace → Bool
has_trace_of node ts = list_any (λ t. t.node == node) ts

-- a trace that has a text and is of a node of the roster without an earlier trace
pub record IsNextTrace (listed : List RosterEntry) (earlier : List Trace) (t : Trace) : Type 0 where
  pub fits : IsTrace t
  pub member : has_node listed t.node ≡ true
  pub new : has_trace_of t.node earlier ≡ false

-- What an audit needs of traces: each has a text and is of a node of the roster, and no two are of one node.
pub record AreForAudit (listed : List RosterEntry) (ts : List Trace) : Type 0 where
  pub fit : AllByRecursion IsTrace ts
  pub members : AllByRecursion (λ t. has_node listed t.node ≡ true) ts
  pub distinct : AreDistinct (nodes_of ts)

-- ---- one file

-- the bytes are refused for this
abbrev pub IsRefusedTrace : List RosterEntry → List Trace → List ℕ → TraceRefusal → Type 0
IsRefusedTrace listed earlier bytes Missing = ⊥
IsRefusedTrace listed earlier bytes (IllFormed at) = Decodes trace_text bytes (Err (errors.IllFormed at))
IsRefusedTrace listed earlier bytes (Twice node) = (t : Trace) × (IsTrace t × ((bytes ≡ text_of_trace t) × ((t.node ≡ node) × (has_trace_of node earlier ≡ true))))
IsRefusedTrace listed earlier bytes Stranger = (t : Trace) × (IsTrace t × ((bytes ≡ text_of_trace t) × (has_node listed t.node ≡ false)))

-- what came of these bytes
abbrev pub IsTakenTrace : List RosterEntry → List Trace → List ℕ → TakenTrace → Type 0
IsTakenTrace listed earlier bytes (taken.Trace t) = IsNextTrace listed earlier t × (bytes ≡ text_of_trace t)
IsTakenTrace listed earlier bytes (taken.Refused why) = IsRefusedTrace listed earlier bytes why

-- why the file of a name is refused: it isn't there, the shelf failed, or its bytes are faulty
abbrev pub IsRefusedFile : Bool → (List ℕ → Option (List ℕ)) → Type 0 → List RosterEntry → List Trace → List ℕ → TraceRefusal → Type 0
IsRefusedFile tells file failed listed earlier name Missing = failed ⊎ (IsTrue tells → file name ≡ None)
IsRefusedFile tells file failed listed earlier name why = IsTrue tells → (bytes : List ℕ) × ((file name ≡ Some bytes) × IsRefusedTrace listed earlier bytes why)

-- what came of the file of a name
abbrev pub IsToldTrace : Bool → (List ℕ → Option (List ℕ)) → Type 0 → List RosterEntry → List Trace → List ℕ → TakenTrace → Type 0
IsToldTrace tells file failed listed earlier name (taken.Trace t) = IsNextTrace listed earlier t × (IsTrue tells → file name ≡ Some (text_of_trace t))
IsToldTrace tells file failed listed earlier name (taken.Refused why) = IsRefusedFile tells file failed listed earlier name why

-- where anything but Missing is answered, the shelf didn't fail
abbrev pub IsCalmAt : Type 0 → TraceRefusal → Type 0
IsCalmAt calm Missing = Unit {0}
IsCalmAt calm why = calm

abbrev pub IsCalm : Type 0 → TakenTrace → Type 0
IsCalm calm (taken.Trace t) = calm
IsCalm calm (taken.Refused why) = IsCalmAt calm why

-- ---- all files

-- these are the traces of the files of these names, in their order
abbrev pub AreHanded : Bool → (List ℕ → Option (List ℕ)) → List (List ℕ) → List Trace → Type 0
AreHanded tells file [] [] = Unit {0}
AreHanded tells file [] (t ∷ ts) = ⊥
AreHanded tells file (name ∷ names) [] = ⊥
AreHanded tells file (name ∷ names) (t ∷ ts) = (IsTrue tells → file name ≡ Some (text_of_trace t)) × AreHanded tells file names ts

-- the file of a place is refused, and those before it aren't
pub record IsRefusedAt (tells : Bool) (file : List ℕ → Option (List ℕ)) (failed : Type 0) (listed : List RosterEntry) (names : List (List ℕ)) (place : ℕ) (why : TraceRefusal) : Type 0 where
  pub before : List Trace
  pub handed : AreHanded tells file (take place names) before
  pub audited : AreForAudit listed before
  pub name : List ℕ
  pub at : slice_get names place ≡ Some name
  pub refused : IsRefusedFile tells file failed listed before name why

-- After some files a prefix of these names was loaded, and all of them but maybe the last are traces for this audit.
pub record HasLoadedTraces (tells : Bool) (file : List ℕ → Option (List ℕ)) (loads : Loads) (listed : List RosterEntry) (first names : List (List ℕ)) : Type 0 where
  pub count : ℕ
  pub good : ℕ
  pub loaded : HasLoaded loads (first ++ take count names)
  pub traces : List Trace
  pub handed : AreHanded tells file (take good names) traces
  pub audited : AreForAudit listed traces
  pub last_alone : count ≤ good + 1

-- the outcome of the files of these names, and which of them were loaded
abbrev pub IsGathered : Bool → (List ℕ → Option (List ℕ)) → (failed calm : Type 0) → Loads → List RosterEntry → List (List ℕ) → GatheredTraces → Type 0
IsGathered tells file failed calm loads listed names (gathered.Traces ts) = HasLoaded loads names × (AreHanded tells file names ts × (AreForAudit listed ts × calm))
IsGathered tells file failed calm loads listed names (gathered.Refused place why) = HasLoaded loads (take (place + 1) names) × (IsRefusedAt tells file failed listed names place why × IsCalmAt calm why)

-- the same of a shelf as it was and as it is
abbrev pub HasGathered : {F : Type 0} → Ghosts F → (old new : F) → List RosterEntry → List (List ℕ) → GatheredTraces → Type 0
HasGathered g old new listed names traces = IsGathered (g.tells old) (g.file old) (g.faults old < g.faults new) (g.faults new ≡ g.faults old) (loads g old new) listed names traces

-- for any outcome: which files were loaded
abbrev pub GathersTraces : {F : Type 0} → Ghosts F → (old new : F) → List RosterEntry → List (List ℕ) → Type 0
GathersTraces g old new listed names = HasLoadedTraces (g.tells old) (g.file old) (loads g old new) listed [] names
