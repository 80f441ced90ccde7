-- The outcome of `audit` if its files are there: none is refused, and what they show is Done or Broken.
use Rattle.std.proofs.Common.{◌≡◌, ◌⊎◌, ℕ, zero, suc, List, [], ◌∷◌, take, Bool, true, false, eqb, ◌||◌, IsTrue, Option, Some, Err, slice_get, refl, sym, ap, subst, ◌∙◌, inl, inr, arith}
use Rattle.std.specs.List.{AllByRecursion, list_any}
use Rattle.std.proofs.lemmas.Bool.{eqb-true}
use Rattle.depot_base.proofs.Decoding.{in_one_way}
use Rattle.depot_base.specs.declared.fault.DecodeError.TheVariants as errors
use Rattle.depot_base.specs.Reading.{Decodes}
use Rattle.depot_base.specs.declared.key.RosterEntry.{RosterEntry}
use Rattle.depot_model.specs.worlds.Audit as audits
use Rattle.depot_model.specs.lists.Items.{AreDistinct}
use Rattle.depot_model.specs.lists.Lists.{IsIn}
use Rattle.depot_model.specs.texts.Roster.{has_node}
use Rattle.depot_model.specs.texts.Texts.{roster}
use Rattle.depot_model.proofs.lists.Members.{all_at, in_map}
use Rattle.depot_model.proofs.of_texts.TextLaws.{roster_lawful}
use Rattle.depot_outside.specs.Told.{Shelves, Loads, Sinks, HasFile}
use Rattle.depot_traces.proofs.TraceLaws.{trace_text_lawful}
use Rattle.depot_traces.specs.TraceTexts.{IsTrace, text_of_trace, trace_text}
use Rattle.depot_traces.specs.declared.trace.Trace.{Trace}
use Rattle.depot_cli.specs.Handing.{AreHanded, IsRefusedFile, has_trace_of, nodes_of}
use Rattle.depot_cli.specs.declared.trace_files.TraceRefusal.{TraceRefusal}
use Rattle.depot_cli.specs.declared.trace_files.TraceRefusal.TheVariants.{Missing, IllFormed, Twice, Stranger}
use Rattle.depot_cli.specs.declared.status.Status.{Status}
use Rattle.depot_cli.specs.declared.status.Status.TheVariants.{Done, Memory, Broken}
use Rattle.depot_cli.specs.Runs.{AreOfRoster, AreTraceFiles, Audits, AuditsTraces, HasShelfFailed, IsRosterText, IsWell, RefusesTrace, status_of_finding}
use Rattle.depot_cli.proofs.ThereFiles.{not_lacking, one_file, no_roster}

-- ---- traces by their texts

-- two traces with one text are one
one_trace : (t u : Trace) → IsTrace t → IsTrace u → text_of_trace t ≡ text_of_trace u → t ≡ u
one_trace t u t_fits u_fits same = (in_one_way trace_text _ trace_text_lawful).value t u t_fits u_fits same

-- a trace's text isn't ill-formed
well_formed : (t : Trace) (text : List ℕ) (at : ℕ) → IsTrace t → text ≡ text_of_trace t → Decodes trace_text text (Err (errors.IllFormed at)) → ⊥
well_formed t text at fits is d = elim (d.only t fits is) [ inl memory ↦ cc | inr found ↦ cc ]

-- ---- what is handed in

told_handed : (tells : Bool) (file : List ℕ → Option (List ℕ)) (names : List (List ℕ)) (ts : List Trace) → IsTrue tells → AreHanded tells file names ts → AreHanded true file names ts
told_handed tells file [] [] told handed = tt
told_handed tells file [] (t ∷ ts) told handed = absurd handed
told_handed tells file (name ∷ names) [] told handed = absurd handed
told_handed tells file (name ∷ names) (t ∷ ts) told handed = ((λ yes. handed.0 told), told_handed tells file names ts told handed.1)

-- the traces of the first names are the first traces
same_front : (file : List ℕ → Option (List ℕ)) (names : List (List ℕ)) (k : ℕ) (ts us : List Trace) → AreHanded true file names ts → AllByRecursion IsTrace ts → AreHanded true file (take k names) us → AllByRecursion IsTrace us → us ≡ take k ts
same_front file names zero ts [] good fits handed us_fit = refl
same_front file names zero ts (u ∷ us) good fits handed us_fit = absurd handed
same_front file [] (suc k) [] [] good fits handed us_fit = refl
same_front file [] (suc k) [] (u ∷ us) good fits handed us_fit = absurd handed
same_front file [] (suc k) (t ∷ ts) us good fits handed us_fit = absurd good
same_front file (name ∷ names) (suc k) [] us good fits handed us_fit = absurd good
same_front file (name ∷ names) (suc k) (t ∷ ts) [] good fits handed us_fit = absurd handed
same_front file (name ∷ names) (suc k) (t ∷ ts) (u ∷ us) good fits handed us_fit =
    let here = good.0 refl in
    let there = handed.0 refl in
    let texts : text_of_trace u ≡ text_of_trace t = cc in
    ap (λ (x : Trace). x ∷ us) (one_trace u t us_fit.0 fits.0 texts) ∙ ap (λ (xs : List Trace). t ∷ xs) (same_front file names k ts us good.1 fits.1 handed.1 us_fit.1)

-- the trace of the file of a place
record StandsAt (file : List ℕ → Option (List ℕ)) (name : List ℕ) (place : ℕ) (ts : List Trace) : Type 0 where
  pub trace : Trace
  pub on : IsIn trace ts
  pub there : file name ≡ Some (text_of_trace trace)
  pub apart : AreDistinct (nodes_of ts) → has_trace_of trace.node (take place ts) ≡ false

differs : (x : Trace) (ts : List Trace) (t : Trace) (others : List Trace) → AllByRecursion (λ m. m ≡ x.node → ⊥) (nodes_of ts) → IsIn t ts → has_trace_of t.node others ≡ false → has_trace_of t.node (x ∷ others) ≡ false
differs x ts t others apart on none = choice (eqb x.node t.node) refl where
  choice : (b : Bool) → eqb x.node t.node ≡ b → (b || list_any (λ (y : Trace). eqb y.node t.node) others) ≡ false
  choice true same = absurd (all_at (λ m. m ≡ x.node → ⊥) (nodes_of ts) t.node apart (in_map (λ (y : Trace). y.node) t ts on) (sym (eqb-true x.node t.node same)))
  choice false other = none

stands_at : (file : List ℕ → Option (List ℕ)) (names : List (List ℕ)) (place : ℕ) (ts : List Trace) (name : List ℕ) → AreHanded true file names ts → slice_get names place ≡ Some name → StandsAt file name place ts
stands_at file [] place ts name handed at = absurd cc
stands_at file (n ∷ names) place [] name handed at = absurd handed
stands_at file (n ∷ names) zero (t ∷ ts) name handed at = record { trace = t; on = inl refl; there = ap file (sym here) ∙ handed.0 refl; apart = λ _. refl } where
  here : n ≡ name
  here = cc
stands_at file (n ∷ names) (suc place) (t ∷ ts) name handed at =
    let s = stands_at file names place ts name handed.1 at in
    record { trace = s.trace; on = inr s.on; there = s.there; apart = λ d. differs t ts s.trace (take place ts) d.0 s.on (s.apart d.1) }

-- ---- no file is refused

refused_never : (shelf : Shelves) (sink : Sinks) (listed : List RosterEntry) (names : List (List ℕ)) (ts before : List Trace) (place : ℕ) (name : List ℕ) (why : TraceRefusal) → IsWell shelf sink → AreOfRoster listed ts → AllByRecursion IsTrace ts
    → (s : StandsAt shelf.file name place ts) → before ≡ take place ts → IsRefusedFile shelf.tells shelf.file (HasShelfFailed shelf) listed before name why → ⊥
refused_never shelf sink listed names ts before place name Missing well of fits s same (inl failed) = omega (arith, failed, well.shelf_is_well)
refused_never shelf sink listed names ts before place name Missing well of fits s same (inr absent) = let none = absent well.tells in let some = s.there in cc
refused_never shelf sink listed names ts before place name (IllFormed at) well of fits s same refused =
    let told = refused well.tells in
    let is : told.0 ≡ text_of_trace s.trace = one_file shelf name told.0 (text_of_trace s.trace) told.1.0 s.there in
    well_formed s.trace told.0 at (all_at IsTrace ts s.trace fits s.on) is told.1.1
refused_never shelf sink listed names ts before place name (Twice node) well of fits s same refused =
    let told = refused well.tells in
    let other = told.1.1 in
    let is = one_trace other.0 s.trace other.1.0 (all_at IsTrace ts s.trace fits s.on) (sym other.1.1.0 ∙ one_file shelf name told.0 (text_of_trace s.trace) told.1.0 s.there) in
    let none : has_trace_of node before ≡ false = ap (λ (n : ℕ). has_trace_of n before) (sym other.1.1.1.0 ∙ ap (λ (x : Trace). x.node) is) ∙ ap (has_trace_of s.trace.node) same ∙ s.apart of.1 in
    let some = other.1.1.1.1 in
    cc
refused_never shelf sink listed names ts before place name Stranger well of fits s same refused =
    let told = refused well.tells in
    let other = told.1.1 in
    let is = one_trace other.0 s.trace other.1.0 (all_at IsTrace ts s.trace fits s.on) (sym other.1.1.0 ∙ one_file shelf name told.0 (text_of_trace s.trace) told.1.0 s.there) in
    let no : has_node listed s.trace.node ≡ false = subst (λ (x : Trace). has_node listed x.node ≡ false) is other.1.1.1 in
    let yes = all_at (λ (x : Trace). has_node listed x.node ≡ true) ts s.trace of.0 s.on in
    cc

-- ---- the command

found_status : (found : audits.Finding) → (status_of_finding found ≡ Done) ⊎ (status_of_finding found ≡ Broken)
found_status audits.yes_found = inl refl
found_status other = inr refl

audited_completes : (shelf : Shelves) (loads : Loads) (listed : List RosterEntry) (name : List ℕ) (names : List (List ℕ)) (status : Status) (text : List ℕ) → AuditsTraces shelf loads listed name names status text → (status ≡ Done) ⊎ ((status ≡ Broken) ⊎ (status ≡ Memory))
audited_completes shelf loads listed name names status text a = elim (found_status a.audited.found) [
  | inl done ↦ inl (a.audited.status_is ∙ done)
  | inr broken ↦ inr (inl (a.audited.status_is ∙ broken))
]

refuses_never : (shelf : Shelves) (loads : Loads) (sink : Sinks) (listed : List RosterEntry) (name : List ℕ) (names : List (List ℕ)) (status : Status) (text : List ℕ) (ts : List Trace) → IsWell shelf sink → AreTraceFiles shelf names ts → AreOfRoster listed ts → RefusesTrace shelf loads listed name names status text → ⊥
refuses_never shelf loads sink listed name names status text ts well files of r =
    let s = stands_at shelf.file names r.place ts r.refused.name files.0 r.refused.at in
    let front = same_front shelf.file names r.place ts r.refused.before files.0 files.1 (told_handed shelf.tells shelf.file (take r.place names) r.refused.before well.tells r.refused.handed) r.refused.audited.fit in
    refused_never shelf sink listed names ts r.refused.before r.place r.refused.name r.why well of files.1 s front r.refused.refused

pub audit_completes : (shelf : Shelves) (loads : Loads) (sink : Sinks) (name : List ℕ) (names : List (List ℕ)) (status : Status) (text : List ℕ) → IsWell shelf sink → Audits shelf loads name names status text
    → (listed : List RosterEntry) (ts : List Trace) → HasFile shelf name (λ bytes. IsRosterText bytes listed) → AreTraceFiles shelf names ts → AreOfRoster listed ts → (status ≡ Done) ⊎ ((status ≡ Broken) ⊎ (status ≡ Memory))
audit_completes shelf loads sink name names status text well (inl (loaded, (is, (lacks, line)))) listed ts good files of = absurd (not_lacking shelf sink name good.bytes well good.there lacks)
audit_completes shelf loads sink name names status text well (inr (inl (loaded, (is, broken)))) listed ts good files of = absurd (no_roster shelf name text (record { bytes = good.bytes; there = good.there; holds = (listed, good.holds) }) (broken well.tells))
audit_completes shelf loads sink name names status text well (inr (inr (other, (found, inr audited)))) listed ts good files of = audited_completes shelf loads other name names status text audited
audit_completes shelf loads sink name names status text well (inr (inr (other, (found, inl refuses)))) listed ts good files of =
    let there = found well.tells in
    let bytes = one_file shelf name there.bytes good.bytes there.there good.there in
    let same = (in_one_way roster _ roster_lawful).value listed other good.holds.fits there.holds.fits (sym good.holds.is ∙ sym bytes ∙ there.holds.is) in
    absurd (refuses_never shelf loads sink listed name names status text ts well files of (subst (λ (l : List RosterEntry). RefusesTrace shelf loads l name names status text) (sym same) refuses))
