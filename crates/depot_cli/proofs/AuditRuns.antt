-- What `audit` answers, by what was gathered of its trace files after a roster.
use Rattle.std.proofs.Common.{◌≡◌, ◌≤◌, ℕ, map, true, Result, Ok, Err, codes, arith, List, [], ◌∷◌, ◌++◌, length, get_or, take, Some, slice_get, ◌+◌, refl, sym, ap, subst, ◌∙◌, append_assoc, inl, inr}
use Rattle.std.specs.Result.{IfOk, IsOk}
use Rattle.std.proofs.lemmas.Option.{get_or_from_slice_get}
use Rattle.std.proofs.lemmas.Result.{IfOk-weaker}
use Rattle.depot_answers.specs.AnswerTexts.{text_of_finding}
use Rattle.depot_base.specs.Format.{number}
use Rattle.depot_base.specs.declared.key.RosterEntry.{RosterEntry}
use Rattle.depot_base.specs.declared.memory.Memory as absent
use Rattle.depot_laws.proofs.of_audits.OneFinding.{one_finding}
use Rattle.depot_laws.proofs.of_audits.YesOfTraces.{yes_to, yes_from}
use Rattle.depot_model.specs.worlds.Audit.{Finding, yes_found}
use Rattle.depot_model.specs.lists.Items.{AreDistinct}
use Rattle.depot_model.specs.lists.Lists.{IsIn}
use Rattle.depot_model.specs.texts.Roster.{has_node}
use Rattle.depot_model.specs.worlds.Traces.{IsFindingOf}
use Rattle.depot_model.specs.worlds.Traces as traces
use Rattle.depot_model.specs.texts.Winternitz.{winternitz_verifies}
use Rattle.depot_model.proofs.lists.Members.{from_map, all_at}
use Rattle.depot_outside.specs.Told.{Shelves, Loads, HasFile, WhereTold}
use Rattle.depot_traces.specs.SeenTraces.{finding_of, trace_of}
use Rattle.depot_traces.specs.TraceTexts.{IsTrace, trace_text}
use Rattle.depot_traces.specs.declared.finding.Finding as told
use Rattle.depot_traces.specs.declared.trace.Trace.{Trace}
use Rattle.depot_cli.specs.Handing.{AreForAudit, HasLoadedTraces, nodes_of}
use Rattle.depot_cli.specs.declared.trace_files.GatheredTraces.TheVariants as gathered
use Rattle.depot_cli.specs.declared.outcome.CommandOutcome.{CommandOutcome}
use Rattle.depot_cli.specs.declared.status.Status.{Status}
use Rattle.depot_cli.specs.Runs.{AnswersFiles, Audits, IsAudited, IsRosterText, status_of_finding}

-- the place of a finding is a place of the list, and one entry is there
pub one_at : {X : Type 0} (xs : List X) (place : ℕ) (x y : X) → x ≡ get_or xs place x → slice_get xs place ≡ Some y → x ≡ y
one_at xs place x y is at = is ∙ get_or_from_slice_get xs place y x at

-- after the roster some first of these were loaded
pub loaded_behind : (before mid after : List (List ℕ)) (roster : List ℕ) (names : List (List ℕ)) → mid ≡ before ++ roster ∷ [] → after ≡ mid ++ names → after ≡ before ++ roster ∷ names
loaded_behind before mid after roster names first rest = rest ∙ ap (λ (xs : List (List ℕ)). xs ++ names) first ∙ append_assoc before (roster ∷ []) names

-- what the trace files answer after a roster is what the audit answers
pub audits_behind : (shelf : Shelves) (behind all : Loads) (listed : List RosterEntry) (roster : List ℕ) (names : List (List ℕ)) (status : Status) (text : List ℕ)
    → behind.before ≡ all.before ++ roster ∷ [] → all.after ≡ behind.after → WhereTold shelf (HasFile shelf roster (λ bytes. IsRosterText bytes listed))
    → AnswersFiles shelf behind listed names status text → Audits shelf all roster names status text
audits_behind shelf behind all listed roster names status text first same found (gathered.Traces ts, (is, answer)) = inr (inr (
  listed,
  (
    found,
    inr (record {
      traces = ts;
      loaded = same ∙ loaded_behind all.before behind.before behind.after roster names first is.0;
      handed = is.1.0;
      for_audit = is.1.1.0;
      audited = answer;
    }),
  ),
))
audits_behind shelf behind all listed roster names status text first same found (gathered.Refused place why, (is, answer)) = inr (inr (
  listed,
  (
    found,
    inl (record {
      place = place;
      why = why;
      loaded = same ∙ loaded_behind all.before behind.before behind.after roster (take (place + 1) names) first is.0;
      refused = is.1.0;
      status_is = answer.0;
      text_is = answer.1 is.1.0.name is.1.0.at;
    }),
  ),
))

-- the same where the shelf and the names are seen after the load of the roster
pub audits_later : (mid shelf : Shelves) (behind all : Loads) (listed : List RosterEntry) (roster : List ℕ) (given names : List (List ℕ)) (status : Status) (text : List ℕ)
    → mid ≡ shelf → given ≡ names → behind.before ≡ all.before ++ roster ∷ [] → all.after ≡ behind.after → WhereTold shelf (HasFile shelf roster (λ bytes. IsRosterText bytes listed))
    → AnswersFiles mid behind listed given status text → Audits shelf all roster names status text
audits_later mid shelf behind all listed roster given names status text same are first last found answers =
    audits_behind shelf behind all listed roster names status text first last found (subst (λ (ns : List (List ℕ)). AnswersFiles shelf behind listed ns status text) are (subst (λ (s : Shelves). AnswersFiles s behind listed given status text) same answers))

-- which trace files were loaded after the roster, where the shelf and the names are seen after its load
pub loaded_later : (mid shelf : Shelves) (behind all : Loads) (listed : List RosterEntry) (roster : List ℕ) (given names : List (List ℕ))
    → mid ≡ shelf → given ≡ names → behind.before ≡ all.before ++ roster ∷ [] → all.after ≡ behind.after → HasLoadedTraces mid.tells mid.file behind listed [] given → HasLoadedTraces shelf.tells shelf.file all listed (roster ∷ []) names
loaded_later mid shelf behind all listed roster given names same are first last is =
    subst (λ (s : Shelves). HasLoadedTraces s.tells s.file all listed (roster ∷ []) names) same (subst (λ (ns : List (List ℕ)). HasLoadedTraces mid.tells mid.file all listed (roster ∷ []) ns) are (record {
      count = is.count;
      good = is.good;
      loaded = last ∙ loaded_behind all.before behind.before behind.after roster (take is.count given) first is.loaded;
      traces = is.traces;
      handed = is.handed;
      audited = is.audited;
      last_alone = is.last_alone;
    }))

-- ---- what is found

some_records : (t : Trace) → IsTrace t → t.texts ≡ [] → ⊥
unfolding trace_text number
some_records t fits none = let some : 1 ≤ length t.texts = fits.1.1.1.0.0 in absurd (omega (arith, subst (λ (texts : List (List ℕ)). 1 ≤ length texts) none some))

nodes_seen : (ts : List Trace) → map (λ (t : traces.Trace). t.node) (map trace_of ts) ≡ nodes_of ts
nodes_seen [] = refl
nodes_seen (t ∷ ts) = ap (λ (ns : List ℕ). t.node ∷ ns) (nodes_seen ts)

-- what an audit of these traces finds is printed as it says
pub audited_is : (listed : List RosterEntry) (ts : List Trace) (found : Finding) → AreForAudit listed ts → IsFindingOf winternitz_verifies listed (map trace_of ts) found
    → IsAudited listed ts (status_of_finding found) (text_of_finding found ++ codes "\n")
audited_is listed ts found for is =
    let apart = subst AreDistinct (sym (nodes_seen ts)) for.distinct in
    let members : (t : traces.Trace) → IsIn t (map trace_of ts) → has_node listed t.node ≡ true = λ t on. let x = from_map trace_of t ts on in subst (λ (s : traces.Trace). has_node listed s.node ≡ true) x.1.1 (all_at (λ (s : Trace). has_node listed s.node ≡ true) ts x.0 for.members x.1.0) in
    let some : (t : traces.Trace) → IsIn t (map trace_of ts) → t.texts ≡ [] → ⊥ = λ t on. let x = from_map trace_of t ts on in subst (λ (s : traces.Trace). s.texts ≡ [] → ⊥) x.1.1 (some_records x.0 (all_at IsTrace ts x.0 for.fit x.1.0)) in
    record {
      found = found;
      is = is;
      yes = (
        (λ same. yes_to winternitz_verifies listed (map trace_of ts) apart members some (subst (IsFindingOf winternitz_verifies listed (map trace_of ts)) same is)),
        (λ w. one_finding winternitz_verifies listed (map trace_of ts) found yes_found is (yes_from winternitz_verifies listed (map trace_of ts) apart members some w)),
      );
      status_is = refl;
      text_is = refl;
    }

-- the same where memory may have been wanting for the one or the other
pub audited_printed : (listed : List RosterEntry) (ts : List Trace) (r : Result told.Finding absent.Memory) (q : Result CommandOutcome absent.Memory) → AreForAudit listed ts → IfOk r (λ f. IsFindingOf winternitz_verifies listed (map trace_of ts) (finding_of f))
    → IfOk q (λ o. IfOk r (λ f. o ≡ record { status = status_of_finding (finding_of f); text = text_of_finding (finding_of f) ++ codes "\n" })) → IfOk q (λ _. IsOk r) → IfOk q (λ o. IsAudited listed ts o.status o.text)
audited_printed listed ts (Ok f) q for is printed some = IfOk-weaker q _ _ (λ o same. subst (λ (x : CommandOutcome). IsAudited listed ts x.status x.text) (sym same) (audited_is listed ts (finding_of f) for is)) printed
audited_printed listed ts (Err e) q for is printed some = IfOk-weaker q _ _ (λ o none. absurd cc) some
