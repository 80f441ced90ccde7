-- Traces handed in one after the other.
use Rattle.std.proofs.Common.{◌≡◌, ℕ, suc, ◌+◌, ◌<◌, List, [], ◌∷◌, ◌++◌, length, take, get_or, Bool, true, false, eqb, ◌||◌, IsTrue, Option, Some, refl, sym, ap, subst, ◌∙◌, append_assoc}
use Rattle.std.specs.List.{AllByRecursion, list_any}
use Rattle.std.proofs.lemmas.Bool.{eq-eqb}
use Rattle.std.proofs.lemmas.Option.{slice_get-get_or}
use Rattle.depot_base.proofs.GeneralLaws.{take_next}
use Rattle.depot_base.specs.declared.key.RosterEntry.{RosterEntry}
use Rattle.depot_model.specs.lists.Items.{AreDistinct}
use Rattle.depot_model.specs.texts.Roster.{has_node}
use Rattle.depot_model.proofs.lists.Members.{all_push}
use Rattle.depot_outside.specs.Told.{loads, HasLoaded}
use Rattle.depot_outside.specs.declared.shelf.Shelf.{Ghosts}
use Rattle.depot_traces.specs.TraceTexts.{IsTrace, text_of_trace}
use Rattle.depot_traces.specs.declared.trace.Trace.{Trace}
use Rattle.depot_cli.specs.declared.trace_files.TraceRefusal.{TraceRefusal}
use Rattle.depot_cli.specs.Handing.{IsNextTrace, IsRefusedFile, IsRefusedAt, IsCalmAt, AreForAudit, AreHanded, has_trace_of, nodes_of}

-- ---- distinct nodes

-- a node of which none of these traces is differs from theirs
none_is : (n : ℕ) (ts : List Trace) → has_trace_of n ts ≡ false → AllByRecursion (λ m. m ≡ n → ⊥) (nodes_of ts)
none_is n [] none = tt
none_is n (t ∷ ts) none = choice (eqb t.node n) refl none (none_is n ts) where
  choice : (b : Bool) → eqb t.node n ≡ b → (b || list_any (λ (x : Trace). eqb x.node n) ts) ≡ false → (has_trace_of n ts ≡ false → AllByRecursion (λ m. m ≡ n → ⊥) (nodes_of ts)) → AllByRecursion (λ m. m ≡ n → ⊥) (nodes_of (t ∷ ts))
  choice true same is rest = absurd cc
  choice false other is rest = ((λ e. let no : eqb t.node n ≡ false = other in let yes : eqb t.node n ≡ true = eq-eqb t.node n e in let clash : true ≡ false = sym yes ∙ no in absurd cc), rest is)

distinct_push : (ns : List ℕ) (n : ℕ) → AreDistinct ns → AllByRecursion (λ m. m ≡ n → ⊥) ns → AreDistinct (ns ++ n ∷ [])
distinct_push [] n d apart = (tt, tt)
distinct_push (m ∷ ms) n d apart = (all_push (λ x. x ≡ m → ⊥) ms n d.0 (λ same. apart.0 (sym same)), distinct_push ms n d.1 apart.1)

nodes_push : (ts : List Trace) (t : Trace) → nodes_of (ts ++ t ∷ []) ≡ nodes_of ts ++ t.node ∷ []
nodes_push [] t = refl
nodes_push (x ∷ ts) t = ap (λ (ns : List ℕ). x.node ∷ ns) (nodes_push ts t)

-- ---- one more

audit_push : (listed : List RosterEntry) (ts : List Trace) (t : Trace) → AreForAudit listed ts → IsNextTrace listed ts t → AreForAudit listed (ts ++ t ∷ [])
audit_push listed ts t a n = record {
  fit = all_push IsTrace ts t a.fit n.fits;
  members = all_push (λ (x : Trace). has_node listed x.node ≡ true) ts t a.members n.member;
  distinct = subst AreDistinct (sym (nodes_push ts t)) (distinct_push (nodes_of ts) t.node a.distinct (none_is t.node ts n.new));
}

handed_push : (tells : Bool) (file : List ℕ → Option (List ℕ)) (names : List (List ℕ)) (ts : List Trace) (name : List ℕ) (t : Trace)
    → AreHanded tells file names ts → (IsTrue tells → file name ≡ Some (text_of_trace t)) → AreHanded tells file (names ++ name ∷ []) (ts ++ t ∷ [])
handed_push tells file [] [] name t handed is = (is, tt)
handed_push tells file [] (x ∷ ts) name t handed is = absurd handed
handed_push tells file (n ∷ names) [] name t handed is = absurd handed
handed_push tells file (n ∷ names) (x ∷ ts) name t handed is = (handed.0, handed_push tells file names ts name t handed.1 is)

-- there is a trace for each name
pub as_many : (tells : Bool) (file : List ℕ → Option (List ℕ)) (names : List (List ℕ)) (ts : List Trace) → AreHanded tells file names ts → length ts ≡ length names
as_many tells file [] [] handed = refl
as_many tells file [] (t ∷ ts) handed = absurd handed
as_many tells file (name ∷ names) [] handed = absurd handed
as_many tells file (name ∷ names) (t ∷ ts) handed = ap (λ (n : ℕ). suc n) (as_many tells file names ts handed.1)

-- ---- so far

-- the files of these names were loaded, and these are their traces
pub record AreSoFar {F : Type 0} (g : Ghosts F) (listed : List RosterEntry) (old now : F) (names : List (List ℕ)) (ts : List Trace) : Type 0 where
  pub loads : g.loads now ≡ g.loads old ++ names
  pub stores : g.stores now ≡ g.stores old
  pub files : g.file now ≡ g.file old
  pub tells : g.tells now ≡ g.tells old
  pub calm : g.faults now ≡ g.faults old
  pub handed : AreHanded (g.tells old) (g.file old) names ts
  pub audited : AreForAudit listed ts

-- and with one more
pub one_more : {F : Type 0} (g : Ghosts F) (listed : List RosterEntry) (old mid now : F) (names : List (List ℕ)) (ts : List Trace) (name : List ℕ) (t : Trace)
    → AreSoFar g listed old mid names ts → IsNextTrace listed ts t → (IsTrue (g.tells mid) → g.file mid name ≡ Some (text_of_trace t))
    → g.loads now ≡ g.loads mid ++ name ∷ [] → g.stores now ≡ g.stores mid → g.file now ≡ g.file mid → g.tells now ≡ g.tells mid → g.faults now ≡ g.faults mid
    → AreSoFar g listed old now (names ++ name ∷ []) (ts ++ t ∷ [])
one_more g listed old mid now names ts name t s next is loads stores files tells calm = record {
  loads = loads ∙ ap (λ (xs : List (List ℕ)). xs ++ name ∷ []) s.loads ∙ append_assoc (g.loads old) names (name ∷ []);
  stores = stores ∙ s.stores;
  files = files ∙ s.files;
  tells = tells ∙ s.tells;
  calm = calm ∙ s.calm;
  handed = handed_push (g.tells old) (g.file old) names ts name t s.handed (λ told. ap (λ (f : List ℕ → Option (List ℕ)). f name) (sym s.files) ∙ is (subst IsTrue (sym s.tells) told));
  audited = audit_push listed ts t s.audited next;
}

-- the next file is refused
pub refused_at : {F : Type 0} (g : Ghosts F) (listed : List RosterEntry) (old mid now : F) (names : List (List ℕ)) (place : ℕ) (ts : List Trace) (name : List ℕ) (why : TraceRefusal)
    → place < length names → name ≡ get_or names place name → AreSoFar g listed old mid (take place names) ts
    → IsRefusedFile (g.tells mid) (g.file mid) (g.faults mid < g.faults now) listed ts name why → IsCalmAt (g.faults now ≡ g.faults mid) why → g.loads now ≡ g.loads mid ++ name ∷ []
    → HasLoaded (loads g old now) (take (place + 1) names) × (IsRefusedAt (g.tells old) (g.file old) (g.faults old < g.faults now) listed names place why × IsCalmAt (g.faults now ≡ g.faults old) why)
refused_at g listed old mid now names place ts name why within is s refused calm loaded = (
  loaded ∙ ap (λ (xs : List (List ℕ)). xs ++ name ∷ []) s.loads ∙ append_assoc (g.loads old) (take place names) (name ∷ []) ∙ ap (λ (xs : List (List ℕ)). g.loads old ++ xs) (sym (take_next names place name within is)),
  (
    record {
      before = ts;
      handed = s.handed;
      audited = s.audited;
      name = name;
      at = slice_get-get_or names place name within ∙ ap (λ (x : List ℕ). Some x) (sym is);
      refused = rw (s.tells, s.files, s.calm) at refused;
    },
    rw s.calm at calm,
  ),
)
