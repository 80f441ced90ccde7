-- What is found in a world, from its three parts that are open, and traces in the order of their nodes.
use Rattle.std.proofs.Common.{◌≡◌, ℕ, ◌≤◌, ltb, Bool, true, false, not, cond, List, [], ◌∷◌, length, map, Option, Some, None, refl, sym, ap, subst, ◌∙◌, arith}
use Rattle.std.specs.Prelude.{option_map, find, position, unwrap_or}
use Rattle.std.specs.Borrow.{Bor}
use Rattle.std.specs.Int.{w32}
use Rattle.std.specs.List.{AllByRecursion, flat_map}
use Rattle.std.proofs.lemmas.List.{length-map}
use Rattle.std.proofs.lemmas.Simd.{map-map}
use Rattle.depot_base.proofs.Numbers.{number_within}
use Rattle.depot_base.specs.declared.key.RosterEntry.{RosterEntry}
use Rattle.depot_model.specs.worlds.Audit.{Finding, yes_found, unlawful, answer_found, circle_found, unordered_found, unseen_found, wrong_found, split_found, named_found, reads_of, operations, observed, op_of, circle, unordered, unseen, is_exact, wrong_at, wrong, split_finding, names_one_of, named_node, finding_in}
use Rattle.depot_model.specs.worlds.Causality.{Operation, write, read_at}
use Rattle.depot_model.specs.lists.Items.{AreDistinct}
use Rattle.depot_model.specs.lists.Lists.{first}
use Rattle.depot_model.specs.texts.Roster.{Verifies, has_node}
use Rattle.depot_model.specs.worlds.Traces.{Trace, HasRightReads, AreNodesOf, AreTraced, IsFindingOf, put_by_node, by_node, IsWorldOf}
use Rattle.depot_model.specs.worlds.World.{Correct, World, IsWorld}
use Rattle.depot_model.proofs.lists.FirstLaws.{Shows, shows_when, shows_map, shows_first}
use Rattle.depot_model.proofs.lists.Members.{all_at, from_map}
use Rattle.depot_laws.proofs.orders.Branches.{none_split}
use Rattle.depot_laws.proofs.of_worlds.InLine.{none_unordered, none_unseen}
use Rattle.depot_laws.proofs.of_audits.TracedWorlds.{traced_is_world}
use Rattle.depot_traces.specs.SeenTraces.{read_of, trace_of}
use Rattle.depot_traces.specs.TraceTexts.{trace_text, IsTrace}
use Rattle.depot_traces.specs.declared.trace.Trace as made
use Rattle.depot_audit.proofs.TracedNodes.{makes_world}

-- ---- the parts of a finding

abbrev in_turn : Option Finding → Option Finding → Option Finding → Option Finding → Option Finding → Option Finding → Finding
in_turn a b c d e f = unwrap_or (first (a ∷ b ∷ c ∷ d ∷ e ∷ f ∷ [])) yes_found

-- the first of these two, else the third, else yes
abbrev pub of_three : Option Finding → Option Finding → Finding
of_three o f = unwrap_or (first (o ∷ f ∷ [])) yes_found

three_parts : (a b c d e f : Option Finding) → b ≡ None → c ≡ None → e ≡ None → in_turn a b c d e f ≡ of_three (first (a ∷ d ∷ [])) f
three_parts (Some x) b c d e f q r t = refl
three_parts None (Some x) c d e f q r t = absurd cc
three_parts None None (Some x) d e f q r t = absurd cc
three_parts None None None (Some x) e f q r t = refl
three_parts None None None None (Some x) f q r t = absurd cc
three_parts None None None None None (Some x) q r t = refl
three_parts None None None None None None q r t = refl

-- what is found where these are the first of the two parts and of the third
pub found_is : (W : World) → IsWorld W → finding_in W ≡ of_three (first (circle W ∷ wrong W ∷ [])) (named_node W)
unfolding finding_in
found_is W world = three_parts (circle W) (unordered W) (unseen W) (wrong W) (split_finding W) (named_node W) (none_unordered W world) (none_unseen W world) (none_split W world)

-- ---- findings of a world

-- it isn't of records or of a read's answer
abbrev pub IsOfWorld : Finding → Type 0
IsOfWorld (unlawful n place fault) = ⊥
IsOfWorld (answer_found n place) = ⊥
IsOfWorld f = Unit {0}

mapped : {X : Type 0} (g : X → Finding) (o : Option X) → ((x : X) → IsOfWorld (g x)) → Shows IsOfWorld (option_map g o)
mapped g None each f e = absurd cc
mapped g (Some x) each f e = let same : g x ≡ f = cc in subst IsOfWorld same (each x)

of_circle : (W : World) → Shows IsOfWorld (circle W)
unfolding circle
of_circle W = mapped (λ o. circle_found (op_of W o)) (find (λ o. observed W o o) (operations W)) (λ o. tt)

of_read : (W : World) (o : Operation) → Shows IsOfWorld (wrong_at W o)
of_read W (write u) = λ f e. absurd cc
of_read W (read_at c place r) = shows_when IsOfWorld (not (is_exact W c place r)) (wrong_found c.node place) tt

of_wrong : (W : World) → Shows IsOfWorld (wrong W)
unfolding wrong
of_wrong W = shows_first IsOfWorld (map (wrong_at W) (flat_map reads_of W.nodes)) (shows_map IsOfWorld (wrong_at W) (flat_map reads_of W.nodes) (of_read W))

of_named : (W : World) → Shows IsOfWorld (named_node W)
unfolding named_node
of_named W =
    let row : Correct → Option Finding = λ c. option_map (λ place. named_found c.node place) (position (names_one_of W) c.journal) in
    shows_first IsOfWorld (map row W.nodes) (shows_map IsOfWorld row W.nodes (λ c. mapped (λ place. named_found c.node place) (position (names_one_of W) c.journal) (λ place. tt)))

of_parts : (a d f : Option Finding) → Shows IsOfWorld a → Shows IsOfWorld d → Shows IsOfWorld f → IsOfWorld (of_three (first (a ∷ d ∷ [])) f)
of_parts (Some x) d f p q r = p x refl
of_parts None (Some x) f p q r = q x refl
of_parts None None (Some x) p q r = r x refl
of_parts None None None p q r = tt

of_world : (W : World) → IsWorld W → IsOfWorld (finding_in W)
of_world W world = subst IsOfWorld (sym (found_is W world)) (of_parts (circle W) (wrong W) (named_node W) (of_circle W) (of_wrong W) (of_named W))

module _ (verifies : Verifies) (listed : List RosterEntry) (traces : List Trace) (W : World) (traced : AreTraced verifies listed traces W) where
  by_world : (f : Finding) → IsOfWorld f → finding_in W ≡ f → IsFindingOf verifies listed traces f
  by_world (unlawful n place fault) of is = absurd of
  by_world (answer_found n place) of is = absurd of
  by_world yes_found of is = (W, (traced, is))
  by_world (circle_found o) of is = (W, (traced, is))
  by_world (unordered_found a b) of is = (W, (traced, is))
  by_world (unseen_found a b) of is = (W, (traced, is))
  by_world (wrong_found n place) of is = (W, (traced, is))
  by_world (split_found n place) of is = (W, (traced, is))
  by_world (named_found n place) of is = (W, (traced, is))

  -- what is found in the world that traces make is their finding
  pub world_finding : IsWorld W → (f : Finding) → f ≡ finding_in W → IsFindingOf verifies listed traces f
  world_finding world f is = by_world f (subst IsOfWorld (sym is) (of_world W world)) (sym is)

-- ---- traces in the order of their nodes

all_put : (P : Trace → Type 0) (t : Trace) (ts : List Trace) → P t → AllByRecursion P ts → AllByRecursion P (put_by_node t ts)
unfolding put_by_node
all_put P t [] one all = (one, tt)
all_put P t (x ∷ ts) one all = choice (ltb x.node t.node) (all_put P t ts one all.1) where
  choice : (b : Bool) → AllByRecursion P (put_by_node t ts) → AllByRecursion P (cond b (x ∷ put_by_node t ts) (t ∷ x ∷ ts))
  choice true rest = (all.0, rest)
  choice false rest = (one, all)

pub all_by_node : (P : Trace → Type 0) (ts : List Trace) → AllByRecursion P ts → AllByRecursion P (by_node ts)
unfolding by_node
all_by_node P [] all = tt
all_by_node P (t ∷ ts) all = all_put P t (by_node ts) all.0 (all_by_node P ts all.1)

-- ---- traces that have a text

module _ (t : made.Trace) where
  few_reads : IsTrace t → length t.reads ≤ 1000000
  unfolding trace_text
  few_reads h = (number_within w32 0 1000000 (length t.reads) h.1.1.1.1.1.0).1

  some_texts : IsTrace t → t.texts ≡ [] → ⊥
  unfolding trace_text
  some_texts h none = let r = number_within w32 1 131072 (length t.texts) h.1.1.1.0 in omega (arith, r.0, ap length none)

to_map : {X Y : Type 0} (P : Y → Type 0) (f : X → Y) (xs : List X) → AllByRecursion (λ x. P (f x)) xs → AllByRecursion P (map f xs)
to_map P f [] all = tt
to_map P f (x ∷ xs) all = (all.0, to_map P f xs all.1)

of_map : {X Y : Type 0} (P : Y → Type 0) (f : X → Y) (xs : List X) → AllByRecursion P (map f xs) → AllByRecursion (λ x. P (f x)) xs
of_map P f [] all = tt
of_map P f (x ∷ xs) all = (all.0, of_map P f xs all.1)

weaker : {X : Type 0} (P Q : X → Type 0) → ((x : X) → P x → Q x) → (xs : List X) → AllByRecursion P xs → AllByRecursion Q xs
weaker P Q more [] all = tt
weaker P Q more (x ∷ xs) all = (more x all.0, weaker P Q more xs all.1)

-- sorted traces, as they are lent
pub sorted_too : (list items : List (Bor made.Trace)) (ts us : List made.Trace) → list ≡ items → map (λ t. trace_of t.now) items ≡ by_node (map trace_of us) → us ≡ ts → map (λ t. trace_of t.now) list ≡ by_node (map trace_of ts)
sorted_too list items ts us same is all = ap (map (λ (t : Bor made.Trace). trace_of t.now)) same ∙ is ∙ ap (λ (xs : List made.Trace). by_node (map trace_of xs)) all

-- sorted ones have few reads, too
pub few_sorted : (ts : List made.Trace) (list : List (Bor made.Trace)) → map (λ t. trace_of t.now) list ≡ by_node (map trace_of ts) → AllByRecursion IsTrace ts → AllByRecursion (λ t. length t.now.reads ≤ 1000000) list
few_sorted ts list sorted fit =
    let few : Trace → Type 0 = λ t. length t.reads ≤ 1000000 in
    let each = weaker IsTrace (λ t. few (trace_of t)) (λ t h. omega (arith, few_reads t h, length-map t.reads read_of)) ts fit in
    let all = all_by_node few (map trace_of ts) (to_map few trace_of ts each) in
    weaker (λ (t : Bor made.Trace). few (trace_of t.now)) (λ t. length t.now.reads ≤ 1000000) (λ t h. omega (arith, h, length-map t.now.reads read_of)) list
    (of_map few (λ (t : Bor made.Trace). trace_of t.now) list (subst (λ (xs : List Trace). AllByRecursion few xs) (sym sorted) all))

-- ---- the world of traces

pub record IsTracedBy (verifies : Verifies) (listed : List RosterEntry) (ts : List made.Trace) (list : List (Bor made.Trace)) : Type 0 where
  pub world : World
  pub traced : AreTraced verifies listed (map trace_of ts) world
  pub of : IsWorldOf (map (λ t. trace_of t.now) list) world

pub world_of_turn : (verifies : Verifies) (listed : List RosterEntry) (ts : List made.Trace) (list : List (Bor made.Trace)) → map (λ t. trace_of t.now) list ≡ by_node (map trace_of ts)
    → AreDistinct (map (λ t. t.node) ts) → AllByRecursion (λ t. has_node listed t.node ≡ true) ts → AllByRecursion IsTrace ts → AllByRecursion (HasRightReads verifies listed) (map (λ t. trace_of t.now) list) → IsTracedBy verifies listed ts list
world_of_turn verifies listed ts list sorted apart members fit right =
    let w = makes_world verifies listed (map trace_of ts) (subst (λ (xs : List Trace). AllByRecursion (HasRightReads verifies listed) xs) sorted right) in
    let world = traced_is_world verifies listed (map trace_of ts) w.0 (subst (λ (ns : List ℕ). AreDistinct ns) (sym (map-map (λ (t : Trace). t.node) trace_of ts)) apart)
    (λ t on. let s = from_map trace_of t ts on in subst (λ (x : Trace). has_node listed x.node ≡ true) s.1.1 (all_at (λ (x : made.Trace). has_node listed x.node ≡ true) ts s.0 members s.1.0))
    (λ t on none. let s = from_map trace_of t ts on in some_texts s.0 (all_at IsTrace ts s.0 fit s.1.0) (ap (λ (x : Trace). x.texts) s.1.1 ∙ none))
    w.1 in
    let nodes : AreNodesOf w.0.verifies w.0.listed (by_node (map trace_of ts)) w.0.nodes = subst (λ (V : World). AreNodesOf V.verifies V.listed (by_node (map trace_of ts)) V.nodes) (sym w.1.is) w.1.are in
    record {
      world = w.0;
      traced = w.1;
      of = record { nodes = subst (λ (xs : List Trace). AreNodesOf w.0.verifies w.0.listed xs w.0.nodes) (sym sorted) nodes; is_world = world };
    }

-- ---- what is found in it

pub only_second : (a d : Option Finding) → a ≡ None → first (a ∷ d ∷ []) ≡ d
only_second (Some x) d none = absurd cc
only_second None None none = refl
only_second None (Some y) none = refl

pub one_broken : (W : World) → IsWorld W → (f : Finding) → Some f ≡ first (circle W ∷ wrong W ∷ []) → f ≡ finding_in W
one_broken W world f is = sym (found_is W world ∙ ap (λ (o : Option Finding). of_three o (named_node W)) (sym is))

pub one_named : (W : World) → IsWorld W → (f : Finding) → None ≡ first (circle W ∷ wrong W ∷ []) → Some f ≡ named_node W → f ≡ finding_in W
one_named W world f none is = sym (found_is W world ∙ ap (λ (o : Option Finding). of_three o (named_node W)) (sym none) ∙ ap (of_three None) (sym is))

pub none_found : (W : World) → IsWorld W → None ≡ first (circle W ∷ wrong W ∷ []) → None ≡ named_node W → yes_found ≡ finding_in W
none_found W world none is = sym (found_is W world ∙ ap (λ (o : Option Finding). of_three o (named_node W)) (sym none) ∙ ap (of_three None) (sym is))
