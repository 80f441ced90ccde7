-- An audit finds in the traces of a run's nodes what is found in the world of these nodes.
use Rattle.std.proofs.Common.{◌≡◌, ℕ, ◌≤◌, Bool, true, false, not, ltb, cond, List, [], ◌∷◌, map, take, drop, Option, Some, None, option_map, refl, sym, ap, subst, ◌∙◌, inl, inr, arith, take-append-drop}
use Rattle.std.specs.Prelude.{find, position, unwrap_or}
use Rattle.std.specs.List.{flat_map}
use Rattle.depot_base.specs.declared.key.RosterEntry.{RosterEntry}
use Rattle.depot_base.specs.declared.record.Record.{Record}
use Rattle.depot_base.specs.declared.update.Update.{Update}
use Rattle.depot_model.specs.worlds.Audit.{Op, Finding, yes_found, unlawful, answer_found, circle_found, unordered_found, unseen_found, wrong_found, split_found, named_found, observed, operations, op_of, reads_of, pair_of, circle, is_unordered, unordered, is_unseen_by, unseen, is_exact, wrong_at, wrong, first_break, split_finding, names_one_of, named_node, finding_in}
use Rattle.depot_model.specs.worlds.Causality.{Operation, write, read_at}
use Rattle.depot_model.specs.checks.Checks.{Setting}
use Rattle.depot_model.specs.lists.Items.{AreDistinct}
use Rattle.depot_model.specs.journals.Journal.{accepted, convicted, seen_under}
use Rattle.depot_model.specs.lists.Insertion.{insert_by, order_by}
use Rattle.depot_model.specs.updates.LatestList.{latest_in}
use Rattle.depot_model.specs.journals.Lawful.{IsLawful}
use Rattle.depot_model.specs.lists.Lists.{IsIn, first}
use Rattle.depot_model.specs.updates.Order.{Precedes}
use Rattle.depot_model.specs.texts.Roster.{Verifies, has_node}
use Rattle.depot_model.specs.journals.ShownWrites.{shown_of}
use Rattle.depot_model.specs.worlds.Traces.{ReadTrace, Trace, answered, AreRightReads, traced_node, put_by_node, by_node, AreNodesOf, AreTraced, IsFindingOf}
use Rattle.depot_model.specs.worlds.World.{Shown, Read, Correct, World, setting_of, IsRead, NeverFall, IsCorrect, IsWorld}
use Rattle.depot_model.proofs.lists.FirstLaws.{Shows, shows_when, shows_map, shows_first}
use Rattle.depot_model.proofs.lists.InsertionLaws.{from_order}
use Rattle.depot_model.proofs.of_updates.LatestLaws.{one_latest_list}
use Rattle.depot_model.proofs.of_updates.LatestWrites.{latest_are_listed}
use Rattle.depot_model.proofs.lists.Members.{all_at, from_map}
use Rattle.depot_laws.proofs.records.Causes.{lawful_is_causal}
use Rattle.depot_laws.proofs.of_audits.OneFinding.{one_finding}
use Rattle.depot_laws.proofs.lists.Splits.{lawful_front}
use Rattle.depot_world.specs.Audits.{traced_read, trace_by, comes_before, traces_by, audited}
use Rattle.depot_world.specs.Run.{Run, Host, world_by}
use Rattle.depot_world.specs.Setups.{Setup}

-- ---- reads

-- an answer is reported by its updates, where each is shown as the records show it
told_again : (J : List Record) (key : List ℕ) (ss : List Shown) → ((s : Shown) → IsIn s ss → s.seen ≡ seen_under J key s.update) → map (λ (u : Update). record { update = u; seen = seen_under J key u }) (map (λ (s : Shown). s.update) ss) ≡ ss
told_again J key [] told = refl
told_again J key (s ∷ ss) told =
    let again : List Shown = map (λ (u : Update). record { update = u; seen = seen_under J key u }) (map (λ (x : Shown). x.update) ss) in
    let head : record { update = s.update; seen = seen_under J key s.update } ≡ s = ap (λ seen. record { update = s.update; seen = seen }) (sym (told s (inl refl))) in
    ap (λ (x : Shown). x ∷ again) head ∙ ap (λ (xs : List Shown). s ∷ xs) (told_again J key ss (λ x on. told x (inr on)))

-- a read of a lawful journal shows what its records show
answer_is : (here : Setting) (J : List Record) (r : Read) → IsLawful here J → IsRead J r → r.answer ≡ shown_of (take r.at J) r.key
answer_is here J r lawful is =
    let K = take r.at J in
    let front = lawful_front here K (drop r.at J) (subst (λ (x : List Record). IsLawful here x) (sym (take-append-drop r.at J)) lawful) in
    let us = map (λ (s : Shown). s.update) r.answer in
    let one = one_latest_list r.key (λ u. IsIn u (accepted K)) (Precedes (accepted K)) us (latest_in r.key (accepted K)) is.latest (latest_are_listed r.key (accepted K) (lawful_is_causal here K front)) in
    sym (told_again K r.key r.answer is.values) ∙ ap (map (λ (u : Update). record { update = u; seen = seen_under K r.key u })) one

-- so they are right as a trace records them
right_reads : (here : Setting) (J : List Record) (last : ℕ) (rs : List Read) → IsLawful here J → ((r : Read) → IsIn r rs → IsRead J r) → ((r : Read) → IsIn r rs → last ≤ r.at) → NeverFall rs → AreRightReads J last (map traced_read rs)
right_reads here J last [] lawful are low falls = tt
right_reads here J last (r ∷ rs) lawful are low falls =
    let is = are r (inl refl) in (
      record { begun = is.begun; later = low r (inl refl); within = is.within; answer = ap (map answered) (answer_is here J r lawful is) },
      right_reads here J r.at rs lawful (λ x on. are x (inr on)) (λ x on. all_at (λ (y : Read). r.at ≤ y.at) rs x falls.0 on) falls.1,
    )

-- ---- nodes

-- what a trace of a node makes of its reads
reads_again : (here : Setting) (J : List Record) (rs : List Read) → IsLawful here J → ((r : Read) → IsIn r rs → IsRead J r) → rs ≡ map (λ (r : ReadTrace). record { at = r.length; key = r.key; answer = shown_of (take r.length J) r.key }) (map traced_read rs)
reads_again here J [] lawful are = refl
reads_again here J (r ∷ rs) lawful are =
    let head : r ≡ record { at = r.at; key = r.key; answer = shown_of (take r.at J) r.key } = ap (λ (answer : List Shown). record { at = r.at; key = r.key; answer = answer }) (answer_is here J r lawful (are r (inl refl))) in
    ap (λ (x : Read). x ∷ rs) head ∙ ap (λ (xs : List Read). record { at = r.at; key = r.key; answer = shown_of (take r.at J) r.key } ∷ xs) (reads_again here J rs lawful (λ x on. are x (inr on)))

node_again : (here : Setting) (c : Correct) → IsLawful here c.journal → ((r : Read) → IsIn r c.reads → IsRead c.journal r) → c ≡ traced_node (trace_by c) c.journal
node_again here c lawful are = ap (λ (rs : List Read). record { node = c.node; journal = c.journal; reads = rs }) (reads_again here c.journal c.reads lawful are)

nodes_are : (W : World) (cs : List Correct) → ((c : Correct) → IsIn c cs → IsCorrect W c) → AreNodesOf W.verifies W.listed (map trace_by cs) cs
nodes_are W [] correct = tt
nodes_are W (c ∷ cs) correct =
    let is = correct c (inl refl) in
    let here = setting_of W c in
    ((c.journal, (record { lawful = is.lawful; are = refl }, (right_reads here c.journal 0 c.reads is.lawful is.reads (λ r on. omega arith) is.in_order, node_again here c is.lawful is.reads))), nodes_are W cs (λ d on. correct d (inr on)))

-- ---- the order of nodes

-- traces are put in order as their nodes are
put_alike : (c : Correct) (ds : List Correct) → put_by_node (trace_by c) (map trace_by ds) ≡ map trace_by (insert_by comes_before c ds)
unfolding put_by_node insert_by
put_alike c [] = refl
put_alike c (d ∷ ds) = choice (ltb d.node c.node) (put_alike c ds) where
  choice : (b : Bool) → put_by_node (trace_by c) (map trace_by ds) ≡ map trace_by (insert_by comes_before c ds)
      → cond b (trace_by d ∷ put_by_node (trace_by c) (map trace_by ds)) (trace_by c ∷ trace_by d ∷ map trace_by ds) ≡ map trace_by (cond (not b) (c ∷ d ∷ ds) (d ∷ insert_by comes_before c ds))
  choice true rest = ap (λ (ts : List Trace). trace_by d ∷ ts) rest
  choice false rest = refl

order_alike : (cs : List Correct) → by_node (map trace_by cs) ≡ map trace_by (order_by comes_before cs)
unfolding by_node order_by
order_alike [] = refl
order_alike (c ∷ cs) = ap (put_by_node (trace_by c)) (order_alike cs) ∙ put_alike c (order_by comes_before cs)

-- the world that the traces make
traced_world : (W : World) → ((c : Correct) → IsIn c W.nodes → IsCorrect W c)
    → AreTraced W.verifies W.listed (map trace_by W.nodes) (record { verifies = W.verifies; listed = W.listed; nodes = order_by comes_before W.nodes; judged = [] })
traced_world W correct = record {
  nodes = order_by comes_before W.nodes;
  are = subst (λ (ts : List Trace). AreNodesOf W.verifies W.listed ts (order_by comes_before W.nodes)) (sym (order_alike W.nodes)) (nodes_are W (order_by comes_before W.nodes) (λ c on. correct c (from_order comes_before c W.nodes on)));
  is = refl;
}

-- ---- what is found in a world

-- it is found in a world, and not in records or in a read
abbrev IsOfWorld : Finding → Type 0
IsOfWorld (unlawful n place fault) = ⊥
IsOfWorld (answer_found n place) = ⊥
IsOfWorld f = Unit {0}

shows_made : {X : Type 0} (f : X → Finding) (o : Option X) → ((x : X) → IsOfWorld (f x)) → Shows IsOfWorld (option_map f o)
shows_made f None holds y e = absurd cc
shows_made f (Some x) holds y e = let same : f x ≡ y = cc in subst IsOfWorld same (holds x)

of_circle : (W : World) → Shows IsOfWorld (circle W)
unfolding circle
of_circle W = shows_made (λ (o : Operation). circle_found (op_of W o)) (find (λ o. observed W o o) (operations W)) (λ o. tt)

of_pair : (W : World) (make : Op → Op → Finding) (test : Operation → Operation → Bool) → ((a b : Op) → IsOfWorld (make a b)) → Shows IsOfWorld (pair_of W make test)
unfolding pair_of
of_pair W make test holds = shows_first IsOfWorld (map (λ a. option_map (λ b. make (op_of W a) (op_of W b)) (find (test a) (operations W))) (operations W))
    (shows_map IsOfWorld (λ (a : Operation). option_map (λ b. make (op_of W a) (op_of W b)) (find (test a) (operations W))) (operations W) (λ a. shows_made (λ (b : Operation). make (op_of W a) (op_of W b)) (find (test a) (operations W)) (λ b. holds (op_of W a) (op_of W b))))

of_unordered : (W : World) → Shows IsOfWorld (unordered W)
unfolding unordered
of_unordered W = shows_first IsOfWorld (map (λ c. pair_of W (λ a b. unordered_found a b) (is_unordered W c)) W.nodes)
    (shows_map IsOfWorld (λ (c : Correct). pair_of W (λ a b. unordered_found a b) (is_unordered W c)) W.nodes (λ c. of_pair W (λ a b. unordered_found a b) (is_unordered W c) (λ a b. tt)))

of_unseen : (W : World) → Shows IsOfWorld (unseen W)
unfolding unseen
of_unseen W = shows_first IsOfWorld (map (λ c. pair_of W (λ a b. unseen_found a b) (is_unseen_by W c)) W.nodes)
    (shows_map IsOfWorld (λ (c : Correct). pair_of W (λ a b. unseen_found a b) (is_unseen_by W c)) W.nodes (λ c. of_pair W (λ a b. unseen_found a b) (is_unseen_by W c) (λ a b. tt)))

of_wrong : (W : World) → Shows IsOfWorld (wrong W)
unfolding wrong
of_wrong W = shows_first IsOfWorld (map (wrong_at W) (flat_map reads_of W.nodes)) (shows_map IsOfWorld (wrong_at W) (flat_map reads_of W.nodes) of_operation) where
  of_operation : (o : Operation) → Shows IsOfWorld (wrong_at W o)
  of_operation (write u) = λ y e. absurd cc
  of_operation (read_at c place r) = shows_when IsOfWorld (not (is_exact W c place r)) (wrong_found c.node place) tt

of_split : (W : World) → Shows IsOfWorld (split_finding W)
unfolding split_finding
of_split W = shows_first IsOfWorld (map (λ c. option_map (λ place. split_found c.node place) (first_break (convicted c.journal) [] 0 c.journal)) W.nodes)
    (shows_map IsOfWorld (λ (c : Correct). option_map (λ place. split_found c.node place) (first_break (convicted c.journal) [] 0 c.journal)) W.nodes (λ c. shows_made (λ (place : ℕ). split_found c.node place) (first_break (convicted c.journal) [] 0 c.journal) (λ place. tt)))

of_named : (W : World) → Shows IsOfWorld (named_node W)
unfolding named_node
of_named W = shows_first IsOfWorld (map (λ c. option_map (λ place. named_found c.node place) (position (names_one_of W) c.journal)) W.nodes)
    (shows_map IsOfWorld (λ (c : Correct). option_map (λ place. named_found c.node place) (position (names_one_of W) c.journal)) W.nodes (λ c. shows_made (λ (place : ℕ). named_found c.node place) (position (names_one_of W) c.journal) (λ place. tt)))

found_or_yes : (o : Option Finding) → Shows IsOfWorld o → IsOfWorld (unwrap_or o yes_found)
found_or_yes None holds = tt
found_or_yes (Some f) holds = holds f refl

finding_is_of_world : (W : World) → IsOfWorld (finding_in W)
unfolding finding_in
finding_is_of_world W =
    let rows = circle W ∷ unordered W ∷ unseen W ∷ wrong W ∷ split_finding W ∷ named_node W ∷ [] in
    found_or_yes (first rows) (shows_first IsOfWorld rows (of_circle W, (of_unordered W, (of_unseen W, (of_wrong W, (of_split W, (of_named W, tt)))))))

-- what is found in the world of traces is their finding
found_in_world : (verifies : Verifies) (listed : List RosterEntry) (traces : List Trace) (W : World) (f : Finding) → IsOfWorld f → AreTraced verifies listed traces W → finding_in W ≡ f → IsFindingOf verifies listed traces f
found_in_world verifies listed traces W (unlawful n place fault) of_world are is = absurd of_world
found_in_world verifies listed traces W (answer_found n place) of_world are is = absurd of_world
found_in_world verifies listed traces W yes_found of_world are is = (W, (are, is))
found_in_world verifies listed traces W (circle_found o) of_world are is = (W, (are, is))
found_in_world verifies listed traces W (unordered_found a b) of_world are is = (W, (are, is))
found_in_world verifies listed traces W (unseen_found a b) of_world are is = (W, (are, is))
found_in_world verifies listed traces W (wrong_found n place) of_world are is = (W, (are, is))
found_in_world verifies listed traces W (split_found n place) of_world are is = (W, (are, is))
found_in_world verifies listed traces W (named_found n place) of_world are is = (W, (are, is))

-- ---- the audit of a run

pub run_is_audited : (setup : Setup) (run : Run) (found : Finding) → IsWorld (world_by setup run) → IsFindingOf setup.suite.verifies setup.listed (traces_by run) found → found ≡ finding_in (audited setup run)
unfolding world_by audited
run_is_audited setup run found world is =
    let W = world_by setup run in
    let V = audited setup run in
    let are = traced_world W world.correct in
    one_finding setup.suite.verifies setup.listed (traces_by run) found (finding_in V) is (found_in_world setup.suite.verifies setup.listed (traces_by run) V (finding_in V) (finding_is_of_world V) are refl)

-- ---- what an audit asks of traces

nodes_of_traces : (cs : List Correct) → map (λ (t : Trace). t.node) (map trace_by cs) ≡ map (λ (c : Correct). c.node) cs
nodes_of_traces [] = refl
nodes_of_traces (c ∷ cs) = ap (λ (ns : List ℕ). c.node ∷ ns) (nodes_of_traces cs)

-- they are of distinct nodes
pub traces_are_apart : (setup : Setup) (run : Run) → IsWorld (world_by setup run) → AreDistinct (map (λ (t : Trace). t.node) (traces_by run))
unfolding world_by
traces_are_apart setup run world = subst AreDistinct (sym (nodes_of_traces (map (λ (s : Host). s.correct) run.hosts))) world.distinct

-- which the roster has
pub traces_are_listed : (setup : Setup) (run : Run) → IsWorld (world_by setup run) → (t : Trace) → IsIn t (traces_by run) → has_node setup.listed t.node ≡ true
unfolding world_by
traces_are_listed setup run world t on =
    let c = from_map trace_by t (map (λ (s : Host). s.correct) run.hosts) on in
    subst (λ (x : Trace). has_node setup.listed x.node ≡ true) c.1.1 (world.correct c.0 c.1.0).member
