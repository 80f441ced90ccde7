-- A run's hosts, and the keys that their nodes read: what an event of one node makes of them.
use Rattle.std.proofs.Common.{◌≡◌, ℕ, ◌-◌, ◌≤◌, Bool, true, false, eqb, leb, cond, List, [], ◌∷◌, ◌++◌, map, Option, Some, None, refl, sym, ap, subst, ◌∙◌, inl, inr, ◌⊎◌, codes, arith}
use Rattle.std.proofs.lemmas.Bool.{eqb-true, eq-eqb, leb-true, leb-false, cond-false}
use Rattle.std.proofs.lemmas.List.{append-nil}
use Rattle.depot_model.specs.lists.Lists.{IsIn}
use Rattle.depot_model.specs.worlds.World.{Read}
use Rattle.depot_world.specs.Run.{PendingStop, Host, Labelled, Run, host_in, put_host, with_label, with_host}
use Rattle.depot_requests.specs.Effects.{Effect}
use Rattle.depot_world.specs.ScheduleStops.{EventResult, result_by, stopped_with, result_pending, journal_left, event_result}
use Rattle.depot_world.specs.Transcript.{Done, done_by_node, done_at_node, pending_at}
use Rattle.depot_world.proofs.of_worlds.GoodRuns.{numbers_of, found_is, from_put_host, same_numbers}

-- the keys of the reads of a node
abbrev pub keys_of : Host → List (List ℕ)
keys_of s = map (λ (r : Read). r.key) s.correct.reads

-- a stop that waits on the node's disk is still to come
abbrev pub Waits : Host → Type 0
Waits s = (a : PendingStop) → s.pending ≡ Some a → 1 ≤ a.call

-- the node of this number has read these keys
pub record HasRead (ss : List Host) (node : ℕ) (keys : List (List ℕ)) : Type 0 where
  pub host : Host
  pub at : host_in ss node ≡ Some host
  pub are : keys_of host ≡ keys

-- ---- one host in place of another

pub found_put : (s t : Host) (ss : List Host) → host_in ss s.correct.node ≡ Some t → host_in (put_host s ss) s.correct.node ≡ Some s
unfolding host_in put_host
found_put s t [] e = absurd cc
found_put s t (x ∷ ss) e = choice (eqb x.correct.node s.correct.node) refl (found_put s t ss) e where
  choice : (b : Bool) → eqb x.correct.node s.correct.node ≡ b → (host_in ss s.correct.node ≡ Some t → host_in (put_host s ss) s.correct.node ≡ Some s) → cond b (Some x) (host_in ss s.correct.node) ≡ Some t
      → host_in (cond b (s ∷ ss) (x ∷ put_host s ss)) s.correct.node ≡ Some s
  choice true same rest is = rw (eq-eqb s.correct.node s.correct.node refl) refl
  choice false other rest is = cond-false (eqb x.correct.node s.correct.node) (Some x) _ other ∙ rest is

pub found_beside : (s : Host) (node : ℕ) (ss : List Host) → eqb s.correct.node node ≡ false → host_in (put_host s ss) node ≡ host_in ss node
unfolding host_in put_host
found_beside s node [] differ = refl
found_beside s node (x ∷ ss) differ = choice (eqb x.correct.node s.correct.node) refl (found_beside s node ss differ) where
  choice : (b : Bool) → eqb x.correct.node s.correct.node ≡ b → host_in (put_host s ss) node ≡ host_in ss node
      → host_in (cond b (s ∷ ss) (x ∷ put_host s ss)) node ≡ cond (eqb x.correct.node node) (Some x) (host_in ss node)
  choice true same rest =
      let x_differs : eqb x.correct.node node ≡ false = subst (λ (n : ℕ). eqb n node ≡ false) (sym (eqb-true x.correct.node s.correct.node same)) differ in
      cond-false (eqb s.correct.node node) (Some s) _ differ ∙ sym (cond-false (eqb x.correct.node node) (Some x) _ x_differs)
  choice false other rest = ap (λ (o : Option Host). cond (eqb x.correct.node node) (Some x) o) rest

-- ---- an event of a node

-- what an event leaves of a node that reads these keys in it
record Goes (s : Host) (w : EventResult) (more : List (List ℕ)) : Type 0 where
  pub node : w.host.correct.node ≡ s.correct.node
  pub keys : keys_of w.host ≡ keys_of s ++ more
  pub waits : Waits w.host

goes_by : (s : Host) (d : Effect) (more : List (List ℕ)) → Waits s → map (λ (r : Read). r.key) d.reads ≡ keys_of s ++ more → (more ≡ []) ⊎ (d.calls ≡ 0) → Goes s (event_result s d) more
unfolding event_result
goes_by s d more waits reads quiet = by_pending s.pending waits where
  by_pending : (o : Option PendingStop) → ((a : PendingStop) → o ≡ Some a → 1 ≤ a.call) → Goes s (elim o as (λ x. EventResult) [ None ↦ result_by s None d | Some a ↦ result_pending s d a ]) more
  by_pending None is = record { node = refl; keys = reads; waits = λ a e. absurd cc }
  by_pending (Some a) is = falls (leb a.call d.calls) refl where
    nothing_read : leb a.call d.calls ≡ true → more ≡ []
    nothing_read early = elim quiet [ inl none ↦ none | inr no_calls ↦ absurd (omega (arith, leb-true a.call d.calls early, no_calls, is a refl)) ]

    falls : (b : Bool) → leb a.call d.calls ≡ b → Goes s (cond b (stopped_with s (journal_left s.correct.journal d.journal a)) (result_by s (Some (record { call = a.call - d.calls; image = a.image })) d)) more
    falls true early = record { node = refl; keys = sym (append-nil (keys_of s)) ∙ ap (λ (ks : List (List ℕ)). keys_of s ++ ks) (sym (nothing_read early)); waits = λ x e. absurd cc }
    falls false late = record { node = refl; keys = reads; waits = λ x e. (let here : a.call - d.calls ≡ x.call = ap call_of e in omega (arith, here, leb-false a.call d.calls late)) } where
      call_of : Option PendingStop → ℕ
      call_of None = 0
      call_of (Some y) = y.call

-- the run after an event of one node
pub record Follows (run next : Run) (node : ℕ) (more : List (List ℕ)) : Type 0 where
  pub numbers : numbers_of next.hosts ≡ numbers_of run.hosts
  pub waits : ((s : Host) → IsIn s run.hosts → Waits s) → (s : Host) → IsIn s next.hosts → Waits s
  pub reads : (n : ℕ) (keys : List (List ℕ)) → HasRead run.hosts n keys → HasRead next.hosts n (keys ++ cond (eqb node n) more [])

abbrev pub no_keys : List (List ℕ)
no_keys = []

pub no_keys_either : (b : Bool) → no_keys ≡ cond b no_keys no_keys
no_keys_either true = refl
no_keys_either false = refl

-- nothing happened to any node
pub stays : (run next : Run) (node : ℕ) → run.hosts ≡ next.hosts → Follows run next node []
stays run next node same = record {
  numbers = ap numbers_of (sym same);
  waits = λ all s on. all s (subst (λ (ss : List Host). IsIn s ss) (sym same) on);
  reads = λ n keys has. subst (λ (ss : List Host). HasRead ss n (keys ++ cond (eqb node n) [] [])) same (record { host = has.host; at = has.at; are = has.are ∙ sym (append-nil keys) ∙ ap (λ (ks : List (List ℕ)). keys ++ ks) (no_keys_either (eqb node n)) });
}

-- a host of a node in place of the one before
placed : (run : Run) (node : ℕ) (s w : Host) (more : List (List ℕ)) → host_in run.hosts node ≡ Some s → w.correct.node ≡ s.correct.node → keys_of w ≡ keys_of s ++ more → Waits w → Follows run (with_host run w) node more
unfolding with_host
placed run node s w more found same keys waits = record {
  numbers = same_numbers w run.hosts;
  waits = λ all x on. elim (from_put_host w x run.hosts on) [ inl new ↦ subst Waits new waits | inr old ↦ all x old ];
  reads = λ n ks has. by_number n ks has (eqb node n) refl;
} where
  its_number : w.correct.node ≡ node
  its_number = same ∙ (found_is run.hosts node s found).is

  by_number : (n : ℕ) (ks : List (List ℕ)) → HasRead run.hosts n ks → (b : Bool) → eqb node n ≡ b → HasRead (put_host w run.hosts) n (ks ++ cond b more [])
  by_number n ks has true is =
      let here : node ≡ n = eqb-true node n is in
      let one : s ≡ has.host = some_is (sym found ∙ ap (λ (m : ℕ). host_in run.hosts m) here ∙ has.at) in
      record {
        host = w;
        at = subst (λ (m : ℕ). host_in (put_host w run.hosts) m ≡ Some w) (its_number ∙ here) (found_put w s run.hosts (ap (λ (m : ℕ). host_in run.hosts m) its_number ∙ found));
        are = keys ∙ ap (λ (x : Host). keys_of x ++ more) one ∙ ap (λ (k : List (List ℕ)). k ++ more) has.are;
      }
    where
      some_is : Some s ≡ Some has.host → s ≡ has.host
      some_is e = cc
  by_number n ks has false is = record {
    host = has.host;
    at = found_beside w n run.hosts (subst (λ (m : ℕ). eqb m n ≡ false) (sym its_number) is) ∙ has.at;
    are = has.are ∙ sym (append-nil ks);
  }

labelled : (run next : Run) (node : ℕ) (more : List (List ℕ)) (m : Labelled) → Follows run next node more → Follows run (with_label next m) node more
labelled run next node more m f = record { numbers = f.numbers; waits = f.waits; reads = f.reads }

-- an event of a node, in which it reads these keys
pub node_follows : (run : Run) (node : ℕ) (label : Option (List ℕ)) (effect : Host → Effect) (more : List (List ℕ)) → ((s : Host) → IsIn s run.hosts → Waits s) → ((s : Host) → map (λ (r : Read). r.key) (effect s).reads ≡ keys_of s ++ more) → ((s : Host) → (more ≡ []) ⊎ ((effect s).calls ≡ 0))
    → Follows run (done_at_node run node label effect).run node more
unfolding done_at_node
node_follows run node label effect more all reads quiet = by_host (host_in run.hosts node) refl where
  by_label : (l : Option (List ℕ)) (s : Host) → host_in run.hosts node ≡ Some s → Follows run (done_by_node run l (event_result s (effect s))).run node more
  by_label l s found =
      let g = goes_by s (effect s) more (all s (found_is run.hosts node s found).on) (reads s) (quiet s) in
      let p = placed run node s (event_result s (effect s)).host more found g.node g.keys g.waits in
      with_it l p
    where
      with_it : (l : Option (List ℕ)) → Follows run (with_host run (event_result s (effect s)).host) node more → Follows run (done_by_node run l (event_result s (effect s))).run node more
      with_it None p = p
      with_it (Some name) p = labelled run (with_host run (event_result s (effect s)).host) node more (record { label = name; bytes = (event_result s (effect s)).bytes; signed = None; plain = false }) p

  by_host : (o : Option Host) → host_in run.hosts node ≡ o → Follows run (elim o as (λ x. Done) [ None ↦ record { answer = []; behind = []; run = run } | Some s ↦ done_by_node run label (event_result s (effect s)) ]).run node more
  by_host (Some s) found = by_label label s found
  by_host None none = record { numbers = refl; waits = λ w. w; reads = λ n ks has. nobody n ks has (eqb node n) refl } where
    nobody : (n : ℕ) (ks : List (List ℕ)) → HasRead run.hosts n ks → (b : Bool) → eqb node n ≡ b → HasRead run.hosts n (ks ++ cond b more [])
    nobody n ks has true is = absurd (found_none (sym none ∙ ap (λ (m : ℕ). host_in run.hosts m) (eqb-true node n is) ∙ has.at)) where
      found_none : None ≡ Some has.host → ⊥
      found_none e = cc
    nobody n ks has false is = record { host = has.host; at = has.at; are = has.are ∙ sym (append-nil ks) }

-- a stop that is set on a node's disk
pub stop_follows : (run : Run) (node call image : ℕ) → 1 ≤ call → Follows run (pending_at run node call image).run node []
unfolding pending_at
stop_follows run node call image some = by_host (host_in run.hosts node) refl where
  waiting : (s : Host) → Waits (record { correct = s.correct; pending = Some (record { call = call; image = image }) })
  waiting s a e = let here : call ≡ a.call = ap call_of e in omega (arith, here, some) where
    call_of : Option PendingStop → ℕ
    call_of None = 0
    call_of (Some y) = y.call

  by_host : (o : Option Host) → host_in run.hosts node ≡ o → Follows run (elim o as (λ x. Done) [ None ↦ record { answer = []; behind = []; run = run } | Some s ↦ record { answer = codes " armed"; behind = []; run = with_host run (record { correct = s.correct; pending = Some (record { call = call; image = image }) }) } ]).run node []
  by_host None none = stays run run node refl
  by_host (Some s) found = placed run node s (record { correct = s.correct; pending = Some (record { call = call; image = image }) }) [] found refl (sym (append-nil (keys_of s))) (waiting s)
