-- An audit of a world says yes just where the property holds and no conviction names a node.
use Rattle.std.proofs.Common.{◌≡◌, ℕ, ◌==◌, Bool, true, false, not, List, [], ◌∷◌, map, Option, Some, None, refl, sym, ap, subst, ◌∙◌, inl, inr, slice_get}
use Rattle.std.specs.Prelude.{option_map, find, position, unwrap_or}
use Rattle.std.specs.List.{flat_map}
use Rattle.std.proofs.lemmas.Bool.{both_ways, false_from_ne_true, eqb-true, eq-eqb}
use Rattle.depot_base.specs.declared.proof.Proof.{Proof}
use Rattle.depot_base.specs.declared.record.Record.{Record}
use Rattle.depot_base.specs.declared.record.Record.TheVariants.{Birth, OwnPut, OwnVoucher, Foreign, Conviction, Held}
use Rattle.depot_model.specs.lists.Lists.{IsIn, first, when}
use Rattle.depot_model.specs.journals.Journal.{proof_by, accused}
use Rattle.depot_model.specs.worlds.World.{Shown, Read, Correct, World, IsWorld, IsAuthentic, IsCollisionFree}
use Rattle.depot_model.specs.worlds.Causality.{Operation, write, read_at, IsOperation, puts_of, ObservedBefore, HasPut, IsExact, IsForkJoinCausal, ConvictsNoCorrectNode}
use Rattle.depot_model.specs.texts.Contents.{IsPutOf}
use Rattle.depot_model.proofs.lists.Members.{any_from, any_to, in_left, in_parts}
use Rattle.depot_model.proofs.of_updates.Orders.{leads_trans}
use Rattle.depot_model.specs.worlds.Causality.{Edge}
use Rattle.depot_laws.specs.OneText.{HaveOneText}
use Rattle.depot_laws.proofs.lists.Splits.{flat_gives, given_by}
use Rattle.depot_laws.proofs.own_updates.Puts.{put_by}
use Rattle.depot_laws.proofs.of_worlds.Worlds.{giver_in}
use Rattle.depot_laws.proofs.of_worlds.Observed.{strict}
use Rattle.depot_laws.proofs.of_worlds.Traces.{writes_follow}
use Rattle.depot_laws.proofs.of_worlds.TraceLines.{line}
use Rattle.depot_laws.proofs.of_worlds.Exact.{exact_where}
use Rattle.depot_laws.proofs.of_worlds.ForkJoin.{has_forests, fork_join_causal}
use Rattle.depot_laws.proofs.of_worlds.NoVerdicts.{convicts_none}
use Rattle.depot_model.specs.worlds.Receipts.{is_node}
use Rattle.depot_model.specs.worlds.Audit.{Finding, yes_found, circle_found, wrong_found, named_found, reads_of, operations, observed, op_of, circle, unordered, unseen, is_exact, wrong_at, wrong, split_finding, names_one_of, named_node, finding_in}
use Rattle.depot_laws.proofs.lists.FirstOfRow.{none_from, none_to, no_place_from, no_place_to, map_none, none_of_map, when_false, when_none, row_none, row_none_to}
use Rattle.depot_laws.proofs.of_worlds.ObservedTests.{read_of, read_on, in_operations, from_operations, observed_from, observed_to, observed_above}
use Rattle.depot_laws.proofs.of_worlds.InLine.{none_unordered, none_unseen}
use Rattle.depot_laws.proofs.orders.Branches.{none_split}
use Rattle.depot_laws.proofs.of_worlds.ExactTests.{exact_to, exact_from}

-- ---- the finding of six rows

-- it isn't yes
abbrev IsNo : Finding → Type 0
IsNo f = f ≡ yes_found → ⊥

abbrev AllNo : Option Finding → Type 0
AllNo o = (f : Finding) → o ≡ Some f → IsNo f

abbrev in_turn : Option Finding → Option Finding → Option Finding → Option Finding → Option Finding → Option Finding → Finding
in_turn a b c d e f = unwrap_or (first (a ∷ b ∷ c ∷ d ∷ e ∷ f ∷ [])) yes_found

-- yes where each row is none
yes_from : (a b c d e f : Option Finding) → a ≡ None → b ≡ None → c ≡ None → d ≡ None → e ≡ None → f ≡ None → in_turn a b c d e f ≡ yes_found
yes_from None None None None None None p q r s t u = refl
yes_from (Some x) b c d e f p q r s t u = absurd cc
yes_from None (Some x) c d e f p q r s t u = absurd cc
yes_from None None (Some x) d e f p q r s t u = absurd cc
yes_from None None None (Some x) e f p q r s t u = absurd cc
yes_from None None None None (Some x) f p q r s t u = absurd cc
yes_from None None None None None (Some x) p q r s t u = absurd cc

-- these three are none where it is yes and the others are none
record AreNone (a d f : Option Finding) : Type 0 where
  pub one : a ≡ None
  pub two : d ≡ None
  pub three : f ≡ None

yes_to : (a b c d e f : Option Finding) → b ≡ None → c ≡ None → e ≡ None → AllNo a → AllNo d → AllNo f → in_turn a b c d e f ≡ yes_found → AreNone a d f
yes_to (Some x) b c d e f q r t a_no d_no f_no is = absurd (a_no x refl is)
yes_to None (Some x) c d e f q r t a_no d_no f_no is = absurd cc
yes_to None None (Some x) d e f q r t a_no d_no f_no is = absurd cc
yes_to None None None (Some x) e f q r t a_no d_no f_no is = absurd (d_no x refl is)
yes_to None None None None (Some x) f q r t a_no d_no f_no is = absurd cc
yes_to None None None None None (Some x) q r t a_no d_no f_no is = absurd (f_no x refl is)
yes_to None None None None None None q r t a_no d_no f_no is = record { one = refl; two = refl; three = refl }

-- ---- what the rows answer

mapped_no : {X : Type 0} (g : X → Finding) (o : Option X) → ((x : X) → IsNo (g x)) → AllNo (option_map g o)
mapped_no g None each f e = absurd cc
mapped_no g (Some x) each f e = let same : g x ≡ f = cc in subst IsNo same (each x)

row_no : {X : Type 0} (g : X → Option Finding) (xs : List X) → ((x : X) → AllNo (g x)) → AllNo (first (map g xs))
row_no g [] each f e = absurd cc
row_no g (x ∷ xs) each f e = by_option (g x) refl e (row_no g xs each f) where
  by_option : (o : Option Finding) → g x ≡ o → first (o ∷ map g xs) ≡ Some f → (first (map g xs) ≡ Some f → IsNo f) → IsNo f
  by_option None is e later = later e
  by_option (Some y) is e later = each x f (is ∙ e)

circle_no : (W : World) → AllNo (circle W)
unfolding circle
circle_no W = mapped_no (λ o. circle_found (op_of W o)) (find (λ o. observed W o o) (operations W)) (λ o e. cc)

wrong_at_no : (W : World) (o : Operation) → AllNo (wrong_at W o)
wrong_at_no W (write u) f e = absurd cc
wrong_at_no W (read_at c place r) f e = by_test (not (is_exact W c place r)) e where
  by_test : (b : Bool) → when b (wrong_found c.node place) ≡ Some f → IsNo f
  by_test true e = let same : wrong_found c.node place ≡ f = cc in subst IsNo same (λ is. cc)
  by_test false e = absurd cc

wrong_no : (W : World) → AllNo (wrong W)
unfolding wrong
wrong_no W = row_no (wrong_at W) (flat_map reads_of W.nodes) (wrong_at_no W)

named_no : (W : World) → AllNo (named_node W)
unfolding named_node
named_no W = row_no (λ (c : Correct). option_map (λ place. named_found c.node place) (position (names_one_of W) c.journal)) W.nodes
    (λ c. mapped_no (λ place. named_found c.node place) (position (names_one_of W) c.journal) (λ place e. cc))

-- ---- nodes by their numbers

node_from : (W : World) (c : Correct) → IsIn c W.nodes → is_node W c.node ≡ true
node_from W c c_on = any_from (λ (d : Correct). d.node == c.node) c W.nodes c_on (eq-eqb c.node c.node refl)

names_from : (W : World) (c : Correct) (r : Record) (p : Proof) → IsIn c W.nodes → IsIn p (proof_by r) → accused p ≡ c.node → names_one_of W r ≡ true
names_from W c r p c_on on named = any_from (λ (q : Proof). is_node W (accused q)) p (proof_by r) on (subst (λ (n : ℕ). is_node W n ≡ true) (sym named) (node_from W c c_on))

-- a read of the list is one of the world
read_operation : (W : World) (c : Correct) (place : ℕ) (r : Read) → IsIn (read_at c place r) (flat_map reads_of W.nodes) → IsOperation W (read_at c place r)
read_operation W c place r on = read_on W (read_at c place r) on

module _ (W : World) (world : IsWorld W) where
  -- ---- circles

  circle_none : ((a : Operation) → ObservedBefore W a a → ⊥) → circle W ≡ None
  unfolding circle
  circle_none never = map_none (λ o. circle_found (op_of W o)) (find (λ o. observed W o o) (operations W)) (none_from (λ o. observed W o o) (operations W) (λ o on.
      let o_on = from_operations W world o on in
      false_from_ne_true (observed W o o) (λ e. never o (observed_to W world o o o_on o_on e))))

  circle_never : circle W ≡ None → (a : Operation) → ObservedBefore W a a → ⊥
  unfolding circle
  circle_never e a o =
      let none = none_of_map (λ o. circle_found (op_of W o)) (find (λ o. observed W o o) (operations W)) e in
      both_ways (observed W a a) (none_to (λ o. observed W o o) (operations W) none a (in_operations W world a (observed_above W world a a o))) (observed_from W world a a o)

  -- ---- reads

  wrong_none : ((c : Correct) (place : ℕ) (r : Read) → IsIn c W.nodes → slice_get c.reads place ≡ Some r → IsExact W c place r) → wrong W ≡ None
  unfolding wrong
  wrong_none each = row_none (wrong_at W) (flat_map reads_of W.nodes) each_one where
    each_one : (o : Operation) → IsIn o (flat_map reads_of W.nodes) → wrong_at W o ≡ None
    each_one (write u) on = refl
    each_one (read_at c place r) on =
        let o = read_operation W c place r on in
        when_false (not (is_exact W c place r)) (wrong_found c.node place) (ap not (exact_from W world c place r o.0 o.1 (each c place r o.0 o.1)))

  wrong_never : wrong W ≡ None → (c : Correct) (place : ℕ) (r : Read) → IsIn c W.nodes → slice_get c.reads place ≡ Some r → IsExact W c place r
  unfolding wrong
  wrong_never e c place r c_on at =
      let none = row_none_to (wrong_at W) (flat_map reads_of W.nodes) e (read_at c place r) (flat_gives reads_of (read_at c place r) c W.nodes c_on (read_of c place r at)) in
      exact_to W world c place r c_on at (holds (is_exact W c place r) (when_none (not (is_exact W c place r)) (wrong_found c.node place) none)) where
        holds : (b : Bool) → not b ≡ false → b ≡ true
        holds true e = refl
        holds false e = absurd cc

  -- ---- convictions

  named_none : ConvictsNoCorrectNode W → named_node W ≡ None
  unfolding named_node
  named_none convicts = row_none (λ (c : Correct). option_map (λ place. named_found c.node place) (position (names_one_of W) c.journal)) W.nodes
      (λ c c_on. map_none (λ place. named_found c.node place) (position (names_one_of W) c.journal) (no_place_from (names_one_of W) c.journal (λ r r_on. false_from_ne_true (names_one_of W r) (λ e.
      let p = any_to (λ (q : Proof). is_node W (accused q)) (proof_by r) e in
      let d = any_to (λ (x : Correct). x.node == accused p.0) W.nodes p.1.1 in
      convicts.never d.0 p.0 d.1.0 (in_left p.0 (flat_map (λ (x : Correct). flat_map proof_by x.journal) W.nodes) W.judged (flat_gives (λ (x : Correct). flat_map proof_by x.journal) p.0 c W.nodes c_on (flat_gives proof_by p.0 r c.journal r_on p.1.0))) (sym (eqb-true _ _ d.1.1))))))

  named_never : W.judged ≡ [] → named_node W ≡ None → ConvictsNoCorrectNode W
  unfolding named_node
  named_never none e = record {
    never = λ c p c_on on named.
        let kept : Correct → List Proof = λ d. flat_map proof_by d.journal in
        elim (in_parts p (flat_map kept W.nodes) W.judged on) [
          | inl there ↦
              let g = given_by kept p W.nodes there in
              let h = given_by proof_by p g.by.journal g.given in
              let row = row_none_to (λ (d : Correct). option_map (λ place. named_found d.node place) (position (names_one_of W) d.journal)) W.nodes e g.by (giver_in kept p W.nodes g) in
              let place = none_of_map (λ place. named_found g.by.node place) (position (names_one_of W) g.by.journal) row in
              both_ways (names_one_of W h.by) (no_place_to (names_one_of W) g.by.journal place h.by (giver_in proof_by p g.by.journal h)) (names_from W c h.by p c_on h.given named)
          | inr judged ↦ subst (λ (ps : List Proof). IsIn p ps) none judged
        ];
  }

  -- ---- the law

  pub says_yes : IsForkJoinCausal W → ConvictsNoCorrectNode W → finding_in W ≡ yes_found
  unfolding finding_in
  says_yes f convicts = yes_from (circle W) (unordered W) (unseen W) (wrong W) (split_finding W) (named_node W)
      (circle_none f.strict.never) (none_unordered W world) (none_unseen W world) (wrong_none f.reads) (none_split W world) (named_none convicts)

  pub yes_is_causal : W.judged ≡ [] → finding_in W ≡ yes_found → IsForkJoinCausal W × ConvictsNoCorrectNode W
  unfolding finding_in
  yes_is_causal none e =
      let rows = yes_to (circle W) (unordered W) (unseen W) (wrong W) (split_finding W) (named_node W) (none_unordered W world) (none_unseen W world) (none_split W world) (circle_no W) (wrong_no W) (named_no W) e in (
        record {
          strict = record { onward = leads_trans (Edge W); never = circle_never rows.one };
          lines = line W world;
          causes = writes_follow W world;
          reads = wrong_never rows.two;
          forests = has_forests W world;
        },
        named_never none rows.three,
      )

  -- ---- worlds in which no hashes collide

  -- the record puts the update that it shows
  put_shown_in : (key : List ℕ) (d : Correct) (s : Shown) → HasPut d key s → IsIn s.update (puts_of d.journal)
  put_shown_in key d s p = flat_gives put_by s.update p.by d.journal p.kept (by_record p.by p.put) where
    by_record : (r : Record) → IsPutOf key s.update s.seen r → IsIn s.update (put_by r)
    by_record (OwnPut put values) here = inl here.0
    by_record (Birth node h) never = absurd never
    by_record (OwnVoucher v) never = absurd never
    by_record (Foreign f) never = absurd never
    by_record (Conviction q) never = absurd never
    by_record (Held value) never = absurd never

  pub apart_circle : HaveOneText W → circle W ≡ None
  apart_circle free = circle_none (strict W world free).never

  -- a read passes just where each write of a node that it lists is one that this node put
  pub apart_exact : HaveOneText W → (c : Correct) (place : ℕ) (r : Read) → IsIn c W.nodes → slice_get c.reads place ≡ Some r
      → ((s : Shown) (d : Correct) → IsIn s r.answer → IsIn d W.nodes → s.update.writer ≡ d.node → IsIn s.update (puts_of d.journal)) → is_exact W c place r ≡ true
  apart_exact free c place r c_on at puts = exact_from W world c place r c_on at (exact_where W world free c place r c_on at puts)

  pub exact_puts : (c : Correct) (place : ℕ) (r : Read) → IsIn c W.nodes → slice_get c.reads place ≡ Some r → is_exact W c place r ≡ true → (s : Shown) (d : Correct) → IsIn s r.answer → IsIn d W.nodes → s.update.writer ≡ d.node → IsIn s.update (puts_of d.journal)
  exact_puts c place r c_on at e s d on d_on writer = put_shown_in r.key d s ((exact_to W world c place r c_on at e).put s d on d_on writer)

-- where nothing is forged and nothing collides, it says yes
pub causal_yes : (W : World) → IsWorld W → IsAuthentic W → IsCollisionFree W → finding_in W ≡ yes_found
causal_yes W world authentic free = says_yes W world (fork_join_causal W world authentic free) (convicts_none W world authentic free)
