-- A statement that is refused as a fork or as a step back convicts its writer.
use Rattle.std.proofs.Common.{◌≡◌, ℕ, Bool, true, false, not, ◌||◌, cond, eqb, leb, List, [], ◌∷◌, ◌++◌, map, Option, Some, None, Err, refl, sym, ap, subst, ◌∙◌, inl, inr, ◌⊎◌}
use Rattle.std.specs.List.{AllByRecursion}
use Rattle.std.specs.Option.{option_map}
use Rattle.std.specs.Str.{bytes_eq}
use Rattle.std.proofs.lemmas.Slice.Eq.{bytes_eq-Decides}
use Rattle.std.proofs.lemmas.Bool.{eqb-true, eqb-false, eq-eqb, both_ways, and_from, false_from_ne_true, or_left}
use Rattle.depot_base.specs.Zeros.{zeros}
use Rattle.depot_base.specs.Statement.{writer_of}
use Rattle.depot_base.specs.declared.update.Update.{Update}
use Rattle.depot_base.specs.declared.update.Dep.{Dep}
use Rattle.depot_base.specs.declared.statement.Statement.{Statement}
use Rattle.depot_base.specs.declared.statement.Statement.TheVariants as statement
use Rattle.depot_base.specs.declared.statement.Signed.{Signed}
use Rattle.depot_base.specs.declared.proof.Kind.{Kind}
use Rattle.depot_base.specs.declared.proof.Kind.TheVariants.{Backward}
use Rattle.depot_base.specs.declared.record.Record.{Record}
use Rattle.depot_base.specs.declared.record.Record.TheVariants.{Conviction}
use Rattle.depot_base.specs.declared.check.Check.{Check}
use Rattle.depot_base.specs.declared.check.Check.TheVariants as check
use Rattle.depot_model.specs.lists.Lists.{IsIn, when, first}
use Rattle.depot_model.specs.texts.Texts.{text_of_statement, id_of_update, id_of_statement}
use Rattle.depot_model.specs.updates.Order.{prevs}
use Rattle.depot_model.specs.updates.Contradictions.{goes_back, is_of_kind, contradicts, kind_of}
use Rattle.depot_model.specs.updates.Conviction.{proof_of}
use Rattle.depot_model.specs.journals.Journal.{accepted, accepted_by, foreign, foreign_by, update_in, named, has_id, is_convicted}
use Rattle.depot_model.specs.checks.Checks.{Setting, Sight, given_statement, sight, lost, missing, wrong_prev, wrong_entry, wrong_entries, wrong_dep, behind, backward, not_above, clock_low, clock_far, bad_history, content_checks, content_of, opponent, forked_by, forked, refused_as_convicted, is_kept, answer_to, due, is_update_with, named_opponent, exposed, growth_by, growth}
use Rattle.depot_model.specs.journals.Lawful.{IsLawful}
use Rattle.depot_model.proofs.lists.FirstLaws.{each_is_none, Shows, shows_when, shows_map, shows_append, shows_first, when-both}
use Rattle.depot_model.proofs.lists.Members.{any_from, any_to, among_from}
use Rattle.depot_model.proofs.of_updates.Orders.{one_of_id}
use Rattle.depot_laws.specs.Verdicts.{ConvictsWriter}
use Rattle.depot_laws.proofs.lists.Splits.{given_by, given_too}
use Rattle.depot_model.proofs.of_updates.NamedIds.{has_id_from, named_is}
use Rattle.depot_laws.proofs.records.Taken.{AllNone}
use Rattle.depot_laws.proofs.records.Causes.{lawful_is_causal}
use Rattle.depot_laws.proofs.convicting.Contrary.{IsOpponent, opponent_is, named_opponent_is, foreign_is, accused_is}
use Rattle.depot_laws.proofs.records.LateChecks.{refused_late}
use Rattle.depot_laws.proofs.own_updates.OwnSteps.{own_writer}
use Rattle.depot_laws.proofs.convicting.ContraryConvict.{no_kind}
use Rattle.depot_laws.proofs.orders.ChainLaws.{id_of_body, brought}

-- ---- which check fails

-- neither a fork nor a step back
abbrev IsPlain : Check → Type 0
IsPlain (check.Forked kept came kind) = ⊥
IsPlain (check.Backward h) = ⊥
IsPlain c = Unit {0}

plain_lost : (h : List ℕ) (o : Option Update) → Shows IsPlain (lost h o)
plain_lost h None c shown = let same : check.Missing h ≡ c = cc in subst IsPlain same tt
plain_lost h (Some t) c shown = absurd cc

plain_prev : (u : Update) (o : Option Update) → Shows IsPlain (wrong_prev u o)
plain_prev u None c shown = absurd cc
plain_prev u (Some t) c shown = shows_when IsPlain _ (check.WrongDep 0) tt c shown

plain_entry : (place : ℕ) (d : Dep) (o : Option Update) → Shows IsPlain (wrong_entry place d o)
plain_entry place d None c shown = absurd cc
plain_entry place d (Some t) c shown = shows_when IsPlain _ (check.WrongDep place) tt c shown

plain_entries : (place : ℕ) (es : List (Dep × Option Update)) → AllByRecursion (Shows IsPlain) (wrong_entries place es)
plain_entries place [] = tt
plain_entries place (e ∷ es) = (plain_entry place e.0 e.1, plain_entries _ es)

plain_low : (u : Update) (h : List ℕ) (o : Option Update) → Shows IsPlain (not_above u h o)
plain_low u h None c shown = absurd cc
plain_low u h (Some t) c shown = shows_when IsPlain _ (check.ClockLow h) tt c shown

plain_missing : (u : Update) (seen : Sight) → Shows IsPlain (missing u seen)
plain_missing u seen = shows_first IsPlain _ (shows_append IsPlain _ _ (shows_map IsPlain (lost u.prev) seen.before (plain_lost u.prev)) (shows_map IsPlain (λ (e : Dep × Option Update). lost e.0.id e.1) seen.entries (λ e. plain_lost e.0.id e.1)))

plain_dep : (u : Update) (seen : Sight) → Shows IsPlain (wrong_dep u seen)
plain_dep u seen = shows_first IsPlain _ (shows_append IsPlain _ _ (shows_map IsPlain (wrong_prev u) seen.before (plain_prev u)) (plain_entries 1 seen.entries))

plain_clock : (u : Update) (seen : Sight) → Shows IsPlain (clock_low u seen)
plain_clock u seen = shows_first IsPlain _ (shows_append IsPlain _ _ (shows_map IsPlain (not_above u u.prev) seen.before (plain_low u u.prev)) (shows_map IsPlain (λ (e : Dep × Option Update). not_above u e.0.id e.1) seen.entries (λ e. plain_low u e.0.id e.1)))

plain_convicted : (J : List Record) (s : Statement) → Shows IsPlain (refused_as_convicted J s)
unfolding refused_as_convicted
plain_convicted J (statement.Update u) c shown = shows_when IsPlain _ (check.Convicted u.writer) tt c shown
plain_convicted J (statement.Voucher v) c shown = shows_when IsPlain _ (check.VoucherConvicted v.node) tt c shown

-- a plain row isn't the one that shows this check
passed_row : (o : Option Check) (os : List (Option Check)) (c : Check) → Shows IsPlain o → (IsPlain c → ⊥) → first (o ∷ os) ≡ Some c → (o ≡ None) × (first os ≡ Some c)
passed_row None os c plain other shown = (refl, shown)
passed_row (Some d) os c plain other shown = absurd (other (plain c shown))

either_row : (o : Option Check) (os : List (Option Check)) (c : Check) → first (o ∷ os) ≡ Some c → (o ≡ Some c) ⊎ (first os ≡ Some c)
either_row None os c shown = inr shown
either_row (Some d) os c shown = inl shown

-- the row of steps back, or that of forks, shows it; and where the former does, the prev is of the same writer
record StepsBack (J : List Record) (u : Update) (c : Check) : Type 0 where
  pub right : wrong_dep u (sight (accepted J) u) ≡ None
  pub back : backward u (sight (accepted J) u) ≡ Some c

forked_row : (J : List Record) (s : Statement) (c : Check) → (IsPlain c → ⊥) → first (forked J s ∷ refused_as_convicted J s ∷ []) ≡ Some c → forked J s ≡ Some c
forked_row J s c other shown = elim (either_row (forked J s) (refused_as_convicted J s ∷ []) c shown) [
  | inl here ↦ here
  | inr later ↦ elim (either_row (refused_as_convicted J s) [] c later) [
    | inl convicted ↦ absurd (other (plain_convicted J s c convicted))
    | inr never ↦ absurd cc
  ]
]

update_row : (J : List Record) (u : Update) (c : Check) → (IsPlain c → ⊥) → first (content_checks u (sight (accepted J) u) ++ (forked J (statement.Update u) ∷ refused_as_convicted J (statement.Update u) ∷ [])) ≡ Some c
    → StepsBack J u c ⊎ (forked J (statement.Update u) ≡ Some c)
unfolding content_checks
update_row J u c other shown =
    let seen = sight (accepted J) u in
    let ends = forked J (statement.Update u) ∷ refused_as_convicted J (statement.Update u) ∷ [] in
    let one = passed_row (missing u seen) (wrong_dep u seen ∷ backward u seen ∷ clock_low u seen ∷ clock_far u seen ∷ bad_history u seen ∷ ends) c (plain_missing u seen) other shown in
    let two = passed_row (wrong_dep u seen) (backward u seen ∷ clock_low u seen ∷ clock_far u seen ∷ bad_history u seen ∷ ends) c (plain_dep u seen) other one.1 in
    elim (either_row (backward u seen) (clock_low u seen ∷ clock_far u seen ∷ bad_history u seen ∷ ends) c two.1) [
      | inl back ↦ inl (record { right = two.0; back = back })
      | inr later ↦
          let four = passed_row (clock_low u seen) (clock_far u seen ∷ bad_history u seen ∷ ends) c (plain_clock u seen) other later in
          let five = passed_row (clock_far u seen) (bad_history u seen ∷ ends) c (shows_when IsPlain _ (check.ClockFar _) tt) other four.1 in
          let six = passed_row (bad_history u seen) ends c (shows_when IsPlain _ (check.BadHistory u.history seen.history) tt) other five.1 in
          inr (forked_row J (statement.Update u) c other six.1)
    ]

-- ---- a fork

fork_by : (blocked : Bool) (s : Statement) (o : Option (Signed × Kind)) (c : Check) → cond blocked None (forked_by s o) ≡ Some c → (by : Signed × Kind) × (o ≡ Some by)
fork_by true s o c e = absurd cc
fork_by false s None c e = absurd cc
fork_by false s (Some by) c e = (by, refl)

fork_has_opponent : (J : List Record) (s : Statement) (c : Check) → forked J s ≡ Some c → (by : Signed × Kind) × (opponent (foreign J) s ≡ Some by)
unfolding forked
fork_has_opponent J s c e = fork_by _ s (opponent (foreign J) s) c e

-- a row of steps back shows no fork
abbrev IsStepBack : Check → Type 0
IsStepBack (check.Backward h) = Unit {0}
IsStepBack c = ⊥

behind_shows : (u : Update) (o : Option Update) → Shows IsStepBack (behind u o)
behind_shows u None c shown = absurd cc
behind_shows u (Some t) c shown = shows_when IsStepBack _ (check.Backward u.prev) tt c shown

backward_shows : (u : Update) (seen : Sight) → Shows IsStepBack (backward u seen)
backward_shows u seen = shows_first IsStepBack _ (shows_map IsStepBack (behind u) seen.before (behind_shows u))

-- ---- a step back

-- the accepted prev after which the update stays
record HasStepBack (us : List Update) (u : Update) (h : List ℕ) : Type 0 where
  pub prev : Update
  pub on : IsIn prev us
  pub named : IsIn h (prevs u)
  pub id : id_of_update prev ≡ h
  pub writer : prev.writer ≡ u.writer
  pub back : (leb u.seq prev.seq || leb u.clock prev.clock) ≡ true

backward_hash : (g h : List ℕ) → check.Backward g ≡ check.Backward h → g ≡ h
backward_hash g h e = cc

seen_back : (us : List Update) (u : Update) (h : List ℕ) (o : Option Update) → named us u.prev ≡ o → IsIn u.prev (prevs u) → wrong_prev u o ≡ None → behind u o ≡ Some (check.Backward h) → HasStepBack us u h
seen_back us u h None is on right back = absurd cc
seen_back us u h (Some t) is on right back =
    let n = named_is us u.prev t is in
    let w = when-both _ (check.Backward u.prev) (check.Backward h) back in
    let same : u.prev ≡ h = backward_hash u.prev h w.1 in
    record {
      prev = t;
      on = n.0;
      named = subst (λ (k : List ℕ). IsIn k (prevs u)) same on;
      id = n.1 ∙ same;
      writer = eqb-true _ _ (right_writer _ right);
      back = w.0;
    } where
      right_writer : (b : Bool) → when (not b) (check.WrongDep 0) ≡ None → b ≡ true
      right_writer true e = refl
      right_writer false e = absurd cc

step_back_is : (us : List Update) (u : Update) (h : List ℕ) → wrong_dep u (sight us u) ≡ None → backward u (sight us u) ≡ Some (check.Backward h) → HasStepBack us u h
unfolding sight
step_back_is us u h right back = by_prev (bytes_eq u.prev zeros) refl right back where
  by_prev : (b : Bool) → bytes_eq u.prev zeros ≡ b → first (map (wrong_prev u) (map (named us) (cond b [] (u.prev ∷ []))) ++ wrong_entries 1 (map (λ (d : Dep). (d, named us d.id)) u.deps)) ≡ None
      → first (map (behind u) (map (named us) (cond b [] (u.prev ∷ [])))) ≡ Some (check.Backward h) → HasStepBack us u h
  by_prev true is right back = absurd cc
  by_prev false is right back =
      let on : IsIn u.prev (prevs u) = rw is (inl refl) in
      let each : AllNone (wrong_prev u (named us u.prev) ∷ wrong_entries 1 (map (λ (d : Dep). (d, named us d.id)) u.deps)) = each_is_none (wrong_prev u (named us u.prev) ∷ wrong_entries 1 (map (λ (d : Dep). (d, named us d.id)) u.deps)) right in
      seen_back us u h (named us u.prev) refl on each.0 (elim (either_row (behind u (named us u.prev)) [] (check.Backward h) back) [ inl here ↦ here | inr never ↦ absurd cc ])

-- a later update that stays after its prev contradicts it
back_contradicts : (t u : Update) (h : List ℕ) → t.writer ≡ u.writer → id_of_update t ≡ h → IsIn h (prevs u) → (leb u.seq t.seq || leb u.clock t.clock) ≡ true → (id_of_update t ≡ id_of_update u → ⊥) → contradicts Backward (statement.Update t) (statement.Update u) ≡ true
unfolding contradicts is_of_kind
back_contradicts t u h writer id named back differ =
    let other : bytes_eq (text_of_statement (statement.Update t)) (text_of_statement (statement.Update u)) ≡ false = false_from_ne_true _ (λ e. differ (id_of_body t u ((bytes_eq-Decides _ _).0 e))) in
    let goes : goes_back t u ≡ true = and_from _ _ (among_from (id_of_update t) (prevs u) (subst (λ (k : List ℕ). IsIn k (prevs u)) (sym id) named)) back in
    and_from _ _ (and_from _ _ (eq-eqb t.writer u.writer writer) (ap not other)) (or_left (goes_back t u) (goes_back u t) goes)

some_kind : (a b : Statement) (k : Kind) → contradicts k a b ≡ true → (l : Kind) × (kind_of a b ≡ Some l)
some_kind a b k e = by_option (kind_of a b) refl where
  by_option : (o : Option Kind) → kind_of a b ≡ o → (l : Kind) × (kind_of a b ≡ Some l)
  by_option None is = absurd (both_ways _ (no_kind k a b is) e)
  by_option (Some l) is = (l, is)

-- the statement of an accepted update with this id
is_with_id : (h : List ℕ) (s : Statement) → is_update_with h s ≡ true → (u : Update) × ((s ≡ statement.Update u) × (id_of_update u ≡ h))
is_with_id h (statement.Update u) e = let a = any_to (λ (t : Update). bytes_eq (id_of_update t) h) (u ∷ []) e in elim a.1.0 [
  | inl same ↦ (u, (refl, ap id_of_update same ∙ (bytes_eq-Decides (id_of_update a.0) h).0 a.1.1))
  | inr never ↦ absurd never
]
is_with_id h (statement.Voucher v) e = absurd cc

-- where each kept update with the id contradicts the statement, an opponent is named
named_found : (fs : List Signed) (h : List ℕ) (s : Statement) (f : Signed) → IsIn f fs → is_update_with h f.statement ≡ true → ((g : Signed) → IsIn g fs → is_update_with h g.statement ≡ true → (k : Kind) × (kind_of g.statement s ≡ Some k)) → (by : Signed × Kind) × (named_opponent fs h s ≡ Some by)
unfolding named_opponent
named_found [] h s f never with each = absurd never
named_found (g ∷ fs) h s f on with each = by_test (is_update_with h g.statement) refl (λ there. named_found fs h s f there with (λ x x_on. each x (inr x_on))) where
  by_test : (b : Bool) → is_update_with h g.statement ≡ b → (IsIn f fs → (by : Signed × Kind) × (named_opponent fs h s ≡ Some by)) → (by : Signed × Kind) × (cond b (option_map (λ k. (g, k)) (kind_of g.statement s)) (named_opponent fs h s) ≡ Some by)
  by_test true is later = let k = each g (inl refl) is in ((g, k.0), ap (option_map (λ k. (g, k))) k.1)
  by_test false is later = elim on [
    | inl here ↦ absurd (both_ways _ is (subst (λ (x : Signed). is_update_with h x.statement ≡ true) (sym here) with))
    | inr there ↦ later there
  ]

-- a kept statement that is an update is accepted
pub kept_is_accepted : (J : List Record) (f : Signed) (u : Update) → IsIn f (foreign J) → f.statement ≡ statement.Update u → IsIn u (accepted J)
kept_is_accepted J f u on is =
    let g = given_by foreign_by f J on in
    given_too foreign_by accepted_by f u J g (subst (λ (r : Record). IsIn u (accepted_by r)) (sym (foreign_is f g.by g.given)) (subst (λ (x : Statement). IsIn u (update_in x)) (sym is) (inl refl)))

-- the prev is another's, so a kept statement; it contradicts the update
back_has_opponent : (here : Setting) (J : List Record) (u : Update) (h : List ℕ) → IsLawful here J → HasStepBack (accepted J) u h → eqb u.writer here.me ≡ false → has_id (accepted J) (id_of_update u) ≡ false
    → (by : Signed × Kind) × (named_opponent (foreign J) h (statement.Update u) ≡ Some by)
back_has_opponent here J u h l b other new =
    let differ : id_of_update b.prev ≡ id_of_update u → ⊥ = λ e. both_ways _ new (has_id_from (accepted J) (id_of_update u) b.prev b.on e) in
    let contrary = back_contradicts b.prev u h b.writer b.id b.named b.back differ in
    let kept : (f : Signed) × (IsIn f (foreign J) × (f.statement ≡ statement.Update b.prev)) = elim (brought J b.prev b.on) [
      | inl mine ↦ absurd (eqb-false _ _ other (sym b.writer ∙ own_writer here J l (statement.Update b.prev) mine))
      | inr f ↦ f
    ] in
    named_found (foreign J) h (statement.Update u) kept.0 kept.1.0
    (subst (λ (x : Statement). is_update_with h x ≡ true) (sym kept.1.1) (any_from (λ (t : Update). bytes_eq (id_of_update t) h) b.prev (b.prev ∷ []) (inl refl) ((bytes_eq-Decides (id_of_update b.prev) h).1 b.id)))
    (λ g g_on with.
    let t = is_with_id h g.statement with in
    let same : t.0 ≡ b.prev = one_of_id [] (accepted J) t.0 b.prev (lawful_is_causal here J l) (kept_is_accepted J g t.0 g_on t.1.0) b.on (t.1.1 ∙ sym b.id) in
    some_kind g.statement (statement.Update u) Backward (subst (λ (x : Statement). contradicts Backward x (statement.Update u) ≡ true) (sym (t.1.0 ∙ ap (λ (x : Update). statement.Update x) same)) contrary))

-- ---- the growth

due_is : (J : List Record) (s : Signed) (o : Option (Signed × Kind)) (by : Signed × Kind) → o ≡ Some by → is_convicted J (writer_of s.statement) ≡ false → due J s o ≡ Conviction (proof_of by.1 by.0 s) ∷ []
unfolding due
due_is J s None by is free = absurd cc
due_is J s (Some x) by is free = let same : x ≡ by = cc in rw free (ap (λ (y : Signed × Kind). Conviction (proof_of y.1 y.0 s) ∷ []) same)

convicts_by : (here : Setting) (J : List Record) (s : Signed) (c : Check) (o : Option (Signed × Kind)) (by : Signed × Kind) → answer_to here J (given_statement s) ≡ Err c → exposed J (given_statement s) c ≡ due J s o → o ≡ Some by → IsOpponent (foreign J) s.statement by → is_convicted J (writer_of s.statement) ≡ false → ConvictsWriter here J s
unfolding growth
convicts_by here J s c o by answer grows is opposed free = record {
  proof = proof_of by.1 by.0 s;
  grown = ap (growth_by J (given_statement s)) answer ∙ grows ∙ due_is J s o by is free;
  names = accused_is by.1 by.0 s opposed.contradict;
}

-- the row that shows a fork or a step back
shown_row : (J : List Record) (s : Statement) (c : Check) → (IsPlain c → ⊥) → first (content_of J s ++ (forked J s ∷ refused_as_convicted J s ∷ [])) ≡ Some c → ((u : Update) × ((s ≡ statement.Update u) × StepsBack J u c)) ⊎ (forked J s ≡ Some c)
shown_row J (statement.Update u) c other shown = elim (update_row J u c other shown) [ inl back ↦ inl (u, (refl, back)) | inr fork ↦ inr fork ]
shown_row J (statement.Voucher v) c other shown = inr (forked_row J (statement.Voucher v) c other shown)

pub fork_convicts : (here : Setting) (J : List Record) (s : Signed) (kept came : List ℕ) (kind : Kind) → IsLawful here J → answer_to here J (given_statement s) ≡ Err (check.Forked kept came kind) → is_convicted J (writer_of s.statement) ≡ false → ConvictsWriter here J s
fork_convicts here J s kept came kind l e free =
    let c = check.Forked kept came kind in
    let r = refused_late here J s c tt e in
    elim (shown_row J s.statement c (λ h. h) r.first_failed) [
      | inl back ↦ absurd (backward_shows back.0 (sight (accepted J) back.0) c back.1.1.back)
      | inr fork ↦
          let o = fork_has_opponent J s.statement c fork in
          convicts_by here J s c (opponent (foreign J) s.statement) o.0 e refl o.1 (opponent_is (foreign J) s.statement o.0 o.1) free
    ]

-- the checks of forks show no step back
abbrev IsFork : Check → Type 0
IsFork (check.Forked kept came kind) = Unit {0}
IsFork c = ⊥

fork_shows : (blocked : Bool) (s : Statement) (o : Option (Signed × Kind)) → Shows IsFork (cond blocked None (forked_by s o))
fork_shows true s o c shown = absurd cc
fork_shows false s None c shown = absurd cc
fork_shows false s (Some by) c shown = let same : check.Forked (id_of_statement by.0.statement) (id_of_statement s) by.1 ≡ c = cc in subst IsFork same tt

forked_shows : (J : List Record) (s : Statement) → Shows IsFork (forked J s)
unfolding forked
forked_shows J s = fork_shows _ s (opponent (foreign J) s)

pub step_back_convicts : (here : Setting) (J : List Record) (s : Signed) (h : List ℕ) → IsLawful here J → answer_to here J (given_statement s) ≡ Err (check.Backward h) → is_convicted J (writer_of s.statement) ≡ false → ConvictsWriter here J s
step_back_convicts here J s h l e free =
    let c = check.Backward h in
    let r = refused_late here J s c tt e in
    elim (shown_row J s.statement c (λ x. x) r.first_failed) [
      | inr fork ↦ absurd (forked_shows J s.statement c fork)
      | inl back ↦
          let is = back.1.0 in
          let b = step_back_is (accepted J) back.0 h back.1.1.right back.1.1.back in
          let other : eqb back.0.writer here.me ≡ false = subst (λ (x : Statement). eqb (writer_of x) here.me ≡ false) is r.genuine.other in
          let new : has_id (accepted J) (id_of_update back.0) ≡ false = subst (λ (x : Statement). is_kept J x ≡ false) is r.new in
          let found = back_has_opponent here J back.0 h l b other new in
          let o : named_opponent (foreign J) h s.statement ≡ Some found.0 = subst (λ (x : Statement). named_opponent (foreign J) h x ≡ Some found.0) (sym is) found.1 in
          convicts_by here J s c (named_opponent (foreign J) h s.statement) found.0 e refl o (named_opponent_is (foreign J) h s.statement found.0 o) free
    ]

-- a statement that is refused as a step back is an update, and the id is that of its prev
pub step_back_names : (here : Setting) (J : List Record) (s : Signed) (h : List ℕ) → answer_to here J (given_statement s) ≡ Err (check.Backward h) → (u : Update) × ((s.statement ≡ statement.Update u) × IsIn h (prevs u))
step_back_names here J s h e =
    let c = check.Backward h in
    let r = refused_late here J s c tt e in
    elim (shown_row J s.statement c (λ x. x) r.first_failed) [
      | inr fork ↦ absurd (forked_shows J s.statement c fork)
      | inl back ↦ let b = step_back_is (accepted J) back.0 h back.1.1.right back.1.1.back in (back.0, (back.1.0, b.named))
    ]
