-- A read is exact just where its rows say so.
use Rattle.std.proofs.Common.{◌≡◌, ℕ, ◌&&◌, ◌||◌, Bool, true, false, cond, not, List, [], ◌∷◌, take, map, filter, Some, refl, sym, ap, subst, ◌∙◌, inl, inr, slice_get}
use Rattle.std.specs.List.{list_any, list_all}
use Rattle.std.specs.Ordering.{is_lt}
use Rattle.std.specs.Str.{bytes_eq}
use Rattle.std.proofs.lemmas.Bool.{and_parts, and_from, or_cases, or_left, or_right, both_ways, false_from_ne_true}
use Rattle.std.proofs.lemmas.Slice.Eq.{bytes_eq-Decides}
use Rattle.depot_base.specs.declared.record.Record.{Record}
use Rattle.depot_base.specs.declared.update.Update.{Update}
use Rattle.depot_model.specs.worlds.Audit.{same_body, is_body_in, writes_once, observed, observed_by_parents, observed_by_read, observed_writes, last_writes, rises_strictly, lists_just, shows_named, shows_gone, is_put_by_writer, is_exact}
use Rattle.depot_model.specs.worlds.Causality.{write, read_at}
use Rattle.depot_model.specs.texts.Contents.{Sighting, writes}
use Rattle.depot_model.specs.journals.Journal.{accepted, accepted_by}
use Rattle.depot_model.specs.lists.Lists.{IsIn}
use Rattle.depot_model.specs.updates.Order.{RisesStrictly, listed}
use Rattle.depot_model.specs.texts.Texts.{IsUpdate, id_of_update}
use Rattle.depot_model.specs.worlds.Traces.{answered}
use Rattle.depot_model.specs.worlds.World.{Shown, Read, Correct, World, IsRead, IsWorld, writes_of, setting_of}
use Rattle.depot_model.proofs.lists.Elements.{in_at}
use Rattle.depot_model.proofs.lists.Members.{in_map, from_map, from_filter, in_filter, any_from, any_to}
use Rattle.depot_model.proofs.of_updates.Orders.{one_of_id}
use Rattle.depot_laws.proofs.records.Causes.{lawful_is_causal}
use Rattle.depot_laws.proofs.lists.EachPasses.{each_to, each_from, all_tests_from}
use Rattle.depot_laws.proofs.of_worlds.ObservedTests.{once_to, once_from}
use Rattle.depot_laws.proofs.orders.SameBodies.{AllFit, body_is, body_from, body_in_from, body_in_to}
use Rattle.depot_laws.proofs.of_worlds.Worlds.{taken_in, taken_lawful, write_from, write_fits}
use Rattle.depot_laws.proofs.of_worlds.WritesAlone.{writes_alone, reads_alone}
use Rattle.depot_search.proofs.ShownFacts.{shown_named, shown_gone}
use Rattle.depot_search.proofs.Tests.{one_test, any_behind}
use Rattle.depot_search.proofs.Tables.{zip_map, zip_any, zip_all, table_of}
use Rattle.depot_search.specs.Read.{is_answered, is_put_in_each, is_unput, key_row, observed_row, last_row, listed_row, is_alike, are_alike, is_exact_by}
use Rattle.depot_search.specs.Rows.{either_of, both_of, without_of, is_met, reached_by}
use Rattle.depot_search.specs.Writes.{is_accepted_in}
use Rattle.depot_search.specs.declared.journal.TracedJournal.{TracedJournal}
use Rattle.depot_traces.specs.SeenTraces.{answered_of, sighting_of}
use Rattle.depot_traces.specs.declared.trace.Answered.{Answered}
use Rattle.depot_traces.specs.declared.trace.ReadTrace.{ReadTrace}

-- ---- tests

alike_from : (a b : Bool) → a ≡ b → is_alike a b ≡ true
alike_from true b e = sym e
alike_from false b e = ap not (sym e)

alike_to : (a b : Bool) → is_alike a b ≡ true → a ≡ b
alike_to true b e = sym e
alike_to false true e = absurd cc
alike_to false false e = refl

not_to : (b : Bool) → not b ≡ true → b ≡ false
not_to true e = absurd cc
not_to false e = refl

not_from : (b : Bool) → b ≡ false → not b ≡ true
not_from true e = absurd cc
not_from false e = refl

true_from : (b : Bool) → (b ≡ false → ⊥) → b ≡ true
true_from true never = refl
true_from false never = absurd (never refl)

-- four tests of which two always pass
four : (a named gone puts x y : Bool) → a ≡ x → named ≡ true → gone ≡ true → puts ≡ y → (a && (named && (gone && puts))) ≡ (x && y)
four a named gone puts x y e f g h =
    ap (λ (b : Bool). b && (named && (gone && puts))) e ∙ ap (λ (b : Bool). x && (b && (gone && puts))) f ∙ ap (λ (b : Bool). x && (true && (b && puts))) g ∙ ap (λ (b : Bool). x && b) h

-- records accept a body where one of them does
accepts_is : (J : List Record) (u : Update) → is_accepted_in J u ≡ is_body_in u (accepted J)
accepts_is [] u = refl
accepts_is (r ∷ rs) u = ap (λ (b : Bool). is_body_in u (accepted_by r) || b) (accepts_is rs u) ∙ any_behind (λ (t : Update). same_body t u) (accepted_by r) (accepted rs)

-- ---- rows

module _ (us : List Update) (before : Update → Update → Bool) where
  abbrev rows : List (List Bool)
  rows = table_of before us

  -- observed where these are held: one of them, or before one of them
  abbrev pub is_observed : (Update → Bool) → Update → Bool
  is_observed held u = held u || list_any (λ w. before u w && held w) us

  -- of a key, and so observed
  abbrev pub is_among_key : (Update → Bool) → List ℕ → Update → Bool
  is_among_key held key u = is_observed held u && writes key u

  -- of these, and before none of them
  abbrev pub is_last_of : (Update → Bool) → Update → Bool
  is_last_of among u = among u && not (list_any (λ w. before u w && among w) us)

  reached_is : (set : Update → Bool) → reached_by rows (map set us) ≡ map (λ u. list_any (λ w. before u w && set w) us) us
  reached_is set = reached_from us where
    reached_from : (vs : List Update) → map (λ row. is_met row (map set us)) (map (λ a. map (λ b. before a b) us) vs) ≡ map (λ u. list_any (λ w. before u w && set w) us) vs
    reached_from [] = refl
    reached_from (v ∷ vs) = ap (λ (b : Bool). b ∷ map (λ row. is_met row (map set us)) (map (λ a. map (λ b. before a b) us) vs)) (zip_any (λ a b. a && b) (λ b. before v b) set us)
        ∙ ap (λ (bs : List Bool). list_any (λ w. before v w && set w) us ∷ bs) (reached_from vs)

  observed_is : (held : Update → Bool) (key : List ℕ) → observed_row us rows key (map held us) ≡ map (is_among_key held key) us
  observed_is held key =
      let near : Update → Bool = λ u. list_any (λ w. before u w && held w) us in
      ap (λ (bs : List Bool). both_of (either_of (map held us) bs) (key_row us key)) (reached_is held)
      ∙ ap (λ (bs : List Bool). both_of bs (key_row us key)) (zip_map (λ a b. a || b) held near us)
      ∙ zip_map (λ a b. a && b) (is_observed held) (writes key) us

  last_is : (among : Update → Bool) → last_row rows (map among us) ≡ map (is_last_of among) us
  last_is among =
      ap (λ (bs : List Bool). without_of (map among us) bs) (reached_is among)
      ∙ zip_map (λ a b. a && not b) among (λ u. list_any (λ w. before u w && among w) us) us

-- ---- a read of a world

any_filtered : {X : Type 0} (seen test : X → Bool) (xs : List X) → list_any test (filter seen xs) ≡ list_any (λ x. seen x && test x) xs
any_filtered seen test [] = refl
any_filtered seen test (x ∷ xs) = by_test (seen x) (any_filtered seen test xs) where
  by_test : (b : Bool) → list_any test (filter seen xs) ≡ list_any (λ x. seen x && test x) xs → list_any test (cond b (x ∷ filter seen xs) (filter seen xs)) ≡ ((b && test x) || list_any (λ x. seen x && test x) xs)
  by_test true rest = ap (λ (c : Bool). test x || c) rest
  by_test false rest = rest

same_any : {X : Type 0} (f g : X → Bool) (xs : List X) → ((x : X) → IsIn x xs → f x ≡ g x) → list_any f xs ≡ list_any g xs
same_any f g [] same = refl
same_any f g (x ∷ xs) same = ap (λ (b : Bool). b || list_any f xs) (same x (inl refl)) ∙ ap (λ (b : Bool). g x || b) (same_any f g xs (λ y on. same y (inr on)))

and_turned : (a b c : Bool) → (a && (b && c)) ≡ (c && (a && b))
and_turned true true true = refl
and_turned true true false = refl
and_turned true false true = refl
and_turned true false false = refl
and_turned false b true = refl
and_turned false b false = refl

rises_from : (us : List Update) → RisesStrictly us → rises_strictly us ≡ true
rises_from [] rise = refl
rises_from (u ∷ us) rise = and_from (list_all (λ v. is_lt (listed u v)) us) (rises_strictly us) (all_tests_from (λ v. is_lt (listed u v)) us rise.0) (rises_from us rise.1)

-- what is answered of an update as a trace has it
told_both : (s : Shown) (a : Answered) → answered s ≡ answered_of a → (id_of_update s.update ≡ a.id) × (s.seen ≡ sighting_of a.shown)
told_both s a e = (ap (λ (x : _). x.id) e, ap (λ (x : _). x.shown) e)

-- a read of a node of the world, as a trace has it
pub record IsReadOf (W : World) (c : Correct) (place : ℕ) (r : Read) (t : ReadTrace) : Type 0 where
  pub on : IsIn c W.nodes
  pub at : slice_get c.reads place ≡ Some r
  pub length : r.at ≡ t.length
  pub key : r.key ≡ t.key
  pub answer : map answered r.answer ≡ map answered_of t.answer

module _ (W : World) (world : IsWorld W) (js : List TracedJournal) (puts : (key : List ℕ) (s : Shown) → is_put_by_writer W key s ≡ is_put_in_each js key s.update s.seen) (c : Correct) (place : ℕ) (r : Read) (t : ReadTrace) (is : IsReadOf W c place r t) where
  abbrev K : List Record
  K = take r.at c.journal

  abbrev us : List Update
  us = writes_once W

  abbrev before : Update → Update → Bool
  before = observed_by_parents W

  abbrev held : Update → Bool
  held u = is_accepted_in K u

  answers : IsRead c.journal r
  answers = (world.correct c is.on).reads r (in_at c.reads place r is.at)

  kept : (u : Update) → IsIn u (accepted K) → IsIn u (writes_of W)
  kept u on = write_from W c u is.on (taken_in accepted_by u r.at c.journal on)

  kept_once : (u : Update) → IsIn u (accepted K) → IsIn u us
  kept_once u on = once_from W world u (kept u on)

  kept_fit : AllFit (accepted K)
  kept_fit u on = write_fits W world u (kept u on)

  once_fits : (u : Update) → IsIn u us → IsUpdate u
  once_fits u on = write_fits W world u (once_to W world u on)

  held_to : (u : Update) → IsIn u us → held u ≡ true → IsIn u (accepted K)
  held_to u on e = body_in_to u (accepted K) (once_fits u on) kept_fit (sym (accepts_is K u) ∙ e)

  held_from : (u : Update) → IsIn u (accepted K) → held u ≡ true
  held_from u on = accepts_is K u ∙ body_in_from u (accepted K) on

  -- ---- what is observed before it

  seen_is : (u : Update) → IsIn u us → is_observed us before held u ≡ observed W (write u) (read_at c place r)
  seen_is u on = one_test _ _
      (λ e. sym' (elim (or_cases (held u) (list_any (λ w. before u w && held w) us) e) [
        | inl here ↦ any_from (λ (x : Update). same_body u x || before u x) u (accepted K) (held_to u on here) (or_left _ _ (body_from u u refl))
        | inr near ↦
            let w = any_to (λ (w : Update). before u w && held w) us near in
            let p = and_parts (before u w.0) (held w.0) w.1.1 in
            any_from (λ (x : Update). same_body u x || before u x) w.0 (accepted K) (held_to w.0 w.1.0 p.1) (or_right (same_body u w.0) _ p.0)
      ]))
      (λ e.
      let x = any_to (λ (x : Update). same_body u x || before u x) (accepted K) (sym alone ∙ e) in
      elim (or_cases (same_body u x.0) (before u x.0) x.1.1) [
        | inl same ↦ or_left _ _ (held_from u (subst (λ (y : Update). IsIn y (accepted K)) (sym (body_is u x.0 (once_fits u on) (kept_fit x.0 x.1.0) same)) x.1.0))
        | inr near ↦ or_right (held u) _ (any_from (λ (w : Update). before u w && held w) x.0 us (kept_once x.0 x.1.0) (and_from _ _ near (held_from x.0 x.1.0)))
      ]) where
        alone : observed W (write u) (read_at c place r) ≡ observed_by_read W u c r
        alone = reads_alone W world u c place r (once_to W world u on) is.on is.at

        sym' : observed_by_read W u c r ≡ true → observed W (write u) (read_at c place r) ≡ true
        sym' e = alone ∙ e

  abbrev among : Update → Bool
  among u = is_among_key us before held r.key u

  -- the writes of the key that are observed before it, and before none of them
  abbrev wanted : List Update
  wanted = last_writes W r.key (observed_writes W (read_at c place r))

  abbrev seen : Update → Bool
  seen u = observed W (write u) (read_at c place r)

  followed_is : (u : Update) → IsIn u us → list_any (λ v. writes r.key v && observed W (write u) (write v)) (filter seen us) ≡ list_any (λ w. before u w && among w) us
  followed_is u on = any_filtered seen (λ v. writes r.key v && observed W (write u) (write v)) us
      ∙ same_any (λ v. seen v && (writes r.key v && observed W (write u) (write v))) (λ w. before u w && among w) us (λ v v_on.
      ap (λ (b : Bool). b && (writes r.key v && observed W (write u) (write v))) (sym (seen_is v v_on))
      ∙ ap (λ (b : Bool). is_observed us before held v && (writes r.key v && b)) (writes_alone W world u v (once_to W world u on) (once_to W world v v_on))
      ∙ and_turned (is_observed us before held v) (writes r.key v) (before u v))

  last_to : (u : Update) → IsIn u us → is_last_of us before among u ≡ true → IsIn u wanted
  unfolding last_writes observed_writes
  last_to u on e =
      let p = and_parts (among u) (not (list_any (λ w. before u w && among w) us)) e in
      let q = and_parts (is_observed us before held u) (writes r.key u) p.0 in
      in_filter (λ u. writes r.key u && not (list_any (λ v. writes r.key v && observed W (write u) (write v)) (filter seen us))) u (filter seen us)
      (in_filter seen u us on (sym (seen_is u on) ∙ q.0))
      (and_from _ _ q.1 (ap not (followed_is u on) ∙ p.1))

  last_from : (u : Update) → IsIn u wanted → IsIn u us × (is_last_of us before among u ≡ true)
  unfolding last_writes observed_writes
  last_from u on =
      let f = from_filter (λ u. writes r.key u && not (list_any (λ v. writes r.key v && observed W (write u) (write v)) (filter seen us))) u (filter seen us) on in
      let g = from_filter seen u us f.0 in
      let p = and_parts (writes r.key u) (not (list_any (λ v. writes r.key v && observed W (write u) (write v)) (filter seen us))) f.1 in
      (g.0, and_from _ _ (and_from _ _ (seen_is u g.0 ∙ g.1) p.0) (ap not (sym (followed_is u g.0)) ∙ p.1))

  -- ---- what it lists

  abbrev L : List Update
  L = map (λ (s : Shown). s.update) r.answer

  listed_kept : (u : Update) → IsIn u L → IsIn u (accepted K)
  listed_kept u on = (answers.latest.only u on).known

  shown_kept : (s : Shown) → IsIn s r.answer → IsIn s.update (accepted K)
  shown_kept s on = listed_kept s.update (in_map (λ (x : Shown). x.update) s r.answer on)

  one_id : (v u : Update) → IsIn v (accepted K) → IsIn u (accepted K) → id_of_update v ≡ id_of_update u → v ≡ u
  one_id v u v_on u_on e = one_of_id [] (accepted K) v u (lawful_is_causal (setting_of W c) K (taken_lawful W world c r.at is.on)) v_on u_on e

  -- what is shown and what the trace has are side by side
  record IsTold (a : Answered) (u : Update) : Type 0 where
    pub shown : Shown
    pub on : IsIn shown r.answer
    pub update : shown.update ≡ u
    pub seen : shown.seen ≡ sighting_of a.shown

  told_of : (a : Answered) (u : Update) → IsIn a t.answer → IsIn u (accepted K) → a.id ≡ id_of_update u → IsTold a u
  told_of a u a_on u_on e =
      let s = from_map answered (answered_of a) r.answer (subst (λ (xs : List _). IsIn (answered_of a) xs) (sym is.answer) (in_map answered_of a t.answer a_on)) in
      let both = told_both s.0 a s.1.1 in
      record { shown = s.0; on = s.1.0; update = one_id s.0.update u (shown_kept s.0 s.1.0) u_on (both.0 ∙ e); seen = both.1 }

  answer_of : (s : Shown) → IsIn s r.answer → (a : Answered) × (IsIn a t.answer × (answered_of a ≡ answered s))
  answer_of s on = from_map answered_of (answered s) t.answer (subst (λ (xs : List _). IsIn (answered s) xs) is.answer (in_map answered s r.answer on))

  abbrev is_listed : Update → Bool
  is_listed u = held u && is_answered t.answer u

  listed_to : (u : Update) → IsIn u us → is_listed u ≡ true → IsIn u L
  listed_to u on e =
      let p = and_parts (held u) (is_answered t.answer u) e in
      let a = any_to (λ (a : Answered). bytes_eq a.id (id_of_update u)) t.answer p.1 in
      let s = told_of a.0 u a.1.0 (held_to u on p.0) ((bytes_eq-Decides a.0.id (id_of_update u)).0 a.1.1) in
      subst (λ (v : Update). IsIn v L) s.update (in_map (λ (x : Shown). x.update) s.shown r.answer s.on)

  shown_listed : (s : Shown) → IsIn s r.answer → is_listed s.update ≡ true
  shown_listed s on =
      let a = answer_of s on in
      let both = told_both s a.0 (sym a.1.1) in
      and_from _ _ (held_from s.update (shown_kept s on)) (any_from (λ (x : Answered). bytes_eq x.id (id_of_update s.update)) a.0 t.answer a.1.0 ((bytes_eq-Decides a.0.id (id_of_update s.update)).1 (sym both.0)))

  listed_from : (u : Update) → IsIn u L → is_listed u ≡ true
  listed_from u on =
      let s = from_map (λ (x : Shown). x.update) u r.answer on in
      subst (λ (v : Update). is_listed v ≡ true) s.1.1 (shown_listed s.0 s.1.0)

  wanted_fit : AllFit wanted
  wanted_fit u on = once_fits u (last_from u on).0

  lists_is : list_all (λ u. is_alike (is_last_of us before among u) (is_listed u)) us ≡ lists_just L wanted
  lists_is = one_test _ _
      (λ e. and_from _ _
      (each_from (λ u. is_body_in u L) wanted (λ u on.
      let l = last_from u on in
      body_in_from u L (listed_to u l.0 (sym (alike_to _ _ (each_to (λ u. is_alike (is_last_of us before among u) (is_listed u)) u us l.0 e)) ∙ l.1))))
      (and_from _ _
      (each_from (λ u. is_body_in u wanted) L (λ u on.
      let u_on = kept_once u (listed_kept u on) in
      body_in_from u wanted (last_to u u_on (alike_to _ _ (each_to (λ u. is_alike (is_last_of us before among u) (is_listed u)) u us u_on e) ∙ listed_from u on))))
      (rises_from L answers.latest.rising)))
      (λ e.
      let p = and_parts (list_all (λ u. is_body_in u L) wanted) (list_all (λ u. is_body_in u wanted) L && rises_strictly L) e in
      let q = and_parts (list_all (λ u. is_body_in u wanted) L) (rises_strictly L) p.1 in
      each_from (λ u. is_alike (is_last_of us before among u) (is_listed u)) us (λ u on. alike_from _ _ (one_test _ _
      (λ last. listed_from u (body_in_to u L (once_fits u on) (λ v v_on. kept_fit v (listed_kept v v_on)) (each_to (λ u. is_body_in u L) u wanted (last_to u on last) p.0)))
      (λ listed. (last_from u (body_in_to u wanted (once_fits u on) wanted_fit (each_to (λ u. is_body_in u wanted) u L (listed_to u on listed) q.0))).1))))

  -- ---- who put what it lists

  puts_are : not (list_any (λ u. is_listed u && is_unput js t.key t.answer u) us) ≡ list_all (is_put_by_writer W t.key) r.answer
  puts_are = one_test _ _
      (λ e. each_from (is_put_by_writer W t.key) r.answer (λ s on.
      let a = answer_of s on in
      let both = told_both s a.0 (sym a.1.1) in
      puts t.key s ∙ true_from _ (λ lacks.
      both_ways (list_any (λ u. is_listed u && is_unput js t.key t.answer u) us) (not_to _ e)
      (any_from (λ u. is_listed u && is_unput js t.key t.answer u) s.update us (kept_once s.update (shown_kept s on)) (and_from _ _ (shown_listed s on)
      (any_from (λ (x : Answered). bytes_eq x.id (id_of_update s.update) && not (is_put_in_each js t.key s.update (sighting_of x.shown))) a.0 t.answer a.1.0 (and_from _ _
      ((bytes_eq-Decides a.0.id (id_of_update s.update)).1 (sym both.0))
      (not_from _ (ap (λ (x : Sighting). is_put_in_each js t.key s.update x) (sym both.1) ∙ lacks)))))))))
      (λ e. not_from _ (false_from_ne_true _ (λ met.
      let u = any_to (λ (u : Update). is_listed u && is_unput js t.key t.answer u) us met in
      let p = and_parts (is_listed u.0) (is_unput js t.key t.answer u.0) u.1.1 in
      let a = any_to (λ (a : Answered). bytes_eq a.id (id_of_update u.0) && not (is_put_in_each js t.key u.0 (sighting_of a.shown))) t.answer p.1 in
      let q = and_parts (bytes_eq a.0.id (id_of_update u.0)) (not (is_put_in_each js t.key u.0 (sighting_of a.0.shown))) a.1.1 in
      let s = told_of a.0 u.0 a.1.0 (held_to u.0 u.1.0 (and_parts (held u.0) (is_answered t.answer u.0) p.0).0) ((bytes_eq-Decides a.0.id (id_of_update u.0)).0 q.0) in
      both_ways (is_put_in_each js t.key u.0 (sighting_of a.0.shown)) (not_to _ q.1)
      (ap (λ (v : Update). is_put_in_each js t.key v (sighting_of a.0.shown)) (sym s.update)
      ∙ ap (λ (x : Sighting). is_put_in_each js t.key s.shown.update x) (sym s.seen)
      ∙ sym (puts t.key s.shown)
      ∙ each_to (is_put_by_writer W t.key) s.shown r.answer s.on e))))

  -- ---- the rows

  rows_are : are_alike (last_row (table_of before us) (observed_row us (table_of before us) r.key (map held us))) (listed_row us t.answer (map held us)) ≡ list_all (λ u. is_alike (is_last_of us before among u) (is_listed u)) us
  rows_are =
      ap (λ (bs : List Bool). are_alike (last_row (table_of before us) bs) (listed_row us t.answer (map held us))) (observed_is us before held r.key)
      ∙ ap (λ (bs : List Bool). are_alike bs (listed_row us t.answer (map held us))) (last_is us before among)
      ∙ ap (λ (bs : List Bool). are_alike (map (is_last_of us before among) us) bs) (zip_map (λ a b. a && b) held (is_answered t.answer) us)
      ∙ zip_all is_alike (is_last_of us before among) is_listed us

  met_is : is_met (listed_row us t.answer (map held us)) (map (is_unput js t.key t.answer) us) ≡ list_any (λ u. is_listed u && is_unput js t.key t.answer u) us
  met_is =
      ap (λ (bs : List Bool). is_met bs (map (is_unput js t.key t.answer) us)) (zip_map (λ a b. a && b) held (is_answered t.answer) us)
      ∙ zip_any (λ a b. a && b) is_listed (is_unput js t.key t.answer) us

  pub exact_is : is_exact W c place r ≡ is_exact_by js us (table_of before us) K t
  unfolding is_exact is_exact_by
  exact_is = four _ _ _ _ _ _
      (sym lists_is ∙ sym rows_are ∙ ap (λ (k : List ℕ). are_alike (last_row (table_of before us) (observed_row us (table_of before us) k (map held us))) (listed_row us t.answer (map held us))) is.key)
      (each_from (shows_named r.key) r.answer (λ s on. shown_named K r.key s (answers.values s on)))
      (each_from (shows_gone r.key) r.answer (λ s on. shown_gone K r.key s (answers.values s on)))
      (ap (λ (k : List ℕ). list_all (is_put_by_writer W k) r.answer) is.key ∙ sym puts_are ∙ ap not (sym met_is))
