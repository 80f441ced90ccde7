-- The test of a read passes where the read is exact.
use Rattle.std.proofs.Common.{◌≡◌, ℕ, ◌==◌, ◌&&◌, ◌||◌, Bool, true, false, not, List, [], ◌∷◌, map, Some, refl, ap, inl, inr, slice_get}
use Rattle.std.specs.List.{list_any, list_all}
use Rattle.std.specs.Ordering.{is_lt}
use Rattle.std.proofs.lemmas.Bool.{and_parts, and_from, or_left, or_right, both_ways, cases_Bool, false_from_ne_true, eqb-true, eq-eqb}
use Rattle.depot_base.specs.declared.update.Update.{Update}
use Rattle.depot_base.specs.declared.record.Record.{Record}
use Rattle.depot_model.specs.lists.Lists.{IsIn}
use Rattle.depot_model.specs.texts.Texts.{IsUpdate}
use Rattle.depot_model.specs.updates.Order.{RisesStrictly, IsLatest, AreLatest, listed}
use Rattle.depot_model.specs.texts.Contents.{writes, IsValueOf}
use Rattle.depot_model.specs.journals.Journal.{accepted_by}
use Rattle.depot_model.specs.worlds.World.{Shown, Read, Correct, World, IsWorld}
use Rattle.depot_model.specs.worlds.Causality.{Operation, write, read_at, IsOperation, ObservedBefore, HasPut, IsExact, puts_of}
use Rattle.depot_model.proofs.of_texts.ContentLaws.{writes-Decides}
use Rattle.depot_model.proofs.lists.Elements.{in_at}
use Rattle.depot_model.proofs.lists.Members.{in_parts, in_map, from_filter, in_filter, any_from, any_to}
use Rattle.depot_laws.proofs.lists.Tests.{fails_from_not}
use Rattle.depot_laws.proofs.lists.Splits.{flat_gives}
use Rattle.depot_laws.proofs.own_updates.Puts.{put_by, put_is_accepted}
use Rattle.depot_laws.proofs.of_worlds.Worlds.{taken_in, write_from, write_fits}
use Rattle.depot_model.specs.worlds.Audit.{is_body_in, writes_once, observed, observed_writes, last_writes, rises_strictly, lists_just, shows_named, shows_gone, is_put_by_writer, is_exact}
use Rattle.depot_laws.proofs.lists.EachPasses.{each_to, each_from, all_tests_to, all_tests_from}
use Rattle.depot_model.specs.worlds.ReadTests.{is_value_of, is_put_of}
use Rattle.depot_laws.proofs.of_audits.ReadTestLaws.{value_to, value_from, if_held_to, if_held_from, gone_is, gone_from_is, put_to, put_from}
use Rattle.depot_laws.proofs.orders.SameBodies.{AllFit, body_in_from, body_in_to}
use Rattle.depot_laws.proofs.of_worlds.ObservedTests.{once_to, once_from, observed_from, observed_to, observed_above}

-- ---- the listed order

rises_to : (us : List Update) → rises_strictly us ≡ true → RisesStrictly us
rises_to [] e = tt
rises_to (u ∷ us) e = let p = and_parts (list_all (λ v. is_lt (listed u v)) us) (rises_strictly us) e in (all_tests_to (λ v. is_lt (listed u v)) us p.0, rises_to us p.1)

rises_from : (us : List Update) → RisesStrictly us → rises_strictly us ≡ true
rises_from [] rise = refl
rises_from (u ∷ us) rise = and_from (list_all (λ v. is_lt (listed u v)) us) (rises_strictly us) (all_tests_from (λ v. is_lt (listed u v)) us rise.0) (rises_from us rise.1)

second : (b c : Bool) → b ≡ true → (not b || c) ≡ true → c ≡ true
second true c is e = e
second false c is e = absurd cc

one_put_in : (u : Update) (r : Record) → IsIn u (puts_of (r ∷ [])) → IsIn u (put_by r)
one_put_in u r on = elim (in_parts u (put_by r) [] on) [ inl here ↦ here | inr never ↦ absurd never ]

module _ (W : World) (world : IsWorld W) where
  -- ---- the writes that are observed before an operation

  seen_to : (u : Update) (o : Operation) → IsOperation W o → IsIn u (observed_writes W o) → ObservedBefore W (write u) o
  unfolding observed_writes
  seen_to u o o_on on = let f = from_filter (λ (x : Update). observed W (write x) o) u (writes_once W) on in observed_to W world (write u) o (once_to W world u f.0) o_on f.1

  seen_from : (u : Update) (o : Operation) → ObservedBefore W (write u) o → IsIn u (observed_writes W o)
  unfolding observed_writes
  seen_from u o before = in_filter (λ (x : Update). observed W (write x) o) u (writes_once W) (once_from W world u (observed_above W world (write u) o before)) (observed_from W world (write u) o before)

  -- the latest of them
  last_to : (key : List ℕ) (o : Operation) (u : Update) → IsOperation W o → IsIn u (last_writes W key (observed_writes W o)) → IsLatest key (λ u. ObservedBefore W (write u) o) (λ t u. ObservedBefore W (write t) (write u)) u
  unfolding last_writes
  last_to key o u o_on on =
      let us = observed_writes W o in
      let f = from_filter (λ (x : Update). writes key x && not (list_any (λ (v : Update). writes key v && observed W (write x) (write v)) us)) u us on in
      let p = and_parts (writes key u) (not (list_any (λ (v : Update). writes key v && observed W (write u) (write v)) us)) f.1 in
      record {
        known = seen_to u o o_on f.0;
        writes = (writes-Decides key u).0 p.0;
        last = λ v v_on v_key before. both_ways _ (fails_from_not _ p.1) (any_from (λ (x : Update). writes key x && observed W (write u) (write x)) v us (seen_from v o v_on) (and_from _ _ ((writes-Decides key v).1 v_key) (observed_from W world (write u) (write v) before)));
      }

  last_from : (key : List ℕ) (o : Operation) (u : Update) → IsOperation W o → IsLatest key (λ u. ObservedBefore W (write u) o) (λ t u. ObservedBefore W (write t) (write u)) u → IsIn u (last_writes W key (observed_writes W o))
  unfolding last_writes
  last_from key o u o_on l =
      let us = observed_writes W o in
      in_filter (λ (x : Update). writes key x && not (list_any (λ (v : Update). writes key v && observed W (write x) (write v)) us)) u us (seen_from u o l.known)
      (and_from _ _ ((writes-Decides key u).1 l.writes) (ap not (false_from_ne_true (list_any (λ (v : Update). writes key v && observed W (write u) (write v)) us) (λ e.
      let v = any_to (λ (v : Update). writes key v && observed W (write u) (write v)) us e in
      let p = and_parts (writes key v.0) (observed W (write u) (write v.0)) v.1.1 in
      let v_on = seen_to v.0 o o_on v.1.0 in
      l.last v.0 v_on ((writes-Decides key v.0).0 p.0) (observed_to W world (write u) (write v.0) (observed_above W world (write u) o l.known) (observed_above W world (write v.0) o v_on) p.1)))))

  last_fit : (key : List ℕ) (o : Operation) → IsOperation W o → AllFit (last_writes W key (observed_writes W o))
  last_fit key o o_on u on = write_fits W world u (observed_above W world (write u) o (last_to key o u o_on on).known)

  -- ---- the list of a read

  module _ (c : Correct) (place : ℕ) (r : Read) (c_on : IsIn c W.nodes) (at : slice_get c.reads place ≡ Some r) where
    answer_fit : AllFit (map (λ s. s.update) r.answer)
    answer_fit u on =
        let known = (((world.correct c c_on).reads r (in_at c.reads place r at)).latest.only u on).known in
        write_fits W world u (write_from W c u c_on (taken_in accepted_by u r.at c.journal known))

    shown_fits : (s : Shown) → IsIn s r.answer → IsUpdate s.update
    shown_fits s on = answer_fit s.update (in_map (λ (x : Shown). x.update) s r.answer on)

    listed_to : lists_just (map (λ s. s.update) r.answer) (last_writes W r.key (observed_writes W (read_at c place r))) ≡ true
        → AreLatest r.key (λ u. ObservedBefore W (write u) (read_at c place r)) (λ t u. ObservedBefore W (write t) (write u)) (map (λ s. s.update) r.answer)
    listed_to e =
        let us = map (λ (s : Shown). s.update) r.answer in
        let wanted = last_writes W r.key (observed_writes W (read_at c place r)) in
        let p = and_parts (list_all (λ u. is_body_in u us) wanted) _ e in
        let q = and_parts (list_all (λ u. is_body_in u wanted) us) (rises_strictly us) p.1 in
        let fit = last_fit r.key (read_at c place r) (c_on, at) in
        record {
          all = λ u l. let on = last_from r.key (read_at c place r) u (c_on, at) l in body_in_to u us (fit u on) answer_fit (each_to (λ u. is_body_in u us) u wanted on p.0);
          only = λ u on. last_to r.key (read_at c place r) u (c_on, at) (body_in_to u wanted (answer_fit u on) fit (each_to (λ u. is_body_in u wanted) u us on q.0));
          rising = rises_to us q.1;
        }

    listed_from : AreLatest r.key (λ u. ObservedBefore W (write u) (read_at c place r)) (λ t u. ObservedBefore W (write t) (write u)) (map (λ s. s.update) r.answer)
        → lists_just (map (λ s. s.update) r.answer) (last_writes W r.key (observed_writes W (read_at c place r))) ≡ true
    listed_from l =
        let us = map (λ (s : Shown). s.update) r.answer in
        let wanted = last_writes W r.key (observed_writes W (read_at c place r)) in
        and_from _ _ (each_from (λ u. is_body_in u us) wanted (λ u on. body_in_from u us (l.all u (last_to r.key (read_at c place r) u (c_on, at) on))))
        (and_from _ _ (each_from (λ u. is_body_in u wanted) us (λ u on. body_in_from u wanted (last_from r.key (read_at c place r) u (c_on, at) (l.only u on)))) (rises_from us l.rising))

    -- ---- puts by their writers

    writer_to : (s : Shown) (d : Correct) → IsIn s r.answer → IsIn d W.nodes → s.update.writer ≡ d.node → is_put_by_writer W r.key s ≡ true → HasPut d r.key s
    writer_to s d on d_on writer e =
        let one = each_to (λ (d : Correct). not (s.update.writer == d.node) || list_any (is_put_of r.key s.update s.seen) d.journal) d W.nodes d_on e in
        let found = any_to (is_put_of r.key s.update s.seen) d.journal (second (s.update.writer == d.node) (list_any (is_put_of r.key s.update s.seen) d.journal) (eq-eqb s.update.writer d.node writer) one) in
        record {
          by = found.0;
          kept = found.1.0;
          put = put_to r.key s.update s.seen found.0 (shown_fits s on) (λ u u_on. write_fits W world u (write_from W d u d_on (put_is_accepted u d.journal (flat_gives put_by u found.0 d.journal found.1.0 (one_put_in u found.0 u_on))))) found.1.1;
        }

    writer_from : (s : Shown) → ((d : Correct) → IsIn d W.nodes → s.update.writer ≡ d.node → HasPut d r.key s) → is_put_by_writer W r.key s ≡ true
    writer_from s puts = each_from (λ (d : Correct). not (s.update.writer == d.node) || list_any (is_put_of r.key s.update s.seen) d.journal) W.nodes (λ d d_on. elim (cases_Bool (s.update.writer == d.node)) [
      | inl mine ↦ let p = puts d d_on (eqb-true _ _ mine) in or_right (not (s.update.writer == d.node)) _ (any_from (is_put_of r.key s.update s.seen) p.by d.journal p.kept (put_from r.key s.update s.seen p.by p.put))
      | inr other ↦ or_left (not (s.update.writer == d.node)) _ (ap not other)
    ])

    -- ---- the whole

    -- a read that passes is exact
    pub exact_to : is_exact W c place r ≡ true → IsExact W c place r
    unfolding is_exact
    exact_to e =
        let p = and_parts (lists_just (map (λ (s : Shown). s.update) r.answer) (last_writes W r.key (observed_writes W (read_at c place r)))) _ e in
        let q = and_parts (list_all (shows_named r.key) r.answer) _ p.1 in
        let o = and_parts (list_all (shows_gone r.key) r.answer) (list_all (is_put_by_writer W r.key) r.answer) q.1 in
        record {
          latest = listed_to p.0;
          named = λ s on. if_held_to (is_value_of r.key s.update) (λ v. IsValueOf r.key s.update v) s.seen (λ v is. value_to r.key s.update v is) (each_to (shows_named r.key) s r.answer on q.0);
          gone_shown = λ s on. gone_is r.key s (each_to (shows_gone r.key) s r.answer on o.0);
          put = λ s d on d_on writer. writer_to s d on d_on writer (each_to (is_put_by_writer W r.key) s r.answer on o.1);
        }

    -- and an exact one passes
    pub exact_from : IsExact W c place r → is_exact W c place r ≡ true
    unfolding is_exact
    exact_from x = and_from _ _ (listed_from x.latest) (and_from _ _
        (each_from (shows_named r.key) r.answer (λ s on. if_held_from (is_value_of r.key s.update) (λ v. IsValueOf r.key s.update v) s.seen (λ v is. value_from r.key s.update v is) (x.named s on)))
        (and_from _ _ (each_from (shows_gone r.key) r.answer (λ s on. gone_from_is r.key s (x.gone_shown s on)))
        (each_from (is_put_by_writer W r.key) r.answer (λ s on. writer_from s (λ d d_on writer. x.put s d on d_on writer)))))
