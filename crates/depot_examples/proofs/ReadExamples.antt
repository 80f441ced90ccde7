-- Worked examples of exact reads of an update that writes several keys: the value of another key, and a deletion that
-- is shown as a value that isn't held. Of each pair the right read differs only in what it shows.
use Rattle.std.proofs.Common.{◌≡◌, ◌↔◌, ◌∙◌, ℕ, zero, suc, List, [], ◌∷◌, true, Some, None, Option, refl, sym, ap, subst, arith, inl, inr}
use Rattle.std.specs.Prelude.{map, drop, slice_get}
use Rattle.sha2.specs.Sha256.{sha256, first_words, schedule, rounds, compress, hash_after, digest_bytes}
use Rattle.depot_base.specs.Zeros.{zeros}
use Rattle.depot_base.specs.declared.update.Update.{Update}
use Rattle.depot_base.specs.declared.write.Write.{Write}
use Rattle.depot_base.specs.declared.write.Wrote.{Wrote}
use Rattle.depot_base.specs.declared.write.Wrote.TheVariants.{Put, Gone}
use Rattle.depot_base.specs.declared.statement.Statement.TheVariants as statements
use Rattle.depot_base.specs.declared.record.Record.{Record}
use Rattle.depot_base.specs.declared.record.Record.TheVariants.{Birth, Foreign}
use Rattle.depot_model.specs.lists.Lists.{IsIn}
use Rattle.depot_model.specs.updates.Order.{IsPath, IsLatest}
use Rattle.depot_model.specs.texts.Contents.{Sighting, held_value, not_held, gone, IfHeld, IsValueOf, wrote_under}
use Rattle.depot_model.specs.worlds.World.{Shown, Read, Correct, World}
use Rattle.depot_model.specs.worlds.Causality.{Operation, write, read_at, IsOperation, Edge, ObservedBefore, IsExact, puts_of}
use Rattle.depot_model.proofs.of_updates.Orders.{leads_one}

-- an update of node 2, which is no node of the worlds below, so that nothing is asked of what it put
abbrev of_two : List Write → Update
of_two ws = record { writer = 2; seq = 0; clock = 1; prev = zeros; writes = ws; deps = []; history = zeros }

abbrev told : Update → Record
told u = Foreign (record { statement = statements.Update u; body = []; signature = [] })

abbrev k : List ℕ
k = 107 ∷ []

-- node 1 has taken it, and reads its key: this is shown of it
abbrev showing : List Write → Sighting → Read
showing ws what = record { at = 2; key = k; answer = record { update = of_two ws; seen = what } ∷ [] }

abbrev reader : List Write → Sighting → Correct
reader ws what = record { node = 1; journal = Birth 1 zeros ∷ told (of_two ws) ∷ []; reads = showing ws what ∷ [] }

abbrev world : List Write → Sighting → World
world ws what = record { verifies = λ key seq body signature. true; listed = []; nodes = reader ws what ∷ []; judged = [] }

abbrev IsExactWith : List Write → Sighting → Type 0
IsExactWith ws what = IsExact (world ws what) (reader ws what) 0 (showing ws what)

-- ---- what is the same of all these reads

is_operation : (W : World) (a b : Operation) → ObservedBefore W a b → IsOperation W a
is_operation W a b o = first a o.stops o.path where
  first : (x : Operation) (stops : List Operation) → IsPath (Edge W) x stops b → IsOperation W x
  first x [] path = path.above
  first x (y ∷ stops) path = path.0.above

module _ (ws : List Write) (what : Sighting) where
  -- nothing precedes the one update: it names none, and no node put it
  none_before : (a : Operation) → Edge (world ws what) a (write (of_two ws)) → ⊥
  none_before (write t) e = e.step
  none_before (read_at c place r) e = of_node c place r e.above.0 e.above.1 e.step where
    of_reader : (place : ℕ) (r : Read) → slice_get (reader ws what).reads place ≡ Some r → IsIn (of_two ws) (puts_of (drop r.at (reader ws what).journal)) → ⊥
    of_reader zero r got step = subst (λ (x : Read). IsIn (of_two ws) (puts_of (drop x.at (reader ws what).journal))) (the_one got) step where
      the_one : Some (showing ws what) ≡ Some r → r ≡ showing ws what
      the_one same = cc
    of_reader (suc place) r got step = absurd cc

    of_node : (c : Correct) (place : ℕ) (r : Read) → IsIn c (reader ws what ∷ []) → slice_get c.reads place ≡ Some r → IsIn (of_two ws) (puts_of (drop r.at c.journal)) → ⊥
    of_node c place r (inl same) got step = of_reader place r (subst (λ (x : Correct). slice_get x.reads place ≡ Some r) (sym same) got) (subst (λ (x : Correct). IsIn (of_two ws) (puts_of (drop r.at x.journal))) (sym same) step)
    of_node c place r (inr none) got step = none

  never : (a : Operation) → ObservedBefore (world ws what) a (write (of_two ws)) → ⊥
  never a o = go a o.stops o.path where
    go : (x : Operation) (stops : List Operation) → IsPath (Edge (world ws what)) x stops (write (of_two ws)) → ⊥
    go x [] path = none_before x path
    go x (y ∷ stops) path = go y stops path.1

  -- so the read lists what it is to list, whatever it shows
  latest_of : (u : Update) → IsIn u (of_two ws ∷ []) → IsIn k (map (λ w. w.key) ws)
      → IsLatest k (λ v. ObservedBefore (world ws what) (write v) (read_at (reader ws what) 0 (showing ws what))) (λ t v. ObservedBefore (world ws what) (write t) (write v)) u
  latest_of u (inl same) writes = subst (λ (x : Update). IsLatest k (λ v. ObservedBefore (world ws what) (write v) (read_at (reader ws what) 0 (showing ws what))) (λ t v. ObservedBefore (world ws what) (write t) (write v)) x) same (record {
    known = leads_one (Edge (world ws what)) _ _ (record { above = inl refl; below = (inl refl, refl); step = inl refl });
    writes = writes;
    last = λ v v_seen also before. elim (is_operation (world ws what) (write v) (read_at (reader ws what) 0 (showing ws what)) v_seen) [
      | inl is ↦ never (write (of_two ws)) (subst (λ (x : Update). ObservedBefore (world ws what) (write (of_two ws)) (write x)) (sym is) before)
      | inr none ↦ none
    ];
  })
  latest_of u (inr none) writes = absurd none

  of_one : (s : Shown) → IsIn s (showing ws what).answer → record { update = of_two ws; seen = what } ≡ s
  of_one s (inl same) = same
  of_one s (inr none) = absurd none

  -- it is exact where it shows a value that the write of its key names, and a deletion just where this write is one
  is_exact : IsIn k (map (λ w. w.key) ws) → IfHeld what (λ v. IsValueOf k (of_two ws) v) → ((what ≡ gone) ↔ (wrote_under k ws ≡ Some Gone)) → IsExactWith ws what
  is_exact writes named gone_shown = record {
    latest = record { all = λ u l. is_operation (world ws what) (write u) (read_at (reader ws what) 0 (showing ws what)) l.known; only = λ u on. latest_of u on writes; rising = (tt, tt) };
    named = λ s on. subst (λ (x : Shown). IfHeld x.seen (λ v. IsValueOf k x.update v)) (of_one s on) named;
    gone_shown = λ s on. subst (λ (x : Shown). (x.seen ≡ gone) ↔ (wrote_under k x.update.writes ≡ Some Gone)) (of_one s on) gone_shown;
    put = λ s d on d_on by. absurd (other_writer s d (of_one s on) d_on by);
  } where
    other_writer : (s : Shown) (d : Correct) → record { update = of_two ws; seen = what } ≡ s → IsIn d (reader ws what ∷ []) → s.update.writer ≡ d.node → ⊥
    other_writer s d is (inl same) by = let two : 2 ≡ 1 = ap (λ (x : Shown). x.update.writer) is ∙ by ∙ ap (λ (x : Correct). x.node) (sym same) in omega (arith, two)
    other_writer s d is (inr none) by = none

-- ---- the value of another key

abbrev two_values : List Write
two_values = record { key = k; what = Put (sha256 (97 ∷ [])) 1 } ∷ record { key = 109 ∷ []; what = Put (sha256 (98 ∷ [])) 1 } ∷ []

its_value : IsExactWith two_values (held_value (97 ∷ []))
its_value = is_exact two_values (held_value (97 ∷ [])) (inl refl) refl ((λ same. absurd cc), (λ same. absurd cc))

abbrev byte_of : Option Wrote → ℕ
byte_of None = 0
byte_of (Some (Put (b ∷ hash) size)) = b
byte_of (Some (Put [] size)) = 0
byte_of (Some Gone) = 0

not_of_another_key : IsExactWith two_values (held_value (98 ∷ [])) → ⊥
unfolding sha256 first_words schedule rounds compress hash_after digest_bytes
not_of_another_key e = let met : 202 ≡ 62 = ap byte_of (e.named (record { update = of_two two_values; seen = held_value (98 ∷ []) }) (inl refl)) in omega (arith, met)

-- ---- a deletion

abbrev deleted : List Write
deleted = record { key = k; what = Gone } ∷ []

deletion_shown : IsExactWith deleted gone
deletion_shown = is_exact deleted gone (inl refl) tt ((λ same. refl), (λ same. refl))

-- it isn't shown as a value that isn't held
not_as_lacking : IsExactWith deleted not_held → ⊥
not_as_lacking e = is_other ((e.gone_shown (record { update = of_two deleted; seen = not_held }) (inl refl)).1 refl) where
  is_other : not_held ≡ gone → ⊥
  is_other same = absurd cc
