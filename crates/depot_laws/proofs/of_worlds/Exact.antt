-- A read of a correct node lists exactly the latest writes that precede it, with the values that their writers put.
use Rattle.std.proofs.Common.{◌≡◌, ℕ, List, [], ◌∷◌, length, map, take, drop, Bool, true, false, cond, Option, Some, None, refl, sym, ap, subst, ◌∙◌, inl, inr, slice_get}
use Rattle.std.specs.Prelude.{◌↔◌}
use Rattle.std.specs.Option.{option_map_or}
use Rattle.std.specs.List.{flat_map}
use Rattle.std.specs.Str.{bytes_eq}
use Rattle.std.proofs.lemmas.Bool.{both_ways}
use Rattle.sha2.specs.Sha256.{sha256}
use Rattle.depot_base.specs.Statement.{writer_of}
use Rattle.depot_base.specs.declared.update.Update.{Update}
use Rattle.depot_base.specs.declared.statement.Statement.{Statement}
use Rattle.depot_base.specs.declared.statement.Signed.{Signed}
use Rattle.depot_base.specs.declared.record.Record.{Record}
use Rattle.depot_base.specs.declared.record.Record.TheVariants.{OwnPut}
use Rattle.depot_model.specs.lists.Lists.{IsIn}
use Rattle.depot_model.specs.updates.Order.{Precedes, AreLatest}
use Rattle.depot_model.specs.journals.Journal.{accepted, accepted_by, own, foreign, foreign_by, value_by, held_as, seen_as, seen_under}
use Rattle.depot_base.specs.Parts.{hash_in, size_in}
use Rattle.depot_base.specs.Writes.{is_put}
use Rattle.depot_base.specs.declared.write.Wrote.{Wrote}
use Rattle.depot_base.specs.declared.write.Wrote.TheVariants.{Put, Gone}
use Rattle.depot_base.specs.declared.write.Write.{Write}
use Rattle.depot_model.specs.texts.Texts.{first_write}
use Rattle.depot_model.specs.checks.Own.{write_of, changes_of}
use Rattle.depot_model.proofs.lists.Members.{in_left, in_map}
use Rattle.depot_model.proofs.of_updates.Orders.{leads_one}
use Rattle.depot_model.proofs.lists.Elements.{in_at}
use Rattle.depot_model.specs.texts.Contents.{NamedValue, IsValueOf, value_for, wrote_under, Sighting, held_value, not_held, gone, IfHeld}
use Rattle.depot_model.specs.worlds.World.{Shown, Read, Correct, World, setting_of, IsWorld, writes_of, signed_in, signed_met, IsAuthentic}
use Rattle.depot_model.specs.worlds.Causality.{write, read_at, puts_of, Edge, ObservedBefore, HasPut, IsExact}
use Rattle.depot_laws.specs.OneText.{HaveOneText}
use Rattle.depot_laws.proofs.lists.Splits.{given_by, given_too, flat_gives}
use Rattle.depot_laws.proofs.convicting.Contrary.{foreign_is}
use Rattle.depot_laws.proofs.records.HeldValues.{held_as_is}
use Rattle.depot_laws.proofs.own_updates.Nexts.{own_writes}
use Rattle.depot_laws.proofs.orders.ChainLaws.{brought}
use Rattle.depot_laws.proofs.own_updates.Puts.{put_at, put_allowed, put_from_own, put_writer}
use Rattle.depot_laws.proofs.of_worlds.Worlds.{taken_in, in_split, one_node, journal_lawful, taken_lawful, write_from, value_held}
use Rattle.depot_laws.proofs.of_worlds.Traces.{path_is_observed, seen_is_accepted, seen_precedes}

-- ---- values

-- a value of the journal, with the hash and the length that the update's write of the key names
record IsHeldFor (J : List Record) (key : List ℕ) (u : Update) (v : List ℕ) : Type 0 where
  pub on : IsIn v (flat_map value_by J)
  pub named : IsValueOf key u v

shown_is : (o : Option (List ℕ)) (v : List ℕ) → option_map_or held_value o not_held ≡ held_value v → o ≡ Some v
shown_is None v e = absurd cc
shown_is (Some w) v e = let same : w ≡ v = cc in ap (λ (x : List ℕ). Some x) same

-- where a value is shown, the write names one that is held
named_by : (J : List Record) (o : Option Wrote) (v : List ℕ) → option_map_or (seen_as J) o not_held ≡ held_value v → (n : NamedValue) × ((o ≡ Some (Put n.hash n.size)) × (held_as J n ≡ Some v))
named_by J None v e = absurd cc
named_by J (Some Gone) v e = absurd cc
named_by J (Some (Put hash size)) v e = let n : NamedValue = record { hash = hash; size = size } in (n, (refl, shown_is (held_as J n) v e))

value_is : (J : List Record) (key : List ℕ) (u : Update) (v : List ℕ) → seen_under J key u ≡ held_value v → IsHeldFor J key u v
unfolding seen_under
value_is J key u v e =
    let n = named_by J (wrote_under key u.writes) v e in
    let h = held_as_is J n.0 v n.1.1 in
    record { on = h.on; named = n.1.0 ∙ ap (λ (x : List ℕ). Some (Put x n.0.size)) (sym h.hash) ∙ ap (λ (m : ℕ). Some (Put (sha256 v) m)) (sym h.size) }

-- what holds of each value that is shown
of_shown : (P : List ℕ → Type 0) (seen shown : Sighting) → shown ≡ seen → ((v : List ℕ) → seen ≡ held_value v → P v) → IfHeld shown P
of_shown P seen (held_value v) e each = each v (sym e)
of_shown P seen not_held e each = tt
of_shown P seen gone e each = tt

not_gone : (o : Option (List ℕ)) → option_map_or held_value o not_held ≡ gone → ⊥
not_gone None e = absurd cc
not_gone (Some v) e = absurd cc

gone_to : (J : List Record) (o : Option Wrote) → option_map_or (seen_as J) o not_held ≡ gone → o ≡ Some Gone
gone_to J None e = absurd cc
gone_to J (Some Gone) e = refl
gone_to J (Some (Put hash size)) e = absurd (not_gone (held_as J (record { hash = hash; size = size })) e)

-- a deletion is shown exactly where the write of the key is one
gone_is : (J : List Record) (key : List ℕ) (u : Update) (seen : Sighting) → seen ≡ seen_under J key u → (seen ≡ gone) ↔ (wrote_under key u.writes ≡ Some Gone)
unfolding seen_under
gone_is J key u seen is = (λ e. gone_to J (wrote_under key u.writes) (sym is ∙ e), λ e. is ∙ ap (λ (o : Option Wrote). option_map_or (seen_as J) o not_held) e)

-- ---- one set and one order in place of others

same_latest : (key : List ℕ) (A B : Update → Type 0) (R S : Update → Update → Type 0) (us : List Update) → ((u : Update) → A u → B u) → ((u : Update) → B u → A u)
    → ((t u : Update) → A t → A u → R t u → S t u) → ((t u : Update) → A t → A u → S t u → R t u) → AreLatest key A R us → AreLatest key B S us
same_latest key A B R S us to back on off latest = record {
  all = λ u l. latest.all u (record { known = back u l.known; writes = l.writes; last = λ v v_on k before. l.last v (to v v_on) k (on u v (back u l.known) v_on before) });
  only = λ u u_on. let l = latest.only u u_on in record { known = to u l.known; writes = l.writes; last = λ v v_on k before. l.last v (back v v_on) k (off u v l.known (back v v_on) before) };
  rising = latest.rising;
}

-- ---- the put of a correct node

-- of the values that go with writes: that for the write of a key, of the hash and the length that it names
record IsValueFor (key : List ℕ) (ws : List Write) (values : List (List ℕ)) (hash : List ℕ) (size : ℕ) : Type 0 where
  pub value : List ℕ
  pub found : value_for key ws values ≡ Some value
  pub on : IsIn value values
  pub hashed : sha256 value ≡ hash
  pub sized : length value ≡ size

put_is : (g h : List ℕ) (m n : ℕ) → Some (Put g m) ≡ Some (Put h n) → (g ≡ h) × (m ≡ n)
put_is g h m n e = (cc, cc)

-- after one more write, whose key is this one or another
found_behind : (b : Bool) (k key : List ℕ) (what : Wrote) (ws : List Write) (values : List (List ℕ)) (hash : List ℕ) (size : ℕ) → bytes_eq k key ≡ b
    → ((vs : List (List ℕ)) → ws ≡ map write_of (changes_of ws vs) → wrote_under key ws ≡ Some (Put hash size) → IsValueFor key ws vs hash size)
    → record { key = k; what = what } ∷ ws ≡ map write_of (changes_of (record { key = k; what = what } ∷ ws) values) → cond b (Some what) (wrote_under key ws) ≡ Some (Put hash size)
    → IsValueFor key (record { key = k; what = what } ∷ ws) values hash size
found_behind b k key (Put g m) ws [] hash size is rest goes e = absurd (both_ways false refl (sym (ap (λ (l : List Write). is_put (first_write l).what) goes)))
found_behind true k key (Put g m) ws (v ∷ vs) hash size is rest goes e =
    let named = put_is g hash m size e in
    record {
      value = v;
      found = rw is refl;
      on = inl refl;
      hashed = sym (ap (λ (l : List Write). hash_in (first_write l).what) goes) ∙ named.0;
      sized = sym (ap (λ (l : List Write). size_in (first_write l).what) goes) ∙ named.1;
    }
found_behind false k key (Put g m) ws (v ∷ vs) hash size is rest goes e =
    let r = rest vs (ap (drop 1) goes) e in
    record { value = r.value; found = rw is r.found; on = inr r.on; hashed = r.hashed; sized = r.sized }
found_behind true k key Gone ws values hash size is rest goes e = absurd cc
found_behind false k key Gone ws values hash size is rest goes e =
    let r = rest values (ap (drop 1) goes) e in
    record { value = r.value; found = rw is r.found; on = r.on; hashed = r.hashed; sized = r.sized }

-- where the writes are those of the changes that they and the values make, each write of a value has its value
value_found_for : (key : List ℕ) (ws : List Write) (values : List (List ℕ)) (hash : List ℕ) (size : ℕ) → ws ≡ map write_of (changes_of ws values) → wrote_under key ws ≡ Some (Put hash size) → IsValueFor key ws values hash size
value_found_for key [] values hash size goes e = absurd cc
value_found_for key (w ∷ ws) values hash size goes e = found_behind (bytes_eq w.key key) w.key key w.what ws values hash size refl (λ vs. value_found_for key ws vs hash size) goes e

-- a statement of another that is kept is in the world
pub kept_in_world : (W : World) (c : Correct) (s : Signed) → IsIn c W.nodes → IsIn s (foreign c.journal) → IsIn s (signed_met W)
kept_in_world W c s c_on on =
    let g = given_by foreign_by s c.journal on in
    let told : IsIn s (signed_in g.by) = subst (λ (r : Record). IsIn s (signed_in r)) (sym (foreign_is s g.by g.given)) (inl refl) in
    in_left s (flat_map (λ (d : Correct). flat_map signed_in d.journal) W.nodes) _ (flat_gives (λ (d : Correct). flat_map signed_in d.journal) s c W.nodes c_on (given_too foreign_by signed_in s s c.journal g told))

-- an update of a correct node that was accepted anywhere is one that the node put
pub put_by_writer : (W : World) → IsWorld W → IsAuthentic W → (c d : Correct) (u : Update) → IsIn c W.nodes → IsIn d W.nodes → IsIn u (accepted c.journal) → u.writer ≡ d.node → IsIn u (puts_of d.journal)
put_by_writer W world authentic c d u c_on d_on on writer = elim (brought c.journal u on) [
  | inl mine ↦
      let put = put_from_own u c.journal mine in
      let same : c ≡ d = one_node W world c d c_on d_on (sym (put_writer (setting_of W c) c.journal u (journal_lawful W world c c_on) put) ∙ writer) in
      subst (λ (x : Correct). IsIn u (puts_of x.journal)) same put
  | inr s ↦ put_from_own u d.journal (subst (λ (x : Statement). IsIn x (own d.journal)) s.1.1 (authentic.made s.0 d (kept_in_world W c s.0 c_on s.1.0) d_on (ap writer_of s.1.1 ∙ writer)))
]

module _ (W : World) (world : IsWorld W) (free : HaveOneText W) where
  -- what a read shows of a value is what the writer put, where it put the update
  pub put_shown : (c d : Correct) (n : ℕ) (key : List ℕ) (s : Shown) → IsIn c W.nodes → IsIn d W.nodes → s.seen ≡ seen_under (take n c.journal) key s.update → IsIn s.update (puts_of d.journal) → HasPut d key s
  put_shown c d n key s c_on d_on seen on =
      let l = journal_lawful W world d d_on in
      let p = put_at s.update d.journal on in
      let record_on = in_split p.before (OwnPut s.update p.values) p.after d.journal p.is in
      record {
        by = OwnPut s.update p.values;
        kept = record_on;
        put = (
          refl,
          of_shown (λ v. value_for key s.update.writes p.values ≡ Some v) (seen_under (take n c.journal) key s.update) s.seen seen (λ v e.
              let held = value_is (take n c.journal) key s.update v e in
              let may = put_allowed (setting_of W d) d.journal s.update l p in
              let f = value_found_for key s.update.writes p.values (sha256 v) (length v) (own_writes d.node p.before (changes_of s.update.writes p.values) s.update may.next) held.named in
              let same : f.value ≡ v = free.values f.value v (value_held W d f.value d_on (flat_gives value_by f.value (OwnPut s.update p.values) d.journal record_on f.on)) (value_held W c v c_on (taken_in value_by v n c.journal held.on)) f.hashed in
              f.found ∙ ap (λ (x : List ℕ). Some x) same),
        );
      }

  -- a read is exact where each write of a correct node that it lists is one that this node put
  pub exact_where : (c : Correct) (place : ℕ) (r : Read) → IsIn c W.nodes → slice_get c.reads place ≡ Some r
      → ((s : Shown) (d : Correct) → IsIn s r.answer → IsIn d W.nodes → s.update.writer ≡ d.node → IsIn s.update (puts_of d.journal)) → IsExact W c place r
  exact_where c place r c_on r_at puts =
      let J = take r.at c.journal in
      let l = taken_lawful W world c r.at c_on in
      let answered = (world.correct c c_on).reads r (in_at c.reads place r r_at) in
      let each : (x : Update) → IsIn x (accepted J) → IsIn x (writes_of W) = λ x on. write_from W c x c_on (taken_in accepted_by x r.at c.journal on) in
      record {
        latest = same_latest r.key (λ u. IsIn u (accepted J)) (λ u. ObservedBefore W (write u) (read_at c place r)) (Precedes (accepted J)) (λ t u. ObservedBefore W (write t) (write u)) (map (λ (s : Shown). s.update) r.answer)
            (λ u on. leads_one (Edge W) (write u) (read_at c place r) (record { above = each u on; below = (c_on, r_at); step = on }))
            (λ u o. seen_is_accepted W world free (setting_of W c) J l each u c place r (λ t on. on) o)
            (λ t u t_on u_on before. path_is_observed W world (accepted J) each t u before)
            (λ t u t_on u_on o. seen_precedes W world free (setting_of W c) J l each t u u_on o)
            answered.latest;
        named = λ s on. of_shown (λ v. IsValueOf r.key s.update v) (seen_under J r.key s.update) s.seen (answered.values s on) (λ v e. (value_is J r.key s.update v e).named);
        gone_shown = λ s on. gone_is J r.key s.update s.seen (answered.values s on);
        put = λ s d on d_on writer. put_shown c d r.at r.key s c_on d_on (answered.values s on) (puts s d on d_on writer);
      }

-- and where no signature is forged, each is
pub exact : (W : World) → IsWorld W → IsAuthentic W → HaveOneText W → (c : Correct) (place : ℕ) (r : Read) → IsIn c W.nodes → slice_get c.reads place ≡ Some r → IsExact W c place r
exact W world authentic free c place r c_on r_at =
    let answered = (world.correct c c_on).reads r (in_at c.reads place r r_at) in
    exact_where W world free c place r c_on r_at (λ s d on d_on writer.
    let known = (answered.latest.only s.update (in_map (λ (x : Shown). x.update) s r.answer on)).known in
    put_by_writer W world authentic c d s.update c_on d_on (taken_in accepted_by s.update r.at c.journal known) writer)
