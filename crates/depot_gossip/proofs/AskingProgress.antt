-- Rounds make progress where the hello covers what both have, and it does where the asker is behind.
use Rattle.std.proofs.Common.{◌≡◌, ℕ, ◌<◌, ◌≤◌, List, [], ◌∷◌, ◌++◌, length, Bool, true, false, not, ◌&&◌, ◌||◌, cond, eqb, refl, sym, ap, subst, ◌∙◌, inl, inr, ◌⊎◌, arith}
use Rattle.std.specs.List.{filter, flat_map}
use Rattle.std.specs.Str.{bytes_eq}
use Rattle.std.proofs.lemmas.Bool.{and_from, and_parts, both_ways, cases_Bool, eq-eqb, false_from_ne_true, or_from}
use Rattle.std.proofs.lemmas.List.Elements.{filter-append}
use Rattle.std.proofs.lemmas.Slice.Eq.{bytes_eq-Decides}
use Rattle.depot_base.specs.declared.record.Record.{Record}
use Rattle.depot_base.specs.declared.statement.Signed.{Signed}
use Rattle.depot_base.specs.declared.update.Update.{Update}
use Rattle.depot_model.specs.declared.hello.Hello.{Hello}
use Rattle.depot_model.specs.declared.hello.HelloLeaf.{HelloLeaf}
use Rattle.depot_model.specs.checks.Checks.{Setting}
use Rattle.depot_model.specs.exchange.Bundle.{Parcel, Signs, candidate_parcel, candidate_parcels, candidates, has_candidate, hashes_of, is_covered, parcels, wanted_parcel}
use Rattle.depot_model.specs.exchange.Hello.{named_leaf}
use Rattle.depot_model.specs.journals.Journal.{accepted, accepted_by, has_id, update_in}
use Rattle.depot_model.specs.journals.Lawful.{IsLawful}
use Rattle.depot_model.specs.lists.Lists.{IsIn, is_among}
use Rattle.depot_model.specs.texts.Texts.{id_of_update}
use Rattle.depot_model.specs.updates.History.{is_prev_in, leaves_of}
use Rattle.depot_model.specs.updates.Order.{IsCausal, IsParent, Precedes, past, prevs}
use Rattle.depot_model.specs.worlds.World.{setting_of}
use Rattle.depot_model.proofs.lists.Members.{among_from, among_to, any_from, any_to, from_filter, in_filter, in_map}
use Rattle.depot_model.proofs.of_updates.NamedIds.{has_id_from, has_id_to}
use Rattle.depot_model.proofs.of_updates.Orders.{causal_behind, child_is_behind, first_names_none, leads_more, leads_one, precedes_wider}
use Rattle.depot_model.proofs.of_updates.Pasts.{past_of_listed}
use Rattle.depot_laws.specs.Rejoin.{updates_of}
use Rattle.depot_laws.proofs.exchanges.Meetings.{one_of_writes, reader_lawful, reader_write, sender_lawful, sender_write}
use Rattle.depot_laws.proofs.exchanges.Parcels.{candidates_for, is_candidate_for}
use Rattle.depot_laws.proofs.lists.Splits.{flat_gives, flat_left, given_by}
use Rattle.depot_laws.proofs.lists.Tests.{fails_from_not}
use Rattle.depot_laws.proofs.of_worlds.Worlds.{giver_in}
use Rattle.depot_laws.proofs.orders.Follows.{prev_is_parent}
use Rattle.depot_laws.proofs.orders.Prevs.{accepted_prev, prev_writer}
use Rattle.depot_laws.proofs.orders.SamePasts.{own_parent, past_over}
use Rattle.depot_laws.proofs.records.Causes.{lawful_is_causal, prevs_is}
use Rattle.depot_gossip.specs.AskingAgain.{AdmitsFirst, CoversShared, IsBehind, IsRound, MakesProgress, NamesLeaves, Round, missing_of, round_fed, sent_in}
use Rattle.depot_gossip.specs.Bounding.{parcels_of}
use Rattle.depot_gossip.proofs.AskedCovers.{ids_in, spared_is_had}
use Rattle.depot_gossip.proofs.BoundLaws.{sends_first}
use Rattle.depot_gossip.proofs.RoundTaken.{before_new, taken_round}
use Rattle.depot_gossip.proofs.WithinLaws.{told_of}

-- ---- the leaf above an update, of its writer

-- no update of these names one of another writer as its prev
abbrev pub KeepWriters : List Update → Type 0
KeepWriters us = (t u : Update) → IsIn t us → IsIn u us → IsIn (id_of_update t) (prevs u) → t.writer ≡ u.writer

-- the leaf of the same writer that an update is, or precedes
record HasOwnLeaf (us : List Update) (t : Update) : Type 0 where
  pub leaf : Update
  pub on : IsIn leaf us
  pub last : is_prev_in us (id_of_update leaf) ≡ false
  pub writer : leaf.writer ≡ t.writer
  pub above : (t ≡ leaf) ⊎ Precedes us t leaf

-- an update of the prefix names none of those after it
own_leaf_behind : (ids : List (List ℕ)) (x : Update) (xs : List Update) (t : Update) → IsCausal ids (x ∷ xs) → HasOwnLeaf xs t → HasOwnLeaf (x ∷ xs) t
own_leaf_behind ids x xs t c l = record {
  leaf = l.leaf;
  on = inr l.on;
  last = or_from _ _ (false_from_ne_true _ (λ e. first_names_none ids x xs l.leaf c (inr l.on) (prev_is_parent x (id_of_update l.leaf) (among_to (id_of_update l.leaf) (prevs x) e)))) l.last;
  writer = l.writer;
  above = elim l.above [
    | inl same ↦ inl same
    | inr before ↦ inr (precedes_wider xs (x ∷ xs) (λ w on. inr on) t l.leaf before)
  ];
}

keep_behind : (x : Update) (xs : List Update) → KeepWriters (x ∷ xs) → KeepWriters xs
keep_behind x xs keep t u t_on u_on named = keep t u (inr t_on) (inr u_on) named

own_leaf_of : (ids : List (List ℕ)) (us : List Update) (t : Update) → IsCausal ids us → KeepWriters us → IsIn t us → HasOwnLeaf us t
own_leaf_of ids [] t c keep never = absurd never
own_leaf_of ids (x ∷ xs) t c keep (inr there) = own_leaf_behind ids x xs t c (own_leaf_of (id_of_update x ∷ ids) xs t (causal_behind ids x xs c) (keep_behind x xs keep) there)
own_leaf_of ids (x ∷ xs) t c keep (inl here) = elim (cases_Bool (is_prev_in (x ∷ xs) (id_of_update t))) [
  | inr last ↦ record { leaf = t; on = inl here; last = last; writer = refl; above = inl refl }
  | inl named ↦
      let child = any_to (λ (w : Update). is_among (id_of_update t) (prevs w)) (x ∷ xs) named in
      let prev = among_to (id_of_update t) (prevs child.0) child.1.1 in
      let step : IsParent (x ∷ xs) t child.0 = record { above = inl here; below = child.1.0; named = prev_is_parent child.0 (id_of_update t) prev } in
      let there = child_is_behind ids x xs t child.0 c step in
      let l = own_leaf_behind ids x xs child.0 c (own_leaf_of (id_of_update x ∷ ids) xs child.0 (causal_behind ids x xs c) (keep_behind x xs keep) there) in
      record {
        leaf = l.leaf;
        on = l.on;
        last = l.last;
        writer = l.writer ∙ sym (keep t child.0 (inl here) child.1.0 prev);
        above = inr (elim l.above [
          | inl same ↦ subst (λ (w : Update). Precedes (x ∷ xs) t w) same (leads_one (IsParent (x ∷ xs)) t child.0 step)
          | inr before ↦ leads_more (IsParent (x ∷ xs)) t child.0 l.leaf step before
        ]);
      }
]

lawful_keeps_writers : (here : Setting) (J : List Record) → IsLawful here J → KeepWriters (accepted J)
lawful_keeps_writers here J l t u t_on u_on named =
    let p = prevs_is u (id_of_update t) named in
    prev_writer (accepted J) u t (lawful_is_causal here J l) (accepted_prev here J u l u_on) t_on (sym p.0) p.1

-- ---- an asker that is behind

true_left : (a b : Bool) → a ≡ true → (a || b) ≡ true
true_left true b e = refl
true_left false b e = absurd cc

true_right : (a b : Bool) → b ≡ true → (a || b) ≡ true
true_right true b e = refl
true_right false b e = e

-- one that none names as its prev is a leaf
pub is_leaf : (us : List Update) (t : Update) → IsIn t us → is_prev_in us (id_of_update t) ≡ false → IsIn t (leaves_of us)
unfolding leaves_of
is_leaf us t on last = in_filter (λ (x : Update). not (is_prev_in us (id_of_update x))) t us on (ap not last)

pub behind_covers : (r : Round) → IsRound r → NamesLeaves r → IsBehind r → CoversShared r
unfolding is_covered
behind_covers r is names behind u u_a u_j other =
    let m = before_new r is in
    let vs = accepted r.asker.journal in
    let us = accepted r.records in
    let mine = reader_lawful r.world r.asker r.asked r.records m in
    let c_a = lawful_is_causal (setting_of r.world r.asker) r.asker.journal mine in
    let c_j = lawful_is_causal (setting_of r.world r.asked) r.records (sender_lawful r.world r.asker r.asked r.records m) in
    let l = own_leaf_of [] vs u c_a (lawful_keeps_writers (setting_of r.world r.asker) r.asker.journal mine) u_a in
    let leaf = is_leaf vs l.leaf l.on l.last in
    let l_j = behind l.leaf leaf (λ e. other (sym l.writer ∙ e)) in
    let named : is_among (id_of_update l.leaf) (ids_in r.hello) ≡ true = among_from (id_of_update l.leaf) (ids_in r.hello) (in_map (λ (x : HelloLeaf). x.id) (named_leaf l.leaf) r.hello.leaves (names l.leaf leaf)) in
    any_from (λ (t : Update). is_among (id_of_update t) (ids_in r.hello) && (bytes_eq (id_of_update u) (id_of_update t) || has_id (past t us) (id_of_update u))) l.leaf us l_j
    (and_from _ _ named (elim l.above [
      | inl same ↦ true_left (bytes_eq (id_of_update u) (id_of_update l.leaf)) _ ((bytes_eq-Decides (id_of_update u) (id_of_update l.leaf)).1 (ap id_of_update same))
      | inr before ↦
          let over = past_over vs us l.leaf (λ x y x_on y_on e. one_of_writes r.world r.asker r.asked r.records m x y (reader_write r.world r.asker r.asked r.records m x x_on) (sender_write r.world r.asker r.asked r.records m y y_on) e)
          c_j (λ p parent. own_parent us l.leaf p c_j l_j parent) vs (λ x x_on. x_on) u ((past_of_listed vs l.leaf u c_a l.on).1 before) in
          true_right (bytes_eq (id_of_update u) (id_of_update l.leaf)) _ (has_id_from (past l.leaf us) (id_of_update u) u over refl)
    ]))

-- ---- what is missing

-- what passes a test that is weaker is no less
no_fewer : {X : Type 0} (p q : X → Bool) (xs : List X) → ((x : X) → q x ≡ true → p x ≡ true) → length (filter q xs) ≤ length (filter p xs)
no_fewer p q [] weaker = omega arith
no_fewer {X} p q (x ∷ xs) weaker = by_tests (p x) refl (q x) refl (no_fewer p q xs weaker) where
  by_tests : (a : Bool) → p x ≡ a → (b : Bool) → q x ≡ b → length (filter q xs) ≤ length (filter p xs) → length (cond b (x ∷ filter q xs) (filter q xs)) ≤ length (cond a (x ∷ filter p xs) (filter p xs))
  by_tests true e true f rest = omega (arith, rest)
  by_tests true e false f rest = omega (arith, rest)
  by_tests false e true f rest = absurd (let clash : false ≡ true = sym e ∙ weaker x f in cc)
  by_tests false e false f rest = rest

-- and it is more, where one passes it alone
some_fewer : {X : Type 0} (p q : X → Bool) (xs : List X) (y : X) → ((x : X) → q x ≡ true → p x ≡ true) → IsIn y xs → p y ≡ true → q y ≡ false → length (filter q xs) < length (filter p xs)
some_fewer p q [] y weaker never with_p without_q = absurd never
some_fewer {X} p q (x ∷ xs) y weaker on with_p without_q = by_tests (p x) refl (q x) refl (no_fewer p q xs weaker) (λ there. some_fewer p q xs y weaker there with_p without_q) on where
  by_tests : (a : Bool) → p x ≡ a → (b : Bool) → q x ≡ b → length (filter q xs) ≤ length (filter p xs) → (IsIn y xs → length (filter q xs) < length (filter p xs)) → (x ≡ y) ⊎ IsIn y xs → length (cond b (x ∷ filter q xs) (filter q xs)) < length (cond a (x ∷ filter p xs) (filter p xs))
  by_tests true e false f rest later here = omega (arith, rest)
  by_tests true e true f rest later (inl same) = absurd (let clash : true ≡ false = sym f ∙ ap q same ∙ without_q in cc)
  by_tests true e true f rest later (inr there) = omega (arith, later there)
  by_tests false e true f rest later here = absurd (let clash : false ≡ true = sym e ∙ weaker x f in cc)
  by_tests false e false f rest later (inl same) = absurd (let clash : false ≡ true = sym e ∙ ap p same ∙ with_p in cc)
  by_tests false e false f rest later (inr there) = later there

-- the id of an update that a journal hasn't accepted
abbrev pub lacks : List Record → Update → Bool
lacks J u = not (has_id (accepted J) (id_of_update u))

-- what a longer journal lacks a shorter one lacks
lacked_before : (A B : List Record) → ((u : Update) → IsIn u (accepted A) → IsIn u (accepted B)) → (u : Update) → lacks B u ≡ true → lacks A u ≡ true
lacked_before A B kept u lacking = ap not (false_from_ne_true _ (λ e.
    let t = has_id_to (accepted A) (id_of_update u) e in
    both_ways (has_id (accepted B) (id_of_update u)) (fails_from_not _ lacking) (has_id_from (accepted B) (id_of_update u) t.0 (kept t.0 t.1.0) t.1.1)))

pub missing_less : (us : List Update) (A B : List Record) → ((u : Update) → IsIn u (accepted A) → IsIn u (accepted B)) → length (missing_of us B) ≤ length (missing_of us A)
missing_less us A B kept = no_fewer (lacks A) (lacks B) us (lacked_before A B kept)

-- ---- what a round brings

some_of : {X : Type 0} (xs : List X) → 0 < length xs → (x : X) × IsIn x xs
some_of [] some = absurd (omega (arith, some))
some_of (x ∷ xs) some = (x, inl refl)

-- the first of a list that has one
record HasHead {X : Type 0} (xs : List X) : Type 0 where
  pub head : X
  pub rest : List X
  pub is : xs ≡ head ∷ rest

head_of : {X : Type 0} (xs : List X) (x : X) → IsIn x xs → HasHead xs
head_of [] x never = absurd never
head_of (y ∷ ys) x on = record { head = y; rest = ys; is = refl }

-- the candidates for a hello begin with one of the first records, if one of these is a candidate
record BeginsWithin (J front : List Record) (h : Hello) : Type 0 where
  pub record_ : Record
  pub rest : List Record
  pub is : candidates_for J h ≡ record_ ∷ rest
  pub update : Update
  pub accepts : IsIn update (accepted_by record_)
  pub on : IsIn update (accepted front)
  pub goes : is_candidate_for J h update ≡ true

begins_within : (J front since : List Record) (h : Hello) (u : Update) → J ≡ front ++ since → IsIn u (accepted front) → is_candidate_for J h u ≡ true → BeginsWithin J front h
unfolding candidates
begins_within J front since h u parts on goes =
    let test : Record → Bool = has_candidate J (ids_in h) h.node in
    let g = given_by accepted_by u front on in
    let by = in_filter test g.by front (giver_in accepted_by u front g) (any_from (is_candidate_for J h) u (accepted_by g.by) g.given goes) in
    let first = head_of (filter test front) g.by by in
    let f = from_filter test first.head front (subst (λ (rs : List Record). IsIn first.head rs) (sym first.is) (inl refl)) in
    let t = any_to (is_candidate_for J h) (accepted_by first.head) f.1 in
    record {
      record_ = first.head;
      rest = first.rest ++ filter test since;
      is = ap (filter test) parts ∙ filter-append test front since ∙ ap (λ (rs : List Record). rs ++ filter test since) first.is;
      update = t.0;
      accepts = t.1.0;
      on = flat_gives accepted_by t.0 first.head front f.0 t.1.0;
      goes = t.1.1;
    }

-- then the first parcel is its parcel
first_parcel : (sign : Signs) (J : List Record) (h : Hello) (r : Record) (rs : List Record) → candidates_for J h ≡ r ∷ rs → (rest : List Parcel) × (parcels sign J h ≡ candidate_parcel sign J [] r ∷ rest)
unfolding parcels candidate_parcels
first_parcel sign J h r rs is =
    (_, ap (λ (qs : List Record). candidate_parcels sign J [] qs ++ flat_map (wanted_parcel J (hashes_of (candidate_parcels sign J [] qs))) h.wanted) is)

module _ (r : Round) (is : IsRound r) (covers : CoversShared r) (admits : AdmitsFirst r) where
  -- a candidate the asker lacks
  candidate_is_lacked : (u : Update) → IsIn u (accepted r.records) → is_candidate_for r.records r.hello u ≡ true → lacks r.asker.journal u ≡ true
  candidate_is_lacked u on goes = ap not (false_from_ne_true _ (λ e.
      let m = before_new r is in
      let parts = and_parts (not (eqb u.writer r.hello.node)) (not (is_covered (accepted r.records) (ids_in r.hello) u)) goes in
      let t = has_id_to (accepted r.asker.journal) (id_of_update u) e in
      let same = one_of_writes r.world r.asker r.asked r.records m t.0 u (reader_write r.world r.asker r.asked r.records m t.0 t.1.0) (sender_write r.world r.asker r.asked r.records m u on) t.1.1 in
      let other : u.writer ≡ r.asker.node → ⊥ = λ writer. both_ways (eqb u.writer r.hello.node) (fails_from_not _ parts.0) (eq-eqb u.writer r.hello.node (writer ∙ sym is.hello.node)) in
      both_ways (is_covered (accepted r.records) (ids_in r.hello) u) (fails_from_not _ parts.1) (covers u (subst (λ (x : Update). IsIn x (accepted r.asker.journal)) same t.1.0) on other)))

  -- what the asker lacks is a candidate
  lacked_is_candidate : (u : Update) → IsIn u (accepted r.records) → lacks r.asker.journal u ≡ true → is_candidate_for r.records r.hello u ≡ true
  lacked_is_candidate u on lacking = elim (cases_Bool (is_candidate_for r.records r.hello u)) [
    | inl goes ↦ goes
    | inr stays ↦
        let had = spared_is_had r.world r.asker r.asked r.records (before_new r is) r.hello is.hello u on stays in
        absurd (both_ways (has_id (accepted r.asker.journal) (id_of_update u)) (fails_from_not _ lacking) (has_id_from (accepted r.asker.journal) (id_of_update u) u had refl))
  ]

  -- the first parcel is sent, with its update
  first_is_sent : (by : Record) (rest : List Record) (u : Update) → candidates_for r.records r.hello ≡ by ∷ rest → IsIn u (accepted_by by) → IsIn u (updates_of (sent_in r))
  first_is_sent by rest u begins on =
      let x = candidate_parcel r.sign r.records [] by in
      let first = first_parcel r.sign r.records r.hello by rest begins in
      let may = admits x first.0 first.1 in
      let goes = sends_first (setting_of r.world r.asked) r.sign r.records r.hello r.bounds x first.0 (ap (parcels_of r.asked.node r.sign r.records r.hello) is.all ∙ first.1) may.0 may.1 in
      flat_gives (λ (y : Parcel). flat_map (λ (s : Signed). update_in s.statement) y.told) u x (sent_in r) goes (subst (λ (us : List Update). IsIn u us) (sym (told_of r.sign by)) on)

  pub progress : (front since : List Record) → r.records ≡ front ++ since → MakesProgress (accepted front) r
  progress front since parts some =
      let within : (u : Update) → IsIn u (accepted front) → IsIn u (accepted r.records) = λ u on. subst (λ (J : List Record). IsIn u (accepted J)) (sym parts) (flat_left accepted_by u front since on) in
      let one = some_of (missing_of (accepted front) r.asker.journal) some in
      let u = from_filter (lacks r.asker.journal) one.0 (accepted front) one.1 in
      let b = begins_within r.records front since r.hello one.0 parts u.0 (lacked_is_candidate one.0 (within one.0 u.0) u.1) in
      let taken = taken_round r is in
      let come = taken.sent b.update (first_is_sent b.record_ b.rest b.update b.is b.accepts) in
      some_fewer (lacks r.asker.journal) (lacks (round_fed r).journal) (accepted front) b.update (lacked_before r.asker.journal (round_fed r).journal taken.kept) b.on (candidate_is_lacked b.update (within b.update b.on) b.goes)
      (ap not (has_id_from (accepted (round_fed r).journal) (id_of_update b.update) b.update come refl))
