-- What is chosen within bounds is what a bounded bundle sends; its vouchers are for accepted updates of others, each
-- once.
use Rattle.std.proofs.Common.{◌≡◌, ℕ, suc, ◌+◌, ◌*◌, ◌/◌, ◌%◌, min, ◌≤◌, List, [], ◌∷◌, ◌++◌, length, map, Bool, true, false, not, cond, ◌&&◌, ◌||◌, leb, eqb, Option, None, Some, refl, sym, ap, subst, ◌∙◌, inl, inr, arith, length-append}
use Rattle.std.specs.Prelude.{option_to_list}
use Rattle.std.specs.List.{AllByRecursion, filter, flat_map, list_any}
use Rattle.std.proofs.Math.Bool.{or-false}
use Rattle.std.proofs.lemmas.Bool.{leb-true, le-leb, le-ltb, lt-ltb}
use Rattle.std.proofs.lemmas.List.{append-nil}
use Rattle.std.proofs.lemmas.List.Elements.{filter-append}
use Rattle.std.proofs.lemmas.Grind.{flat_map-append}
use Rattle.sha2.specs.Sha256.{sha256}
use Rattle.depot_base.specs.declared.record.Record.{Record}
use Rattle.depot_base.specs.declared.record.Record.TheVariants.{Birth, OwnPut, OwnVoucher, Foreign, Conviction, Held}
use Rattle.depot_base.specs.declared.statement.Signed.{Signed}
use Rattle.depot_base.specs.declared.update.Update.{Update}
use Rattle.depot_model.specs.declared.hello.Hello.{Hello}
use Rattle.depot_model.specs.exchange.Bundle.{Parcel, Signs, candidate_parcel, candidate_parcels, candidates, parcels, sent_foreign, signed_by, signed_with, unvouched}
use Rattle.depot_model.specs.checks.Checks.{Setting}
use Rattle.depot_model.specs.journals.Journal.{accepted, accepted_by, is_foreign, own, update_in}
use Rattle.depot_model.specs.journals.Lawful.{IsLawful}
use Rattle.depot_model.specs.lists.Lists.{AreApart, IsIn}
use Rattle.depot_model.specs.texts.Texts.{id_of_update}
use Rattle.depot_model.specs.checks.Vouching.{is_mine_vouched, new_vouchers}
use Rattle.depot_laws.specs.Rejoin.{updates_of}
use Rattle.depot_laws.proofs.records.Causes.{none_or_one}
use Rattle.depot_laws.proofs.exchanges.Parcels.{IsFront}
use Rattle.depot_decide.proofs.VoucherPlans.{length-new_vouchers, own_with}
use Rattle.depot_streams.specs.Sendings.{Holds}
use Rattle.depot_gossip.specs.Choosing.{HasUpdateAt, records_at}
use Rattle.depot_gossip.proofs.ApartLaws.{foreign_one, unvouched_apart}
use Rattle.depot_gossip.proofs.FitLaws.{with_more}
use Rattle.depot_gossip.specs.Bounding.{bounded_sent, bytes_of_parcels, fit_a_bundle, has_few_vouchers, is_own_record, leaves_left, longest_front, may_follow, own_parcels, parcels_of}
use Rattle.depot_gossip.specs.Choices.{Chooses, IsChosenWithin, has_ids, has_room_for, is_of_at, room_within}
use Rattle.depot_gossip.specs.declared.bounds.Bounds.{Bounds}
use Rattle.depot_gossip.specs.declared.choice.Choice.{Choice}
use Rattle.depot_gossip.proofs.BoundedChoices.{front_alike, front_ends}

-- ---- vouchers and ids

pub leb_same : (a b c d : ℕ) → (a ≤ b → c ≤ d) → (c ≤ d → a ≤ b) → leb a b ≡ leb c d
leb_same a b c d there back = by_tests (leb a b) refl (leb c d) refl where
  by_tests : (x : Bool) → leb a b ≡ x → (y : Bool) → leb c d ≡ y → x ≡ y
  by_tests true e true f = refl
  by_tests false e false f = refl
  by_tests true e false f = sym (le-leb c d (there (leb-true a b e))) ∙ f
  by_tests false e true f = sym e ∙ le-leb a b (back (leb-true c d f))

-- so many vouchers name so many ids
pub named_by : (me : ℕ) (J : List Record) (ids : List (List ℕ)) (k : ℕ) → leb (length ids) (256 * k) ≡ leb (length (new_vouchers me J ids)) k
named_by me J ids k =
    let count = length-new_vouchers me J ids in
    let groups = own_with J ids (length (own J)) (length ids / 256 + min 1 (length ids % 256)) refl refl in
    leb_same (length ids) (256 * k) (length (new_vouchers me J ids)) k (λ few. omega (arith, count, groups, few)) (λ few. omega (arith, count, groups, few))

few_so : (here : Setting) (J : List Record) (most : Option ℕ) (xs : List Parcel) → has_ids (elim most as (λ x. Option ℕ) [ None ↦ None | Some m ↦ Some (256 * min m (leaves_left here J)) ]) (length (unvouched here.me J xs)) ≡ has_few_vouchers here J most xs
few_so here J None xs = refl
few_so here J (Some most) xs = named_by here.me J (unvouched here.me J xs) (min most (leaves_left here J))

-- the room that bounds leave admits what they admit
pub room_is_bounds : (here : Setting) (J : List Record) (b : Bounds) (before : List Parcel) (x : Parcel) → has_room_for here.me J (room_within here J b) before x ≡ may_follow here J b before x
unfolding may_follow
room_is_bounds here J b before x =
    let xs = before ++ x ∷ [] in
    ap (λ (few : Bool). fit_a_bundle xs && (eqb (bytes_of_parcels before) 0 || leb (bytes_of_parcels xs) b.bytes) && few) (few_so here J b.vouchers xs)

-- ---- what is chosen

-- what is chosen of all that there is to send
pub is_within : (here : Setting) (sign : Signs) (J : List Record) (h : Hello) (b : Bounds) (c : Choice) (all : Bool) → Chooses here.me J (room_within here J b) (parcels_of here.me sign J h b.own) c all
    → IsChosenWithin here sign J h b (record c { sending = record c.sending { more = not all } })
unfolding bounded_sent
is_within here sign J h b c true k =
    let all = parcels_of here.me sign J h b.own in
    let whole : longest_front (may_follow here J b) [] all ≡ all = sym (front_alike (has_room_for here.me J (room_within here J b)) (may_follow here J b) (room_is_bounds here J b) [] all) ∙ k.front in
    record {
      holds = subst (λ (xs : List Parcel). Holds here.me xs (record c.sending { more = false })) (sym whole) (with_more here.me all c.sending false k.holds);
      ids = k.ids ∙ sym (ap (unvouched here.me J) whole);
      more = sym (le-ltb _ _ (omega (arith, ap length whole)));
    }
is_within here sign J h b c false k =
    let all = parcels_of here.me sign J h b.own in
    let front = front_ends (has_room_for here.me J (room_within here J b)) [] k.sent k.next k.left k.chosen.front k.over in
    let some : longest_front (may_follow here J b) [] all ≡ k.sent = sym (front_alike (has_room_for here.me J (room_within here J b)) (may_follow here J b) (room_is_bounds here J b) [] all) ∙ ap (longest_front (has_room_for here.me J (room_within here J b)) []) k.is ∙ front in
    let long : length all ≡ length k.sent + suc (length k.left) = ap length k.is ∙ length-append k.sent (k.next ∷ k.left) in
    record {
      holds = subst (λ (xs : List Parcel). Holds here.me xs (record c.sending { more = true })) (sym some) (with_more here.me k.sent c.sending true k.chosen.holds);
      ids = k.chosen.ids ∙ sym (ap (unvouched here.me J) some);
      more = sym (lt-ltb _ _ (omega (arith, ap length some, long)));
    }

-- ---- the node's own

of_place : (me : ℕ) (J : List Record) (place : ℕ) (t : HasUpdateAt J place) → is_of_at me J place ≡ is_own_record me t.item
of_place me J place t =
    ap (λ (o : Option Record). list_any (λ (u : Update). eqb u.writer me) (flat_map accepted_by (option_to_list o))) t.at
    ∙ ap (list_any (λ (u : Update). eqb u.writer me)) (append-nil (accepted_by t.item))

-- the records of the places of the node's own are its own records among them
pub own_records : (me : ℕ) (J : List Record) (places : List ℕ) → AllByRecursion (HasUpdateAt J) places → records_at J (filter (is_of_at me J) places) ≡ filter (is_own_record me) (records_at J places)
own_records me J [] all = refl
own_records me J (p ∷ ps) all = by_test (is_of_at me J p) refl (own_records me J ps all.1) where
  rest : List Record
  rest = filter (is_own_record me) (records_at J ps)

  here : records_at J (p ∷ ps) ≡ all.0.item ∷ records_at J ps
  here = ap (λ (o : Option Record). option_to_list o ++ records_at J ps) all.0.at

  by_test : (b : Bool) → is_of_at me J p ≡ b → records_at J (filter (is_of_at me J) ps) ≡ filter (is_own_record me) (records_at J ps) → records_at J (cond b (p ∷ filter (is_of_at me J) ps) (filter (is_of_at me J) ps)) ≡ filter (is_own_record me) (records_at J (p ∷ ps))
  by_test true is later =
      ap (λ (o : Option Record). option_to_list o ++ records_at J (filter (is_of_at me J) ps)) all.0.at ∙ ap (λ (rs : List Record). all.0.item ∷ rs) later
      ∙ sym (ap (filter (is_own_record me)) here ∙ ap (λ (c : Bool). cond c (all.0.item ∷ filter (is_own_record me) (records_at J ps)) (filter (is_own_record me) (records_at J ps))) (sym (of_place me J p all.0) ∙ is))
  by_test false is later =
      later ∙ sym (ap (filter (is_own_record me)) here ∙ ap (λ (c : Bool). cond c (all.0.item ∷ filter (is_own_record me) (records_at J ps)) (filter (is_own_record me) (records_at J ps))) (sym (of_place me J p all.0) ∙ is))

-- each of the places of the node's own has an update
pub own_tell : (me : ℕ) (J : List Record) (places : List ℕ) → AllByRecursion (HasUpdateAt J) places → AllByRecursion (HasUpdateAt J) (filter (is_of_at me J) places)
own_tell me J [] all = tt
own_tell me J (p ∷ ps) all = by_test (is_of_at me J p) (own_tell me J ps all.1) where
  by_test : (b : Bool) → AllByRecursion (HasUpdateAt J) (filter (is_of_at me J) ps) → AllByRecursion (HasUpdateAt J) (cond b (p ∷ filter (is_of_at me J) ps) (filter (is_of_at me J) ps))
  by_test true rest = (all.0, rest)
  by_test false rest = rest

-- ---- a prefix

pub longest_is_front : {X : Type 0} (may : List X → X → Bool) (before xs : List X) → (left : List X) × (xs ≡ longest_front may before xs ++ left)
unfolding longest_front
longest_is_front may before [] = ([], refl)
longest_is_front {X = X} may before (x ∷ xs) = by_test (may before x) (longest_is_front may (before ++ x ∷ []) xs) where
  by_test : (b : Bool) → (left : List X) × (xs ≡ longest_front may (before ++ x ∷ []) xs ++ left) → (left : List X) × (x ∷ xs ≡ cond b (x ∷ longest_front may (before ++ x ∷ []) xs) [] ++ left)
  by_test true rest = (rest.0, ap (λ (ys : List X). x ∷ ys) rest.1)
  by_test false rest = (x ∷ xs, refl)

-- ---- what needs a voucher

other : ℕ → Update → Bool
other me u = not (eqb u.writer me)

-- a record that is sent reports what it accepts
pub told_of : (sign : Signs) (r : Record) → flat_map (λ (s : Signed). update_in s.statement) (signed_by sign r) ≡ accepted_by r
unfolding signed_with
told_of sign (Birth node h) = refl
told_of sign (OwnPut u value) = refl
told_of sign (OwnVoucher v) = refl
told_of sign (Foreign s) = append-nil (update_in s.statement)
told_of sign (Conviction p) = refl
told_of sign (Held value) = refl

mine_only : (me : ℕ) (r : Record) → is_own_record me r ≡ true → filter (other me) (accepted_by r) ≡ []
unfolding other
mine_only me r mine = elim (none_or_one r) [
  | inl none ↦ ap (filter (other me)) none
  | inr one ↦
      let is : eqb one.0.writer me ≡ true = sym (or-false _) ∙ sym (ap (list_any (λ (u : Update). eqb u.writer me)) one.1) ∙ mine in
      ap (filter (other me)) one.1 ∙ ap (λ (b : Bool). cond (not b) (one.0 ∷ []) []) is
]

own_none_other : (me : ℕ) (sign : Signs) (J : List Record) (hashes : List (List ℕ)) (rs : List Record) → filter (other me) (updates_of (candidate_parcels sign J hashes (filter (is_own_record me) rs))) ≡ []
unfolding candidate_parcels
own_none_other me sign J hashes [] = refl
own_none_other me sign J hashes (r ∷ rs) = by_test (is_own_record me r) refl (λ hs. own_none_other me sign J hs rs) where
  by_test : (b : Bool) → is_own_record me r ≡ b → ((hs : List (List ℕ)) → filter (other me) (updates_of (candidate_parcels sign J hs (filter (is_own_record me) rs))) ≡ [])
      → filter (other me) (updates_of (candidate_parcels sign J hashes (cond b (r ∷ filter (is_own_record me) rs) (filter (is_own_record me) rs)))) ≡ []
  by_test false is later = later hashes
  by_test true is later =
      let x = candidate_parcel sign J hashes r in
      let rest = candidate_parcels sign J (map sha256 x.values ++ hashes) (filter (is_own_record me) rs) in
      filter-append (other me) (flat_map (λ (s : Signed). update_in s.statement) x.told) (updates_of rest)
      ∙ ap (λ (us : List Update). us ++ filter (other me) (updates_of rest)) (ap (filter (other me)) (told_of sign r) ∙ mine_only me r is)
      ∙ later (map sha256 x.values ++ hashes)

front_none : {X : Type 0} (xs ys : List X) → xs ++ ys ≡ [] → xs ≡ []
front_none [] ys none = refl
front_none (x ∷ xs) ys none = absurd cc

-- the node's own need none
pub own_unvouched : (me : ℕ) (sign : Signs) (J : List Record) (h : Hello) (xs left : List Parcel) → own_parcels me sign J h ≡ xs ++ left → unvouched me J xs ≡ []
unfolding unvouched sent_foreign own_parcels other
own_unvouched me sign J h xs left is =
    let told = λ (x : Parcel). flat_map (λ (s : Signed). update_in s.statement) x.told in
    let none = own_none_other me sign J [] (candidates J (map (λ l. l.id) h.leaves) h.node) in
    let parts : filter (other me) (updates_of xs) ++ filter (other me) (updates_of left) ≡ [] =
    sym (ap (λ (ys : List Parcel). filter (other me) (updates_of ys)) is ∙ ap (filter (other me)) (flat_map-append told xs left) ∙ filter-append (other me) (updates_of xs) (updates_of left)) ∙ none in
    ap (λ (us : List Update). filter (λ (i : List ℕ). not (is_mine_vouched J i)) (map id_of_update us)) (front_none (filter (other me) (updates_of xs)) (filter (other me) (updates_of left)) parts)

-- The ids that a bounded bundle makes vouchers for are distinct, and each is that of an accepted update of another
-- writer.
pub record AreForOthers (here : Setting) (J : List Record) (ids : List (List ℕ)) : Type 0 where
  pub apart : AreApart ids
  pub foreign : (i : List ℕ) → IsIn i ids → is_foreign here.me (accepted J) i ≡ true

pub bounded_for_others : (here : Setting) (sign : Signs) (J : List Record) (h : Hello) (b : Bounds) → IsLawful here J → AreForOthers here J (unvouched here.me J (bounded_sent here sign J h b))
unfolding bounded_sent
bounded_for_others here sign J h b l = by_own b.own (longest_is_front (may_follow here J b) [] (parcels_of here.me sign J h b.own)) where
  of_none : (ids : List (List ℕ)) → ids ≡ [] → AreForOthers here J ids
  of_none ids none = subst (λ (is : List (List ℕ)). AreForOthers here J is) (sym none) (record { apart = tt; foreign = λ i on. absurd on })

  by_own : (own : Bool) → (left : List Parcel) × (parcels_of here.me sign J h own ≡ longest_front (may_follow here J b) [] (parcels_of here.me sign J h b.own) ++ left) → AreForOthers here J (unvouched here.me J (longest_front (may_follow here J b) [] (parcels_of here.me sign J h b.own)))
  by_own true f = of_none _ (own_unvouched here.me sign J h _ f.0 f.1)
  by_own false f =
      let xs = longest_front (may_follow here J b) [] (parcels_of here.me sign J h b.own) in
      let front : IsFront (parcels sign J h) xs = record { left = f.0; is = f.1 } in
      record { apart = unvouched_apart here sign J h xs front l; foreign = foreign_one here sign J h xs front }
