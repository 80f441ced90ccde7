-- A lawful journal has at most 4,097 leaves: 4,096 of others, and one of its own.
use Rattle.std.proofs.Common.{◌≡◌, ℕ, ◌≤◌, ◌==◌, List, [], ◌∷◌, ◌++◌, length, Bool, true, false, not, refl, sym, ap, ◌∙◌, inl, inr, arith}
use Rattle.std.specs.List.{filter}
use Rattle.std.proofs.lemmas.List.Filters.{length-filter_both}
use Rattle.std.proofs.lemmas.Bool.{eqb-true, both_ways}
use Rattle.depot_base.specs.declared.update.Update.{Update}
use Rattle.depot_base.specs.declared.statement.Statement.{Statement}
use Rattle.depot_base.specs.declared.statement.Statement.TheVariants as statement
use Rattle.depot_base.specs.declared.statement.Signed.{Signed}
use Rattle.depot_base.specs.declared.record.Record.{Record}
use Rattle.depot_base.specs.declared.record.Record.TheVariants.{Birth, OwnPut, OwnVoucher, Foreign, Conviction, Held}
use Rattle.depot_model.specs.lists.Lists.{IsIn, is_among}
use Rattle.depot_model.specs.texts.Texts.{id_of_update}
use Rattle.depot_model.specs.updates.Order.{prevs}
use Rattle.depot_model.specs.updates.History.{is_prev_in, leaves_of}
use Rattle.depot_model.specs.journals.Journal.{accepted, update_in, last_own}
use Rattle.depot_model.specs.checks.Checks.{Setting}
use Rattle.depot_model.specs.checks.Room.{foreign_leaves, take_an_update, HasRoom}
use Rattle.depot_model.specs.journals.Lawful.{IsAllowed, IsLawful}
use Rattle.depot_model.proofs.lists.Members.{any_from, among_from, from_filter}
use Rattle.depot_laws.proofs.lists.Splits.{lawful_from_end}
use Rattle.depot_laws.proofs.lists.Tests.{fails_from_not}
use Rattle.depot_laws.proofs.records.JournalLimits.{within_from_room}
use Rattle.depot_laws.proofs.records.Causes.{lawful_is_causal}
use Rattle.depot_model.proofs.lists.RisingUpdates.{HaveOwnIds, own_ids_from_causal, own_ids_filter}
use Rattle.depot_laws.proofs.records.Counts.{silent_leaves, put_count}
use Rattle.depot_laws.proofs.own_updates.Puts.{put_from_writer, put_at, put_allowed, put_is_accepted}
use Rattle.depot_laws.proofs.orders.Follows.{in_prevs, in_line}
use Rattle.depot_laws.proofs.own_updates.Nexts.{next_of}

-- ---- leaves of others

taken_few : (here : Setting) (J : List Record) (s : Signed) (u : Update) → s.statement ≡ statement.Update u → HasRoom here.me J (Foreign s ∷ []) → length (foreign_leaves here.me (J ++ Foreign s ∷ [])) ≤ 4096
taken_few here J s u is room =
    let takes : take_an_update (Foreign s ∷ []) ≡ true = let told : update_in s.statement ≡ u ∷ [] = ap update_in is in rw told refl in
    (within_from_room here.me J (Foreign s ∷ []) room).writers takes

few_more : (here : Setting) (J : List Record) (r : Record) → IsLawful here J → IsAllowed here J r → length (foreign_leaves here.me J) ≤ 4096 → length (foreign_leaves here.me (J ++ r ∷ [])) ≤ 4096
few_more here J (OwnPut u values) l allowed before = omega (arith, before, put_count here J u values l (next_of allowed.may) allowed.may.fresh)
few_more here J (Foreign s) l allowed before = by_statement s.statement refl where
  by_statement : (x : Statement) → s.statement ≡ x → length (foreign_leaves here.me (J ++ Foreign s ∷ [])) ≤ 4096
  by_statement (statement.Update u) is = taken_few here J s u is allowed.room
  by_statement (statement.Voucher v) is = omega (arith, before, ap length (silent_leaves here.me J (Foreign s) (ap update_in is)))
few_more here J (Birth node h) l allowed before = omega (arith, before, ap length (silent_leaves here.me J (Birth node h) refl))
few_more here J (OwnVoucher v) l allowed before = omega (arith, before, ap length (silent_leaves here.me J (OwnVoucher v) refl))
few_more here J (Conviction p) l allowed before = omega (arith, before, ap length (silent_leaves here.me J (Conviction p) refl))
few_more here J (Held value) l allowed before = omega (arith, before, ap length (silent_leaves here.me J (Held value) refl))

no_leaves : (me : ℕ) → length (foreign_leaves me []) ≤ 4096
unfolding foreign_leaves leaves_of
no_leaves me = omega arith

-- a lawful journal has at most 4,096 leaves of other writers
pub few_foreign : (here : Setting) (J : List Record) → IsLawful here J → length (foreign_leaves here.me J) ≤ 4096
few_foreign here J l = lawful_from_end here (λ (x : List Record). length (foreign_leaves here.me x) ≤ 4096) (no_leaves here.me) (few_more here) J l

-- ---- leaves of the node itself

-- a leaf of the node is its last own update
own_leaf_is_last : (here : Setting) (J : List Record) (t : Update) → IsLawful here J → IsIn t (leaves_of (accepted J)) → t.writer ≡ here.me → id_of_update t ≡ last_own J
unfolding leaves_of
own_leaf_is_last here J t l on mine =
    let us = accepted J in
    let leaf = from_filter (λ (x : Update). not (is_prev_in us (id_of_update x))) t us on in
    let put = put_from_writer here J t l leaf.0 mine in
    let some = (put_allowed here J t l (put_at t J put)).fresh.named in
    elim (in_line here J l t put) [
      | inl end ↦ end
      | inr n ↦ absurd (both_ways _ (fails_from_not _ leaf.1) (any_from (λ (w : Update). is_among (id_of_update t) (prevs w)) n.next us (put_is_accepted n.next J n.on) (among_from (id_of_update t) (prevs n.next) (in_prevs n.next (id_of_update t) n.prev some))))
    ]

-- updates of one id that are separate are one at most
one_at_most : (us : List Update) (h : List ℕ) → HaveOwnIds us → ((t : Update) → IsIn t us → id_of_update t ≡ h) → length us ≤ 1
one_at_most [] h apart same = omega arith
one_at_most (t ∷ []) h apart same = omega arith
one_at_most (t ∷ u ∷ us) h apart same = absurd (apart.0.0 (same u (inr (inl refl)) ∙ sym (same t (inl refl))))

twice : (b : Bool) → b ≡ not (not b)
twice true = refl
twice false = refl

pub few_leaves : (here : Setting) (J : List Record) → IsLawful here J → length (leaves_of (accepted J)) ≤ 4097
unfolding foreign_leaves leaves_of
few_leaves here J l =
    let leaves = leaves_of (accepted J) in
    let mine = filter (λ (t : Update). t.writer == here.me) leaves in
    let apart = own_ids_filter (λ (t : Update). t.writer == here.me) leaves (own_ids_filter _ (accepted J) (own_ids_from_causal [] (accepted J) (lawful_is_causal here J l))) in
    let one = one_at_most mine (last_own J) apart (λ t on. let f = from_filter (λ (x : Update). x.writer == here.me) t leaves on in own_leaf_is_last here J t l f.0 (eqb-true _ _ f.1)) in
    let both = length-filter_both (λ (t : Update). not (t.writer == here.me)) (λ (t : Update). t.writer == here.me) (λ t. twice (t.writer == here.me)) leaves in
    let foreign = few_foreign here J l in
    omega (arith, one, both, foreign)
