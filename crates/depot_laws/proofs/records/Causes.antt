-- Lawful journals keep each parent before its children, and no id occurs twice.
use Rattle.std.proofs.Common.{◌≡◌, ℕ, Bool, true, false, cond, List, [], ◌∷◌, ◌++◌, map, refl, sym, ap, subst, ◌∙◌, inl, inr, ◌⊎◌}
use Rattle.std.specs.Str.{bytes_eq}
use Rattle.std.proofs.lemmas.Slice.Eq.{bytes_eq-Decides}
use Rattle.std.proofs.lemmas.Bool.{both_ways}
use Rattle.depot_base.specs.Zeros.{zeros}
use Rattle.depot_base.specs.declared.update.Update.{Update}
use Rattle.depot_base.specs.declared.update.Dep.{Dep}
use Rattle.depot_base.specs.declared.statement.Statement.{Statement}
use Rattle.depot_base.specs.declared.statement.Statement.TheVariants as statement
use Rattle.depot_base.specs.declared.statement.Signed.{Signed}
use Rattle.depot_base.specs.declared.record.Record.{Record}
use Rattle.depot_base.specs.declared.record.Record.TheVariants.{Birth, OwnPut, OwnVoucher, Foreign, Conviction, Held}
use Rattle.depot_model.specs.declared.taken.Taken.TheVariants.{New}
use Rattle.std.specs.Prelude.{Ok}
use Rattle.depot_model.specs.lists.Lists.{IsIn}
use Rattle.depot_model.specs.texts.Texts.{id_of_update}
use Rattle.depot_model.specs.updates.Order.{prevs, parents, IsCausal}
use Rattle.depot_model.specs.updates.History.{leaves_of}
use Rattle.depot_model.specs.journals.Journal.{accepted, accepted_by, update_in, own, own_by, last_own, last_own_behind, has_id}
use Rattle.depot_model.specs.checks.Own.{entry_of, next_entries, next_with, IsFresh}
use Rattle.depot_model.specs.checks.Checks.{Setting, given_statement, content_of, is_kept, answer_to}
use Rattle.depot_model.specs.journals.Lawful.{MayFollow, IsAllowed, IsLawful}
use Rattle.depot_model.proofs.lists.Members.{in_parts, in_map, from_map, from_filter}
use Rattle.depot_model.proofs.of_updates.Orders.{causal_push}
use Rattle.depot_laws.proofs.lists.Splits.{given_by, given_too, silent, lawful_from_end, accepted_push}
use Rattle.depot_model.proofs.lists.RisingUpdates.{from_by_id}
use Rattle.depot_model.proofs.of_updates.NamedIds.{new_id}
use Rattle.depot_laws.proofs.records.Taken.{AllNone, HasId, IsNew, new_is, HasContent, content_is, parents_are_there}
use Rattle.depot_laws.proofs.own_updates.Nexts.{next_of}
use Rattle.depot_base.specs.declared.write.Write.{Write}

-- ---- the last own update

-- the id of the last own update, or the one to begin with
pub last_own_is : (h : List ℕ) (ss : List Statement) → (last_own_behind h ss ≡ h) ⊎ ((u : Update) × (IsIn (statement.Update u) ss × (id_of_update u ≡ last_own_behind h ss)))
last_own_is h [] = inl refl
last_own_is h (statement.Update u ∷ ss) = elim (last_own_is (id_of_update u) ss) [
  | inl same ↦ inr (u, (inl refl, sym same))
  | inr later ↦ inr (later.0, (inr later.1.0, later.1.1))
]
last_own_is h (statement.Voucher v ∷ ss) = elim (last_own_is h ss) [
  | inl same ↦ inl same
  | inr later ↦ inr (later.0, (inr later.1.0, later.1.1))
]

own_is_accepted : (u : Update) (r : Record) → IsIn (statement.Update u) (own_by r) → IsIn u (accepted_by r)
own_is_accepted u (Birth node h) never = absurd never
own_is_accepted u (OwnPut w value) (inl same) = let p : w ≡ u = cc in inl p
own_is_accepted u (OwnPut w value) (inr never) = absurd never
own_is_accepted u (OwnVoucher v) (inl same) = absurd cc
own_is_accepted u (OwnVoucher v) (inr never) = absurd never
own_is_accepted u (Foreign s) never = absurd never
own_is_accepted u (Conviction p) never = absurd never
own_is_accepted u (Held value) never = absurd never

-- an own update is accepted
pub own_in_accepted : (u : Update) (J : List Record) → IsIn (statement.Update u) (own J) → IsIn u (accepted J)
own_in_accepted u J on = let g = given_by own_by (statement.Update u) J on in given_too own_by accepted_by (statement.Update u) u J g (own_is_accepted u g.by g.given)

-- the last own id is 32 zero bytes, or that of an accepted update
pub last_own_cases : (J : List Record) → (last_own J ≡ zeros) ⊎ HasId (accepted J) (last_own J)
last_own_cases J = elim (last_own_is zeros (own J)) [
  | inl none ↦ inl none
  | inr some ↦ inr (record { update = some.0; on = own_in_accepted some.0 J some.1.0; id = some.1.1 })
]

-- ---- parents

in_prevs_if : (b : Bool) (h x : List ℕ) → IsIn h (cond b [] (x ∷ [])) → (b ≡ false) × (x ≡ h)
in_prevs_if true h x never = absurd never
in_prevs_if false h x (inl here) = (refl, here)
in_prevs_if false h x (inr never) = absurd never

-- what is named as prev is the prev, and not 32 zero bytes
pub prevs_is : (u : Update) (h : List ℕ) → IsIn h (prevs u) → (u.prev ≡ h) × (u.prev ≡ zeros → ⊥)
prevs_is u h on =
    let r = in_prevs_if (bytes_eq u.prev zeros) h u.prev on in
    (r.1, λ e. both_ways (bytes_eq u.prev zeros) r.0 ((bytes_eq-Decides u.prev zeros).1 e))

-- an entry of the next own update names a leaf of another writer
pub entry_is_leaf : (me : ℕ) (us : List Update) (prev : List ℕ) (t : Update) → IsIn t (next_entries me us prev) → IsIn t (leaves_of us)
unfolding next_entries
entry_is_leaf me us prev t on = (from_filter _ t (leaves_of us) (from_by_id t _ on)).0

-- a leaf is one of the updates
pub leaf_is_on : (us : List Update) (t : Update) → IsIn t (leaves_of us) → IsIn t us
unfolding leaves_of
leaf_is_on us t on = (from_filter _ t us on).0

-- an update joins: its parents are there, and its id is new
pub record Joins (us : List Update) (u : Update) : Type 0 where
  pub there : (h : List ℕ) → IsIn h (parents u) → HasId us h
  pub new : has_id us (id_of_update u) ≡ false

own_parents : (me : ℕ) (J : List Record) (ws : List Write) (h : List ℕ) → IsIn h (parents (next_with me J ws)) → HasId (accepted J) h
own_parents me J ws h on = elim (in_parts h (prevs (next_with me J ws)) (map (λ (d : Dep). d.id) (map entry_of (next_entries me (accepted J) (last_own J)))) on) [
  | inl prev ↦
      let p = prevs_is (next_with me J ws) h prev in
      elim (last_own_cases J) [
        | inl none ↦ absurd (p.1 none)
        | inr some ↦ subst (λ (k : List ℕ). HasId (accepted J) k) p.0 some
      ]
  | inr entry ↦
      let d = from_map (λ (d : Dep). d.id) h (map entry_of (next_entries me (accepted J) (last_own J))) entry in
      let t = from_map entry_of d.0 (next_entries me (accepted J) (last_own J)) d.1.0 in
      record {
        update = t.0;
        on = leaf_is_on (accepted J) t.0 (entry_is_leaf me (accepted J) (last_own J) t.0 t.1.0);
        id = ap (λ (d : Dep). d.id) t.1.1 ∙ d.1.1;
      }
]

-- the next own update joins, where its id is fresh
pub own_joins : (me : ℕ) (J : List Record) (u : Update) → u ≡ next_with me J u.writes → IsFresh J (id_of_update u) → Joins (accepted J) u
own_joins me J u next fresh = record {
  there = λ h on. own_parents me J u.writes h (subst (λ (x : Update). IsIn h (parents x)) next on);
  new = fresh.new;
}

-- what the checks of an update that is new say of its content
pub content_of_new : (here : Setting) (J : List Record) (s : Signed) (u : Update) → s.statement ≡ statement.Update u → IsNew here J s → HasContent (accepted J) u
content_of_new here J s u is n = content_is (accepted J) u (subst (λ (x : Statement). AllNone (content_of J x)) is n.passes.content)

-- a new update of another joins
pub taken_joins : (here : Setting) (J : List Record) (s : Signed) (u : Update) → s.statement ≡ statement.Update u → answer_to here J (given_statement s) ≡ Ok New → Joins (accepted J) u
taken_joins here J s u is e =
    let n = new_is here J s e in
    record {
      there = parents_are_there (accepted J) u (content_of_new here J s u is n);
      new = subst (λ (x : Statement). is_kept J x ≡ false) is n.new;
    }

-- the statement whose update is accepted is that update
pub update_in_is : (st : Statement) (u : Update) → IsIn u (update_in st) → st ≡ statement.Update u
update_in_is (statement.Update w) u (inl same) = ap (λ (x : Update). statement.Update x) same
update_in_is (statement.Update w) u (inr never) = absurd never
update_in_is (statement.Voucher v) u never = absurd never

-- what a record accepts joins those before it
pub record_joins : (here : Setting) (J : List Record) (r : Record) (u : Update) → MayFollow here J r → IsIn u (accepted_by r) → Joins (accepted J) u
record_joins here J (Birth node h) u may never = absurd never
record_joins here J (OwnPut w value) u may (inl same) = subst (λ (x : Update). Joins (accepted J) x) same (own_joins here.me J w (next_of may) may.fresh)
record_joins here J (OwnPut w value) u may (inr never) = absurd never
record_joins here J (OwnVoucher v) u may never = absurd never
record_joins here J (Foreign s) u may on = taken_joins here J s u (update_in_is s.statement u on) may.0
record_joins here J (Conviction p) u may never = absurd never
record_joins here J (Held value) u may never = absurd never

-- ---- the order

-- what joins keeps the order
pub joined_is_causal : (us : List Update) (u : Update) → IsCausal [] us → Joins us u → IsCausal [] (us ++ u ∷ [])
joined_is_causal us u c j = causal_push [] us u c
    (λ h on. let t = j.there h on in inr (subst (λ (k : List ℕ). IsIn k (map id_of_update us)) t.id (in_map id_of_update t.update us t.on)))
    (λ never. never) (new_id us (id_of_update u) j.new)

pub none_or_one : (r : Record) → (accepted_by r ≡ []) ⊎ ((u : Update) × (accepted_by r ≡ u ∷ []))
none_or_one (Birth node h) = inl refl
none_or_one (OwnPut u value) = inr (u, refl)
none_or_one (OwnVoucher v) = inl refl
none_or_one (Foreign s) = of_statement s.statement where
  of_statement : (st : Statement) → (update_in st ≡ []) ⊎ ((u : Update) × (update_in st ≡ u ∷ []))
  of_statement (statement.Update u) = inr (u, refl)
  of_statement (statement.Voucher v) = inl refl
none_or_one (Conviction p) = inl refl
none_or_one (Held value) = inl refl

-- the update that one more record accepts
pub record AcceptsOne (J : List Record) (r : Record) : Type 0 where
  pub update : Update
  pub on : IsIn update (accepted_by r)
  pub is : accepted (J ++ r ∷ []) ≡ accepted J ++ update ∷ []

-- one more record accepts no update, or one
pub accepts : (J : List Record) (r : Record) → (accepted (J ++ r ∷ []) ≡ accepted J) ⊎ AcceptsOne J r
accepts J r = elim (none_or_one r) [
  | inl none ↦ inl (silent accepted_by J r none)
  | inr one ↦ inr (record { update = one.0; on = subst (λ (us : List Update). IsIn one.0 us) (sym one.1) (inl refl); is = accepted_push J r ∙ ap (λ (us : List Update). accepted J ++ us) one.1 })
]

with_one_more : (here : Setting) (J : List Record) (r : Record) → IsLawful here J → IsAllowed here J r → IsCausal [] (accepted J) → IsCausal [] (accepted (J ++ r ∷ []))
with_one_more here J r l allowed c = elim (accepts J r) [
  | inl none ↦ subst (λ (us : List Update). IsCausal [] us) (sym none) c
  | inr one ↦ subst (λ (us : List Update). IsCausal [] us) (sym one.is) (joined_is_causal (accepted J) one.update c (record_joins here J r one.update allowed.may one.on))
]

no_updates : IsCausal [] []
unfolding IsCausal
no_updates = tt

-- the accepted updates of a lawful journal, each after its parents
pub lawful_is_causal : (here : Setting) (J : List Record) → IsLawful here J → IsCausal [] (accepted J)
lawful_is_causal here J l = lawful_from_end here (λ (x : List Record). IsCausal [] (accepted x)) no_updates (with_one_more here) J l

-- an own update that is written next
pub put_is_causal : (here : Setting) (J : List Record) (u : Update) → IsLawful here J → u ≡ next_with here.me J u.writes → IsFresh J (id_of_update u) → IsCausal [] (accepted J ++ u ∷ [])
put_is_causal here J u l next fresh = joined_is_causal (accepted J) u (lawful_is_causal here J l) (own_joins here.me J u next fresh)

-- an update of another that is new
pub taken_is_causal : (here : Setting) (J : List Record) (s : Signed) (u : Update) → IsLawful here J → s.statement ≡ statement.Update u → answer_to here J (given_statement s) ≡ Ok New → IsCausal [] (accepted J ++ u ∷ [])
taken_is_causal here J s u l is e = joined_is_causal (accepted J) u (lawful_is_causal here J l) (taken_joins here J s u is e)

-- an update that a record accepts
pub added_is_causal : (here : Setting) (J : List Record) (r : Record) (u : Update) → IsLawful here (J ++ r ∷ []) → accepted_by r ≡ u ∷ [] → IsCausal [] (accepted J ++ u ∷ [])
added_is_causal here J r u l one = subst (λ (us : List Update). IsCausal [] us) (accepted_push J r ∙ ap (λ (us : List Update). accepted J ++ us) one) (lawful_is_causal here (J ++ r ∷ []) l)
