-- The updates of each writer are a forest, and those of a writer who isn't convicted are one chain.
use Rattle.std.proofs.Common.{◌≡◌, ℕ, ◌==◌, List, [], ◌∷◌, ◌++◌, filter, Bool, true, false, not, cond, refl, sym, ap, subst, ◌∙◌, inl, inr, ◌⊎◌, arith}
use Rattle.std.specs.Str.{bytes_eq}
use Rattle.std.proofs.lemmas.Slice.Eq.{bytes_eq-Decides}
use Rattle.std.proofs.lemmas.Bool.{eqb-true, eqb-false, eq-eqb, both_ways, false_from_ne_true, and_from}
use Rattle.std.proofs.lemmas.List.{append-nil}
use Rattle.std.proofs.lemmas.List.Elements.{filter-append}
use Rattle.depot_base.specs.Zeros.{zeros}
use Rattle.depot_base.specs.Statement.{writer_of}
use Rattle.depot_base.specs.declared.update.Update.{Update}
use Rattle.depot_base.specs.declared.statement.Statement.{Statement}
use Rattle.depot_base.specs.declared.statement.Statement.TheVariants as statement
use Rattle.depot_base.specs.declared.statement.Signed.{Signed}
use Rattle.depot_base.specs.declared.proof.Kind.TheVariants.{SamePrev}
use Rattle.depot_base.specs.declared.record.Record.{Record}
use Rattle.depot_base.specs.declared.record.Record.TheVariants.{Birth, OwnPut, OwnVoucher, Foreign, Conviction, Held}
use Rattle.depot_model.specs.lists.Lists.{IsIn}
use Rattle.depot_model.specs.texts.Texts.{text_of_update, text_of_statement, id_of_update}
use Rattle.depot_model.specs.updates.Contradictions.{is_of_kind, contradicts}
use Rattle.depot_model.specs.journals.Journal.{accepted, accepted_by, own, own_by, foreign, foreign_by, is_convicted}
use Rattle.depot_model.specs.checks.Checks.{Setting}
use Rattle.depot_model.specs.journals.Lawful.{MayFollow, IsAllowed, IsLawful}
use Rattle.depot_model.proofs.lists.Members.{in_last, all_at, all_push, from_filter, in_filter}
use Rattle.depot_model.proofs.of_texts.BodyLaws.{text_of_statement-Update}
use Rattle.depot_model.specs.updates.Chains.{IsChain, IsEarlierStep, RisesInSteps, HasPrev}
use Rattle.depot_laws.proofs.lists.Splits.{given_by, given_too, flat_left, flat_gives, place_of, none_splits, lawful_push, lawful_from_end}
use Rattle.depot_model.proofs.of_updates.NamedIds.{has_id_from}
use Rattle.depot_laws.proofs.records.Causes.{Joins, record_joins, update_in_is, accepts}
use Rattle.depot_laws.proofs.convicting.Contrary.{kept_is_genuine}
use Rattle.depot_laws.proofs.convicting.Convictions.{unconvicted_before}
use Rattle.depot_laws.proofs.own_updates.OwnSteps.{own_writer}
use Rattle.depot_laws.proofs.orders.Prevs.{KnowsPrev, knows_prev_in, record_prev}
use Rattle.depot_laws.proofs.own_updates.OwnAgree.{own_agree}
use Rattle.depot_laws.proofs.convicting.ContraryConvict.{contrary_convict}

-- ---- forests

-- what holds of an accepted update and those before it
record Stands (us : List Update) (u : Update) : Type 0 where
  pub joins : Joins us u
  pub prev : KnowsPrev us u

abbrev EachStands : List Record → Type 0
EachStands J = (us : List Update) (u : Update) (vs : List Update) → accepted J ≡ us ++ u ∷ vs → Stands us u

stands_more : (here : Setting) (J : List Record) (r : Record) → IsLawful here J → MayFollow here J r → EachStands J → EachStands (J ++ r ∷ [])
stands_more here J r l may before us u vs e = elim (accepts J r) [
  | inl none ↦ before us u vs (sym none ∙ e)
  | inr one ↦ elim (place_of (accepted J) us vs one.update u (sym one.is ∙ e)) [
    | inl p ↦
        let stands : Stands (accepted J) one.update = record { joins = record_joins here J r one.update may one.on; prev = record_prev here J r one.update l may one.on } in
        subst (λ (xs : List Update). Stands xs u) p.front (subst (λ (x : Update). Stands (accepted J) x) p.last stands)
    | inr i ↦ before us u i.after i.is
  ]
]

each_stands : (here : Setting) (J : List Record) → IsLawful here J → EachStands J
each_stands here J l = lawful_from_end here EachStands (λ us u vs e. absurd (none_splits us u vs e)) (λ J r l allowed. stands_more here J r l allowed.may) J l

-- each accepted update's prev comes before it, if it names one
pub forests : (here : Setting) (J : List Record) → IsLawful here J → (us : List Update) (u : Update) (vs : List Update) → accepted J ≡ us ++ u ∷ vs → (u.prev ≡ zeros → ⊥) → HasPrev us u
forests here J l us u vs e named = elim (each_stands here J l us u vs e).prev [
  | inl none ↦ absurd (named none)
  | inr p ↦ p
]

-- what joins has an id of its own
new_to : (us : List Update) (u t : Update) → Joins us u → IsIn t us → id_of_update t ≡ id_of_update u → ⊥
new_to us u t joins on same = both_ways _ joins.new (has_id_from us (id_of_update u) t on same)

-- no id occurs twice
pub apart : (here : Setting) (J : List Record) → IsLawful here J → (us : List Update) (u : Update) (vs : List Update) → accepted J ≡ us ++ u ∷ vs → (t : Update) → IsIn t us → id_of_update t ≡ id_of_update u → ⊥
apart here J l us u vs e t on same = new_to us u t (each_stands here J l us u vs e).joins on same

-- ---- chains

-- the updates of one writer
abbrev written_by : ℕ → List Update → List Update
written_by w us = filter (λ u. u.writer == w) us

-- the one of a chain that u names as its prev, where no other names it, is the last
ends_with : (h : List ℕ) (us : List Update) (u t : Update) → IsChain h us → IsIn t us → id_of_update t ≡ u.prev → ((x : Update) → IsIn x us → x.prev ≡ u.prev → ⊥) → (front : List Update) × (us ≡ front ++ t ∷ [])
ends_with h [] u t chain never e free = absurd never
ends_with h (x ∷ []) u t chain (inl here) e free = ([], ap (λ (y : Update). y ∷ []) here)
ends_with h (x ∷ y ∷ us) u t chain (inl here) e free = absurd (free y (inr (inl refl)) (chain.1.0 ∙ ap id_of_update here ∙ e))
ends_with h (x ∷ us) u t chain (inr there) e free = let r = ends_with (id_of_update x) us u t chain.1 there e (λ y on. free y (inr on)) in (x ∷ r.0, ap (λ (ys : List Update). x ∷ ys) r.1)

-- where u names what the chain starts from, and no other does, the chain is empty
starts_with : (h : List ℕ) (us : List Update) (u : Update) → IsChain h us → u.prev ≡ h → ((x : Update) → IsIn x us → x.prev ≡ u.prev → ⊥) → us ≡ []
starts_with h [] u chain e free = refl
starts_with h (x ∷ us) u chain e free = absurd (free x (inl refl) (chain.0 ∙ sym e))

-- one more after the last
chain_push : (h : List ℕ) (front : List Update) (t u : Update) → IsChain h (front ++ t ∷ []) → u.prev ≡ id_of_update t → IsChain h ((front ++ t ∷ []) ++ u ∷ [])
chain_push h [] t u chain e = (chain.0, (e, tt))
chain_push h (x ∷ front) t u chain e = (chain.0, chain_push (id_of_update x) front t u chain.1 e)

earlier_trans : (s t u : Update) → IsEarlierStep s t → IsEarlierStep t u → IsEarlierStep s u
earlier_trans s t u p q = record { seq = omega (arith, p.seq, q.seq); clock = omega (arith, p.clock, q.clock) }

rises_push : (front : List Update) (t u : Update) → RisesInSteps (front ++ t ∷ []) → IsEarlierStep t u → RisesInSteps ((front ++ t ∷ []) ++ u ∷ [])
rises_push [] t u rises earlier = ((earlier, tt), (tt, tt))
rises_push (x ∷ front) t u rises earlier = (
  all_push (IsEarlierStep x) (front ++ t ∷ []) u rises.0 (earlier_trans x t u (all_at (IsEarlierStep x) (front ++ t ∷ []) t rises.0 (in_last front t)) earlier),
  rises_push front t u rises.1 earlier,
)

-- a chain whose steps rise
record Steps (us : List Update) : Type 0 where
  pub chain : IsChain zeros us
  pub rises : RisesInSteps us

steps_push : (us : List Update) (u : Update) → Steps us → KnowsPrev us u → ((x : Update) → IsIn x us → x.prev ≡ u.prev → ⊥) → Steps (us ++ u ∷ [])
steps_push us u steps (inl none) free =
    let empty = starts_with zeros us u steps.chain none free in
    subst (λ (xs : List Update). Steps (xs ++ u ∷ [])) (sym empty) (record { chain = (none, tt); rises = (tt, tt) })
steps_push us u steps (inr p) free =
    let end = ends_with zeros us u p.prev steps.chain p.known p.id free in
    subst (λ (xs : List Update). Steps (xs ++ u ∷ [])) (sym end.1) (record {
      chain = chain_push zeros end.0 p.prev u (subst (λ (xs : List Update). IsChain zeros xs) end.1 steps.chain) (sym p.id);
      rises = rises_push end.0 p.prev u (subst (λ (xs : List Update). RisesInSteps xs) end.1 steps.rises) p.earlier;
    })

-- ---- no two updates of a writer who isn't convicted have one prev

-- bodies that are equal have one id
pub id_of_body : (t u : Update) → text_of_statement (statement.Update t) ≡ text_of_statement (statement.Update u) → id_of_update t ≡ id_of_update u
unfolding id_of_update
id_of_body t u e = let same : text_of_update t ≡ text_of_update u = sym (text_of_statement-Update t) ∙ e ∙ text_of_statement-Update u in rw same refl

-- two updates of one writer and one prev with different ids contradict each other
pub same_prev : (t u : Update) → t.writer ≡ u.writer → t.prev ≡ u.prev → (id_of_update t ≡ id_of_update u → ⊥) → contradicts SamePrev (statement.Update t) (statement.Update u) ≡ true
unfolding contradicts is_of_kind
same_prev t u writer prev differ =
    let other : bytes_eq (text_of_statement (statement.Update t)) (text_of_statement (statement.Update u)) ≡ false = false_from_ne_true _ (λ e. differ (id_of_body t u ((bytes_eq-Decides _ _).0 e))) in
    and_from _ _ (and_from _ _ (eq-eqb t.writer u.writer writer) (ap not other)) ((bytes_eq-Decides t.prev u.prev).1 prev)

-- the statement of an accepted update is the node's own, or one that it took
abbrev pub IsBrought : List Statement → List Signed → Update → Type 0
IsBrought ss fs u = IsIn (statement.Update u) ss ⊎ ((s : Signed) × (IsIn s fs × (s.statement ≡ statement.Update u)))

brought_by : (r : Record) (u : Update) → IsIn u (accepted_by r) → IsBrought (own_by r) (foreign_by r) u
brought_by (OwnPut w value) u (inl e) = inl (inl (ap (λ (x : Update). statement.Update x) e))
brought_by (OwnPut w value) u (inr never) = absurd never
brought_by (Foreign s) u on = inr (s, (inl refl, update_in_is s.statement u on))
brought_by (Birth node roster) u never = absurd never
brought_by (OwnVoucher v) u never = absurd never
brought_by (Conviction p) u never = absurd never
brought_by (Held value) u never = absurd never

pub brought : (J : List Record) (u : Update) → IsIn u (accepted J) → IsBrought (own J) (foreign J) u
brought J u on =
    let g = given_by accepted_by u J on in
    elim (brought_by g.by u g.given) [
      | inl mine ↦ inl (given_too accepted_by own_by u (statement.Update u) J g mine)
      | inr s ↦ inr (s.0, (given_too accepted_by foreign_by u s.0 J g s.1.0, s.1.1))
    ]

-- statements of others are not the node's
pub foreign_writer : (here : Setting) (J : List Record) (s : Signed) → IsLawful here J → IsIn s (foreign J) → writer_of s.statement ≡ here.me → ⊥
foreign_writer here J s l on same = eqb-false _ _ (kept_is_genuine here J s l on).other same

-- Two accepted updates of a writer who isn't convicted have two prevs, if they have two ids.
two_prevs : (here : Setting) (J : List Record) (t u : Update) → IsLawful here J → IsIn t (accepted J) → IsIn u (accepted J) → t.writer ≡ u.writer → is_convicted J t.writer ≡ false → (id_of_update t ≡ id_of_update u → ⊥) → t.prev ≡ u.prev → ⊥
two_prevs here J t u l t_on u_on writer free differ prev =
    let e = same_prev t u writer prev differ in
    elim (brought J t t_on) [
      | inl t_mine ↦ elim (brought J u u_on) [
        | inl u_mine ↦ own_agree here J l (statement.Update t) (statement.Update u) t_mine u_mine SamePrev e
        | inr b ↦ foreign_writer here J b.0 l b.1.0 (ap writer_of b.1.1 ∙ sym writer ∙ own_writer here J l (statement.Update t) t_mine)
      ]
      | inr a ↦ elim (brought J u u_on) [
        | inl u_mine ↦ foreign_writer here J a.0 l a.1.0 (ap writer_of a.1.1 ∙ writer ∙ own_writer here J l (statement.Update u) u_mine)
        | inr b ↦
            let both : contradicts SamePrev a.0.statement b.0.statement ≡ true = rw (a.1.1, b.1.1) e in
            let c = contrary_convict here J l a.0 b.0 a.1.0 b.1.0 SamePrev both in
            both_ways _ free (subst (λ n. is_convicted J n ≡ true) (ap writer_of a.1.1) c)
      ]
    ]

-- ---- one chain

steps_more : (here : Setting) (w : ℕ) (J : List Record) (r : Record) (u : Update) → IsLawful here J → IsAllowed here J r → is_convicted (J ++ r ∷ []) w ≡ false → IsIn u (accepted_by r) → Steps (written_by w (accepted J)) → (b : Bool) → (u.writer == w) ≡ b → Steps (written_by w (accepted J) ++ cond b (u ∷ []) [])
steps_more here w J r u l allowed free told steps false e = subst Steps (sym (append-nil (written_by w (accepted J)))) steps
steps_more here w J r u l allowed free told steps true e =
    let writer : u.writer ≡ w = eqb-true _ _ e in
    let test : Update → Bool = λ t. t.writer == w in
    steps_push (written_by w (accepted J)) u steps
    (knows_prev_in (accepted J) (written_by w (accepted J)) u (λ t on same. in_filter test t (accepted J) on (eq-eqb t.writer w (same ∙ writer))) (record_prev here J r u l allowed.may told))
    (λ x on same.
    let old = from_filter test x (accepted J) on in
    let old_writer : x.writer ≡ w = eqb-true _ _ old.1 in
    two_prevs here (J ++ r ∷ []) x u (lawful_push here J r l allowed) (flat_left accepted_by x J (r ∷ []) old.0) (flat_gives accepted_by u r (J ++ r ∷ []) (in_last J r) told) (old_writer ∙ sym writer) (subst (λ n. is_convicted (J ++ r ∷ []) n ≡ false) (sym old_writer) free)
    (new_to (accepted J) u x (record_joins here J r u allowed.may told) old.0) same)

abbrev HasSteps : ℕ → List Record → Type 0
HasSteps w J = is_convicted J w ≡ false → Steps (written_by w (accepted J))

more_steps : (here : Setting) (w : ℕ) (J : List Record) (r : Record) → IsLawful here J → IsAllowed here J r → HasSteps w J → HasSteps w (J ++ r ∷ [])
more_steps here w J r l allowed before free =
    let steps = before (unconvicted_before J (r ∷ []) w free) in
    elim (accepts J r) [
      | inl none ↦ subst (λ (us : List Update). Steps (written_by w us)) (sym none) steps
      | inr one ↦
          let is : written_by w (accepted (J ++ r ∷ [])) ≡ written_by w (accepted J) ++ written_by w (one.update ∷ []) = ap (written_by w) one.is ∙ filter-append (λ (t : Update). t.writer == w) (accepted J) (one.update ∷ []) in
          subst Steps (sym is) (steps_more here w J r one.update l allowed free one.on steps (one.update.writer == w) refl)
    ]

steps_of : (here : Setting) (w : ℕ) (J : List Record) → IsLawful here J → HasSteps w J
steps_of here w J l = lawful_from_end here (HasSteps w) (λ free. record { chain = tt; rises = tt }) (more_steps here w) J l

-- the updates of a writer who isn't convicted are one chain
pub one_chain : (here : Setting) (J : List Record) → IsLawful here J → (w : ℕ) → is_convicted J w ≡ false → IsChain zeros (written_by w (accepted J))
one_chain here J l w free = (steps_of here w J l free).chain

-- whose steps rise
pub rising_chain : (here : Setting) (J : List Record) → IsLawful here J → (w : ℕ) → is_convicted J w ≡ false → RisesInSteps (written_by w (accepted J))
rising_chain here J l w free = (steps_of here w J l free).rises
