-- The prev of an update that joins a lawful journal: 32 zero bytes, or an earlier step of the same writer that is there.
use Rattle.std.proofs.Common.{◌≡◌, ℕ, List, [], ◌∷◌, map, Option, Some, None, refl, sym, ap, subst, ◌∙◌, inl, inr, ◌⊎◌}
use Rattle.std.specs.Str.{bytes_eq}
use Rattle.std.proofs.lemmas.Slice.Eq.{bytes_eq-Decides}
use Rattle.std.proofs.lemmas.Bool.{not-false, eqb-true, leb-false, cases_Bool, or_parts}
use Rattle.depot_base.specs.Zeros.{zeros}
use Rattle.depot_base.specs.declared.update.Update.{Update}
use Rattle.depot_base.specs.declared.statement.Statement.TheVariants as statement
use Rattle.depot_base.specs.declared.record.Record.{Record}
use Rattle.depot_base.specs.declared.record.Record.TheVariants.{Birth, OwnPut, OwnVoucher, Foreign, Conviction, Held}
use Rattle.depot_base.specs.declared.check.Check.{Check}
use Rattle.depot_model.specs.lists.Lists.{IsIn}
use Rattle.depot_model.specs.texts.Texts.{id_of_update}
use Rattle.depot_model.specs.updates.Order.{prevs, IsCausal}
use Rattle.depot_model.specs.journals.Journal.{accepted, accepted_by, own, last_own, named}
use Rattle.depot_model.specs.checks.Checks.{Setting, sight, lost, wrong_prev, behind}
use Rattle.depot_model.specs.checks.Own.{next_with}
use Rattle.depot_model.specs.journals.Lawful.{MayFollow, IsLawful}
use Rattle.depot_model.proofs.lists.FirstLaws.{each_is_none, when-none}
use Rattle.depot_model.proofs.of_updates.Orders.{one_of_id}
use Rattle.depot_model.specs.updates.Chains.{HasPrev}
use Rattle.depot_laws.proofs.lists.Splits.{given_by, flat_left, lawful_before}
use Rattle.depot_laws.proofs.lists.Tests.{all_left}
use Rattle.depot_model.proofs.of_updates.NamedIds.{named_is}
use Rattle.depot_laws.proofs.records.Taken.{AllNone, HasContent, new_is}
use Rattle.depot_laws.proofs.records.Causes.{last_own_is, own_in_accepted, content_of_new, update_in_is}
use Rattle.depot_laws.proofs.own_updates.OwnSteps.{own_writer, below_next}
use Rattle.depot_laws.proofs.own_updates.Nexts.{next_of}

-- u names no prev, or its prev is one of these, of its own writer and an earlier step
abbrev pub KnowsPrev : List Update → Update → Type 0
KnowsPrev us u = (u.prev ≡ zeros) ⊎ HasPrev us u

-- so it does with other updates, if those of its writer are among them
pub knows_prev_in : (us vs : List Update) (u : Update) → ((t : Update) → IsIn t us → t.writer ≡ u.writer → IsIn t vs) → KnowsPrev us u → KnowsPrev vs u
knows_prev_in us vs u moved (inl none) = inl none
knows_prev_in us vs u moved (inr p) = inr (record { prev = p.prev; known = moved p.prev p.known p.writer; id = p.id; writer = p.writer; earlier = p.earlier })

-- the update whose id is the prev is of the same writer
pub prev_writer : (us : List Update) (u t : Update) → IsCausal [] us → KnowsPrev us u → IsIn t us → id_of_update t ≡ u.prev → (u.prev ≡ zeros → ⊥) → t.writer ≡ u.writer
prev_writer us u t c (inl none) on id known = absurd (known none)
prev_writer us u t c (inr p) on id known = ap (λ (x : Update). x.writer) (one_of_id [] us t p.prev c on p.known (id ∙ sym p.id)) ∙ p.writer

-- ---- an update whose checks pass

-- what the checks say of the prev that is seen
seen_prev : (us : List Update) (u : Update) (seen : Option Update) → named us u.prev ≡ seen → lost u.prev seen ≡ None → wrong_prev u seen ≡ None → behind u seen ≡ None → HasPrev us u
seen_prev us u None is there right above = absurd cc
seen_prev us u (Some t) is there right above =
    let n = named_is us u.prev t is in
    let over = or_parts _ _ (when-none _ _ above) in
    record { prev = t; known = n.0; id = n.1; writer = eqb-true _ _ (not-false _ (when-none _ _ right)); earlier = record { seq = leb-false _ _ over.0; clock = leb-false _ _ over.1 } }

-- what each check says where one prev is named
one_seen : (us : List Update) (u : Update) (ps : List (List ℕ)) → ps ≡ u.prev ∷ [] → (check : Option Update → Option Check) → AllNone (map check (map (named us) ps)) → check (named us u.prev) ≡ None
one_seen us u ps one check all = (subst (λ (qs : List (List ℕ)). AllNone (map check (map (named us) qs))) one all).0

-- it knows its prev
pub content_prev : (us : List Update) (u : Update) → HasContent us u → KnowsPrev us u
unfolding sight
content_prev us u c = elim (cases_Bool (bytes_eq u.prev zeros)) [
  | inl none ↦ inl ((bytes_eq-Decides u.prev zeros).0 none)
  | inr some ↦
      let one : prevs u ≡ u.prev ∷ [] = rw some refl in
      inr (seen_prev us u (named us u.prev) refl
      (one_seen us u (prevs u) one (lost u.prev) (all_left _ (map (lost u.prev) (map (named us) (prevs u))) _ (each_is_none _ c.missing)))
      (one_seen us u (prevs u) one (wrong_prev u) (all_left _ (map (wrong_prev u) (map (named us) (prevs u))) _ (each_is_none _ c.wrong_dep)))
      (one_seen us u (prevs u) one (behind u) (each_is_none _ c.backward)))
]

-- ---- the next own update

-- it names the last own update, if there is one
pub put_prev : (here : Setting) (J : List Record) (u : Update) → IsLawful here J → u ≡ next_with here.me J u.writes → KnowsPrev (accepted J) u
put_prev here J u l next =
    let prev : u.prev ≡ last_own J = ap (λ (x : Update). x.prev) next in
    let writer : u.writer ≡ here.me = ap (λ (x : Update). x.writer) next in
    elim (last_own_is zeros (own J)) [
      | inl none ↦ inl (prev ∙ none)
      | inr last ↦ inr (record {
        prev = last.0;
        known = own_in_accepted last.0 J last.1.0;
        id = last.1.1 ∙ sym prev;
        writer = own_writer here J l (statement.Update last.0) last.1.0 ∙ sym writer;
        earlier = below_next here J last.0 u l next last.1.0;
      })
    ]

-- ---- what a record accepts

-- an update that a record accepts knows its prev
pub record_prev : (here : Setting) (J : List Record) (r : Record) (u : Update) → IsLawful here J → MayFollow here J r → IsIn u (accepted_by r) → KnowsPrev (accepted J) u
record_prev here J (Birth node h) u l may never = absurd never
record_prev here J (OwnPut w value) u l may (inl same) = subst (λ (x : Update). KnowsPrev (accepted J) x) same (put_prev here J w l (next_of may))
record_prev here J (OwnPut w value) u l may (inr never) = absurd never
record_prev here J (OwnVoucher v) u l may never = absurd never
record_prev here J (Foreign s) u l may on = content_prev (accepted J) u (content_of_new here J s u (update_in_is s.statement u on) (new_is here J s may.0))
record_prev here J (Conviction p) u l may never = absurd never
record_prev here J (Held value) u l may never = absurd never

-- the prev of an accepted update is accepted, if it names one
pub accepted_prev : (here : Setting) (J : List Record) (u : Update) → IsLawful here J → IsIn u (accepted J) → KnowsPrev (accepted J) u
accepted_prev here J u l on =
    let g = given_by accepted_by u J on in
    knows_prev_in (accepted g.before) (accepted J) u (λ t there same. subst (λ (x : List Record). IsIn t (accepted x)) (sym g.is) (flat_left accepted_by t g.before (g.by ∷ g.after) there))
    (record_prev here g.before g.by u (lawful_before here J g.before g.by g.after l g.is) (l.each g.before g.by g.after g.is).may g.given)
