-- What holds of the update of a put: its texts, the journal with it, and what a refusal says.
use Rattle.std.proofs.Common.{◌≡◌, ℕ, ◌<◌, ◌≤◌, ltb, Bool, true, false, List, [], ◌∷◌, ◌++◌, length, map, Option, Some, None, option_map, refl, sym, ap, subst, ◌∙◌, arith, inl, inr, Ok, Err}
use Rattle.std.proofs.lemmas.Bool.{ltb-true, ltb-false}
use Rattle.depot_base.specs.declared.check.Full.{Full}
use Rattle.depot_base.specs.declared.record.Record.{Record}
use Rattle.depot_base.specs.declared.record.Record.TheVariants.{OwnPut, Foreign}
use Rattle.depot_base.specs.declared.statement.Signed.{Signed}
use Rattle.depot_base.specs.declared.update.Update.{Update}
use Rattle.depot_base.specs.declared.write.Change.{Change}
use Rattle.depot_base.specs.declared.write.Write.{Write}
use Rattle.depot_model.specs.updates.Changes.{AreChanges}
use Rattle.depot_model.specs.checks.Checks.{Setting}
use Rattle.depot_model.specs.journals.Journal.{own}
use Rattle.depot_model.specs.journals.Lawful.{IsLawful, is_empty}
use Rattle.depot_model.specs.lists.Lists.{IsIn}
use Rattle.depot_model.specs.checks.Own.{next_own, next_with, write_of, values_of, IsFresh, leaf_count}
use Rattle.depot_model.specs.texts.Records.{IsRecord, text_of_record, IsTextOf}
use Rattle.depot_model.specs.checks.Room.{full_by}
use Rattle.depot_model.specs.texts.Texts.{id_of_update}
use Rattle.depot_laws.proofs.own_updates.OwnTexts.{own_record_fits, own_put_is_lawful}
use Rattle.depot_readings.specs.NewRecords.{MayGrow}
use Rattle.depot_model.specs.checks.Limits.{limit_of_own, limit_of_put, IsCutShort}
use Rattle.depot_model.specs.checks.Limits as limits
use Rattle.depot_model.proofs.of_updates.LimitLaws.{limit_spent, limit_tips, limit_collides, limit_full, limit_none}
use Rattle.depot_decide.specs.Deciding.{HasGrown, HadNoRoom}
use Rattle.depot_decide.specs.PlannedPuts.{IsTooWide, IsPlanned, IsRefused}
use Rattle.depot_model.specs.checks.Putting.{put_done_of, put_records, Puts}
use Rattle.depot_model.specs.declared.put_answers.PutDone.{PutDone}
use Rattle.depot_model.specs.declared.put_answers.PutError.TheVariants as refused
use Rattle.depot_decide.specs.PlanErrors.{of_next, put_error_of}
use Rattle.depot_decide.specs.declared.plan_errors.PlanError.{PlanError}
use Rattle.depot_decide.specs.declared.plan_errors.PlanError.TheVariants as plan
use Rattle.depot_decide.specs.declared.plan_errors.NextError.{NextError}
use Rattle.depot_decide.specs.declared.plan_errors.NextError.TheVariants as next

-- ---- leaves

-- the limit of a put is that of its update
limit_is : (here : Setting) (J : List Record) (changes : List Change) → limit_of_put here J changes ≡ limit_of_own here J (next_own here.me J changes) (put_records here J changes)
unfolding limit_of_put
limit_is here J changes = refl

-- no leaf is left to sign it
pub spent : (here : Setting) (J : List Record) (changes : List Change) (n : ℕ) (left : Bool) → n ≡ length (own J) → left ≡ ltb n (leaf_count here.listed here.me) → left ≡ false → IsRefused here J changes (plan.Spent n)
spent here J changes n left counted is none =
    let all : leaf_count here.listed here.me ≤ n = ltb-false _ _ (sym is ∙ none) in
    limit_is here J changes ∙ limit_spent here J (next_own here.me J changes) (put_records here J changes) (omega (arith, all, counted)) ∙ ap (λ (m : ℕ). Some (limits.spent m)) (sym counted)

-- ---- the update

-- the next own update with the writes of changes is that of the changes
pub next_is : (me : ℕ) (J : List Record) (u : Update) (ws : List Write) (changes : List Change) → u ≡ next_with me J ws → ws ≡ map write_of changes → u ≡ next_own me J changes
unfolding next_own
next_is me J u ws changes next is = next ∙ ap (next_with me J) is

pub leaf_left : (J : List Record) (n count : ℕ) (left : Bool) → n ≡ length (own J) → left ≡ ltb n count → left ≡ true → length (own J) < count
leaf_left J n count left counted is some = let below : n < count = ltb-true _ _ (sym is ∙ some) in omega (arith, below, counted)

-- What is known of the update and the values once they are made.
pub record IsMade (here : Setting) (J : List Record) (u : Update) (changes : List Change) (values : List (List ℕ)) : Type 0 where
  pub lawful : IsLawful here J
  pub some : is_empty J ≡ false
  pub good : AreChanges changes
  pub leaf : length (own J) < leaf_count here.listed here.me
  pub next : u ≡ next_own here.me J changes
  pub narrow : length u.deps ≤ 1024
  pub held : values ≡ values_of changes

-- its record has a text
pub made_record_fits : {here : Setting} {J : List Record} {u : Update} {changes : List Change} {values : List (List ℕ)} → IsMade here J u changes values → IsRecord (OwnPut u values)
made_record_fits {here = here} {J = J} {u = u} {changes = changes} m =
    subst (λ (vs : List (List ℕ)). IsRecord (OwnPut u vs)) (sym m.held) (own_record_fits here J u changes m.lawful m.some m.good m.next m.narrow)

-- the text of its record
pub made_text : {here : Setting} {J : List Record} {u : Update} {changes : List Change} {values : List (List ℕ)} → IsMade here J u changes values → (text : List ℕ) → text ≡ text_of_record (OwnPut u values) → IsTextOf (OwnPut u values) text
made_text m text is = record { fits = made_record_fits m; is = is }

-- its record is what a put appends
made_grows : {here : Setting} {J : List Record} {u : Update} {changes : List Change} {values : List (List ℕ)} → IsMade here J u changes values → OwnPut u values ∷ [] ≡ put_records here J changes
made_grows {u = u} {changes = changes} m = ap (λ (vs : List (List ℕ)). OwnPut u vs ∷ []) m.held ∙ ap (λ (x : Update). OwnPut x (values_of changes) ∷ []) m.next

-- the journal with it is lawful where its id is fresh and there is room
made_is_lawful : {here : Setting} {J : List Record} {u : Update} {changes : List Change} {values : List (List ℕ)} → IsMade here J u changes values → IsFresh J (id_of_update u) → full_by here.me J (OwnPut u values ∷ []) ≡ None → IsLawful here (J ++ OwnPut u values ∷ [])
made_is_lawful {here = here} {J = J} {u = u} {changes = changes} m fresh room =
    let held = ap (λ (vs : List (List ℕ)). OwnPut u vs ∷ []) m.held in
    subst (λ (rs : List Record). IsLawful here (J ++ rs)) (sym held) (own_put_is_lawful here J u changes m.lawful m.some m.good m.next fresh m.narrow m.leaf (ap (full_by here.me J) (sym held) ∙ room))

-- ---- decided

-- it has too many entries, or memory ran out
wide_own : (here : Setting) (J : List Record) (changes : List Change) (e : NextError) → length (own J) < leaf_count here.listed here.me → IsTooWide (next_own here.me J changes) e → IsRefused here J changes (of_next e)
wide_own here J changes next.Memory leaf wide = wide
wide_own here J changes (next.Tips n) leaf wide =
    let n_is : n ≡ length (next_own here.me J changes).deps = wide.0 in
    limit_is here J changes ∙ limit_tips here J (next_own here.me J changes) (put_records here J changes) leaf (omega (arith, n_is, wide.1)) ∙ ap (λ (m : ℕ). Some (limits.tips m)) (sym n_is)

pub too_wide : (here : Setting) (J : List Record) (ws : List Write) (changes : List Change) (e : NextError) → length (own J) < leaf_count here.listed here.me → ws ≡ map write_of changes → IsTooWide (next_with here.me J ws) e → IsRefused here J changes (of_next e)
too_wide here J ws changes e leaf is wide = wide_own here J changes e leaf (subst (λ (u : Update). IsTooWide u e) (next_is here.me J (next_with here.me J ws) ws changes refl is) wide)

-- its id isn't fresh
pub collides : {here : Setting} {J : List Record} {u : Update} {changes : List Change} {values : List (List ℕ)} → IsMade here J u changes values → (id : List ℕ) → id ≡ id_of_update u → (IsFresh J id → ⊥) → IsRefused here J changes (plan.Collides id)
collides {here = here} {J = J} {u = u} {changes = changes} m id is stale =
    limit_is here J changes
    ∙ subst (λ (x : Update). limit_of_own here J x (OwnPut x (values_of changes) ∷ []) ≡ Some (limits.collides id)) m.next
    (limit_collides here J u (OwnPut u (values_of changes) ∷ []) m.leaf m.narrow (λ fresh. stale (subst (λ (h : List ℕ). IsFresh J h) (sym is) fresh)) ∙ ap (λ (h : List ℕ). Some (limits.collides h)) (sym is))

-- of an update with a leaf, few entries and a fresh id only the room is open
limit_is_room : (here : Setting) (J : List Record) (u : Update) (new : List Record) → length (own J) < leaf_count here.listed here.me → length u.deps ≤ 1024 → IsFresh J (id_of_update u) → limit_of_own here J u new ≡ option_map limits.full (full_by here.me J new)
limit_is_room here J u new leaf narrow fresh = by_room (full_by here.me J new) refl where
  by_room : (o : Option Full) → full_by here.me J new ≡ o → limit_of_own here J u new ≡ option_map limits.full (full_by here.me J new)
  by_room None e = limit_none here J u new leaf narrow fresh e ∙ sym (ap (λ (x : Option Full). option_map limits.full x) e)
  by_room (Some what) e = limit_full here J u new what leaf narrow fresh e ∙ sym (ap (λ (x : Option Full). option_map limits.full x) e)

-- it is planned
pub planned : {here : Setting} {J : List Record} {u : Update} {changes : List Change} {values : List (List ℕ)} → IsMade here J u changes values → (id : List ℕ) (new : List Record) → id ≡ id_of_update u → IsFresh J id → new ≡ OwnPut u values ∷ []
    → IsPlanned here J changes (record { id = id; seq = u.seq; clock = u.clock }) new
planned {here = here} {J = J} {u = u} {changes = changes} {values = values} m id new is fresh grows =
    let done : PutDone = record { id = id; seq = u.seq; clock = u.clock } in
    let fresh_too = subst (λ (h : List ℕ). IsFresh J h) is fresh in
    record {
      limit =
          limit_is here J changes
          ∙ subst (λ (x : Update). limit_of_own here J x (OwnPut x (values_of changes) ∷ []) ≡ option_map limits.full (full_by here.me J (OwnPut x (values_of changes) ∷ []))) m.next
          (limit_is_room here J u (OwnPut u (values_of changes) ∷ []) m.leaf m.narrow fresh_too)
          ∙ ap (λ (rs : List Record). option_map limits.full (full_by here.me J rs)) (sym (grows ∙ made_grows m));
      told = subst (λ (x : Update). done ≡ put_done_of x) m.next (ap (λ (h : List ℕ). record { id = h; seq = u.seq; clock = u.clock }) is);
      grows = grows ∙ made_grows m;
      lawful = λ room. subst (λ (rs : List Record). IsLawful here (J ++ rs)) (sym grows) (made_is_lawful m fresh_too (ap (full_by here.me J) (sym grows) ∙ room));
    }

-- a refusal leaves the journal as it is
pub refused_puts : (here : Setting) (J : List Record) (changes : List Change) (e : PlanError) → IsRefused here J changes e → Puts here J changes (Err (put_error_of e)) J
refused_puts here J changes plan.Memory r = refl
refused_puts here J changes (plan.Spent n) r = (r, refl)
refused_puts here J changes (plan.Tips n) r = (r, refl)
refused_puts here J changes (plan.Collides h) r = (r, refl)

-- ---- carried out

-- the journal may grow by it
pub plan_may_grow : (here : Setting) (J : List Record) (changes : List Change) (done : PutDone) (new : List Record) → IsPlanned here J changes done new → MayGrow here J new
plan_may_grow here J changes done new p = record {
  statements = λ s on. absurd (none (next_own here.me J changes) (subst (λ (rs : List Record). IsIn (Foreign s) rs) p.grows on));
  lawful = p.lawful;
} where
  none : {s : Signed} (u : Update) → IsIn (Foreign s) (OwnPut u (values_of changes) ∷ []) → ⊥
  none u (inl is) = absurd cc
  none u (inr never) = never

-- it is put
pub plan_is_put : (here : Setting) (J : List Record) (changes : List Change) (done : PutDone) (new then : List Record) → IsPlanned here J changes done new → HasGrown here.me J new then → Puts here J changes (Ok done) then
plan_is_put here J changes done new then p grown = (
  p.limit ∙ ap (λ (o : Option Full). option_map limits.full o) grown.0,
  (p.told, grown.1 ∙ ap (λ (rs : List Record). J ++ rs) p.grows),
)

-- there is no room for its record
pub plan_has_no_room : (here : Setting) (J : List Record) (changes : List Change) (done : PutDone) (new then : List Record) (full : Full) → IsPlanned here J changes done new → HadNoRoom here.me J new full then
    → Puts here J changes (Err (refused.Full full)) then
plan_has_no_room here J changes done new then full p none = (p.limit ∙ ap (λ (o : Option Full). option_map limits.full o) none.0, none.1)

-- or the disk cut it short
pub plan_is_cut : (here : Setting) (J : List Record) (changes : List Change) (done : PutDone) (new then : List Record) → IsPlanned here J changes done new → full_by here.me J new ≡ None → IsCutShort J new then → Puts here J changes (Err refused.Disk) then
plan_is_cut here J changes done new then p room cut = (
  p.limit ∙ ap (λ (o : Option Full). option_map limits.full o) room,
  subst (λ (rs : List Record). IsCutShort J rs then) p.grows cut,
)
