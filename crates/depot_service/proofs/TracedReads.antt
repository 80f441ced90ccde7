-- Reads as a trace records them: each has a text, and states what the node's journal shows.
use Rattle.std.proofs.Common.{◌≡◌, ◌<◌, ◌≤◌, ℕ, ◌+◌, List, [], ◌∷◌, ◌++◌, length, map, take, get_or, Option, Some, None, refl, sym, ap, subst, ◌∙◌, arith}
use Rattle.std.specs.List.{AllByRecursion}
use Rattle.std.specs.Option.{option_map_or}
use Rattle.std.specs.Prelude.{slice_get}
use Rattle.std.proofs.lemmas.List.{length-map, map-append}
use Rattle.depot_base.specs.Format.{Format, Follows, number, bytes_of, list_of}
use Rattle.depot_base.specs.Parts.{digest}
use Rattle.depot_base.specs.Sized.{IsKey, IsValue}
use Rattle.depot_base.specs.Writes.{wrote_under}
use Rattle.depot_base.specs.declared.record.Record.{Record}
use Rattle.depot_base.specs.declared.update.Update.{Update}
use Rattle.depot_base.specs.declared.write.Wrote.{Wrote}
use Rattle.depot_base.specs.declared.write.Wrote.TheVariants.{Put, Gone}
use Rattle.depot_laws.proofs.records.HeldValues.{held_as_is}
use Rattle.depot_laws.proofs.own_updates.OwnTexts.{id_is_digest, lawful_is_short}
use Rattle.depot_laws.proofs.records.WantedValues.{value_fits}
use Rattle.depot_model.proofs.lists.Elements.{one_more}
use Rattle.depot_model.specs.checks.Checks.{Setting}
use Rattle.depot_model.specs.texts.Contents.{IfHeld, NamedValue, Sighting, held_value, not_held}
use Rattle.depot_model.specs.lists.Items.{at, updates_at}
use Rattle.depot_model.specs.journals.Journal.{accepted, held_as, seen_as, seen_under}
use Rattle.depot_model.specs.journals.Lawful.{IsLawful}
use Rattle.depot_model.specs.updates.Order.{AreLatestIn}
use Rattle.depot_model.specs.journals.ShownWrites.{shown_of}
use Rattle.depot_model.specs.texts.Texts.{id_of_update}
use Rattle.depot_model.specs.worlds.Traces as traces
use Rattle.depot_model.specs.worlds.World.{Shown}
use Rattle.depot_traces.specs.SeenTraces.{sighting_of, answered_of, read_of}
use Rattle.depot_traces.specs.TraceTexts.{any_follows, answered_text, behind_mark, read_text}
use Rattle.depot_traces.specs.declared.trace.Answered.{Answered}
use Rattle.depot_traces.specs.declared.trace.ReadTrace.{ReadTrace}
use Rattle.depot_traces.specs.declared.trace.Shown as told
use Rattle.depot_traces.specs.declared.trace.Shown.TheVariants as told_shown
use Rattle.depot_world.specs.Audits.{traced_read}
use Rattle.depot_requests.specs.Effects as effects
use Rattle.depot_service.proofs.FewLatest.{few_latest}
use Rattle.depot_service.proofs.ShownWrites.{shown_are, shown_as}

-- ---- lists

any_follow : {E : Type 0} (entry : Format E) (front es : List E) → AllByRecursion entry.fits es → Follows entry any_follows front es
any_follow entry front [] all = tt
any_follow entry front (e ∷ es) all = (all.0, refl, any_follow entry (front ++ e ∷ []) es all.1)

-- where each has a text, so has the list, in any order
pub all_listed : {E : Type 0} (entry : Format E) (es : List E) → AllByRecursion entry.fits es → (list_of (length es) entry any_follows).fits es
unfolding list_of
all_listed entry es all = (any_follow entry [] es all, refl)

-- ---- what is shown of a write

held_fits : (here : Setting) (J : List Record) (n : NamedValue) (o : Option (List ℕ)) → IsLawful here J → held_as J n ≡ o → IfHeld (option_map_or held_value o not_held) IsValue
held_fits here J n None l is = tt
held_fits here J n (Some v) l is = value_fits here J v l (held_as_is J n v is).on

wrote_fits : (here : Setting) (J : List Record) (o : Option Wrote) → IsLawful here J → IfHeld (option_map_or (seen_as J) o not_held) IsValue
wrote_fits here J None l = tt
wrote_fits here J (Some Gone) l = tt
wrote_fits here J (Some (Put hash size)) l = let n : NamedValue = record { hash = hash; size = size } in held_fits here J n (held_as J n) l refl

-- a value that a lawful journal shows is no longer than a value may be
pub seen_fits : (here : Setting) (J : List Record) (key : List ℕ) (u : Update) → IsLawful here J → IfHeld (seen_under J key u) IsValue
unfolding seen_under
seen_fits here J key u l = wrote_fits here J (wrote_under key u.writes) l

-- a write that a read lists has a text
answered_fits : (id : List ℕ) (s : told.Shown) → digest.fits id → IfHeld (sighting_of s) IsValue → answered_text.fits (record { id = id; shown = s })
unfolding answered_text behind_mark number bytes_of
answered_fits id told_shown.NotHeld fits value = (fits, ((omega arith, omega arith), refl))
answered_fits id (told_shown.Held v) fits value = (fits, ((omega arith, omega arith), ((omega arith, value), (refl, refl))))
answered_fits id told_shown.Gone fits value = (fits, ((omega arith, omega arith), refl))

-- and records the update's write
pub is_answered : (here : Setting) (J : List Record) (key id : List ℕ) (item : ℕ) (u : Update) (s : told.Shown) (seen : Sighting) → IsLawful here J → at (accepted J) item (λ t. id_of_update t ≡ id) → slice_get (accepted J) item ≡ Some u → seen ≡ seen_under J key u → sighting_of s ≡ seen
    → answered_text.fits (record { id = id; shown = s }) × (answered_of (record { id = id; shown = s }) ≡ traces.answered (record { update = u; seen = seen_under J key u }))
is_answered here J key id item u s seen l has on sees shows =
    let same : has.0 ≡ u = let both : Some has.0 ≡ Some u = sym has.1.0 ∙ on in cc in
    let named : id_of_update u ≡ id = ap id_of_update (sym same) ∙ has.1.1 in
    let is : sighting_of s ≡ seen_under J key u = shows ∙ sees in (
      answered_fits id s (subst (λ (h : List ℕ). digest.fits h) named (id_is_digest u)) (subst (λ (x : Sighting). IfHeld x IsValue) (sym is) (seen_fits here J key u l)),
      λ i. record { id = sym named i; shown = is i },
    )

-- ---- a read

-- one more of the latest writes was reported
pub told_more : (J : List Record) (us : List Update) (key items : List ℕ) (i item : ℕ) (u : Update) (listed : List Answered) (a : Answered) → i < length items → item ≡ get_or items i 0 → slice_get us item ≡ Some u
    → answered_of a ≡ traces.answered (record { update = u; seen = seen_under J key u }) → map answered_of listed ≡ map traces.answered (shown_as J key (updates_at us (take i items)))
    → map answered_of (listed ++ a ∷ []) ≡ map traces.answered (shown_as J key (updates_at us (take (i + 1) items)))
told_more J us key items i item u listed a within is at_item tells before =
    let front = updates_at us (take i items) in
    let one : Shown = record { update = u; seen = seen_under J key u } in
    let all : shown_as J key (updates_at us (take (i + 1) items)) ≡ shown_as J key front ++ one ∷ [] = ap (shown_as J key) (one_more us items i item u within is at_item) ∙ map-append _ front (u ∷ []) in
    map-append answered_of listed (a ∷ []) ∙ ap (λ (x : List traces.Answered). x ++ answered_of a ∷ []) before ∙ ap (λ (x : traces.Answered). map traces.answered (shown_as J key front) ++ x ∷ []) tells
    ∙ sym (ap (map traces.answered) all ∙ map-append traces.answered (shown_as J key front) (one ∷ []))

-- its parts have a text, and so has it
read_fits : (r : ReadTrace) → r.length ≤ 4294967295 → IsKey r.key → length r.answer ≤ 4097 → AllByRecursion answered_text.fits r.answer → read_text.fits r
unfolding read_text number bytes_of
read_fits r low key few each = ((omega arith, low), ((key.0, key.1), (refl, ((omega arith, few), (all_listed answered_text r.answer each, refl)))))

-- all were reported
pub is_read : (here : Setting) (J : List Record) (key items : List ℕ) (count : ℕ) (listed : List Answered) → IsLawful here J → AreLatestIn key (accepted J) (updates_at (accepted J) items) → IsKey key → count ≡ length J → AllByRecursion answered_text.fits listed
    → map answered_of listed ≡ map traces.answered (shown_as J key (updates_at (accepted J) items))
    → read_text.fits (record { length = count; key = key; answer = listed }) × (read_of (record { length = count; key = key; answer = listed }) ≡ traced_read (effects.read_at_end J key))
is_read here J key items count listed l latest fits counts each told =
    let us = updates_at (accepted J) items in
    let few = few_latest here J key us l latest in
    let short = lawful_is_short here J l in
    let long : length listed ≡ length us = sym (length-map listed answered_of) ∙ ap length told ∙ length-map (shown_as J key us) traces.answered ∙ length-map us (λ u. record { update = u; seen = seen_under J key u }) in
    let shown : map answered_of listed ≡ map traces.answered (shown_of J key) = told ∙ ap (map traces.answered) (shown_are here J key items l latest) in (
      read_fits (record { length = count; key = key; answer = listed }) (omega (arith, counts, short)) fits (omega (arith, long, few)) each,
      λ i. record { length = counts i; key = key; answer = shown i },
    )
