-- What a read prints: the latest writes of its key, each with the value that is held.
use Rattle.std.proofs.Common.{◌≡◌, ℕ, ◌+◌, ◌<◌, List, [], ◌∷◌, ◌++◌, length, map, take, drop, get_or, Option, Some, None, refl, sym, ap, subst, ◌∙◌}
use Rattle.std.specs.Option.{option_map_or, option_to_list}
use Rattle.std.specs.Prelude.{slice_get}
use Rattle.std.proofs.lemmas.Grind.{flat_map-append}
use Rattle.std.proofs.lemmas.List.{append-nil, map-append, take-append-drop}
use Rattle.depot_answers.specs.AnswerTexts.{spaced, text_of_write}
use Rattle.depot_base.specs.Writes.{wrote_under}
use Rattle.depot_base.specs.declared.record.Record.{Record}
use Rattle.depot_base.specs.declared.write.Wrote.{Wrote}
use Rattle.depot_base.specs.declared.write.Wrote.TheVariants.{Put, Gone}
use Rattle.depot_base.specs.declared.update.Update.{Update}
use Rattle.depot_laws.proofs.records.Causes.{lawful_is_causal}
use Rattle.depot_model.specs.checks.Checks.{Setting}
use Rattle.depot_model.specs.lists.Items.{updates_at}
use Rattle.depot_model.specs.texts.Contents.{NamedValue, Sighting, held_value, not_held, gone}
use Rattle.depot_model.specs.journals.Journal.{accepted, held_as, seen_as, seen_under}
use Rattle.depot_model.specs.journals.Lawful.{IsLawful}
use Rattle.depot_model.specs.lists.Lists.{IsIn}
use Rattle.depot_model.specs.updates.Order.{AreLatestIn, Precedes}
use Rattle.depot_model.specs.worlds.World.{Shown}
use Rattle.depot_model.proofs.lists.Elements.{one_more}
use Rattle.depot_model.proofs.of_updates.LatestLaws.{one_latest_list}
use Rattle.depot_model.proofs.lists.Members.{in_last, in_left}
use Rattle.depot_model.specs.journals.ShownWrites.{shown_of}
use Rattle.depot_model.specs.updates.LatestList.{latest_in}
use Rattle.depot_queries.specs.ShownValues.{value_seen}
use Rattle.depot_service.specs.Printing.{shown_text, shown_value}
use Rattle.depot_model.proofs.of_updates.LatestWrites.{latest_are_listed}

-- the writes that these updates are shown as
abbrev pub shown_as : List Record → List ℕ → List Update → List Shown
shown_as J key us = map (λ u. record { update = u; seen = seen_under J key u }) us

-- the latest writes are those of a read
pub shown_are : (here : Setting) (J : List Record) (key items : List ℕ) → IsLawful here J → AreLatestIn key (accepted J) (updates_at (accepted J) items) → shown_as J key (updates_at (accepted J) items) ≡ shown_of J key
shown_are here J key items l latest =
    let us = accepted J in
    ap (shown_as J key) (one_latest_list key (λ u. IsIn u us) (Precedes us) (updates_at us items) (latest_in key us) latest (latest_are_listed key us (lawful_is_causal here J l)))

-- of a value it is the one that is held, or that none is
by_value : (J : List Record) (n : NamedValue) (value o : Option (List ℕ)) → held_as J n ≡ o → value ≡ value_seen (option_map_or held_value o not_held) → shown_value value ≡ option_map_or held_value o not_held
by_value J n value None is e = ap shown_value e
by_value J n value (Some v) is e = ap shown_value e

pub put_is_shown : (J : List Record) (key : List ℕ) (u : Update) (hash : List ℕ) (size : ℕ) (value : Option (List ℕ)) → wrote_under key u.writes ≡ Some (Put hash size) → value ≡ value_seen (seen_under J key u) → shown_value value ≡ seen_under J key u
unfolding seen_under
put_is_shown J key u hash size value is e =
    let n : NamedValue = record { hash = hash; size = size } in
    let seen : seen_under J key u ≡ option_map_or held_value (held_as J n) not_held = ap (λ (o : Option Wrote). option_map_or (seen_as J) o not_held) is in
    by_value J n value (held_as J n) refl (e ∙ ap value_seen seen) ∙ sym seen

-- a deletion is shown as one
pub deletion_is_shown : (J : List Record) (key : List ℕ) (u : Update) → wrote_under key u.writes ≡ Some Gone → gone ≡ seen_under J key u
unfolding seen_under
deletion_is_shown J key u is = sym (ap (λ (o : Option Wrote). option_map_or (seen_as J) o not_held) is)

-- and where the key isn't written no value is
pub nothing_is_shown : (J : List Record) (key : List ℕ) (u : Update) → wrote_under key u.writes ≡ None → not_held ≡ seen_under J key u
unfolding seen_under
nothing_is_shown J key u is = sym (ap (λ (o : Option Wrote). option_map_or (seen_as J) o not_held) is)

-- one more of them was printed
pub printed_more : (J : List Record) (us : List Update) (key items : List ℕ) (i item : ℕ) (u : Update) (old new : List ℕ) (seen : Sighting) → i < length items → item ≡ get_or items i 0 → slice_get us item ≡ Some u → seen ≡ seen_under J key u
    → old ≡ shown_text (shown_as J key (updates_at us (take i items))) → new ≡ old ++ spaced (text_of_write (record { update = u; seen = seen })) → new ≡ shown_text (shown_as J key (updates_at us (take (i + 1) items)))
printed_more J us key items i item u old new seen within is at held before added =
    let front = updates_at us (take i items) in
    let all : shown_as J key (updates_at us (take (i + 1) items)) ≡ shown_as J key front ++ record { update = u; seen = seen_under J key u } ∷ [] = ap (shown_as J key) (one_more us items i item u within is at) ∙ map-append _ front (u ∷ []) in
    let one : spaced (text_of_write (record { update = u; seen = seen })) ≡ shown_text (record { update = u; seen = seen_under J key u } ∷ []) = ap (λ (o : Sighting). spaced (text_of_write (record { update = u; seen = o }))) held ∙ sym (append-nil (spaced (text_of_write (record { update = u; seen = seen_under J key u })))) in
    added ∙ ap (λ (x : List ℕ). x ++ spaced (text_of_write (record { update = u; seen = seen }))) before ∙ ap (λ (x : List ℕ). shown_text (shown_as J key front) ++ x) one
    ∙ sym (ap shown_text all ∙ flat_map-append (λ (w : Shown). spaced (text_of_write w)) (shown_as J key front) (record { update = u; seen = seen_under J key u } ∷ []))

-- an update at one of these places is one of them
pub is_one_of_them : (us : List Update) (items : List ℕ) (i item : ℕ) (u : Update) → i < length items → item ≡ get_or items i 0 → slice_get us item ≡ Some u → IsIn u (updates_at us items)
is_one_of_them us items i item u within is at =
    let all : updates_at us (take (i + 1) items) ++ updates_at us (drop (i + 1) items) ≡ updates_at us items = sym (flat_map-append (λ (place : ℕ). option_to_list (slice_get us place)) (take (i + 1) items) (drop (i + 1) items)) ∙ ap (updates_at us) (take-append-drop (i + 1) items) in
    subst (IsIn u) all (in_left u _ (updates_at us (drop (i + 1) items)) (subst (IsIn u) (sym (one_more us items i item u within is at)) (in_last (updates_at us (take i items)) u)))
