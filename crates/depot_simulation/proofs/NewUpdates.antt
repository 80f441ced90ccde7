-- Of the updates that a node accepted, only those new to it have to be added to the updates seen, one by one.
use Rattle.std.proofs.Common.{◌≡◌, ℕ, ◌+◌, ◌<◌, ◌≤◌, List, [], ◌∷◌, ◌++◌, take, length, Some, sym, ap, ◌∙◌, arith}
use Rattle.std.specs.List.{slice_get}
use Rattle.std.proofs.Math.Seq.{take-append_seam}
use Rattle.std.proofs.lemmas.Grind.{flat_map-append, take_at_read}
use Rattle.std.proofs.lemmas.List.{length-take-le}
use Rattle.std.proofs.lemmas.Option.{slice_get_within, get_or_from_slice_get}
use Rattle.depot_base.specs.declared.record.Record.{Record}
use Rattle.depot_base.specs.declared.update.Update.{Update}
use Rattle.depot_model.specs.checks.Checks.{Setting}
use Rattle.depot_model.specs.journals.Journal.{accepted, accepted_by}
use Rattle.depot_model.specs.journals.Lawful.{IsLawful}
use Rattle.depot_model.specs.updates.Order.{parents}
use Rattle.depot_model.specs.texts.Texts.{IsUpdate}
use Rattle.depot_model.proofs.lists.Elements.{in_at}
use Rattle.depot_laws.proofs.records.Causes.{lawful_is_causal}
use Rattle.depot_laws.proofs.own_updates.OwnTexts.{accepted_fit}
use Rattle.depot_world.specs.Run.{seen_with}
use Rattle.depot_model.proofs.of_journals.FeedGrowth.{IsGrown}
use Rattle.depot_simulation.proofs.Remembered.{IdsWereSeen, seen_with-append, seen_at_most, causal_come, parents_of_next}

-- ---- what a journal that grew accepted

-- what it accepted before, and then more
pub accepted_more : (J K : List Record) (e : IsGrown J K) → accepted K ≡ accepted J ++ accepted e.more
accepted_more J K e = ap (λ (x : List Record). accepted x) e.is ∙ flat_map-append accepted_by J e.more

-- what it accepted before comes first
pub accepted_front : (J K : List Record) → IsGrown J K → take (length (accepted J)) (accepted K) ≡ accepted J
accepted_front J K e = ap (λ (x : List Update). take (length (accepted J)) x) (accepted_more J K e) ∙ take-append_seam (accepted J) (accepted e.more)

-- ---- one by one, from the first that is new

next_front : (us : List Update) (i : ℕ) (u : Update) → slice_get us i ≡ Some u → take (i + 1) us ≡ take i us ++ u ∷ []
next_front us i u at = (take_at_read us i u (slice_get_within us i u at)).1 ∙ ap (λ (x : Update). take i us ++ x ∷ []) (get_or_from_slice_get us i u u at)

-- the next one is added to what those before it add
pub adding_goes_on : (us : List Update) (i : ℕ) (u : Update) (seen : List Update) → slice_get us i ≡ Some u → seen_with (seen_with seen (take i us)) (u ∷ []) ≡ seen_with seen (take (i + 1) us)
adding_goes_on us i u seen at = sym (seen_with-append seen (take i us) (u ∷ [])) ∙ ap (λ (x : List Update). seen_with seen x) (sym (next_front us i u at))

-- where there is room for all, there is for the next one
pub room_for_next : (seen us : List Update) (i : ℕ) → i < length us → length seen + length us ≤ 4294967295 → length (seen_with seen (take i us)) < 4294967295
room_for_next seen us i within room = let front : length (take i us) ≡ i = length-take-le i us (omega (arith, within)) in omega (arith, seen_at_most seen (take i us), front, within, room)

-- each update of a lawful journal has a text
pub added_fits : (here : Setting) (K : List Record) (i : ℕ) (u : Update) → IsLawful here K → slice_get (accepted K) i ≡ Some u → IsUpdate u
added_fits here K i u l at = accepted_fit here K u l (in_at (accepted K) i u at)

-- and where those before it were added, its parents were seen
pub added_has_parents : (here : Setting) (K : List Record) (i : ℕ) (u : Update) (seen : List Update) → IsLawful here K → slice_get (accepted K) i ≡ Some u → IdsWereSeen (seen_with seen (take i (accepted K))) (parents u)
added_has_parents here K i u seen l at = parents_of_next seen (accepted K) i u (causal_come seen (accepted K) (lawful_is_causal here K l)) at

-- ---- the same by the new ones alone
