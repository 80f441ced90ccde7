-- The latest writes of a key, one after another.
use Rattle.std.proofs.Common.{◌≡◌, ℕ, ◌+◌, ◌<◌, ◌≤◌, List, ◌++◌, length, take, get_or, Some, refl, sym, ap, subst, ◌∙◌}
use Rattle.std.proofs.lemmas.List.{take_all}
use Rattle.std.specs.List.{flat_map}
use Rattle.std.specs.Prelude.{slice_get}
use Rattle.depot_base.specs.declared.record.Record.{Record}
use Rattle.depot_base.specs.declared.update.Update.{Update}
use Rattle.depot_base.proofs.GeneralLaws.{flat_push, same_at}
use Rattle.depot_laws.proofs.records.Causes.{lawful_is_causal}
use Rattle.depot_model.specs.checks.Checks.{Setting}
use Rattle.depot_model.specs.lists.Items.{at, updates_at}
use Rattle.depot_model.specs.journals.Journal.{accepted}
use Rattle.depot_model.specs.updates.LatestList.{latest_in}
use Rattle.depot_model.specs.journals.Lawful.{IsLawful}
use Rattle.depot_model.specs.lists.Lists.{IsIn}
use Rattle.depot_model.specs.updates.Order.{AreLatestIn, Precedes}
use Rattle.depot_model.specs.texts.Texts.{id_of_update}
use Rattle.depot_model.proofs.lists.Elements.{one_more}
use Rattle.depot_model.proofs.of_updates.LatestLaws.{one_latest_list}
use Rattle.depot_model.proofs.of_updates.LatestWrites.{latest_are_listed}
use Rattle.depot_questions.specs.Answers.{latest_told, write_told}
use Rattle.depot_questions.specs.declared.question_answer.LatestWrite.{LatestWrite}

-- the id of an item is that of its update
pub id_is : (us : List Update) (item : ℕ) (id : List ℕ) (u : Update) → at us item (λ t. id_of_update t ≡ id) → slice_get us item ≡ Some u → id ≡ id_of_update u
id_is us item id u there is = sym there.1.1 ∙ ap id_of_update (same_at us item item there.0 u refl there.1.0 is)

-- one write more
pub one_write : (J : List Record) (us : List Update) (key items : List ℕ) (i item : ℕ) (u : Update) (old new : List LatestWrite) → i < length items → item ≡ get_or items i 0 → slice_get us item ≡ Some u
    → old ≡ flat_map (write_told J key) (updates_at us (take i items)) → new ≡ old ++ write_told J key u → new ≡ flat_map (write_told J key) (updates_at us (take (i + 1) items))
one_write J us key items i item u old new within is there so_far more =
    more ∙ ap (λ (x : List LatestWrite). x ++ write_told J key u) so_far ∙ sym (ap (flat_map (write_told J key)) (one_more us items i item u within is there) ∙ flat_push (write_told J key) (updates_at us (take i items)) u)

-- all of them
pub all_told : (here : Setting) (J : List Record) (us : List Update) (key items : List ℕ) (i : ℕ) (told : List LatestWrite) → IsLawful here J → us ≡ accepted J → AreLatestIn key us (updates_at us items) → length items ≤ i
    → told ≡ flat_map (write_told J key) (updates_at us (take i items)) → told ≡ latest_told J key
unfolding latest_told
all_told here J us key items i told lawful are latest over so_far =
    let there = subst (λ (x : List Update). AreLatestIn key x (updates_at x items)) are latest in
    let listed = one_latest_list key (λ u. IsIn u (accepted J)) (Precedes (accepted J)) (updates_at (accepted J) items) (latest_in key (accepted J)) there (latest_are_listed key (accepted J) (lawful_is_causal here J lawful)) in
    so_far ∙ ap (λ (x : List ℕ). flat_map (write_told J key) (updates_at us x)) (take_all i items over) ∙ ap (λ (x : List Update). flat_map (write_told J key) (updates_at x items)) are ∙ ap (flat_map (write_told J key)) listed
