-- Whether a leaf of a checkpoint is an accepted update of its writer.
use Rattle.std.proofs.Common.{◌≡◌, ℕ, List, Bool, true, false, not, eqb, Option, Some, None, sym, ap, ◌∙◌}
use Rattle.std.specs.Prelude.{slice_get}
use Rattle.std.specs.Option.{option_map_or}
use Rattle.depot_base.specs.declared.update.Update.{Update}
use Rattle.depot_model.specs.declared.hello.HelloLeaf.{HelloLeaf}
use Rattle.depot_model.specs.lists.Items.{place_of_id}
use Rattle.depot_model.specs.readers.Opening.{is_update_of}
use Rattle.depot_accept.proofs.NamedUpdates.{named_found, named_lost}

-- one that has a place is an update of its writer where that wrote it
pub found_is : (us : List Update) (l : HelloLeaf) (n : ℕ) (t : Update) (other : Bool) → Some n ≡ place_of_id l.id us → slice_get us n ≡ Some t → other ≡ not (eqb t.writer l.writer) → other ≡ not (is_update_of us l)
found_is us l n t other place at is = is ∙ sym (ap (λ (o : Option Update). not (option_map_or (λ (u : Update). eqb u.writer l.writer) o false)) (named_found us l.id n t (sym place) at))

-- one that has none isn't
pub lost_is : (us : List Update) (l : HelloLeaf) → None ≡ place_of_id l.id us → true ≡ not (is_update_of us l)
lost_is us l place = sym (ap (λ (o : Option Update). not (option_map_or (λ (u : Update). eqb u.writer l.writer) o false)) (named_lost us l.id (sym place)))
