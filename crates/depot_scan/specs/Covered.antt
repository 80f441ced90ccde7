-- The walk through updates from the newest to the oldest: which of them precede a write of the key.
use Rattle.std.specs.Prelude.{◌≡◌, ℕ, List, [], ◌∷◌, Bool, false, not, ◌&&◌, ◌||◌, if◌then◌else◌}
use Rattle.depot_base.specs.declared.update.Update.{Update}
use Rattle.depot_model.specs.texts.Contents.{writes}
use Rattle.depot_model.specs.lists.Lists.{is_among}
use Rattle.depot_model.specs.texts.Texts.{id_of_update}
use Rattle.depot_model.specs.updates.Order.{parents}

-- whether one of these has it as a parent and writes the key, or is itself covered by those after it
unfoldable pub covers : List ℕ → List Update → List ℕ → Bool
covers key [] h = false
covers key (u ∷ us) h = (is_among h (parents u) && (writes key u || covers key us (id_of_update u))) || covers key us h

-- those that write the key and that none after them covers
unfoldable pub uncovered : List ℕ → List Update → List Update
uncovered key [] = []
uncovered key (u ∷ us) = if writes key u && not (covers key us (id_of_update u)) then u ∷ uncovered key us else uncovered key us

-- what is covered once an update was visited: its parents too, if it writes the key or is covered
abbrev pub Covers : List ℕ → Update → (List ℕ → Bool) → (List ℕ → Bool) → Type 0
Covers key u old new = (h : List ℕ) → new h ≡ ((is_among h (parents u) && (writes key u || old (id_of_update u))) || old h)
