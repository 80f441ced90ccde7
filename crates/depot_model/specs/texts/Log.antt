-- The log of `scan`: a plain list of update bodies, each after its length as four bytes.
use Rattle.std.specs.Prelude.{◌≡◌, ℕ, ◌+◌, ◌<◌, ◌≤◌, List, [], ◌∷◌, ◌++◌, length, take, drop, Option, Some, None, ◌⊎◌, if◌then◌else◌}
use Rattle.std.specs.List.{AllByRecursion, list_all}
use Rattle.std.specs.Int.{w32, from_be_bytes}
use Rattle.depot_base.specs.Cursor.{numeral}
use Rattle.depot_base.specs.Format.{FirstFault}
use Rattle.depot_base.specs.declared.update.Update.{Update}
use Rattle.depot_model.specs.lists.Lists.{is_among}
use Rattle.depot_model.specs.texts.Texts.{IsUpdate, text_of_update, id_of_update, update_body}
use Rattle.depot_model.specs.updates.Order.{parents}

-- each body after its length
unfoldable pub text_of_log : List Update → List ℕ
text_of_log [] = []
text_of_log (u ∷ us) = numeral w32 (length (text_of_update u)) ++ (text_of_update u ++ text_of_log us)

-- the bytes are the log of these updates
pub record IsLog (bytes : List ℕ) (us : List Update) : Type 0 where
  pub fit : AllByRecursion IsUpdate us
  pub is : bytes ≡ text_of_log us

-- the length at the front is cut short, or runs past the end
abbrev pub HasBadLength : List ℕ → Type 0
HasBadLength bytes =
    ((0 < length bytes) × (length bytes < 4)) ⊎ ((4 ≤ length bytes) × (length (drop 4 bytes) < from_be_bytes w32 (take 4 bytes)))

-- the body at the front is there, and goes wrong after this many bytes
pub record HasBadBody (bytes : List ℕ) (later : ℕ) : Type 0 where
  pub long : 4 ≤ length bytes
  pub there : from_be_bytes w32 (take 4 bytes) ≤ length (drop 4 bytes)
  pub fault : FirstFault update_body (take (from_be_bytes w32 (take 4 bytes)) (drop 4 bytes)) later

-- what comes first goes wrong after this many bytes: at its length, or after it in its body
abbrev pub GoesWrong : List ℕ → ℕ → Type 0
GoesWrong bytes later = ((later ≡ 0) × HasBadLength bytes) ⊎ ((k : ℕ) × ((later ≡ 4 + k) × HasBadBody bytes k))

-- The first fault of bytes that are no log: after some good bodies comes a bad length, or a bad body.
pub record IsLogFault (bytes : List ℕ) (at : ℕ) : Type 0 where
  pub good : List Update
  pub rest : List ℕ
  pub later : ℕ
  pub fit : AllByRecursion IsUpdate good
  pub parts : bytes ≡ text_of_log good ++ rest
  pub bad : GoesWrong rest later
  pub place : at ≡ length (text_of_log good) + later

-- those whose id doesn't occur earlier, after those with these ids
unfoldable pub firsts_behind : List (List ℕ) → List Update → List Update
firsts_behind ids [] = []
firsts_behind ids (u ∷ us) = if is_among (id_of_update u) ids then firsts_behind ids us else u ∷ firsts_behind (ids ++ id_of_update u ∷ []) us

-- the updates without those whose id occurs earlier
abbrev pub firsts : List Update → List Update
firsts us = firsts_behind [] us

-- the place of the first body with a parent that isn't before it, counted from a place; these ids come before them all
unfoldable pub orphan_behind : List (List ℕ) → ℕ → List Update → Option ℕ
orphan_behind ids place [] = None
orphan_behind ids place (u ∷ us) = if list_all (λ h. is_among h ids) (parents u) then orphan_behind (ids ++ id_of_update u ∷ []) (place + 1) us else Some place

-- the place from 0 of the first body with a parent that isn't before it
abbrev pub first_orphan : List Update → Option ℕ
first_orphan us = orphan_behind [] 0 us
