-- Which leaf an update replaces, and how many leaves of other writers there are then.
use Rattle.std.specs.Prelude.{◌≡◌, ℕ, ◌+◌, List, [], ◌∷◌, ◌++◌, length, Bool, not, ◌&&◌, if◌then◌else◌}
use Rattle.std.specs.Str.{bytes_eq}
use Rattle.depot_base.specs.Zeros.{zeros}
use Rattle.depot_base.specs.declared.update.Update.{Update}
use Rattle.depot_base.specs.declared.statement.Signed.{Signed}
use Rattle.depot_base.specs.declared.record.Record.{Record}
use Rattle.depot_base.specs.declared.record.Record.TheVariants.{OwnPut, Foreign}
use Rattle.depot_model.specs.texts.Texts.{id_of_update}
use Rattle.depot_model.specs.updates.History.{leaves_of}
use Rattle.depot_model.specs.journals.Journal.{accepted, has_id}
use Rattle.depot_model.specs.checks.Checks.{Setting}
use Rattle.depot_model.specs.checks.Own.{next_with, IsFresh}
use Rattle.depot_model.specs.checks.Room.{foreign_leaves}
use Rattle.depot_laws.specs.Given.{IsNewUpdate}

-- the prev of the update is one of the leaves: with the update added, it is none any more
unfoldable pub follows_leaf : List Update → Update → Bool
follows_leaf us u = not (bytes_eq u.prev zeros) && has_id (leaves_of us) u.prev

-- A new update of another adds one leaf of another writer, unless its prev is a leaf, which it replaces.
abbrev pub NewUpdatesAddLeaves : Setting → List Record → Type 0
NewUpdatesAddLeaves here J = (s : Signed) (u : Update) → IsNewUpdate here J s u
    → length (foreign_leaves here.me (J ++ Foreign s ∷ [])) ≡ length (foreign_leaves here.me J) + (if follows_leaf (accepted J) u then 0 else 1)

-- the next own update leaves the number of the leaves of other writers as it is
abbrev pub OwnPutsAddNoLeaf : Setting → List Record → Type 0
OwnPutsAddNoLeaf here J = (u : Update) (values : List (List ℕ)) → u ≡ next_with here.me J u.writes → IsFresh J (id_of_update u)
    → length (foreign_leaves here.me (J ++ OwnPut u values ∷ [])) ≡ length (foreign_leaves here.me J)
