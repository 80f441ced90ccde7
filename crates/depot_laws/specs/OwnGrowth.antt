-- What a node may append of its own: its next update, and its vouchers.
use Rattle.std.specs.Prelude.{◌≡◌, ◌<◌, ◌≤◌, ℕ, List, [], ◌∷◌, length, true, false, None}
use Rattle.depot_base.specs.declared.limits.TheConstants.{MOST_ENTRIES}
use Rattle.depot_base.specs.declared.update.Update.{Update}
use Rattle.depot_base.specs.declared.write.Change.{Change}
use Rattle.depot_base.specs.declared.record.Record.{Record}
use Rattle.depot_base.specs.declared.record.Record.TheVariants.{OwnPut}
use Rattle.depot_model.specs.lists.Lists.{IsIn}
use Rattle.depot_model.specs.texts.Texts.{id_of_update}
use Rattle.depot_model.specs.journals.Journal.{accepted, own, is_foreign}
use Rattle.depot_model.specs.checks.Checks.{Setting}
use Rattle.depot_model.specs.updates.Changes.{AreChanges}
use Rattle.depot_model.specs.checks.Own.{next_own, values_of, IsFresh, leaf_count}
use Rattle.depot_model.specs.checks.Room.{full_by}
use Rattle.depot_model.specs.checks.Vouching.{limit_of_vouchers}
use Rattle.depot_model.specs.journals.Lawful.{IsLawful, is_empty}

-- The update is the next own one of a lawful journal that has begun, with changes in their bounds, and it hasn't too many entries.
pub record IsNextPut (here : Setting) (J : List Record) (u : Update) (changes : List Change) : Type 0 where
  pub lawful : IsLawful here J
  pub begun : is_empty J ≡ false
  pub good : AreChanges changes
  pub next : u ≡ next_own here.me J changes
  pub few : length u.deps ≤ MOST_ENTRIES

-- It is such an update, its id is fresh, the node has a leaf left to sign it, and there is room for its record.
pub record MayBePut (here : Setting) (J : List Record) (u : Update) (changes : List Change) : Type 0 where
  pub put : IsNextPut here J u changes
  pub fresh : IsFresh J (id_of_update u)
  pub leaf : length (own J) < leaf_count here.listed here.me
  pub room : full_by here.me J (OwnPut u (values_of changes) ∷ []) ≡ None

-- The journal is lawful and has begun, each id is that of an accepted update of another writer, and the vouchers for them that
-- the node makes meet no limit.
pub record MayBeVouched (here : Setting) (J : List Record) (ids : List (List ℕ)) : Type 0 where
  pub lawful : IsLawful here J
  pub begun : is_empty J ≡ false
  pub foreign : (h : List ℕ) → IsIn h ids → is_foreign here.me (accepted J) h ≡ true
  pub within : limit_of_vouchers here J ids ≡ None
