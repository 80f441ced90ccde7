-- Who is convicted.
use Rattle.std.specs.Prelude.{◌≡◌, ℕ, List, length, true}
use Rattle.depot_base.specs.declared.key.RosterEntry.{RosterEntry}
use Rattle.depot_model.specs.lists.Lists.{IsIn}
use Rattle.depot_model.specs.lists.Items.{AreDistinct}
use Rattle.depot_model.specs.texts.Roster.{has_node}

-- They are nodes of the roster, each once, and as many may be convicted as the roster has.
pub record AreConvicts (listed : List RosterEntry) (convicted : List ℕ) (room : ℕ) : Type 0 where
  pub of_roster : (n : ℕ) → IsIn n convicted → has_node listed n ≡ true
  pub once : AreDistinct convicted
  pub all : room ≡ length listed
