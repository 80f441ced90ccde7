-- What the laws of audits speak of: reads that list what was put, and traces that make a world.
use Rattle.std.specs.Prelude.{◌≡◌, ℕ, List, [], map, true, Some, slice_get}
use Rattle.depot_base.specs.declared.key.RosterEntry.{RosterEntry}
use Rattle.depot_base.specs.declared.update.Update.{Update}
use Rattle.depot_model.specs.lists.Lists.{IsIn}
use Rattle.depot_model.specs.lists.Items.{AreDistinct}
use Rattle.depot_model.specs.texts.Roster.{has_node}
use Rattle.depot_model.specs.worlds.World.{Shown, Read, Correct, World, writes_of}
use Rattle.depot_model.specs.worlds.Causality.{write, read_at, puts_of}
use Rattle.depot_model.specs.worlds.Traces.{Trace}
use Rattle.depot_model.specs.worlds.Audit.{observed, observed_by_read}

-- each write that the read lists of a node of the world is one that this node put
abbrev pub ListsPuts : World → Read → Type 0
ListsPuts W r = (s : Shown) (d : Correct) → IsIn s r.answer → IsIn d W.nodes → s.update.writer ≡ d.node → IsIn s.update (puts_of d.journal)

-- a write is observed before a read exactly where the read's records accepted it, or accepted one to which a path of
-- parents leads from it
abbrev pub ReadsLookAtWrites : World → Type 0
ReadsLookAtWrites W = (u : Update) (c : Correct) (place : ℕ) (r : Read)
    → IsIn u (writes_of W) → IsIn c W.nodes → slice_get c.reads place ≡ Some r
    → observed W (write u) (read_at c place r) ≡ observed_by_read W u c r

-- The traces are of distinct nodes of the roster, and each has a record.
pub record AreOfNodes (listed : List RosterEntry) (traces : List Trace) : Type 0 where
  pub distinct : AreDistinct (map (λ t. t.node) traces)
  pub members : (t : Trace) → IsIn t traces → has_node listed t.node ≡ true
  pub some : (t : Trace) → IsIn t traces → t.texts ≡ [] → ⊥
