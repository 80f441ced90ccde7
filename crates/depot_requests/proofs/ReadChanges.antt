-- Reading changes one after the other.
use Rattle.std.proofs.Common.{ℕ, List, Result}
use Rattle.depot_base.specs.Cursor.{Cursor}
use Rattle.depot_base.specs.Reading.{Reads, ReadsBy}
use Rattle.depot_base.specs.declared.fault.Fault.{Fault}
use Rattle.depot_base.specs.declared.fault.Fault.TheVariants.{Memory, At}
use Rattle.depot_base.proofs.Loop.{failing}

-- a fault is reported in one way, whatever would have been read
pub fault_told : {V X : Type 0} (view : X → V) (f : Fault) (after : Cursor) (total : Result (V × Cursor) ℕ) → ReadsBy view (failing {V = X} f) after total → Reads (failing {V = V} f) after total
fault_told view Memory after total reads = tt
fault_told view (At at) after total reads = reads
