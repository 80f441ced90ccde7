-- How many leaves of other writers there are with records that a journal grows by.
use Rattle.std.specs.Prelude.{ℕ, ◌+◌, List, [], ◌∷◌, Option, Some, None, if◌then◌else◌}
use Rattle.depot_base.specs.declared.record.Record.{Record}
use Rattle.depot_base.specs.declared.record.Record.TheVariants.{Foreign}
use Rattle.depot_base.specs.declared.statement.Statement.{Statement}
use Rattle.depot_base.specs.declared.statement.Statement.TheVariants as statements
use Rattle.depot_base.specs.declared.update.Update.{Update}
use Rattle.depot_laws.specs.Leaves.{follows_leaf}

-- How many leaves of other writers there are with a new statement of another after these accepted updates, where it is an update.
abbrev pub leaves_then : List Update → ℕ → Statement → Option ℕ
leaves_then us leaves (statements.Update u) = Some (leaves + (if follows_leaf us u then 0 else 1))
leaves_then us leaves (statements.Voucher v) = None

-- the same with a record
abbrev pub leaves_with_record : List Update → ℕ → Record → Option ℕ
leaves_with_record us leaves (Foreign s) = leaves_then us leaves s.statement
leaves_with_record us leaves r = None

-- and with what a journal grows by: own vouchers, or up to two records, of which the last may bring an update
abbrev pub leaves_with : List Update → ℕ → List Record → Option ℕ
leaves_with us leaves [] = None
leaves_with us leaves (r ∷ []) = leaves_with_record us leaves r
leaves_with us leaves (p ∷ r ∷ rs) = leaves_with_record us leaves r

-- how many there are with a statement in any case
abbrev pub number_after : List Update → ℕ → Statement → ℕ
number_after us leaves (statements.Update u) = leaves + (if follows_leaf us u then 0 else 1)
number_after us leaves (statements.Voucher v) = leaves
