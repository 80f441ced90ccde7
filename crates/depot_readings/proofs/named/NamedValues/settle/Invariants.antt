use Rattle.std.proofs.Common.{◌≡◌, ℕ, List, true, false, cond, not, take}
use Rattle.depot_base.specs.declared.update.NamedValue.{NamedValue}
use Rattle.depot_model.specs.lists.Lists.{IsIn}
use Rattle.depot_readings.specs.Lacking.{is_held}
use Rattle.depot_readings.specs.Named.{has_named_value, is_name, has_room}
use Rattle.depot_readings.proofs.named.NamedValues.settle.Given as goal

abbrev pub invariant-loop-name : goal.invariant-loop-name
invariant-loop-name l = record {
  room : (n : NamedValue) → IsIn n l.given → is_held l.values n.hash n.size ≡ false → has_room l.self n ≡ true;
  named : (hash : List ℕ) (size : ℕ) → has_named_value l.self hash size ≡ cond (is_name (take l.name-index l.given) hash size) (not (is_held l.values hash size)) (has_named_value l.initial.self hash size);
}
