-- What a node answers where it is to make a checkpoint.
use Rattle.std.specs.Prelude.{◌≡◌, ℕ, List, Result, Ok, Err}
use Rattle.depot_base.specs.declared.record.Record.{Record}
use Rattle.depot_model.specs.checks.Checks.{Setting}
use Rattle.depot_model.specs.readers.Opening.{no_leaves, many_leaves, made_text, make_of}
use Rattle.depot_trim.specs.declared.make_error.MakeError.{MakeError}
use Rattle.depot_trim.specs.declared.make_error.MakeError.TheVariants as refused

-- `Memory` may replace each answer
abbrev pub Makes : Setting → List Record → Result (List ℕ) MakeError → Type 0
Makes here J (Ok text) = make_of here J ≡ made_text text
Makes here J (Err refused.Memory) = Unit {0}
Makes here J (Err refused.Empty) = make_of here J ≡ no_leaves
Makes here J (Err (refused.Many n)) = make_of here J ≡ many_leaves n
