-- What labels name, in a map that keeps them in order.
use Rattle.std.specs.Prelude.{◌≡◌, ℕ, List, [], ◌∷◌, Option, Some, None, Vec, if◌then◌else◌}
use Rattle.std.specs.Str.{bytes_eq}
use Rattle.std.specs.declared.alloc.Global.{Global}
use Rattle.depot_schedule.specs.EventWords.{if_named, first_or}
use Rattle.depot_schedule.specs.declared.verb.Made.{Made}

-- what a label names among these
abbrev pub named_in_table : List ℕ → List (Vec ℕ Global × Made) → Option Made
named_in_table label [] = None
named_in_table label (e ∷ es) = if bytes_eq label e.0.items then Some e.1 else named_in_table label es

-- a table names what another one names, except that this label names what it was now made to name, if anything
abbrev pub AddsLabel : List (Vec ℕ Global × Made) → Option (List ℕ × Made) → List (Vec ℕ Global × Made) → Type 0
AddsLabel old made new = (label : List ℕ) → named_in_table label new ≡ first_or (if_named label made) (named_in_table label old)
