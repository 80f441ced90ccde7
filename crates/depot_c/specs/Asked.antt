-- What a number asks.
use Rattle.std.specs.Prelude.{ℕ, List, [], ◌∷◌, Option, Some, None, get_or}
use Rattle.depot_c.specs.declared.ask.Ask.{Ask}
use Rattle.depot_c.specs.declared.ask.Ask.TheVariants as ask

-- what the numbers from 0 on ask, as bindings/depot.h has them
abbrev pub asked_operations : List (Option Ask)
asked_operations =
    Some ask.Length
    ∷ Some ask.Copy
    ∷ Some ask.RecordsLength
    ∷ Some ask.RecordsCopy
    ∷ Some ask.Roster
    ∷ Some ask.Key
    ∷ Some ask.Start
    ∷ Some ask.End
    ∷ Some ask.Clear
    ∷ Some ask.Message
    ∷ Some ask.Records
    ∷ []

abbrev pub asked_by : ℕ → Option Ask
asked_by op = get_or asked_operations op None
