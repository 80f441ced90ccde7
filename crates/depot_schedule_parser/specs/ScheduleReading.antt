-- What the readers of the first two lines of a schedule answer.
use Rattle.std.specs.Prelude.{◌≡◌, ℕ, List, Result, Ok, Err}
use Rattle.depot_lines.specs.declared.line_fault.LineError.TheVariants.{Memory}
use Rattle.depot_lines.specs.declared.line_fault.TextError.{TextError}
use Rattle.depot_lines.specs.declared.line_fault.TextError.TheVariants as error
use Rattle.depot_schedule.specs.declared.schedule.Schedule.{Schedule}
use Rattle.depot_schedule.specs.Schedules.{read_all, read_second, read_rest}
use Rattle.depot_lines.specs.LineTexts.{lines_of_parts}

-- what reading the first line says of reading them all
abbrev pub TakesFirst : List (List ℕ) → Result (Unit {0}) TextError → List (List ℕ) → Type 0
TakesFirst old (Ok done) new = read_all (lines_of_parts old) ≡ read_second (lines_of_parts new)
TakesFirst old (Err error.Memory) new = Unit {0}
TakesFirst old (Err (error.Line n f)) new = read_all (lines_of_parts old) ≡ Err (n, f)

-- what reading the second line says of reading it and those after it
abbrev pub TakesSecond : List (List ℕ) → Result Schedule TextError → List (List ℕ) → Type 0
TakesSecond old (Ok s) new = read_second (lines_of_parts old) ≡ read_rest 3 s (lines_of_parts new)
TakesSecond old (Err error.Memory) new = Unit {0}
TakesSecond old (Err (error.Line n f)) new = read_second (lines_of_parts old) ≡ Err (n, f)
