-- What a take adds to a journal.
use Rattle.std.specs.Prelude.{◌≡◌, List, true}
use Rattle.depot_base.specs.declared.key.RosterEntry.{RosterEntry}
use Rattle.depot_base.specs.declared.record.Record.{Record}
use Rattle.depot_base.specs.declared.record.Record.TheVariants.{Foreign, Conviction}
use Rattle.depot_model.specs.journals.Journal.{accused}
use Rattle.depot_model.specs.texts.Roster.{has_node}

-- a statement of another, or the conviction of a node of the roster
abbrev pub IsTaken : List RosterEntry → Record → Type 0
IsTaken listed (Foreign s) = Unit {0}
IsTaken listed (Conviction p) = has_node listed (accused p) ≡ true
IsTaken listed r = ⊥
