-- A read that lists what records show.
use Rattle.std.specs.Prelude.{◌≡◌, ℕ, List, length, map}
use Rattle.depot_base.specs.declared.record.Record.{Record}
use Rattle.depot_base.specs.declared.update.Update.{Update}
use Rattle.depot_model.specs.journals.Journal.{seen_under}
use Rattle.depot_model.specs.journals.ShownWrites.{shown_of}
use Rattle.depot_model.specs.worlds.Traces.{Answered, ReadTrace, answered}

-- it was made at all these records, and lists what they show
pub record IsShown (J : List Record) (r : ReadTrace) : Type 0 where
  pub all : r.length ≡ length J
  pub answer : r.answer ≡ map answered (shown_of J r.key)

-- what a read is to say of an accepted update's write of a key
abbrev pub expected_answer : List Record → List ℕ → Update → Answered
expected_answer J key u = answered (record { update = u; seen = seen_under J key u })
