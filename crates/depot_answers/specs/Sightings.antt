-- What a read shows of a write, as a caller says it.
use Rattle.depot_answers.specs.declared.journal_answers.Seen.{Seen}
use Rattle.depot_answers.specs.declared.journal_answers.Seen.TheVariants.{Held, NotHeld, Gone}
use Rattle.depot_model.specs.texts.Contents.{Sighting, held_value, not_held, gone}

-- what that is in the answer of a read
abbrev pub sighting_of_seen : Seen → Sighting
sighting_of_seen (Held value) = held_value value.now
sighting_of_seen NotHeld = not_held
sighting_of_seen Gone = gone
