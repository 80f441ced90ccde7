-- What a read of a key shows at the end of a journal.
use Rattle.std.specs.Prelude.{ℕ, List, map}
use Rattle.depot_base.specs.declared.record.Record.{Record}
use Rattle.depot_model.specs.journals.Journal.{accepted, seen_under}
use Rattle.depot_model.specs.updates.LatestList.{latest_in}
use Rattle.depot_model.specs.worlds.World.{Shown}

-- the latest writes of a key among what a journal accepted, each with what its records show of the key: the value, that it isn't held,
-- or that the key was deleted
abbrev pub shown_of : List Record → List ℕ → List Shown
shown_of J key = map (λ u. record { update = u; seen = seen_under J key u }) (latest_in key (accepted J))
