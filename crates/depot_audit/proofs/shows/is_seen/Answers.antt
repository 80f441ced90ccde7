use Rattle.std.proofs.Common.{◌≡◌, ℕ, List, Some, ap, ◌∙◌}
use Rattle.std.specs.Option.{option_map_or}
use Rattle.depot_base.specs.Writes.{wrote_under}
use Rattle.depot_model.specs.texts.Contents.{gone, held_value, not_held}
use Rattle.depot_model.specs.journals.Journal.{held_as, seen_under}
use Rattle.depot_traces.specs.SeenTraces.{sighting_of}
use Rattle.depot_audit.proofs.ShownReads.{seen_deletion, seen_none, seen_value, tests_too}
use Rattle.depot_audit.proofs.shows.is_seen.Given.{Over}
use Rattle.depot_audit.proofs.shows.is_seen.Goals as goal
use Rattle.depot_audit.proofs.shows.is_seen.Goals.{In-Some}

-- what the update says of the key
said : (g : Over) (c : In-Some g) → Some c.in-Some.wrote ≡ wrote_under c.args.key.now c.args.update.now.writes
said g c = c.in-Some.ensures ∙ ap (λ (k : List ℕ). wrote_under k c.args.update.now.writes) c.bytes.ensures.same

pub returns-in_default : goal.returns-in_default
returns-in_default g c =
    tests_too c.is_not_held.result (sighting_of c.args.shown.now) (seen_under c.args.readings.now.records c.args.key.now c.args.update.now) not_held
    (seen_none c.args.readings.now.records c.args.key.now c.args.update.now (c.in_default.ensures ∙ ap (λ (k : List ℕ). wrote_under k c.args.update.now.writes) c.bytes.ensures.same))
    c.is_not_held.ensures

pub returns-in_default-named : goal.returns-in_default-named
returns-in_default-named g c =
    tests_too c.is_gone.result (sighting_of c.args.shown.now) (seen_under c.args.readings.now.records c.args.key.now c.args.update.now) gone
    (seen_deletion c.args.readings.now.records c.args.key.now c.args.update.now c.in-Some.wrote (said g (goal.at.returns-in_default-named g c).In-Some) c.in_default-named.ensures)
    c.is_gone.ensures

pub returns : goal.returns
returns g c =
    tests_too c.is_held.result (sighting_of c.args.shown.now) (seen_under c.args.readings.now.records c.args.key.now c.args.update.now) (option_map_or held_value (held_as c.args.readings.now.records c.in-Some-named.name) not_held)
    (seen_value c.args.readings.now.records c.args.key.now c.args.update.now c.in-Some.wrote c.in-Some-named.name (said g (goal.at.returns g c).In-Some) c.in-Some-named.ensures)
    c.is_held.ensures
