-- What the events of a schedule ask for: the keys that a node reads, and the proofs that a judge has a verdict for.
use Rattle.std.specs.Prelude.{ℕ, ◌==◌, List, [], ◌∷◌, ◌++◌, Some, None, Ok, Err, if◌then◌else◌}
use Rattle.std.specs.List.{flat_map}
use Rattle.depot_base.specs.declared.proof.Proof.{Proof}
use Rattle.depot_model.specs.updates.Judgement.{first_failed_point}
use Rattle.depot_schedule.specs.declared.event.Event.{Event}
use Rattle.depot_schedule.specs.declared.event.Event.TheVariants as event
use Rattle.depot_world.specs.FaultySigning.{proof_in}
use Rattle.depot_world.specs.Run.{Run, bytes_of_label}
use Rattle.depot_world.specs.Setups.{Setup}
use Rattle.depot_world.specs.Transcript.{done}

-- the key that an event has a node read
abbrev pub key_read : ℕ → Event → List (List ℕ)
key_read node (event.Get n key) = if n == node then key ∷ [] else []
key_read node other = []

-- the keys that events have a node read, in their order
abbrev pub keys_read : ℕ → List Event → List (List ℕ)
keys_read node es = flat_map (key_read node) es

-- the proof that an event has a verdict on, where the run is this one
abbrev pub verdict_on : Setup → Run → Event → List Proof
verdict_on setup run (event.Judge label) = elim (proof_in (bytes_of_label run label)) [
  | Err at ↦ []
  | Ok p ↦ elim (first_failed_point setup.suite.verifies setup.listed p) [ Some point ↦ [] | None ↦ p ∷ [] ]
]
verdict_on setup run other = []

-- the proofs that events have verdicts on, in their order
abbrev pub verdicts_on : Setup → Run → List Event → List Proof
verdicts_on setup run [] = []
verdicts_on setup run (e ∷ es) = verdict_on setup run e ++ verdicts_on setup (done setup run e).run es
