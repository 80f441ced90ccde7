-- How runs end, as their commands answer.
use Rattle.std.proofs.Common.{◌≡◌, ℕ, List, [], ◌∷◌, ◌++◌, take, Bool, true, false, IsTrue, Some, Result, Ok, Err, refl, sym, subst, inl, inr}
use Rattle.std.specs.Result.{IfOk}
use Rattle.std.proofs.lemmas.Result.{IfOk-weaker}
use Rattle.depot_base.specs.declared.memory.Memory as absent
use Rattle.depot_model.specs.worlds.Causality.{IsForkJoinCausal, ConvictsNoCorrectNode}
use Rattle.depot_model.specs.worlds.World.{IsAuthentic, IsCollisionFree}
use Rattle.depot_schedule.specs.Schedules.{IsTextOfSchedule}
use Rattle.depot_schedule.specs.declared.schedule.Schedule.{Schedule}
use Rattle.depot_world.specs.Transcript.{transcript_of, world_of}
use Rattle.depot_laws.specs.WorldFacts.{PairsConvictNoCorrectNode}
use Rattle.depot_cli.specs.declared.invocation.Invocation.TheVariants as asked
use Rattle.depot_cli.specs.declared.outcome.CommandOutcome.{CommandOutcome}
use Rattle.depot_cli.specs.declared.status.Status.{Status}
use Rattle.depot_cli.specs.declared.status.Status.TheVariants.{Done, Input}
use Rattle.depot_outside.specs.Told.{Shelves, Loads, Sinks, WhereTold, HasLoaded}
use Rattle.depot_cli.specs.Runs.{IsReplayed, ReplayOf, Replays, IsFrontOf, AnswersCommand, Begins, Ends, Finishes, PlaysSchedule}

-- a run that ends by some answers ends by those that they are, too
pub ends_so : (answers answers2 : Status → List ℕ → Type 0) (begins begins2 : List ℕ → Type 0) (sink : Sinks) (status : Status)
    → ((answer : Status) (text : List ℕ) → answers answer text → answers2 answer text) → ((text : List ℕ) → begins text → begins2 text)
    → Ends answers begins sink status → Ends answers2 begins2 sink status
ends_so a a2 b b2 sink status so begun (inl e) = inl (record { text = e.text; answered = so status e.text e.answered; wrote = e.wrote })
ends_so a a2 b b2 sink status so begun (inr (inl e)) = inr (inl (record { is = e.is; text = e.text; begun = begun e.text e.begun; wrote = e.wrote }))
ends_so a a2 b b2 sink status so begun (inr (inr e)) = inr (inr (record { is = e.is; rose = e.rose; answer = e.answer; text = e.text; answered = so e.answer e.text e.answered; wrote = e.wrote }))

-- a command that wrote its text at once ends as it answers
pub finished : (answers : Status → List ℕ → Type 0) (begins : List ℕ → Type 0) (sink : Sinks) (found : Result CommandOutcome absent.Memory) (status : Status)
    → IfOk found (λ o. answers o.status o.text) → begins [] → Finishes found sink status → Ends answers begins sink status
finished answers begins sink (Ok o) status answered none ends =
    ends_so _ answers _ begins sink status
    (λ answer text is. subst (λ (s : Status). answers s text) (sym is.0) (subst (λ (t : List ℕ). answers o.status t) (sym is.1) answered))
    (λ text is. subst begins (sym is) none) ends
finished answers begins sink (Err e) status answered none ends =
    inr (inl (record { is = ends.is; text = ends.text; begun = subst begins (sym ends.begun) none; wrote = ends.wrote }))

-- the same for a command with one outcome, unless memory ran out
pub finished_by : (answers : Status → List ℕ → Type 0) (begins : List ℕ → Type 0) (sink : Sinks) (found : Result CommandOutcome absent.Memory) (one : CommandOutcome) (status : Status)
    → IfOk found (λ o. o ≡ one) → answers one.status one.text → begins [] → Finishes found sink status → Ends answers begins sink status
finished_by answers begins sink found one status is answered none ends =
    finished answers begins sink found status (IfOk-weaker found _ _ (λ o same. subst (λ (x : CommandOutcome). answers x.status x.text) (sym same) answered) is) none ends

-- a schedule that was played from its text was replayed
pub replayed : (name bytes : List ℕ) (s : Schedule) (sink : Sinks) (status : Status) → IsTextOfSchedule bytes s
    → (IsAuthentic (world_of s) → IsCollisionFree (world_of s) → IsForkJoinCausal (world_of s)) → (IsAuthentic (world_of s) → IsCollisionFree (world_of s) → ConvictsNoCorrectNode (world_of s))
    → (IsAuthentic (world_of s) → PairsConvictNoCorrectNode (world_of s))
    → PlaysSchedule s sink status → Ends (ReplayOf name bytes) (IsFrontOf (λ text. IsReplayed text bytes)) sink status
replayed name bytes s sink status read causal convicts pairs ends =
    ends_so _ (ReplayOf name bytes) _ (IsFrontOf (λ text. IsReplayed text bytes)) sink status
    (λ answer text is. subst (λ (a : Status). ReplayOf name bytes a text) (sym is.0) (subst (λ (t : List ℕ). IsReplayed t bytes) (sym is.1) whole))
    (λ text front. inr (transcript_of s, (front.0, (front.1, whole)))) ends
  where
    whole : IsReplayed (transcript_of s) bytes
    whole = record { schedule = s; read = read; is = refl; causal = causal; convicts = convicts; pairs = pairs }

-- what the bytes of a file answer, the command of its name answers
replays : (shelf : Shelves) (name bytes : List ℕ) (status : Status) (text : List ℕ) → WhereTold shelf (shelf.file name ≡ Some bytes) → ReplayOf name bytes status text → Replays shelf name status text
replays shelf name bytes Done text there is = λ tells. record { bytes = bytes; there = there tells; holds = is }
replays shelf name bytes Input text there is = λ tells. record { bytes = bytes; there = there tells; holds = is }
replays shelf name bytes status text there is = absurd is

-- a replay of the bytes of a file ends as the command of its name does
pub replay_ends : (shelf : Shelves) (loads : Loads) (name bytes : List ℕ) (sink : Sinks) (status : Status) → HasLoaded loads (name ∷ []) → WhereTold shelf (shelf.file name ≡ Some bytes)
    → Ends (ReplayOf name bytes) (IsFrontOf (λ text. IsReplayed text bytes)) sink status → Ends (AnswersCommand shelf loads (Some (asked.Replay name))) (Begins shelf loads (Some (asked.Replay name))) sink status
replay_ends shelf loads name bytes sink status loaded there ends =
    ends_so _ (AnswersCommand shelf loads (Some (asked.Replay name))) _ (Begins shelf loads (Some (asked.Replay name))) sink status
    (λ answer text is. (loaded, replays shelf name bytes answer text there is))
    front ends
  where
    front : (text : List ℕ) → IsFrontOf (λ t. IsReplayed t bytes) text → Begins shelf loads (Some (asked.Replay name)) text
    front text (inl none) = (inr loaded, inl none)
    front text (inr (whole, (n, (is, told)))) = (inr loaded, inr (whole, (n, (is, (loaded, replays shelf name bytes Done whole there told)))))

-- where a prefix of a transcript was written before memory ran out, if the sink's text is visible
pub written_front : (tells : Bool) (before after transcript : List ℕ) → (IsTrue tells → (n : ℕ) × (after ≡ before ++ take n transcript))
    → (text : List ℕ) × (((n : ℕ) × (text ≡ take n transcript)) × (IsTrue tells → after ≡ before ++ text))
written_front true before after transcript front = let f = front refl in (take f.0 transcript, ((f.0, refl), λ told. f.1))
written_front false before after transcript front = (take 0 transcript, ((0, refl), λ told. absurd cc))
