-- Labels that no later event names are forgotten.
use Rattle.std.proofs.Common.{◌≡◌, ℕ, Bool, true, List, [], ◌∷◌, ◌++◌, length, Vec, refl, sym, ap, subst, ◌∙◌, inl, inr}
use Rattle.std.specs.List.{slice_get}
use Rattle.std.specs.declared.alloc.Global.{Global}
use Rattle.std.proofs.lemmas.Option.{slice_get_within}
use Rattle.depot_base.proofs.MembershipLaws.{in_left, in_right}
use Rattle.depot_model.specs.lists.Lists.{IsIn}
use Rattle.depot_model.specs.readers.Readers.{Reader}
use Rattle.depot_model.proofs.lists.Elements.{get_front}
use Rattle.depot_schedule.specs.declared.event.Event.{Event}
use Rattle.depot_world.specs.Forgetting.{IsAlikeFor, GoesAlike, labels_without, with_labels}
use Rattle.depot_world.specs.Run.{Labelled, Run}
use Rattle.depot_world.specs.Setups.{Setup}
use Rattle.depot_world.specs.Transcript.{done}
use Rattle.depot_world.proofs.AlikeRuns.{alike_for_fewer, alike_further, alike_itself, alike_without, goes_alike}
use Rattle.depot_scenario.specs.Labels.{AreLabels}
use Rattle.depot_scenario.specs.LabelUses.{AreUses, EndsUse}
use Rattle.depot_simulation.specs.Acting.{ActorView}
use Rattle.depot_simulation.specs.Doing.{HasTold}
use Rattle.depot_simulation.specs.EachRun.{ForgetsLabels}
use Rattle.depot_simulation.specs.Playing.{IsSimulationAt, IsSimulationFor}
use Rattle.depot_simulation.specs.declared.simulation.Simulation.{Simulation}
use Rattle.depot_simulation.proofs.RememberedRuns.{fewer_remember}

-- ---- one label

-- a simulation is at a run for whatever events are to come
pub stands_for : {A R : Type 0} (view : A → ActorView) (reads : Reader → R → Type 0) (setup : Setup) (es : List Event) (run : Run) (simulation : Simulation A R) → IsSimulationAt view reads setup run simulation → IsSimulationFor view reads setup es run simulation
stands_for view reads setup es run simulation at = record { few = run; alike = alike_itself es run; at = at }

-- a label whose use ended is forgotten
pub one_forgotten : {A R : Type 0} (view : A → ActorView) (reads : Reader → R → Type 0) (old new : Simulation A R) (uses left : List (Vec ℕ Global × ℕ)) (label : List ℕ) (many : ℕ) → new.participants ≡ old.participants → new.seen ≡ old.seen → new.readers ≡ old.readers
    → ((labels : List Labelled) → AreLabels old.labels.map.entries labels → AreLabels new.labels.map.entries (labels_without label labels)) → EndsUse uses label many true left → ForgetsLabels view reads many uses old left new
one_forgotten view reads old new uses left label many same_participants same_seen same_readers forgets ends es long are =
    let e = ends es long are in (
      e.0,
      λ setup run at. record {
        few = with_labels run (labels_without label run.labels);
        alike = alike_without es run label (e.1 refl);
        at = record {
          hosted = rw same_participants at.hosted;
          labels_are = forgets run.labels at.labels_are;
          seen_are = rw same_seen at.seen_are;
          readers_are = rw same_readers at.readers_are;
          remembered = fewer_remember run label at.remembered;
        };
      },
    )

-- one whose use didn't end isn't
pub none_forgotten : {A R : Type 0} (view : A → ActorView) (reads : Reader → R → Type 0) (simulation : Simulation A R) (uses left : List (Vec ℕ Global × ℕ)) (label : List ℕ) (many : ℕ) (ended : Bool) → EndsUse uses label many ended left
    → ForgetsLabels view reads many uses simulation left simulation
none_forgotten view reads simulation uses left label many ended ends es long are = ((ends es long are).0, λ setup run at. stands_for view reads setup es run simulation at)

-- ---- more of them

pub no_label_forgotten : {A R : Type 0} (view : A → ActorView) (reads : Reader → R → Type 0) (simulation : Simulation A R) (uses : List (Vec ℕ Global × ℕ)) (many : ℕ) → ForgetsLabels view reads many uses simulation uses simulation
no_label_forgotten view reads simulation uses many es long are = (are, λ setup run at. stands_for view reads setup es run simulation at)

pub more_forgotten : {A R : Type 0} (view : A → ActorView) (reads : Reader → R → Type 0) (old some new : Simulation A R) (uses then left : List (Vec ℕ Global × ℕ)) (many : ℕ) → ForgetsLabels view reads many uses old then some → ForgetsLabels view reads many then some left new
    → ForgetsLabels view reads many uses old left new
more_forgotten view reads old some new uses then left many front back es long are =
    let a = front es long are in
    let b = back es long a.0 in (
      b.0,
      λ setup run at.
          let x = a.1 setup run at in
          let y = b.1 setup x.few x.at in
          record { few = y.few; alike = alike_further es run x.few y.few x.alike y.alike; at = y.at },
    )

-- ---- events

-- the uses of events to come are those of all but the next, too
pub uses_left : (uses : List (Vec ℕ Global × ℕ)) (all rest : List Event) (e : Event) → all ≡ rest ++ e ∷ [] → AreUses uses all → AreUses uses rest
uses_left uses all rest e more are place x label low at named = are place x label low (ap (λ (xs : List Event). slice_get xs place) more ∙ (get_front rest (e ∷ []) place (slice_get_within rest place x at) ∙ at)) named

-- the next event precedes the others
next_first : (rest : List Event) (e x : Event) → IsIn x (e ∷ rest) → IsIn x (rest ++ e ∷ [])
next_first rest e x (inl here) = in_right x rest (e ∷ []) (inl here)
next_first rest e x (inr there) = in_left x rest (e ∷ []) there

-- an event prints the same lines for this run as for the one that a simulation is at, and they go on alike
pub next_alike : (setup : Setup) (all rest : List Event) (e : Event) (whole few : Run) → all ≡ rest ++ e ∷ [] → IsAlikeFor all whole few → GoesAlike setup rest e whole few
next_alike setup all rest e whole few more alike =
    goes_alike setup rest e whole few (alike_for_fewer all (e ∷ rest) whole few (λ x on. subst (λ (xs : List Event). IsIn x xs) (sym more) (next_first rest e x on)) alike)

-- an event was played of the run that a simulation is at, and labels were forgotten
pub played_for : {A R : Type 0} (view : A → ActorView) (reads : Reader → R → Type 0) (setup : Setup) (all rest : List Event) (e : Event) (whole : Run) (old some new : Simulation A R) (lines : List ℕ) (uses left : List (Vec ℕ Global × ℕ)) (many : ℕ) → all ≡ rest ++ e ∷ []
    → (s : IsSimulationFor view reads setup all whole old) → HasTold A view reads setup e (done setup s.few e) lines some → ForgetsLabels view reads many uses some left new → AreUses uses rest → length rest ≡ many
    → IsSimulationFor view reads setup rest (done setup whole e).run new
played_for view reads setup all rest e whole old some new lines uses left many more s told forgets are long =
    let goes = next_alike setup all rest e whole s.few more s.alike in
    let y = (forgets rest long are).1 setup (done setup s.few e).run told.at in
    record { few = y.few; alike = alike_further rest (done setup whole e).run (done setup s.few e).run y.few goes.run y.alike; at = y.at }
