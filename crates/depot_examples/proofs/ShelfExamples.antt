-- Worked runs of scripts over a shelf: which file one that is cut short names, and what the shelf was asked for.
use Rattle.std.proofs.Common.{◌≡◌, List, [], ◌∷◌, ◌++◌, ℕ, true, codes, Option, Some, None, refl, sym, ◌∙◌, inl, inr, arith}
use Rattle.depot_model.specs.exchange.Bundle.{Signs}
use Rattle.depot_model.specs.checks.Checks.{Setting}
use Rattle.depot_model.specs.readers.Readers.{Reader}
use Rattle.depot_outside.specs.Told.{Shelves}
use Rattle.depot_script.specs.declared.command.Command.{Command}
use Rattle.depot_requests.specs.Requests.{served}
use Rattle.depot_requests.specs.declared.request.Request.TheVariants as request
use Rattle.depot_script.specs.declared.command.Command.TheVariants as command
use Rattle.depot_session.specs.ScriptTelling.{Asked}
use Rattle.depot_session.specs.SessionRuns.{AsksFirst, AsksShort, AsksWhole, FailsFor, IsHandedOut}
use Rattle.depot_session.specs.Sessions.{Session, Step, answers_of, asks_for, loads_through, step_by, step_of, stores_through, with_file}
use Rattle.depot_session.specs.declared.requesting.TheConstants.{TAKEN_PIECE}

abbrev hello : List ℕ
hello = codes "hello"

abbrev made : List ℕ
made = codes "made"

-- ---- the name

-- a shelf that failed so often, and on these names
abbrev failed : ℕ → List (List ℕ) → Shelves
failed faults names = record { tells = true; file = λ name. None; file_after = λ name. None; failed_before = []; failed_after = names; faults_before = 0; faults_after = faults }

abbrev makes_bundle : Command
makes_bundle = command.Bundle hello made

-- where it failed on the hello of a bundle the run names the hello, and not the file of the bundle
names_hello : FailsFor makes_bundle (failed 1 (hello ∷ [])) hello
names_hello = (inl refl, record { rose = omega arith; only = refl })

not_made : FailsFor makes_bundle (failed 1 (hello ∷ [])) made → ⊥
not_made fails = let is = fails.1.only in cc

-- where it failed on the file of the bundle the run names that
names_made : FailsFor makes_bundle (failed 1 (made ∷ [])) made
names_made = (inr refl, record { rose = omega arith; only = refl })

-- a file that the command doesn't name isn't named, nor one on which the shelf didn't fail, nor one of two
not_of_another : FailsFor (command.Take hello) (failed 1 (made ∷ [])) made → ⊥
not_of_another fails = let is = fails.0 in cc

not_where_calm : FailsFor makes_bundle (failed 0 []) hello → ⊥
not_where_calm fails = let rose = fails.1.rose in omega (arith, rose)

not_of_two : FailsFor makes_bundle (failed 2 (hello ∷ made ∷ [])) made → ⊥
not_of_two fails = let is = fails.1.only in cc

-- ---- what is handed out

-- a shelf that failed so often, and on these names, and has these bytes as what was made
abbrev holding : ℕ → List (List ℕ) → List ℕ → Shelves
holding faults names bytes = record (failed faults names) { file_after = λ name. Some bytes }

-- what the bundle's step makes
abbrev Makes : Step → List ℕ → Type 0
Makes step bytes = (step.ending ≡ None) × (step.session.files made ≡ Some bytes)

module _ (step : Step) (made_this : Makes step (7 ∷ [])) where
  -- under the name of the bundle that is handed out are its bytes
  its_bytes : IsHandedOut (λ image. ⊥) (holding 0 [] (7 ∷ [])) makes_bundle step made
  its_bytes = record { stores = refl; goes_on = made_this.0; bytes = inr (sym made_this.1); journal = λ image never. absurd never }

  -- and no others
  not_other_bytes : IsHandedOut (λ image. ⊥) (holding 0 [] (9 ∷ [])) makes_bundle step made → ⊥
  not_other_bytes handed = elim handed.bytes [
    | inl fails ↦ (let rose = fails.rose in absurd (omega (arith, rose)))
    | inr same ↦ (let is : ◌≡◌ {A = Option (List ℕ)} (Some (9 ∷ [])) (Some (7 ∷ [])) = same ∙ made_this.1 in cc)
  ]

  -- but where the shelf failed on it
  any_where_it_failed : IsHandedOut (λ image. ⊥) (holding 1 (made ∷ []) (9 ∷ [])) makes_bundle step made
  any_where_it_failed = record { stores = refl; goes_on = made_this.0; bytes = inl (record { rose = omega arith; only = refl }); journal = λ image never. absurd never }

-- ---- what was asked

-- these files were loaded, and bytes stored under these names
abbrev asked_for : List (List ℕ) → List (List ℕ) → Asked
asked_for loads stores = record { loads_before = []; loads_after = loads; stores_before = []; stores_after = stores }

-- two streams are taken
abbrev takes : List Command
takes = command.Take hello ∷ command.Take made ∷ []

module _ (here : Setting) (sign : Signs) (s : Session) where
  -- cut short in the first, the run loaded its file, or none; not that of the second
  first_loaded : AsksShort here sign s [] takes [] (asked_for (hello ∷ []) [])
  unfolding loads_through stores_through
  first_loaded = record { loads = inr refl; stores = inl refl }

  none_loaded : AsksShort here sign s [] takes [] (asked_for [] [])
  unfolding loads_through stores_through
  none_loaded = record { loads = inl refl; stores = inl refl }

  not_the_second : AsksShort here sign s [] takes [] (asked_for (hello ∷ made ∷ []) []) → ⊥
  unfolding loads_through
  not_the_second a = elim a.loads [
    | inl none ↦ (let is : hello ∷ made ∷ [] ≡ [] = none in cc)
    | inr one ↦ (let is : hello ∷ made ∷ [] ≡ hello ∷ [] = one in cc)
  ]

  -- cut short in the second it loaded both
  both_loaded : AsksShort here sign s (command.Take hello ∷ []) (command.Take made ∷ []) [] (asked_for (hello ∷ made ∷ []) [])
  unfolding loads_through stores_through step_of served
  both_loaded = record { loads = inr refl; stores = inl (sym (nothing_taken (s.files hello))) } where
    nothing_taken : (o : Option (List ℕ)) → (step_by here sign s (command.Take hello) (with_file (λ bytes. asks_for (request.Take bytes TAKEN_PIECE)) hello o)).stores ++ [] ≡ []
    nothing_taken None = refl
    nothing_taken (Some stream) = refl

  -- after what was loaded before its start
  behind_roster : AsksShort here sign s [] takes (codes "roster" ∷ codes "script" ∷ []) (asked_for (codes "roster" ∷ codes "script" ∷ hello ∷ []) [])
  unfolding loads_through stores_through
  behind_roster = record { loads = inr refl; stores = inl refl }

  -- a hello is stored once, and by a run that goes on as often as there are commands for it
  once : AsksShort here sign s [] (command.Hello made ∷ []) [] (asked_for [] (made ∷ []))
  unfolding loads_through stores_through step_of served
  once = record { loads = inl refl; stores = inr refl }

  not_twice : AsksShort here sign s [] (command.Hello made ∷ []) [] (asked_for [] (made ∷ made ∷ [])) → ⊥
  unfolding stores_through step_of served
  not_twice a = elim a.stores [
    | inl none ↦ (let is : made ∷ made ∷ [] ≡ [] = none in cc)
    | inr one ↦ (let is : made ∷ made ∷ [] ≡ made ∷ [] = one in cc)
  ]

  as_often : AsksWhole here sign s (command.Hello made ∷ command.Hello made ∷ []) [] (asked_for [] (made ∷ made ∷ []))
  unfolding answers_of step_of served loads_through stores_through
  as_often = record { done = command.Hello made ∷ command.Hello made ∷ []; rest = []; parts = refl; went_on = refl; over = inl refl; loads = refl; stores = refl }

  -- what is to be given to a reader is loaded where one was made
  given_loaded : (R : Reader) → loads_through here sign (record s { reader = Some R }) (command.Tgive hello ∷ []) ≡ hello ∷ []
  unfolding loads_through
  given_loaded R = refl

  not_given : loads_through here sign (record s { reader = None }) (command.Tgive hello ∷ []) ≡ []
  unfolding loads_through
  not_given = refl

-- a node that was refused asks for nothing
refused_asks_nothing : AsksFirst [] (asked_for [] [])
refused_asks_nothing = record { loads = refl; stores = refl }

not_its_script : AsksFirst [] (asked_for (hello ∷ []) []) → ⊥
not_its_script a = let is = a.loads in cc
