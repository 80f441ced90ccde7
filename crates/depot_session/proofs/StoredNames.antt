-- The names under which a step stores.
use Rattle.std.proofs.Common.{◌≡◌, ℕ, List, [], ◌∷◌, Option, Some, None, Result, refl, sym, ap, subst, ◌∙◌}
use Rattle.depot_model.specs.exchange.Bundle.{Signs}
use Rattle.depot_model.specs.checks.Checks.{Setting}
use Rattle.depot_requests.specs.Requests.{served}
use Rattle.depot_script.specs.declared.command.Command.{Command}
use Rattle.depot_script.specs.declared.command.Command.TheVariants as command
use Rattle.depot_traces.specs.ToldTraces.{file_of_trace}
use Rattle.depot_session.specs.declared.ending.ScriptEnding.{ScriptEnding}
use Rattle.depot_session.specs.ScriptTelling.{StoresUnder}
use Rattle.depot_session.specs.Sessions.{Asking, Session, asked_in, asks_for, handed_over, hands_in, name_stored, names_after, step_by, step_of, trace_of_run}
use Rattle.depot_session.proofs.AskedShelves.{stored_none}

-- nothing is stored where there is no name
unnamed : (out : Option (List ℕ)) → names_after out None ≡ []
unnamed None = refl
unnamed (Some bytes) = refl

stores_by : (here : Setting) (sign : Signs) (s : Session) (c : Command) (a : Asking) → name_stored c ≡ None → (step_by here sign s c a).stores ≡ []
stores_by here sign s c (asks_for r) none = let out = handed_over (served here sign s.correct.journal r).reply in ap (names_after out) none ∙ unnamed out
stores_by here sign s c hands_in none = ap (names_after (Some (file_of_trace (trace_of_run s)))) none
stores_by here sign s c other none = refl

stores_nothing : (here : Setting) (sign : Signs) (s : Session) (c : Command) → name_stored c ≡ None → (step_of here sign s c).stores ≡ []
unfolding step_of
stores_nothing here sign s c = stores_by here sign s c (asked_in s c)

-- a trace is stored
stores_trace : (here : Setting) (sign : Signs) (s : Session) (file : List ℕ) → (step_of here sign s (command.Export file)).stores ≡ file ∷ []
unfolding step_of
stores_trace here sign s file = refl

-- ---- what was stored

module _ (old new : List (List ℕ)) (here : Setting) (sign : Signs) (s : Session) (c : Command) (r : Result (Unit {0}) ScriptEnding) where
  -- what the command's step stores, where it is this one
  stored_for : (d : Command) (names : List (List ℕ)) → c ≡ d → (step_of here sign s d).stores ≡ names → StoresUnder old new names r → StoresUnder old new (step_of here sign s c).stores r
  stored_for d names is stores = subst (λ (x : List (List ℕ)). StoresUnder old new x r) (sym (ap (λ (x : Command). (step_of here sign s x).stores) is ∙ stores))

  -- a command that stores nothing
  pub nothing_stored : (d : Command) → c ≡ d → name_stored d ≡ None → new ≡ old → StoresUnder old new (step_of here sign s c).stores r
  nothing_stored d is none same = stored_for d [] is (stores_nothing here sign s d none) (stored_none old new r same)

  pub trace_stored : (file : List ℕ) → c ≡ command.Export file → StoresUnder old new (file ∷ []) r → StoresUnder old new (step_of here sign s c).stores r
  trace_stored file is = stored_for (command.Export file) (file ∷ []) is (stores_trace here sign s file)
