-- What the commands of a script ask for: the keys that they read, and which of them are carried out.
use Rattle.std.specs.Prelude.{◌≡◌, ℕ, List, [], ◌∷◌, ◌++◌, map, Option, Some, None}
use Rattle.std.specs.List.{flat_map}
use Rattle.depot_model.specs.exchange.Bundle.{Signs}
use Rattle.depot_model.specs.checks.Checks.{Setting}
use Rattle.depot_model.specs.worlds.World.{Read}
use Rattle.depot_script.specs.declared.command.Command.{Command}
use Rattle.depot_script.specs.declared.command.Command.TheVariants as command
use Rattle.depot_session.specs.declared.ending.ScriptEnding.{ScriptEnding}
use Rattle.depot_session.specs.Sessions.{Session, step_of}

-- the key that a command reads
abbrev pub key_got : Command → List (List ℕ)
key_got (command.Get key) = key ∷ []
key_got other = []

-- the keys that commands read, in their order
abbrev pub keys_got : List Command → List (List ℕ)
keys_got cs = flat_map key_got cs

-- After the reads of one session, the node has made those of these keys in the other.
abbrev pub ReadsFurther : Session → Session → List (List ℕ) → Type 0
ReadsFurther before after keys = map (λ (r : Read). r.key) after.correct.reads ≡ map (λ (r : Read). r.key) before.correct.reads ++ keys

-- what is carried out after a command that ends the run, or doesn't
abbrev pub going_on : Option ScriptEnding → List Command → List Command
going_on (Some ends) rest = []
going_on None rest = rest

-- the commands of a script that are carried out: all up to the first that ends the run, and that one
unfoldable pub carried_out_of : Setting → Signs → Session → List Command → List Command
carried_out_of here sign s [] = []
carried_out_of here sign s (c ∷ cs) = let step = step_of here sign s c in c ∷ going_on step.ending (carried_out_of here sign step.session cs)
