-- The reads of a session are those of the `get` commands that a script carries out.
use Rattle.std.proofs.Common.{◌≡◌, ℕ, List, [], ◌∷◌, ◌++◌, append_assoc, map, Option, Some, None, sym, ap, ◌∙◌}
use Rattle.std.proofs.lemmas.List.{append-nil, map-append}
use Rattle.depot_model.specs.exchange.Bundle.{Signs}
use Rattle.depot_model.specs.checks.Checks.{Setting}
use Rattle.depot_model.specs.worlds.World.{Read}
use Rattle.depot_script.specs.declared.command.Command.{Command}
use Rattle.depot_script.specs.declared.command.Command.TheVariants as command
use Rattle.depot_session.specs.declared.ending.ScriptEnding.{ScriptEnding}
use Rattle.depot_session.specs.Sessions.{Session, Step, Answers, step_of, followed_by, answers_of}
use Rattle.depot_session.proofs.CorrectSteps.{step_reads}
use Rattle.depot_examples.specs.Commanded.{key_got, keys_got, going_on, carried_out_of}

-- the keys of the reads of a session's node
abbrev keys_at : Session → List (List ℕ)
keys_at s = map (λ (r : Read). r.key) s.correct.reads

-- ---- one command

-- a command that reads nothing
silent : (s : Session) (reads : List Read) → reads ≡ s.correct.reads → map (λ (r : Read). r.key) reads ≡ keys_at s ++ []
silent s reads same = ap (λ (rs : List Read). map (λ (r : Read). r.key) rs) same ∙ sym (append-nil (keys_at s))

keys_after : (here : Setting) (sign : Signs) (s : Session) (c : Command) → keys_at (step_of here sign s c).session ≡ keys_at s ++ key_got c
unfolding step_of
keys_after here sign s (command.Get key) = map-append (λ (r : Read). r.key) s.correct.reads _
keys_after here sign s other = silent s _ (step_reads here sign s other tt)

-- ---- a script

followed : (before : List (List ℕ)) (c : Command) (more : List Command) (step : Step) (rest : Answers) (o : Option ScriptEnding) → keys_at step.session ≡ before ++ key_got c → keys_at rest.session ≡ keys_at step.session ++ keys_got more
    → keys_at (followed_by o step rest).session ≡ before ++ keys_got (c ∷ going_on o more)
followed before c more step rest (Some ends) one all = one ∙ ap (λ (ks : List (List ℕ)). before ++ ks) (sym (append-nil (key_got c)))
followed before c more step rest None one all = all ∙ ap (λ (ks : List (List ℕ)). ks ++ keys_got more) one ∙ append_assoc before (key_got c) (keys_got more)

-- the keys of the reads are those of the `get` commands that were carried out
pub session_reads : (here : Setting) (sign : Signs) (s : Session) (cs : List Command) → map (λ (r : Read). r.key) (answers_of here sign s cs).session.correct.reads ≡ map (λ (r : Read). r.key) s.correct.reads ++ keys_got (carried_out_of here sign s cs)
unfolding answers_of carried_out_of
session_reads here sign s [] = sym (append-nil (keys_at s))
session_reads here sign s (c ∷ cs) =
    let step = step_of here sign s c in
    followed (keys_at s) c (carried_out_of here sign step.session cs) step (answers_of here sign step.session cs) step.ending (keys_after here sign s c) (session_reads here sign step.session cs)
