-- Whatever a script makes a node do, its journal keeps its records, and the node keeps its identity.
use Rattle.std.proofs.Common.{◌≡◌, List, [], ◌∷◌, Option, Some, None, refl}
use Rattle.depot_model.specs.exchange.Bundle.{Signs}
use Rattle.depot_model.specs.checks.Checks.{Setting}
use Rattle.depot_model.proofs.of_journals.FeedGrowth.{IsGrown, grown_none, grown_twice}
use Rattle.depot_requests.proofs.ServedRequests.{served_grows}
use Rattle.depot_script.specs.declared.command.Command.{Command}
use Rattle.depot_script.specs.declared.command.Command.TheVariants as command
use Rattle.depot_session.specs.declared.ending.ScriptEnding.{ScriptEnding}
use Rattle.depot_session.specs.Sessions.{Answers, Asking, Session, Step, answers_of, asked_in, asks_for, asks_reader, followed_by, step_by, step_of}
use Rattle.depot_session.proofs.AskedCommands.{of_file}

-- ---- a step

grows_by : (here : Setting) (sign : Signs) (s : Session) (c : Command) (a : Asking) → IsGrown s.correct.journal (step_by here sign s c a).session.correct.journal
grows_by here sign s c (asks_for r) = served_grows here sign s.correct.journal r
grows_by here sign s c other = grown_none s.correct.journal

pub step_grows : (here : Setting) (sign : Signs) (s : Session) (c : Command) → IsGrown s.correct.journal (step_of here sign s c).session.correct.journal
unfolding step_of
step_grows here sign s c = grows_by here sign s c (asked_in s c)

stays_by : (here : Setting) (sign : Signs) (s : Session) (c : Command) (a : Asking) → (step_by here sign s c a).session.correct.node ≡ s.correct.node
stays_by here sign s c (asks_for r) = refl
stays_by here sign s c other = refl

pub step_stays : (here : Setting) (sign : Signs) (s : Session) (c : Command) → (step_of here sign s c).session.correct.node ≡ s.correct.node
unfolding step_of
step_stays here sign s c = stays_by here sign s c (asked_in s c)

begun_by : (here : Setting) (sign : Signs) (s : Session) (c : Command) (a : Asking) → (step_by here sign s c a).session.earlier ≡ s.earlier
begun_by here sign s c (asks_for r) = refl
begun_by here sign s c other = refl

-- the reads of earlier runs are as many as before
pub step_begun : (here : Setting) (sign : Signs) (s : Session) (c : Command) → (step_of here sign s c).session.earlier ≡ s.earlier
unfolding step_of
step_begun here sign s c = begun_by here sign s c (asked_in s c)

-- ---- readers

-- the command asks nothing of readers
abbrev pub AsksNoReader : Command → Type 0
AsksNoReader (command.Trim file) = ⊥
AsksNoReader (command.Tgive file) = ⊥
AsksNoReader (command.Tget key) = ⊥
AsksNoReader other = Unit {0}

-- nor is that asked for
abbrev AsksNone : Asking → Type 0
AsksNone (asks_reader r) = ⊥
AsksNone other = Unit {0}

asks_none : (s : Session) (c : Command) → AsksNoReader c → AsksNone (asked_in s c)
asks_none s (command.Bundle hello file) other = of_file AsksNone _ hello (s.files hello) tt (λ bytes. tt)
asks_none s (command.Take file) other = of_file AsksNone _ file (s.files file) tt (λ bytes. tt)
asks_none s (command.Sign file) other = of_file AsksNone _ file (s.files file) tt (λ bytes. tt)
asks_none s (command.Trim file) other = absurd other
asks_none s (command.Tgive file) other = absurd other
asks_none s (command.Tget key) other = absurd other
asks_none s c other = tt

reader_by : (here : Setting) (sign : Signs) (s : Session) (c : Command) (a : Asking) → AsksNone a → (step_by here sign s c a).session.reader ≡ s.reader
reader_by here sign s c (asks_reader r) none = absurd none
reader_by here sign s c other none = refl

-- so the last one is that from before
pub step_reader : (here : Setting) (sign : Signs) (s : Session) (c : Command) → AsksNoReader c → (step_of here sign s c).session.reader ≡ s.reader
unfolding step_of
step_reader here sign s c other = reader_by here sign s c (asked_in s c) (asks_none s c other)

-- ---- a script

followed_grows : (s : Session) (step : Step) (rest : Answers) (o : Option ScriptEnding) → IsGrown s.correct.journal step.session.correct.journal → IsGrown step.session.correct.journal rest.session.correct.journal → IsGrown s.correct.journal (followed_by o step rest).session.correct.journal
followed_grows s step rest (Some e) one more = one
followed_grows s step rest None one more = grown_twice s.correct.journal step.session.correct.journal rest.session.correct.journal one more

pub answers_grow : (here : Setting) (sign : Signs) (s : Session) (cs : List Command) → IsGrown s.correct.journal (answers_of here sign s cs).session.correct.journal
unfolding answers_of
answers_grow here sign s [] = grown_none s.correct.journal
answers_grow here sign s (c ∷ cs) =
    let step = step_of here sign s c in
    followed_grows s step (answers_of here sign step.session cs) step.ending (step_grows here sign s c) (answers_grow here sign step.session cs)
