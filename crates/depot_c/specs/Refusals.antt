-- Why a call is refused, as its caller is told.
use Rattle.std.specs.Prelude.{◌≡◌, ◌⊎◌, ℕ, List, [], ◌++◌, codes}
use Rattle.depot_answers.specs.AnswerTexts.{text_of_number, spaced, text_of_record_fault}
use Rattle.depot_model.specs.texts.Lines.{text_of_roster_error}
use Rattle.depot_model.specs.declared.roster_format.RosterError.{RosterError}
use Rattle.depot_model.specs.declared.roster_format.RosterError.TheVariants as roster_error
use Rattle.depot_node.specs.declared.start_error.StartError.{StartError}
use Rattle.depot_node.specs.declared.start_error.StartError.TheVariants as start_error
use Rattle.depot_requests.specs.declared.reply.Halt.{Halt}
use Rattle.depot_requests.specs.declared.reply.Halt.TheVariants as halt
use Rattle.depot_c.specs.declared.outcome.CallOutcome.{CallOutcome}
use Rattle.depot_c.specs.declared.outcome.CallOutcome.TheVariants as outcome
use Rattle.depot_c.specs.declared.refused.Refused.{Refused}
use Rattle.depot_c.specs.declared.refused.Refused.TheVariants as refused

-- ---- outcomes

-- the number of an outcome, which the caller has as a status
abbrev pub number_of : CallOutcome → ℕ
number_of outcome.Done = 0
number_of outcome.Input = 2
number_of outcome.Disk = 4
number_of outcome.Memory = 6
number_of outcome.NotLawful = 9
number_of outcome.Identity = 10
number_of outcome.Order = 11
number_of outcome.Stopped = 12

abbrev pub outcome_of_roster : RosterError → CallOutcome
outcome_of_roster roster_error.Memory = outcome.Memory
outcome_of_roster e = outcome.Input

abbrev pub outcome_of_start : StartError → CallOutcome
outcome_of_start start_error.Memory = outcome.Memory
outcome_of_start start_error.Disk = outcome.Disk
outcome_of_start (start_error.Damaged at) = outcome.NotLawful
outcome_of_start (start_error.NotLawful place fault) = outcome.NotLawful
outcome_of_start start_error.UnknownMe = outcome.Identity
outcome_of_start (start_error.OtherKey roster signer) = outcome.Identity
outcome_of_start (start_error.OtherNode node) = outcome.Identity
outcome_of_start (start_error.OtherRoster kept given) = outcome.Identity

abbrev pub outcome_of_halt : Halt → CallOutcome
outcome_of_halt halt.Memory = outcome.Memory
outcome_of_halt halt.Disk = outcome.Disk
outcome_of_halt halt.Stopped = outcome.Stopped

-- how a call ends that is refused for this
abbrev pub refusal_outcome : Refused → CallOutcome
refusal_outcome refused.Input = outcome.Input
refusal_outcome refused.Memory = outcome.Memory
refusal_outcome refused.Order = outcome.Order
refusal_outcome (refused.Roster e) = outcome_of_roster e
refusal_outcome (refused.Start e) = outcome_of_start e
refusal_outcome (refused.IllFormed at) = outcome.Input
refusal_outcome (refused.Halted e) = outcome_of_halt e

-- ---- words

abbrev pub words_of_start : StartError → List ℕ
words_of_start start_error.Memory = []
words_of_start start_error.Disk = []
words_of_start start_error.UnknownMe = codes "identity UnknownMe"
words_of_start (start_error.OtherKey roster signer) = codes "identity OtherKey"
words_of_start (start_error.OtherNode node) = codes "identity OtherNode"
words_of_start (start_error.OtherRoster kept given) = codes "identity OtherRoster"
words_of_start (start_error.Damaged at) = text_of_number (codes "damaged") at
words_of_start (start_error.NotLawful place fault) = text_of_number (codes "not lawful") place ++ spaced (text_of_record_fault fault)

-- why a call is refused, in the words of the program's lines
abbrev pub words_of : Refused → List ℕ
words_of (refused.Roster e) = text_of_roster_error e
words_of (refused.Start e) = words_of_start e
words_of (refused.IllFormed at) = text_of_number (codes "IllFormed") at
words_of other = []

-- words are given, or no memory was found for them, and then none are
abbrev pub IsTold : List ℕ → List ℕ → Type 0
IsTold words told = (told ≡ words) ⊎ (told ≡ [])
