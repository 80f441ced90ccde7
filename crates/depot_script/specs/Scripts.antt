-- Scripts: which have a text, that text, and for any other text the first faulty line and its fault. A script is a list
-- of commands.
use Rattle.std.specs.Prelude.{ℕ, ◌+◌, ◌≤◌, not, List, [], ◌∷◌, length, Result, Ok, Err, if◌then◌else◌, ◌≡◌}
use Rattle.std.specs.List.{flat_map}
use Rattle.depot_base.specs.declared.limits.TheConstants.{MOST_LINES}
use Rattle.depot_lines.specs.declared.line_fault.LineFault.{LineFault}
use Rattle.depot_lines.specs.declared.line_fault.LineFault.TheVariants as is
use Rattle.depot_base.specs.Format.{◌>>=◌}
use Rattle.depot_lines.specs.Language.{or_fault, FitAll, nothing}
use Rattle.depot_lines.specs.LineTexts.{text_of_line, Line, lines_of_text, are_words, checked}
use Rattle.depot_script.specs.declared.command.Command.{Command}
use Rattle.depot_script.specs.Commands.{verb_of_command, command_name, command_form, command_named, behind_command_name}

-- ---- texts

abbrev pub command_words : Command → List (List ℕ)
command_words c = command_name (verb_of_command c) ∷ behind_command_name c

-- the text of a script: a line a command
unfoldable pub text_of_script : List Command → List ℕ
text_of_script commands = flat_map (λ c. text_of_line (command_words c)) commands

-- ---- which scripts have a text

abbrev pub FitsCommand : Command → Type 0
FitsCommand c = (command_form (verb_of_command c)).fits nothing c

-- the scripts that have a text: each command has a line, and there are at most 100,000
pub record IsScript (commands : List Command) : Type 0 where
  pub fit : FitAll FitsCommand commands
  pub lines : length commands ≤ MOST_LINES

-- ---- lines

-- the command of the words of a line, or what is first wrong with them
abbrev pub read_command : List (List ℕ) → Result Command LineFault
read_command [] = Err is.Word
read_command (name ∷ words) =
    if not (are_words (name ∷ words)) then Err is.Word else
    (or_fault (command_named name) is.Word >>= λ verb. (command_form verb).read nothing words)

-- ---- whole texts

-- the commands of some lines, the first of them of this number, or the number of the first faulty one and its first fault
abbrev pub read_lines : ℕ → List Line → Result (List Command) (ℕ × LineFault)
read_lines n [] = Ok []
read_lines n (line ∷ lines) = checked n line read_command >>= λ c. read_lines (n + 1) lines >>= λ commands. Ok (c ∷ commands)

-- the script of a text, or the number of its first faulty line, from 1, and that line's first fault
unfoldable pub script_of : List ℕ → Result (List Command) (ℕ × LineFault)
script_of text = read_lines 1 (lines_of_text text)

-- the text is that of this script, which has one
pub record IsTextOfScript (text : List ℕ) (commands : List Command) : Type 0 where
  pub has : IsScript commands
  pub is : text ≡ text_of_script commands
