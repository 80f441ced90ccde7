-- Which words are a command.
use Rattle.std.specs.Prelude.{ℕ, List, [], ◌∷◌, length, ◌&&◌, codes, Option, Some, None, option_and_then, option_map, if◌then◌else◌}
use Rattle.std.specs.List.{list_all}
use Rattle.std.specs.Str.{bytes_eq}
use Rattle.depot_base.specs.declared.limits.TheConstants.{MOST_KEY, LEAST_HEIGHT, GREATEST_HEIGHT}
use Rattle.depot_model.specs.lists.Lists.{when}
use Rattle.depot_lines.specs.Spelling.{is_within, hex_word, sized, number_word, is_plain_name}
use Rattle.depot_lines.specs.FileNames.{is_file_name}
use Rattle.depot_traces.specs.declared.trace.TheConstants.{MOST_TRACES}
use Rattle.depot_cli.specs.declared.invocation.Invocation.{Invocation}
use Rattle.depot_cli.specs.declared.invocation.Invocation.TheVariants.{Scan, Key, Judge, Load, Replay, Node, Audit}
use Rattle.depot_cli.specs.declared.invocation.ServerWords.{ServerWords}

-- ---- commands

-- both are there
abbrev pub both : {A B : Type 0} → Option A → Option B → (A → B → Invocation) → Option Invocation
both None b make = None
both (Some a) None make = None
both (Some a) (Some b) make = Some (make a b)

abbrev pub name_word : List ℕ → Option (List ℕ)
name_word word = when (is_plain_name word) word

-- `scan LOG KEY`
abbrev pub scan_command : List ℕ → List ℕ → Option Invocation
scan_command log key = both (name_word log) (sized (is_within 1 MOST_KEY) (hex_word key)) (λ log key. Scan log key)

-- `key SEED HEIGHT`
abbrev pub key_command : List ℕ → List ℕ → Option Invocation
key_command seed height = both (sized (is_within 32 32) (hex_word seed)) (number_word LEAST_HEIGHT GREATEST_HEIGHT height) (λ seed height. Key seed height)

-- `judge ROSTER PROOF`
abbrev pub judge_command : List ℕ → List ℕ → Option Invocation
judge_command roster proof = both (name_word roster) (name_word proof) (λ roster proof. Judge roster proof)

-- `replay SCHEDULE`
abbrev pub replay_command : List ℕ → Option Invocation
replay_command schedule = option_map (λ name. Replay name) (name_word schedule)

-- `load NUMBER`
abbrev pub load_command : List ℕ → Option Invocation
load_command number = option_map (λ n. Load n) (number_word 0 4294967295 number)

-- `node ROSTER SEED HEIGHT ID SCRIPT`
abbrev pub node_command : List ℕ → List ℕ → List ℕ → List ℕ → List ℕ → Option Invocation
node_command roster seed height id script =
    option_and_then (λ r. option_and_then (λ s. option_and_then (λ h. option_and_then (λ i. option_map (λ c. Node (record { roster = r; seed = s; height = h; id = i; script = c })) (name_word script)) (number_word 1 65535 id)) (number_word LEAST_HEIGHT GREATEST_HEIGHT height)) (sized (is_within 32 32) (hex_word seed))) (name_word roster)

-- ROSTER SEED HEIGHT ID, which `serve` takes
abbrev pub server_words : List ℕ → List ℕ → List ℕ → List ℕ → Option ServerWords
server_words roster seed height id =
    option_and_then (λ r. option_and_then (λ s. option_and_then (λ h. option_map (λ i. record { roster = r; seed = s; height = h; id = i }) (number_word 1 65535 id)) (number_word LEAST_HEIGHT GREATEST_HEIGHT height)) (sized (is_within 32 32) (hex_word seed))) (name_word roster)

-- the names of 1 to 32 trace files
abbrev pub trace_names : List (List ℕ) → Option (List (List ℕ))
trace_names words = when (is_within 1 MOST_TRACES (length words) && list_all is_file_name words) words

-- `audit ROSTER TRACE..`
abbrev pub audit_command : List ℕ → List (List ℕ) → Option Invocation
audit_command roster traces = option_and_then (λ r. option_map (λ ts. Audit r ts) (trace_names traces)) (name_word roster)

-- a command of two words
unfoldable pub command_with : List ℕ → List ℕ → Option Invocation
command_with verb a =
    if bytes_eq verb (codes "replay") then replay_command a else
    if bytes_eq verb (codes "load") then load_command a else None

-- a command of three words
unfoldable pub command_by : List ℕ → List ℕ → List ℕ → Option Invocation
command_by verb a b =
    if bytes_eq verb (codes "scan") then scan_command a b else
    if bytes_eq verb (codes "key") then key_command a b else
    if bytes_eq verb (codes "judge") then judge_command a b else None

-- a command of six words
unfoldable pub command_for : List ℕ → List ℕ → List ℕ → List ℕ → List ℕ → List ℕ → Option Invocation
command_for verb a b c d e = if bytes_eq verb (codes "node") then node_command a b c d e else None

-- the command that the words are by their number: any but `audit`
abbrev pub command_by_number : List (List ℕ) → Option Invocation
command_by_number (verb ∷ a ∷ []) = command_with verb a
command_by_number (verb ∷ a ∷ b ∷ []) = command_by verb a b
command_by_number (verb ∷ a ∷ b ∷ c ∷ d ∷ e ∷ []) = command_for verb a b c d e
command_by_number words = None

-- the command that the words are, if they are one and it isn't `serve`
abbrev pub command_of : List (List ℕ) → Option Invocation
command_of (verb ∷ roster ∷ traces) = if bytes_eq verb (codes "audit") then audit_command roster traces else command_by_number (verb ∷ roster ∷ traces)
command_of words = None

-- what `serve ROSTER SEED HEIGHT ID` asks for, if the words are that
unfoldable pub served_words : List (List ℕ) → Option ServerWords
served_words (verb ∷ a ∷ b ∷ c ∷ d ∷ []) = if bytes_eq verb (codes "serve") then server_words a b c d else None
served_words words = None
