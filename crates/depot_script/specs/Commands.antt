-- The lines of commands: one line of this table a kind of command.
use Rattle.std.specs.Prelude.{ℕ, List, [], Option, codes, find}
use Rattle.std.specs.Str.{bytes_eq}
use Rattle.depot_base.specs.Writes.{one_change}
use Rattle.depot_base.specs.declared.write.Change.{Change}
use Rattle.depot_lines.specs.declared.changes.Keys.TheVariants as keys
use Rattle.depot_lines.specs.Language.{Words, word, line_made, counted_words}
use Rattle.depot_lines.specs.Vocabulary.{key, put_key, value, digest_word, node_count, changes}
use Rattle.depot_script.specs.declared.command.Command.{Command}
use Rattle.depot_script.specs.declared.command.Command.TheVariants.{Put, Puts, Get, Hello, Bundle, Take, Receipt, Settled, Export, Checkpoint, Sign, Trim, Tgive, Tget}
use Rattle.depot_script.specs.declared.command_verb.CommandVerb.{CommandVerb}
use Rattle.depot_script.specs.declared.command_verb.CommandVerb.TheVariants as verb
use Rattle.depot_script.specs.declared.command_verb.TheConstants.{COMMAND_VERBS}
use Rattle.depot_lines.specs.FileNames.{file_name}

-- ---- the parts of commands; where a command has no such part, any value serves

abbrev pub command_key : Command → List ℕ
command_key (Put k _) = k
command_key (Get k) = k
command_key (Tget k) = k
command_key _ = []

abbrev pub command_value : Command → List ℕ
command_value (Put _ v) = v
command_value _ = []

-- what a command writes: one change for one key and value
abbrev pub command_changes : Command → List Change
command_changes (Put k v) = one_change k v
command_changes (Puts cs) = cs
command_changes _ = []

abbrev pub command_file : Command → List ℕ
command_file (Hello file) = file
command_file (Bundle _ file) = file
command_file (Take file) = file
command_file (Export file) = file
command_file (Checkpoint file) = file
command_file (Sign file) = file
command_file (Trim file) = file
command_file (Tgive file) = file
command_file _ = []

-- the file of the hello that a bundle answers
abbrev pub command_hello : Command → List ℕ
command_hello (Bundle hello _) = hello
command_hello _ = []

-- the id of the update that a command speaks of
abbrev pub command_id : Command → List ℕ
command_id (Receipt id) = id
command_id (Settled id _) = id
command_id _ = []

-- the number of nodes that a command asks for
abbrev pub command_nodes : Command → ℕ
command_nodes (Settled _ k) = k
command_nodes _ = 0

-- ---- the table, by the words after the command's name; nothing before a line matters for it

abbrev pub CommandForm : Type 1
CommandForm = Words (Unit {0}) Command

-- `put KEY VALUE`
unfoldable pub put_form : CommandForm
put_form = counted_words 2 2 (word put_key command_key λ k. word value command_value λ v. line_made (Put k v))

-- `puts WRITES`
unfoldable pub puts_form : CommandForm
puts_form = counted_words 1 1 (word (changes keys.Put) command_changes λ cs. line_made (Puts cs))

-- `get KEY`
unfoldable pub get_form : CommandForm
get_form = counted_words 1 1 (word key command_key λ k. line_made (Get k))

-- `hello FILE`
unfoldable pub hello_form : CommandForm
hello_form = counted_words 1 1 (word file_name command_file λ file. line_made (Hello file))

-- `bundle HELLO FILE`
unfoldable pub bundle_form : CommandForm
bundle_form = counted_words 2 2 (word file_name command_hello λ hello. word file_name command_file λ file. line_made (Bundle hello file))

-- `take FILE`
unfoldable pub take_form : CommandForm
take_form = counted_words 1 1 (word file_name command_file λ file. line_made (Take file))

-- `receipt ID`
unfoldable pub receipt_form : CommandForm
receipt_form = counted_words 1 1 (word digest_word command_id λ id. line_made (Receipt id))

-- `settled ID K`
unfoldable pub settled_form : CommandForm
settled_form = counted_words 2 2 (word digest_word command_id λ id. word node_count command_nodes λ k. line_made (Settled id k))

-- `export FILE`
unfoldable pub export_form : CommandForm
export_form = counted_words 1 1 (word file_name command_file λ file. line_made (Export file))

-- `checkpoint FILE`
unfoldable pub checkpoint_form : CommandForm
checkpoint_form = counted_words 1 1 (word file_name command_file λ file. line_made (Checkpoint file))

-- `sign FILE`
unfoldable pub sign_form : CommandForm
sign_form = counted_words 1 1 (word file_name command_file λ file. line_made (Sign file))

-- `trim FILE`
unfoldable pub trim_form : CommandForm
trim_form = counted_words 1 1 (word file_name command_file λ file. line_made (Trim file))

-- `tgive FILE`
unfoldable pub tgive_form : CommandForm
tgive_form = counted_words 1 1 (word file_name command_file λ file. line_made (Tgive file))

-- `tget KEY`
unfoldable pub tget_form : CommandForm
tget_form = counted_words 1 1 (word key command_key λ k. line_made (Tget k))

-- ---- all kinds of commands

abbrev pub verb_of_command : Command → CommandVerb
verb_of_command (Put _ _) = verb.Put
verb_of_command (Puts _) = verb.Puts
verb_of_command (Get _) = verb.Get
verb_of_command (Hello _) = verb.Hello
verb_of_command (Bundle _ _) = verb.Bundle
verb_of_command (Take _) = verb.Take
verb_of_command (Receipt _) = verb.Receipt
verb_of_command (Settled _ _) = verb.Settled
verb_of_command (Export _) = verb.Export
verb_of_command (Checkpoint _) = verb.Checkpoint
verb_of_command (Sign _) = verb.Sign
verb_of_command (Trim _) = verb.Trim
verb_of_command (Tgive _) = verb.Tgive
verb_of_command (Tget _) = verb.Tget

-- the first word of the line of a command
abbrev pub command_name : CommandVerb → List ℕ
command_name verb.Put = codes "put"
command_name verb.Puts = codes "puts"
command_name verb.Get = codes "get"
command_name verb.Hello = codes "hello"
command_name verb.Bundle = codes "bundle"
command_name verb.Take = codes "take"
command_name verb.Receipt = codes "receipt"
command_name verb.Settled = codes "settled"
command_name verb.Export = codes "export"
command_name verb.Checkpoint = codes "checkpoint"
command_name verb.Sign = codes "sign"
command_name verb.Trim = codes "trim"
command_name verb.Tgive = codes "tgive"
command_name verb.Tget = codes "tget"

-- the words after it
abbrev pub command_form : CommandVerb → CommandForm
command_form verb.Put = put_form
command_form verb.Puts = puts_form
command_form verb.Get = get_form
command_form verb.Hello = hello_form
command_form verb.Bundle = bundle_form
command_form verb.Take = take_form
command_form verb.Receipt = receipt_form
command_form verb.Settled = settled_form
command_form verb.Export = export_form
command_form verb.Checkpoint = checkpoint_form
command_form verb.Sign = sign_form
command_form verb.Trim = trim_form
command_form verb.Tgive = tgive_form
command_form verb.Tget = tget_form

-- the words after the name of a command
abbrev pub behind_command_name : Command → List (List ℕ)
behind_command_name c = (command_form (verb_of_command c)).text c

-- the kind of command of this name
unfoldable pub command_named : List ℕ → Option CommandVerb
command_named word = find (λ v. bytes_eq word (command_name v)) COMMAND_VERBS
