-- Each line of the table of commands is lawful, and its name is that of no other.
use Rattle.std.proofs.Common.{◌≡◌, ℕ, true, List, Some, refl, ap}
use Rattle.std.specs.Str.{bytes_eq}
use Rattle.depot_lines.specs.declared.line_fault.LineFault.TheVariants as is
use Rattle.depot_lines.specs.Spelling.{is_word}
use Rattle.depot_lines.specs.Language.{nothing}
use Rattle.depot_lines.proofs.LanguageLaws.{Lawful, is_same, word_lawful, made_lawful, counted_lawful}
use Rattle.depot_lines.specs.declared.changes.Keys.TheVariants as keys
use Rattle.depot_lines.proofs.ChangeWords.{changes_lawful}
use Rattle.depot_lines.proofs.HexWords.{key_lawful, put_key_lawful, value_lawful, digest_lawful}
use Rattle.depot_lines.proofs.VocabularyLaws.{node_count_lawful}
use Rattle.depot_lines.proofs.LineTextLaws.{found_passes}
use Rattle.depot_script.specs.declared.command.Command.{Command}
use Rattle.depot_script.specs.declared.command_verb.CommandVerb.{CommandVerb}
use Rattle.depot_script.specs.declared.command_verb.CommandVerb.TheVariants as verb
use Rattle.depot_script.specs.declared.command_verb.TheConstants.{COMMAND_VERBS}
use Rattle.depot_script.specs.Commands.{command_key, command_value, command_changes, command_file, command_hello, command_id, command_nodes, put_form, puts_form, get_form, hello_form, bundle_form, take_form, receipt_form, settled_form, export_form, checkpoint_form, sign_form, trim_form, tgive_form, tget_form, verb_of_command, command_name, command_form, command_named}
use Rattle.depot_lines.proofs.FileNameLaws.{file_name_lawful}

-- ---- each line

pub put_lawful : Lawful put_form
unfolding put_form
put_lawful = counted_lawful 2 2 _ (
    word_lawful _ _ _ 1 1 put_key_lawful (λ c a e h. ap command_key h.1) λ key.
    word_lawful _ _ _ 0 0 value_lawful (λ c a e h. ap command_value h) λ value.
    made_lawful _)

pub puts_lawful : Lawful puts_form
unfolding puts_form
puts_lawful = counted_lawful 1 1 _ (
    word_lawful _ _ _ 0 0 (changes_lawful keys.Put) (λ c a e h. ap command_changes h) λ changes.
    made_lawful _)

pub get_lawful : Lawful get_form
unfolding get_form
get_lawful = counted_lawful 1 1 _ (
    word_lawful _ _ _ 0 0 key_lawful (λ c a e h. ap command_key h) λ key.
    made_lawful _)

pub hello_lawful : Lawful hello_form
unfolding hello_form
hello_lawful = counted_lawful 1 1 _ (
    word_lawful _ _ _ 0 0 file_name_lawful (λ c a e h. ap command_file h) λ file.
    made_lawful _)

pub bundle_lawful : Lawful bundle_form
unfolding bundle_form
bundle_lawful = counted_lawful 2 2 _ (
    word_lawful _ _ _ 1 1 file_name_lawful (λ c a e h. ap command_hello h.1) λ hello.
    word_lawful _ _ _ 0 0 file_name_lawful (λ c a e h. ap command_file h) λ file.
    made_lawful _)

pub take_lawful : Lawful take_form
unfolding take_form
take_lawful = counted_lawful 1 1 _ (
    word_lawful _ _ _ 0 0 file_name_lawful (λ c a e h. ap command_file h) λ file.
    made_lawful _)

pub receipt_lawful : Lawful receipt_form
unfolding receipt_form
receipt_lawful = counted_lawful 1 1 _ (
    word_lawful _ _ _ 0 0 digest_lawful (λ c a e h. ap command_id h) λ id.
    made_lawful _)

pub settled_lawful : Lawful settled_form
unfolding settled_form
settled_lawful = counted_lawful 2 2 _ (
    word_lawful _ _ _ 1 1 digest_lawful (λ c a e h. ap command_id h.1) λ id.
    word_lawful _ _ _ 0 0 node_count_lawful (λ c a e h. ap command_nodes h) λ k.
    made_lawful _)

pub export_lawful : Lawful export_form
unfolding export_form
export_lawful = counted_lawful 1 1 _ (
    word_lawful _ _ _ 0 0 file_name_lawful (λ c a e h. ap command_file h) λ file.
    made_lawful _)

pub checkpoint_lawful : Lawful checkpoint_form
unfolding checkpoint_form
checkpoint_lawful = counted_lawful 1 1 _ (
    word_lawful _ _ _ 0 0 file_name_lawful (λ c a e h. ap command_file h) λ file.
    made_lawful _)

pub sign_lawful : Lawful sign_form
unfolding sign_form
sign_lawful = counted_lawful 1 1 _ (
    word_lawful _ _ _ 0 0 file_name_lawful (λ c a e h. ap command_file h) λ file.
    made_lawful _)

pub trim_lawful : Lawful trim_form
unfolding trim_form
trim_lawful = counted_lawful 1 1 _ (
    word_lawful _ _ _ 0 0 file_name_lawful (λ c a e h. ap command_file h) λ file.
    made_lawful _)

pub tgive_lawful : Lawful tgive_form
unfolding tgive_form
tgive_lawful = counted_lawful 1 1 _ (
    word_lawful _ _ _ 0 0 file_name_lawful (λ c a e h. ap command_file h) λ file.
    made_lawful _)

pub tget_lawful : Lawful tget_form
unfolding tget_form
tget_lawful = counted_lawful 1 1 _ (
    word_lawful _ _ _ 0 0 key_lawful (λ c a e h. ap command_key h) λ key.
    made_lawful _)

-- ---- all of them

-- the name of a kind of command is a word and is read as that kind; its line is lawful, and each command that fits it is of that kind
pub record LawfulForm (v : CommandVerb) : Type 0 where
  pub again : command_named (command_name v) ≡ Some v
  pub plain : is_word (command_name v) ≡ true
  pub line : Lawful (command_form v)
  pub is : (c : Command) → (command_form v).fits nothing c → verb_of_command c ≡ v

lawful_form : (v : CommandVerb) → command_named (command_name v) ≡ Some v → is_word (command_name v) ≡ true → Lawful (command_form v) → ((c : Command) → (command_form v).fits nothing c → verb_of_command c ≡ v) → LawfulForm v
lawful_form v again plain line is = record { again = again; plain = plain; line = line; is = is }

pub form_lawful : (v : CommandVerb) → LawfulForm v
unfolding command_named put_form puts_form get_form hello_form bundle_form take_form receipt_form settled_form export_form checkpoint_form sign_form trim_form tgive_form tget_form
form_lawful verb.Put = lawful_form verb.Put refl refl put_lawful (λ c h. ap verb_of_command h.1.1)
form_lawful verb.Puts = lawful_form verb.Puts refl refl puts_lawful (λ c h. ap verb_of_command h.1)
form_lawful verb.Get = lawful_form verb.Get refl refl get_lawful (λ c h. ap verb_of_command h.1)
form_lawful verb.Hello = lawful_form verb.Hello refl refl hello_lawful (λ c h. ap verb_of_command h.1)
form_lawful verb.Bundle = lawful_form verb.Bundle refl refl bundle_lawful (λ c h. ap verb_of_command h.1.1)
form_lawful verb.Take = lawful_form verb.Take refl refl take_lawful (λ c h. ap verb_of_command h.1)
form_lawful verb.Receipt = lawful_form verb.Receipt refl refl receipt_lawful (λ c h. ap verb_of_command h.1)
form_lawful verb.Settled = lawful_form verb.Settled refl refl settled_lawful (λ c h. ap verb_of_command h.1.1)
form_lawful verb.Export = lawful_form verb.Export refl refl export_lawful (λ c h. ap verb_of_command h.1)
form_lawful verb.Checkpoint = lawful_form verb.Checkpoint refl refl checkpoint_lawful (λ c h. ap verb_of_command h.1)
form_lawful verb.Sign = lawful_form verb.Sign refl refl sign_lawful (λ c h. ap verb_of_command h.1)
form_lawful verb.Trim = lawful_form verb.Trim refl refl trim_lawful (λ c h. ap verb_of_command h.1)
form_lawful verb.Tgive = lawful_form verb.Tgive refl refl tgive_lawful (λ c h. ap verb_of_command h.1)
form_lawful verb.Tget = lawful_form verb.Tget refl refl tget_lawful (λ c h. ap verb_of_command h.1)

-- a word that is read as a kind of command is its name
pub name_is : (word : List ℕ) (v : CommandVerb) → command_named word ≡ Some v → word ≡ command_name v
unfolding command_named
name_is word v e = is_same word (command_name v) (found_passes (λ v. bytes_eq word (command_name v)) COMMAND_VERBS v e)
