-- Reading and printing scripts are each other's inverse.
use Rattle.std.proofs.Common.{◌≡◌, ℕ, ◌+◌, ◌≤◌, true, not, List, [], ◌∷◌, length, map, Ok, refl, sym, ap, subst, ◌∙◌, arith}
use Rattle.std.specs.List.{list_all, flat_map}
use Rattle.std.proofs.lemmas.Bool.{and_from}
use Rattle.std.proofs.lemmas.List.Folds.{flat_map-map}
use Rattle.depot_base.proofs.FormatLaws.{guard_ok}
use Rattle.depot_lines.specs.declared.line_fault.LineFault.TheVariants as is
use Rattle.depot_lines.specs.Spelling.{is_word}
use Rattle.depot_base.specs.Format.{◌>>=◌}
use Rattle.depot_lines.specs.Language.{or_fault, FitAll, nothing}
use Rattle.depot_lines.specs.LineTexts.{text_of_line, Line, lines_of_text, are_words, in_line, checked}
use Rattle.depot_lines.proofs.LanguageLaws.{bind_ok, or_fault_ok}
use Rattle.depot_lines.proofs.LineTextLaws.{checked_ok, line_of_text, are_words_of, checked_again, lines_again, AllEnded, words_of_line, lines_text}
use Rattle.depot_script.specs.declared.command.Command.{Command}
use Rattle.depot_script.specs.declared.command_verb.CommandVerb.{CommandVerb}
use Rattle.depot_script.specs.Commands.{verb_of_command, command_name, command_form, command_named}
use Rattle.depot_script.specs.Scripts.{command_words, text_of_script, FitsCommand, IsScript, read_command, read_lines, script_of, IsTextOfScript}
use Rattle.depot_script.proofs.CommandLaws.{form_lawful, name_is}

-- ---- one line

-- words that are read are those of the command that is read
record IsCommandOf (words : List (List ℕ)) (c : Command) : Type 0 where
  pub fits : FitsCommand c
  pub is : words ≡ command_words c

command_takes : (words : List (List ℕ)) (c : Command) → read_command words ≡ Ok c → IsCommandOf words c
command_takes [] c e = absurd cc
command_takes (name ∷ ws) c e =
    let p = guard_ok (not (are_words (name ∷ ws))) is.Word (or_fault (command_named name) is.Word >>= λ v. (command_form v).read nothing ws) c e in
    let b = bind_ok (or_fault (command_named name) is.Word) (λ v. (command_form v).read nothing ws) c p.1 in
    let l = (form_lawful b.0).line.takes nothing ws c b.2 in
    let v : verb_of_command c ≡ b.0 = (form_lawful b.0).is c l.0 in
    let named : name ≡ command_name b.0 = name_is name b.0 (or_fault_ok (command_named name) is.Word b.0 b.1) in
    let both : (command_form (verb_of_command c)).fits nothing c × (name ∷ ws ≡ command_name (verb_of_command c) ∷ (command_form (verb_of_command c)).text c) =
    subst (λ (x : CommandVerb). (command_form x).fits nothing c × (name ∷ ws ≡ command_name x ∷ (command_form x).text c)) (sym v) (l.0, ap (λ (w : List ℕ). w ∷ ws) named ∙ ap (λ (w : List (List ℕ)). command_name b.0 ∷ w) l.1) in
    record { fits = both.0; is = both.1 }

command_plain : (c : Command) → FitsCommand c → list_all is_word (command_words c) ≡ true
command_plain c fits = and_from _ _ (form_lawful (verb_of_command c)).plain ((form_lawful (verb_of_command c)).line.plain nothing c fits)

command_again : (c : Command) → FitsCommand c → read_command (command_words c) ≡ Ok c
command_again c fits =
    let plain : are_words (command_words c) ≡ true = are_words_of (command_words c) (command_plain c fits) in
    let again : (command_form (verb_of_command c)).read nothing ((command_form (verb_of_command c)).text c) ≡ Ok c = (form_lawful (verb_of_command c)).line.again nothing c fits in
    rw (plain, (form_lawful (verb_of_command c)).again, again) refl

-- ---- whole texts

-- lines that are read are those of the commands that are read
record AreLinesOf (n : ℕ) (lines : List Line) (s : List Command) : Type 0 where
  pub fit : FitAll FitsCommand s
  pub words : map words_of_line lines ≡ map command_words s
  pub ended : AllEnded lines
  pub count : n + length s ≤ 100001

lines_take : (n : ℕ) (lines : List Line) (s : List Command) → n ≤ 100001 → read_lines n lines ≡ Ok s → AreLinesOf n lines s
lines_take n [] s le e = let none : [] ≡ s = cc in subst (λ (x : List Command). AreLinesOf n [] x) none (record { fit = tt; words = refl; ended = tt; count = omega arith })
lines_take n (line ∷ lines) s le e =
    let b = bind_ok (checked n line read_command) (λ c. read_lines (n + 1) lines >>= λ rest. Ok (c ∷ rest)) s e in
    let c = checked_ok n line read_command b.0 b.1 in
    let d = bind_ok (read_lines (n + 1) lines) (λ rest. Ok (b.0 ∷ rest)) s b.2 in
    let one = command_takes (words_of_line line) b.0 c.2 in
    let rest = lines_take (n + 1) lines d.0 (omega (arith, c.1)) d.1 in
    let whole : b.0 ∷ d.0 ≡ s = cc (d.2) in
    subst (λ (x : List Command). AreLinesOf n (line ∷ lines) x) whole (record {
      fit = (one.fits, rest.fit);
      words = ap (λ (w : List (List ℕ)). w ∷ map words_of_line lines) one.is ∙ ap (λ (ws : List (List (List ℕ))). command_words b.0 ∷ ws) rest.words;
      ended = (c.0, rest.ended);
      count = omega (arith, rest.count);
    })

-- a text that is read is the text of what is read
pub script_takes : (text : List ℕ) (s : List Command) → script_of text ≡ Ok s → IsScript s × (text ≡ text_of_script s)
unfolding script_of text_of_script
script_takes text s e =
    let t = lines_take 1 (lines_of_text text) s (omega arith) e in
    (record { fit = t.fit; lines = omega (arith, t.count) }, lines_text text t.ended ∙ ap (λ (x : List (List (List ℕ))). flat_map text_of_line x) t.words ∙ flat_map-map text_of_line command_words s)

commands_again : (n : ℕ) (s : List Command) → FitAll FitsCommand s → n + length s ≤ 100001 → read_lines n (map line_of_text (map command_words s)) ≡ Ok s
commands_again n [] fit le = refl
commands_again n (c ∷ rest) fit le =
    let line : checked n (line_of_text (command_words c)) read_command ≡ in_line n (read_command (command_words c)) = checked_again n (command_words c) read_command (omega arith) (omega arith) (command_plain c fit.0) in
    rw (line, command_again c fit.0, commands_again (n + 1) rest fit.1 (omega arith)) refl

commands_plain : (s : List Command) → FitAll FitsCommand s → list_all (list_all is_word) (map command_words s) ≡ true
commands_plain [] fit = refl
commands_plain (c ∷ rest) fit = and_from _ _ (command_plain c fit.0) (commands_plain rest fit.1)

-- a script is read back from its text
pub script_again : (s : List Command) → IsScript s → script_of (text_of_script s) ≡ Ok s
unfolding script_of text_of_script
script_again s h =
    let lines : lines_of_text (flat_map text_of_line (map command_words s)) ≡ map line_of_text (map command_words s) = lines_again (map command_words s) (commands_plain s h.fit) in
    let text : flat_map (λ c. text_of_line (command_words c)) s ≡ flat_map text_of_line (map command_words s) = sym (flat_map-map text_of_line command_words s) in
    ap (λ (t : List ℕ). read_lines 1 (lines_of_text t)) text ∙ ap (λ (ls : List Line). read_lines 1 ls) lines ∙ commands_again 1 s h.fit (omega (arith, h.lines))

-- ---- what is read of a text

-- a script that is read is that of the text
pub text_of_read : (text : List ℕ) (s : List Command) → script_of text ≡ Ok s → IsTextOfScript text s
text_of_read text s e = let t = script_takes text s e in record { has = t.0; is = t.1 }

-- and the other way round
pub read_of_text : (text : List ℕ) (s : List Command) → IsTextOfScript text s → script_of text ≡ Ok s
read_of_text text s h = ap script_of h.is ∙ script_again s h.has
