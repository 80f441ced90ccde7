-- Names of files are lawful words, and whether bytes are UTF-8, as a test.
use Rattle.std.proofs.Common.{◌≡◌, ℕ, true, false, List, ◌≤◌, leb, length, Ok, refl, subst}
use Rattle.std.specs.Str.{IsUtf8, is_utf8}
use Rattle.std.proofs.lemmas.Bool.{false_from_ne_true, leb-true, lt-ltb, and_parts, and_from}
use Rattle.std.proofs.lemmas.Str.{IsUtf8-from_is_utf8, is_utf8-from_IsUtf8}
use Rattle.std.specs.List.{list_all}
use Rattle.depot_lines.specs.declared.line_fault.LineFault.TheVariants as is
use Rattle.depot_lines.specs.Spelling.{is_word, is_word_byte, is_within, is_plain_name}
use Rattle.depot_lines.proofs.LanguageLaws.{LawfulWord, need_ok, ok_is}
use Rattle.depot_lines.specs.FileNames.{is_file_name, file_name}

pub is_text : (bytes : List ℕ) → IsUtf8 bytes → is_utf8 bytes ≡ true
is_text bytes h = is_utf8-from_IsUtf8 bytes h

pub is_no_text : (bytes : List ℕ) → ¬ (IsUtf8 bytes) → is_utf8 bytes ≡ false
is_no_text bytes h = false_from_ne_true (is_utf8 bytes) (λ e. h (IsUtf8-from_is_utf8 bytes e))

plain_name : (name : List ℕ) → is_file_name name ≡ true → is_word name ≡ true
plain_name name e =
    let n = and_parts (is_plain_name name) (is_utf8 name) e in
    let p = and_parts (is_within 1 4096 (length name)) (list_all is_word_byte name) n.0 in
    let some : 1 ≤ length name = leb-true _ _ (and_parts (leb 1 (length name)) (leb (length name) 4096) p.0).0 in
    and_from _ _ (lt-ltb _ _ some) p.1

pub file_name_lawful : {C : Type 0} → LawfulWord (file_name {C = C})
file_name_lawful {C = C} = record {
  takes = λ c t name e.
      let n = need_ok (is_file_name t) (Ok t) is.Label name e in
      subst (λ (x : List ℕ). (is_file_name x ≡ true) × (t ≡ x)) (ok_is t name n.1) (n.0, refl);
  again = λ c name fits. rw fits refl;
  plain = λ c name fits. plain_name name fits;
}
