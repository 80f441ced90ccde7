-- Names of files.
use Rattle.std.specs.Prelude.{◌≡◌, ℕ, List, Bool, true, ◌&&◌, Ok, Err, if◌then◌else◌}
use Rattle.std.specs.Str.{is_utf8}
use Rattle.depot_lines.specs.declared.line_fault.LineFault.TheVariants as is
use Rattle.depot_lines.specs.Spelling.{is_plain_name}
use Rattle.depot_lines.specs.Language.{Word}

-- 1 to 4,096 bytes of UTF-8 without space or LF
abbrev pub is_file_name : List ℕ → Bool
is_file_name bytes = is_plain_name bytes && is_utf8 bytes

-- such a name as it is
abbrev pub file_name : {C : Type 0} → Word C (List ℕ)
file_name = record {
  fits = λ c name. is_file_name name ≡ true;
  text = λ name. name;
  read = λ c word. if is_file_name word then Ok word else Err is.Label;
}
