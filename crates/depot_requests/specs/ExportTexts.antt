-- The text by which a node is asked for its trace, and the message that hands it in.
use Rattle.std.specs.Prelude.{◌≡◌, ℕ, List, ◌++◌, length, Option, Some, None, Result, Ok, Err}
use Rattle.std.specs.Int.{w8, w32}
use Rattle.depot_base.specs.declared.fault.DecodeError.{DecodeError}
use Rattle.depot_base.specs.declared.fault.DecodeError.TheVariants as errors
use Rattle.depot_base.specs.Closed.{Closed, closing, rest_of, before}
use Rattle.depot_base.specs.Cursor.{numeral}
use Rattle.depot_base.specs.Format.{number, field, made_of_fields}
use Rattle.depot_requests.specs.ReplyTexts.{most_handed}
use Rattle.depot_requests.specs.RequestTexts.{value_read}
use Rattle.depot_requests.specs.declared.export_texts.TheConstants.{EXPORT_KIND}

-- ---- what is asked

-- its kind, and nothing behind it
unfoldable pub export_text : Closed (Unit {0})
export_text = closing (field (number w8 EXPORT_KIND EXPORT_KIND) (λ _. EXPORT_KIND) λ kind. made_of_fields tt)

-- a trace is asked for by this body
abbrev pub export_of_body : List ℕ → Option (Unit {0})
export_of_body body = value_read (export_text.read (record { at = 0; rest = body }))

-- What a reader answers: that a trace is asked for, or that it isn't, unless memory ran out.
abbrev pub FindsExport : List ℕ → Result (Unit {0}) DecodeError → Type 0
FindsExport body (Ok asks) = export_of_body body ≡ Some tt
FindsExport body (Err errors.Memory) = Unit {0}
FindsExport body (Err (errors.IllFormed at)) = export_of_body body ≡ None

-- ---- what answers

-- the same kind, and the trace's text
unfoldable pub exported_text : Closed (List ℕ)
exported_text = before (number w8 EXPORT_KIND EXPORT_KIND) (λ _. EXPORT_KIND) λ kind. rest_of most_handed

-- The message that hands a trace in: how many bytes its text has, as four bytes, and its text.
abbrev pub text_of_export : List ℕ → List ℕ
text_of_export trace = numeral w32 (length (exported_text.text trace)) ++ exported_text.text trace
