-- The texts by which a trace is asked for and handed in are lawful.
use Rattle.std.proofs.Common.{◌≡◌, ℕ, ◌+◌, ◌≤◌, List, length, Some, None, Result, Ok, Err, refl, sym, ap, ◌∙◌, arith}
use Rattle.std.specs.Int.{w8}
use Rattle.depot_base.specs.Closed.{rest_of}
use Rattle.depot_base.specs.Cursor.{numeral}
use Rattle.depot_base.specs.Format.{number}
use Rattle.depot_base.specs.Reading.{Gives, IsClosedReadInOneWay, decoded}
use Rattle.depot_base.specs.declared.fault.Fault.{Fault}
use Rattle.depot_base.specs.declared.fault.Fault.TheVariants.{At, Memory}
use Rattle.depot_base.proofs.ClosedLaws.{LawfulClosed, before_lawful, closing_lawful, rest_lawful}
use Rattle.depot_base.proofs.Combined.{field_lawful, made_lawful}
use Rattle.depot_base.proofs.Decoding.{closed_in_one_way}
use Rattle.depot_base.proofs.FormatLaws.{cursor}
use Rattle.depot_base.proofs.Numbers.{number_within}
use Rattle.depot_base.proofs.PartLaws.{u8_lawful}
use Rattle.depot_requests.specs.ExportTexts.{FindsExport, export_text, exported_text}
use Rattle.depot_requests.specs.ReplyTexts.{most_handed}
use Rattle.depot_requests.specs.RequestTexts.{value_read}
use Rattle.depot_requests.specs.declared.export_texts.TheConstants.{EXPORT_KIND}

-- the kind is the only one
kind_is : (a : ℕ) → (number w8 EXPORT_KIND EXPORT_KIND).fits a → EXPORT_KIND ≡ a
kind_is a fits = let w = number_within w8 EXPORT_KIND EXPORT_KIND a fits in omega (arith, w.0, w.1)

pub export_text_lawful : LawfulClosed export_text 1
unfolding export_text
export_text_lawful = closing_lawful _ 1 (field_lawful _ _ _ 1 0 (u8_lawful 48 48 (omega arith)) (λ a v f h. kind_is a f) λ kind _. made_lawful tt)

pub exported_text_lawful : LawfulClosed exported_text (1 + most_handed)
unfolding exported_text
exported_text_lawful = before_lawful _ _ _ 1 most_handed (u8_lawful 48 48 (omega arith)) (λ a v f h. kind_is a f) λ kind _. rest_lawful most_handed

pub asked_in_one_way : IsClosedReadInOneWay export_text
asked_in_one_way = closed_in_one_way export_text 1 export_text_lawful

pub handed_in_one_way : IsClosedReadInOneWay exported_text
handed_in_one_way = closed_in_one_way exported_text (1 + most_handed) exported_text_lawful

-- how many bytes the text has that hands a trace in
pub exported_size : (trace : List ℕ) → length (exported_text.text trace) ≡ length trace + 1
unfolding exported_text rest_of number numeral
exported_size trace = omega arith

-- what a reader finds
pub finds_export : (body : List ℕ) (r : Result (Unit {0}) Fault) → Gives r (export_text.read (cursor 0 body)) → FindsExport body (decoded r)
finds_export body (Ok asks) gives = ap value_read gives
finds_export body (Err Memory) gives = tt
finds_export body (Err (At at)) gives = ap value_read gives
