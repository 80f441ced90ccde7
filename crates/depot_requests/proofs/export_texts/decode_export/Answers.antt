use Rattle.std.proofs.Common.{arith}
use Rattle.depot_base.proofs.Decoding.{decodes_closed, is_early_closed}
use Rattle.depot_requests.specs.ExportTexts.{export_text}
use Rattle.depot_requests.proofs.ExportLaws.{export_text_lawful, finds_export}
use Rattle.depot_requests.proofs.export_texts.decode_export.Goals as goal

pub answer-requires : goal.answer-requires
answer-requires c = is_early_closed export_text 1 export_text_lawful (omega arith) c.args.body.now (λ i. omega (arith, c.type_inv.body i)) c.export_in.result (rw c.new.ensures at c.export_in.ensures)

pub returns-clause-decodes : goal.returns-clause-decodes
returns-clause-decodes c = rw c.answer.ensures (decodes_closed export_text 1 export_text_lawful c.args.body.now (λ i. omega (arith, c.type_inv.body i)) c.export_in.result (rw c.new.ensures at c.export_in.ensures))

pub returns-clause-finds : goal.returns-clause-finds
returns-clause-finds c = rw c.answer.ensures (finds_export c.args.body.now c.export_in.result (rw c.new.ensures at c.export_in.ensures))
