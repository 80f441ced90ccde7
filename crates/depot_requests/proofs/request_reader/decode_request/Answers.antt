use Rattle.std.proofs.Common.{◌≡◌, arith, Ok, Err, sym, ◌∙◌}
use Rattle.depot_base.proofs.Decoding.{is_early_closed, decodes_closed}
use Rattle.depot_source.specs.declared.hearing.TheConstants.{MOST_MESSAGE}
use Rattle.depot_requests.specs.RequestTexts.{request_text}
use Rattle.depot_requests.proofs.RequestLaws.{all_may_be_asked, finds, request_text_lawful}
use Rattle.depot_requests.proofs.request_reader.decode_request.Goals as goal

pub answer-requires : goal.answer-requires
answer-requires c = is_early_closed request_text MOST_MESSAGE request_text_lawful (omega arith) c.args.body.now (λ i. omega (arith, c.type_inv.body i)) c.request_of.result (rw c.new.ensures at c.request_of.ensures)

pub returns-clause-decodes : goal.returns-clause-decodes
returns-clause-decodes c = rw c.answer.ensures (decodes_closed request_text MOST_MESSAGE request_text_lawful c.args.body.now (λ i. omega (arith, c.type_inv.body i)) c.request_of.result (rw c.new.ensures at c.request_of.ensures))

pub returns-clause-finds : goal.returns-clause-finds
returns-clause-finds c = rw c.answer.ensures (finds c.args.body.now c.request_of.result (rw c.new.ensures at c.request_of.ensures))

pub returns-clause-may_be_asked : goal.returns-clause-may_be_asked
returns-clause-may_be_asked c = rw c.answer.ensures (all_may_be_asked c.args.body.now (λ i. omega (arith, c.type_inv.body i)) c.request_of.result (rw c.new.ensures at c.request_of.ensures))
