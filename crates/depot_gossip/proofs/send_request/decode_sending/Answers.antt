use Rattle.std.proofs.Common.{arith}
use Rattle.depot_base.proofs.Decoding.{decodes_closed, is_early_closed}
use Rattle.depot_source.specs.declared.hearing.TheConstants.{MOST_MESSAGE}
use Rattle.depot_gossip.specs.SendTexts.{sending_text}
use Rattle.depot_gossip.proofs.SendTextLaws.{finds, sending_text_lawful}
use Rattle.depot_gossip.proofs.send_request.decode_sending.Goals as goal

pub answer-requires : goal.answer-requires
answer-requires c = is_early_closed sending_text MOST_MESSAGE sending_text_lawful (omega arith) c.args.body.now (λ i. omega (arith, c.type_inv.body i)) c.sending_of.result (rw c.new.ensures at c.sending_of.ensures)

pub returns-clause-decodes : goal.returns-clause-decodes
returns-clause-decodes c = rw c.answer.ensures (decodes_closed sending_text MOST_MESSAGE sending_text_lawful c.args.body.now (λ i. omega (arith, c.type_inv.body i)) c.sending_of.result (rw c.new.ensures at c.sending_of.ensures))

pub returns-clause-finds : goal.returns-clause-finds
returns-clause-finds c = rw c.answer.ensures (finds c.args.body.now c.sending_of.result (rw c.new.ensures at c.sending_of.ensures))
