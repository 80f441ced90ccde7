use Rattle.std.proofs.Common.{◌∙◌, refl, sym}
use Rattle.depot_queries.proofs.OwnBodies.{some_text, put_body, put_is_long, voucher_body, no_body}
use Rattle.depot_queries.proofs.signed_texts.own_body.Goals as goal

pub unreachable-requires : goal.unreachable-requires
unreachable-requires c = some_text c.requires.0 c.args.text.now c.requires.1 c.in_default.len_below

pub body_in_own_put-requires-clause-long : goal.body_in_own_put-requires-clause-long
body_in_own_put-requires-clause-long c = (put_is_long c.requires.0 c.args.text.now c.requires.1 (c.if-tag-byte.true ∙ c.byte.ensures)).head

pub body_in_own_put-requires-clause-whole : goal.body_in_own_put-requires-clause-whole
body_in_own_put-requires-clause-whole c = (put_is_long c.requires.0 c.args.text.now c.requires.1 (c.if-tag-byte.true ∙ c.byte.ensures)).whole

pub returns-then-tag-byte : goal.returns-then-tag-byte
returns-then-tag-byte c = λ r t. put_body r c.args.text.now c.body_in_own_put.result.now t (c.if-tag-byte.true ∙ c.byte.ensures) c.body_in_own_put.ensures

pub returns-then-tag-byte-2 : goal.returns-then-tag-byte-2
returns-then-tag-byte-2 c = λ r t. voucher_body r c.args.text.now _ t (c.if-tag-byte-2.true ∙ c.byte-2.ensures) refl

pub returns : goal.returns
returns c = λ r t. no_body r c.args.text.now t (λ put. c.if-tag-byte.false (put ∙ sym c.byte.ensures)) (λ voucher. c.if-tag-byte-2.false (voucher ∙ sym c.byte-2.ensures))
