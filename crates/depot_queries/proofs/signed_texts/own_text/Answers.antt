use Rattle.std.proofs.Common.{◌≡◌, length, ap, ◌∙◌, arith}
use Rattle.std.proofs.lemmas.Result.{IfOk-weaker}
use Rattle.depot_base.specs.declared.statement.Statement.{Statement}
use Rattle.depot_model.specs.exchange.Bundle.{signed_with}
use Rattle.depot_model.specs.texts.Texts.{IsStatement, text_of_statement, text_of_signed}
use Rattle.depot_model.proofs.of_texts.TextLaws.{statement_is_short}
use Rattle.depot_queries.proofs.StatementTexts.{body_is_long, seq_in_body, signed_by_parts}
use Rattle.depot_queries.proofs.signed_texts.own_text.Goals as goal

pub seq_in-requires : goal.seq_in-requires
seq_in-requires g c = body_is_long c.requires.0 c.args.body.now c.requires.1.is

pub sign-requires : goal.sign-requires
sign-requires g c = omega (arith, c.seq_in.ensures, seq_in_body c.requires.0 c.args.body.now c.requires.1.fits c.requires.1.is, c.requires.1.leaf)

pub write_signed-requires-clause-body : goal.write_signed-requires-clause-body
write_signed-requires-clause-body g c = omega (arith, ap length c.requires.1.is, statement_is_short c.requires.0 c.requires.1.fits)

pub write_signed-requires-clause-signature : goal.write_signed-requires-clause-signature
write_signed-requires-clause-signature g c = omega (arith, ap length (c.as_slice.ensures ∙ c.in_ok-signature.ensures), g.met.G.Signer.is_short c.args.signer.now c.seq_in.result c.args.body.now)

pub returns : goal.returns
returns g c =
    let sign = g.G.Signer.signature_of c.args.signer.now in
    let body = c.args.body.now in
    let signature = c.as_slice.result.now in
    IfOk-weaker c.write_signed.result (λ text. (s : Statement) → body ≡ text_of_statement s → text ≡ text_of_signed (record { statement = s; body = body; signature = signature }))
    (λ text. (s : Statement) → IsStatement s → body ≡ text_of_statement s → text ≡ text_of_signed (signed_with sign s))
    (λ text made s fits is. made s is ∙ ap text_of_signed (signed_by_parts sign s body signature c.seq_in.result is (c.seq_in.ensures ∙ seq_in_body s body fits is) (c.as_slice.ensures ∙ c.in_ok-signature.ensures))) c.write_signed.ensures
