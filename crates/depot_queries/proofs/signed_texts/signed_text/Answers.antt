use Rattle.depot_queries.proofs.StatementTexts.{own_leaf_text, signed_is_own, signed_is_foreign}
use Rattle.depot_queries.proofs.signed_texts.signed_text.Goals as goal

pub own_body-requires : goal.own_body-requires
own_body-requires g c = (c.requires.0, c.requires.1.fits)

pub own_text-requires : goal.own_text-requires
own_text-requires g c = own_leaf_text c.requires.0 c.in-Some.body.now c.requires.1 (c.in-Some.ensures c.requires.0 c.requires.1.fits)

pub returns-in-Some : goal.returns-in-Some
returns-in-Some g c = signed_is_own (g.G.Signer.key_of c.args.signer.now) (g.G.Signer.signature_of c.args.signer.now) c.args.text.now c.in-Some.body.now c.own_text.result c.in-Some.ensures c.own_text.ensures

pub returns-in-None : goal.returns-in-None
returns-in-None g c = signed_is_foreign (g.G.Signer.key_of c.args.signer.now) (g.G.Signer.signature_of c.args.signer.now) c.args.text.now c.without_tag.result c.in-None.ensures c.without_tag.ensures
