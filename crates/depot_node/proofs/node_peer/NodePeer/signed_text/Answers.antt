use Rattle.std.proofs.lemmas.Option.{slice_get_within}
use Rattle.depot_node.specs.Holdings.{node_setting}
use Rattle.depot_queries.proofs.StatementTexts.{signable_at, signed_at}
use Rattle.depot_queries.specs.SignedRecords.{IsSignable}
use Rattle.depot_node.proofs.node_peer.NodePeer.signed_text.Given.{Over}
use Rattle.depot_node.proofs.node_peer.NodePeer.signed_text.Goals as goal
use Rattle.depot_node.proofs.node_peer.NodePeer.signed_text.Goals.{After-text}

-- the record of the place can be signed
can : (g : Over) (c : After-text g) → IsSignable (g.G.Signer.key_of c.args.self.now.signer) (g.G.Signer.signature_of c.args.self.now.signer) c.requires.0 c.text.result.now
can g c =
    signable_at (node_setting g.S.Scheme.verifies c.args.self.now.store) c.args.self.now.store.records c.args.place c.requires.0 c.text.result.now (g.G.Signer.key_of c.args.self.now.signer) (g.G.Signer.signature_of c.args.self.now.signer)
    c.args.self.now.kept.lawful c.args.self.now.keyed c.text.ensures c.requires.1.0 c.requires.1.1

pub signed_text-requires : goal.signed_text-requires
signed_text-requires g c = (c.requires.0, can g (goal.at.signed_text-requires g c).After-text)

pub returns : goal.returns
returns g c =
    signed_at c.args.self.now.store.records c.args.place c.requires.0 c.text.result.now (g.G.Signer.key_of c.args.self.now.signer) (g.G.Signer.signature_of c.args.self.now.signer) c.signed_text.result c.requires.1.0 (can g (goal.at.returns g c).After-text) c.signed_text.ensures

pub text-requires : goal.text-requires
text-requires g c = slice_get_within c.args.self.now.store.records c.args.place c.requires.0 c.requires.1.0
