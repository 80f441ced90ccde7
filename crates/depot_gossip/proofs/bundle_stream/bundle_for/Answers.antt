use Rattle.std.proofs.lemmas.Result.{IfOk-weaker}
use Rattle.depot_gossip.specs.BundleStreams.{IsJoined, IsStream}
use Rattle.depot_gossip.proofs.FrontLaws.{joined_is_stream}
use Rattle.depot_gossip.proofs.bundle_stream.bundle_for.Goals as goal

pub returns : goal.returns
returns g c =
    let sign = g.R.NodeState.signature_of c.args.node.now in
    let J = g.R.NodeState.records c.args.node.now in
    let h = c.args.hello.now in
    let s = c.args.sending in
    IfOk-weaker c.stream_of.result (IsJoined c.in_ok-front.front s) (IsStream sign J h s) (λ b joined. joined_is_stream sign J h s c.in_ok-front.front b c.in_ok-front.ensures joined) c.stream_of.ensures
