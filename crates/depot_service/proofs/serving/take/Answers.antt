use Rattle.depot_service.proofs.StreamRequests.{stream_call, stream_serves}
use Rattle.depot_service.proofs.serving.take.Goals as goal

pub returns-clause-serves : goal.returns-clause-serves
returns-clause-serves g c =
    let fed = c.feed_all.ensures in
    rw c.reply_of_feed.ensures (stream_serves _ _ _ c.args.stream.now c.args.piece c.feed_all.result _ fed.only fed.told fed.grown)

pub returns-clause-call : goal.returns-clause-call
returns-clause-call g c = rw c.reply_of_feed.ensures (stream_call g.N.NodeState c.args.node.now c.feed_all.new.node c.args.stream.now c.args.piece c.feed_all.result c.feed_all.ensures.only c.feed_all.ensures.call)
