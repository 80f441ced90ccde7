use Rattle.depot_laws.proofs.exchanges.LawfulFeeds.{feed_keeps}
use Rattle.depot_laws.proofs.gossip.feeds_keep_journals_lawful.Goals as goal

pub returns : goal.returns
returns c here s bytes are o = feed_keeps here s bytes are o
