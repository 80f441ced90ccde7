use Rattle.depot_laws.proofs.exchanges.FramesTold.{whole_is_in_front, front_is_whole, open_is_begun, begun_is_told, none_is_never, never_is_none}
use Rattle.depot_laws.proofs.gossip.frames_are_told_at_once.Goals as goal

pub returns-clause-whole : goal.returns-clause-whole
returns-clause-whole c bytes f are = (whole_is_in_front bytes f are, front_is_whole bytes f)

pub returns-clause-begun : goal.returns-clause-begun
returns-clause-begun c bytes are = (open_is_begun bytes are, begun_is_told bytes)

pub returns-clause-none : goal.returns-clause-none
returns-clause-none c bytes are = (none_is_never bytes, never_is_none bytes are)
