use Rattle.depot_laws.proofs.of_readers.NeverLatest.{never_latest}
use Rattle.depot_laws.proofs.trimming.trimmed_updates_are_never_latest.Goals as goal

pub returns : goal.returns
returns c here J more ids u key l on latest = never_latest here J more ids u key l on latest
