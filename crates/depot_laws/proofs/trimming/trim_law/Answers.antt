use Rattle.depot_laws.proofs.of_worlds.Worlds.{one_text}
use Rattle.depot_laws.proofs.of_readers.TrimLaw.{trim}
use Rattle.depot_laws.proofs.of_readers.NeverBelow.{never_below}
use Rattle.depot_laws.proofs.trimming.trim_law.Goals as goal

pub returns-clause-names : goal.returns-clause-names
returns-clause-names x W world authentic free c d n text ids s t c_on d_on signed s_on absent t_below e = trim W world authentic (one_text W free) c d n text ids s t c_on d_on signed s_on absent t_below e

pub returns-clause-below : goal.returns-clause-below
returns-clause-below x W world authentic free c d n text ids more s c_on d_on signed s_on = never_below W world authentic (one_text W free) c d n text ids more s c_on d_on signed s_on
