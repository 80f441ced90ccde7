use Rattle.depot_laws.proofs.convicting.HollowTexts.{passes_hollow, hollow_passes}
use Rattle.depot_laws.proofs.verdicts.hollow_proofs_are_for_no_update.Goals as goal

pub returns : goal.returns
returns c s text bytes = (passes_hollow s text bytes, hollow_passes s text bytes)
