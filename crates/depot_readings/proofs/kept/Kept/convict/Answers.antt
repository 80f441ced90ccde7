use Rattle.std.proofs.Common.{sym, ap, ◌∙◌}
use Rattle.depot_model.specs.texts.Roster.{has_node}
use Rattle.depot_readings.proofs.KeptLaws.{conviction_kept}
use Rattle.depot_readings.proofs.StateGrowth.{accused_is_listed}
use Rattle.depot_readings.proofs.kept.Kept.convict.Goals as goal

pub convict-requires : goal.convict-requires
convict-requires g c = ap (has_node c.args.self.now.state.listed) c.accused.ensures ∙ accused_is_listed _ c.requires.0 c.args.proof.now c.requires.1.1

pub returns-clause-kept : goal.returns-clause-kept
returns-clause-kept g c = λ J k l. conviction_kept g.S.Scheme.verifies J c.args.proof.now _ _ _ _ c.convict.ensures.stays (c.convict.ensures.convicted J c.args.proof.now (sym c.accused.ensures) k.state) k
