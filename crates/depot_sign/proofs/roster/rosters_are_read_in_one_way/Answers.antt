use Rattle.depot_base.proofs.Decoding.{in_one_way}
use Rattle.depot_model.specs.texts.Texts.{roster}
use Rattle.depot_model.proofs.of_texts.TextLaws.{roster_lawful}
use Rattle.depot_sign.proofs.RosterCauses.{read_in_one_way}
use Rattle.depot_sign.proofs.roster.rosters_are_read_in_one_way.Goals as goal

pub returns-clause-place : goal.returns-clause-place
returns-clause-place c = in_one_way roster _ roster_lawful

pub returns-clause-cause : goal.returns-clause-cause
returns-clause-cause c = read_in_one_way
