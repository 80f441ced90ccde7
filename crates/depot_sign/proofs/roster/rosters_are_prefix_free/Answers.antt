use Rattle.depot_base.proofs.Combined.{prefix_free}
use Rattle.depot_model.specs.texts.Texts.{roster}
use Rattle.depot_model.proofs.of_texts.TextLaws.{roster_lawful}
use Rattle.depot_sign.proofs.roster.rosters_are_prefix_free.Goals as goal

pub returns : goal.returns
returns c = λ v w x y fv fw e. prefix_free roster _ roster_lawful v w x y fv fw e
