use Rattle.std.proofs.Common.{sym, ap, ◌∙◌}
use Rattle.depot_readings.specs.RecordTexts.{given_of}
use Rattle.depot_readings.proofs.GrowthLaws.{nothing_given}
use Rattle.depot_readings.proofs.growth.Growth.given.Goals as goal

pub returns-in_default : goal.returns-in_default
returns-in_default c = sym (nothing_given c.self.inside.news c.in_default.not-Foreign c.in_default.not-Convicting) ∙ ap given_of c.self.view_is
