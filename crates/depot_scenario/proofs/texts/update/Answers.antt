use Rattle.depot_model.proofs.of_texts.BodyLaws.{IsStatement-from_update}
use Rattle.depot_scenario.proofs.texts.update.Goals as goal

pub signed-requires-clause-fits : goal.signed-requires-clause-fits
signed-requires-clause-fits g c = IsStatement-from_update c.args.update c.requires.fits
