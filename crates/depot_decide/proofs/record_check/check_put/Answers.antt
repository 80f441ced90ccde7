use Rattle.depot_model.proofs.of_texts.FieldFacts.{own_put_facts}
use Rattle.depot_decide.proofs.record_check.check_put.Goals as goal

pub parents_of_put-requires-clause-lengths : goal.parents_of_put-requires-clause-lengths
parents_of_put-requires-clause-lengths g c = (own_put_facts c.args.update c.args.values c.requires.text.fits).long
