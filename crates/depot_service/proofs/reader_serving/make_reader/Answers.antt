use Rattle.std.proofs.Common.{◌∙◌}
use Rattle.std.proofs.lemmas.Result.{IfOk-weaker}
use Rattle.depot_service.proofs.reader_serving.make_reader.Goals as goal

pub trim-requires-clause-roster : goal.trim-requires-clause-roster
trim-requires-clause-roster g c = c.in_ok-copy.ensures ∙ c.requires.roster

pub returns : goal.returns
returns g c = IfOk-weaker c.made_reader.result _ _ (λ m of. of _ _ _ c.trim.ensures) c.made_reader.ensures
