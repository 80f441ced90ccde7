use Rattle.depot_readings.proofs.NamedLaws.{more_named, one_named, same_named}
use Rattle.depot_readings.proofs.named.NamedValues.add.Goals as goal

pub returns-clause-more : goal.returns-clause-more
returns-clause-more c = λ us more is n. more_named us more c.args.given.now _ _ c.add_each.ensures is n

pub returns-clause-one : goal.returns-clause-one
returns-clause-one c = λ us u is n. one_named us u c.args.given.now _ _ c.add_each.ensures is n

pub returns-clause-none : goal.returns-clause-none
returns-clause-none c = λ us is n. same_named us c.args.given.now _ _ c.add_each.ensures is n
