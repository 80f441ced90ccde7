use Rattle.depot_laws.proofs.of_worlds.ByParents.{writes_to, writes_from, read_to, read_from, read_circle}
use Rattle.depot_laws.proofs.audits.writes_are_observed_by_parents.Goals as goal

pub returns-clause-writes : goal.returns-clause-writes
returns-clause-writes x W t u world = (λ o. writes_to W world t u o, λ before. writes_from W world t u before)

pub returns-clause-reads : goal.returns-clause-reads
returns-clause-reads x W t c place r world r_on = (λ o. read_to W world t c place r o, λ up. read_from W world t c place r r_on up)

pub returns-clause-circles : goal.returns-clause-circles
returns-clause-circles x W c place r world o = read_circle W world c place r o
