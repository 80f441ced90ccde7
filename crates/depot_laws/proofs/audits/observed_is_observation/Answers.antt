use Rattle.depot_laws.proofs.of_worlds.ObservedTests.{observed_from, observed_to}
use Rattle.depot_laws.proofs.audits.observed_is_observation.Goals as goal

pub returns : goal.returns
returns c W a b world a_on b_on = (λ e. observed_to W world a b a_on b_on e, λ o. observed_from W world a b o)
