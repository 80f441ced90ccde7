use Rattle.depot_laws.proofs.of_worlds.ExactTests.{exact_to, exact_from}
use Rattle.depot_laws.proofs.audits.exact_reads_pass.Goals as goal

pub returns : goal.returns
returns x W c place r world c_on at = (λ e. exact_to W world c place r c_on at e, λ holds. exact_from W world c place r c_on at holds)
