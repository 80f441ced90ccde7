use Rattle.depot_laws.proofs.of_audits.AuditLaws.{apart_circle, apart_exact, exact_puts}
use Rattle.depot_laws.proofs.audits.worlds_apart_are_ordered.Goals as goal

pub returns-clause-circle : goal.returns-clause-circle
returns-clause-circle x W world free = apart_circle W world free

pub returns-clause-exact : goal.returns-clause-exact
returns-clause-exact x W c place r world free c_on at = (λ e s d on d_on writer. exact_puts W world c place r c_on at e s d on d_on writer, λ puts. apart_exact W world free c place r c_on at puts)
