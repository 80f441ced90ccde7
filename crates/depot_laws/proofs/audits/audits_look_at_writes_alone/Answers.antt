use Rattle.depot_laws.proofs.of_worlds.WritesAlone.{writes_alone, reads_alone, circle_alone}
use Rattle.depot_laws.proofs.audits.audits_look_at_writes_alone.Goals as goal

pub returns-clause-writes : goal.returns-clause-writes
returns-clause-writes x W t u world t_on u_on = writes_alone W world t u t_on u_on

pub returns-clause-reads : goal.returns-clause-reads
returns-clause-reads x W world u c place r u_on c_on at = reads_alone W world u c place r u_on c_on at

pub returns-clause-circle : goal.returns-clause-circle
returns-clause-circle x W world = circle_alone W world
