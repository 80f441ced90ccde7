use Rattle.std.proofs.Common.{List, map, subst, ◌∙◌}
use Rattle.depot_model.specs.worlds.Traces as traces
use Rattle.depot_laws.proofs.of_audits.AuditLaws.{apart_circle}
use Rattle.depot_model.specs.worlds.Traces.{IsWorldOf}
use Rattle.depot_audit.proofs.NodesOfTraces.{seen_traces}
use Rattle.depot_audit.proofs.WrongReads.{wrong_in}
use Rattle.depot_audit.proofs.wrong_reads.first_wrong.Goals as goal

pub returns-clause-wrong : goal.returns-clause-wrong
returns-clause-wrong c = λ W of met free. c.first_listing.ensures ∙ wrong_in W (map (λ t. t.now) c.args.traces.now) c.args.met.now (subst (λ (ts : List traces.Trace). IsWorldOf ts W) (seen_traces c.args.traces.now) of) met free

pub returns-clause-circle : goal.returns-clause-circle
returns-clause-circle c = λ W world free. apart_circle W world free
