use Rattle.depot_cli.proofs.AuditRuns.{audited_printed}
use Rattle.depot_cli.proofs.audit_command.audited.Goals as goal

pub returns : goal.returns
returns c = audited_printed c.args.roster.now c.args.traces.now c.audit.result c.found_or_none.result c.requires.traces c.audit.ensures c.found_or_none.ensures.printed c.found_or_none.ensures.some
