use Rattle.std.proofs.Common.{Some, sym}
use Rattle.depot_model.specs.checks.Checks.{sight}
use Rattle.depot_accept.proofs.PlainContent.{few_deps, content_tells_no_fork}
use Rattle.depot_accept.proofs.LaterChecks.{fails_in_content}
use Rattle.depot_accept.proofs.DueConvictions.{content_seen}
use Rattle.depot_accept.proofs.state.State.check_update.Goals as goal

pub check_content-requires : goal.check_content-requires
check_content-requires g c = few_deps c.args.signed.now c.args.update.now c.requires.text c.requires.update

pub exposing_prev-requires-clause-check : goal.exposing_prev-requires-clause-check
exposing_prev-requires-clause-check g c = content_tells_no_fork c.args.update.now (sight _ c.args.update.now) c.in-Ok-Failed.check (rw c.in-Ok-Failed.field-0-is at c.in-Ok-Failed.ensures)

pub returns-in-Ok-Failed : goal.returns-in-Ok-Failed
returns-in-Ok-Failed g c = λ J st. (
  fails_in_content J c.args.signed.now.statement c.in-Ok-Failed.check
      (content_seen J _ _ c.args.signed.now.statement c.args.update.now (Some c.in-Ok-Failed.check) c.self.view_is st c.requires.update (sym (rw c.in-Ok-Failed.field-0-is at c.in-Ok-Failed.ensures))),
  c.exposing_prev.ensures J st,
)
