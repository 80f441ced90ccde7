use Rattle.std.proofs.Common.{inr, ap, ◌∙◌}
use Rattle.depot_cli.specs.Statuses.{status_of_server}
use Rattle.depot_cli.proofs.ServerRuns.{after_disk_fault}
use Rattle.depot_cli.proofs.serve_command.serve_of.Goals as goal

pub returns-clause-runs : goal.returns-clause-runs
returns-clause-runs g c =
    let ran = c.run_server.ensures in
    let key = rw c.number.ensures.same at c.in-Ok.ensures.key in
    let signature = rw c.number.ensures.same at c.in-Ok.ensures.signature in
    inr (
      c.run_server.result,
      (
        c.of_server.ensures,
        record {
          images = ran.file;
          stable = ran.stable;
          untouched = rw key at ran.untouched;
          begins = rw (key, signature) at ran.begins;
          answers = rw (key, signature) at ran.answers;
          whole = ran.whole;
          disk_failed = ran.disk_failed;
          sink_cause = ran.sink_cause;
          source_cause = ran.source_cause;
        },
      ),
    )

pub returns-clause-sink_fault : goal.returns-clause-sink_fault
returns-clause-sink_fault g c = λ rose. c.of_server.ensures ∙ ap status_of_server (c.run_server.ensures.sink_cause.only rose)

pub returns-clause-disk_fault : goal.returns-clause-disk_fault
returns-clause-disk_fault g c = λ rose. after_disk_fault c.run_server.result c.of_server.result c.of_server.ensures (c.run_server.ensures.disk_fault rose)

pub returns-clause-source_fault : goal.returns-clause-source_fault
returns-clause-source_fault g c = λ rose. c.of_server.ensures ∙ ap status_of_server (c.run_server.ensures.source_cause.only rose)
