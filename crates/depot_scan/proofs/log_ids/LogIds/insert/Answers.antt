use Rattle.std.proofs.lemmas.Result.{on_ok_weaker}
use Rattle.std.proofs.Common.{false}
use Rattle.depot_scan.specs.declared.log_ids.LogIds.{LogIds}
use Rattle.depot_scan.proofs.IdSteps.{known_more, uncovered_stay}
use Rattle.depot_scan.proofs.log_ids.LogIds.insert.Goals as goal

pub returns-clause-more : goal.returns-clause-more
returns-clause-more c = on_ok_weaker c.put_mark.result (λ put. known_more c.args.self.now.marks c.put_mark.new.marks c.args.id false put) c.put_mark.ensures.ok

pub returns-clause-uncovered : goal.returns-clause-uncovered
returns-clause-uncovered c =
    let after : LogIds = record { marks = c.put_mark.new.marks } in
    on_ok_weaker c.put_mark.result (λ put. uncovered_stay c.args.self.now after c.args.id put c.requires) c.put_mark.ensures.ok
