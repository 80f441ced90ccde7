use Rattle.std.proofs.Common.{◌≡◌, ◌++◌, drop, map}
use Rattle.depot_base.specs.File.{blocks}
use Rattle.depot_model.specs.texts.Records.{text_of_record}
use Rattle.depot_c.proofs.lent_records.records_from.Given as goal

abbrev pub invariant-loop-at : goal.invariant-loop-at
invariant-loop-at l = l.run ++ blocks (drop l.at (map text_of_record l.node.store.records)) ≡ blocks (drop l.place (map text_of_record l.node.store.records))
