use Rattle.std.proofs.Common.{◌≡◌, take}
use Rattle.std.specs.List.{flat_map}
use Rattle.std.specs.Option.{option_to_list}
use Rattle.depot_queries.specs.GivenReceipts.{id_given}
use Rattle.depot_queries.proofs.given.ids_given.Given as goal

abbrev pub invariant-loop-write : goal.invariant-loop-write
invariant-loop-write l = l.ids.items ≡ flat_map (λ w. option_to_list (id_given l.update w.key)) (take l.write-index l.update.writes)
