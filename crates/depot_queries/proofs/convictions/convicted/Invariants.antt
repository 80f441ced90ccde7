use Rattle.std.proofs.Common.{◌≡◌, map, take, filter}
use Rattle.depot_base.specs.declared.key.RosterEntry.{RosterEntry}
use Rattle.depot_model.specs.journals.Journal.{is_convicted}
use Rattle.depot_queries.proofs.convictions.convicted.Given as goal

abbrev pub invariant-loop-entry : goal.invariant-loop-entry
invariant-loop-entry g l = l.nodes ≡ filter (is_convicted l.readings.records) (map (λ (e : RosterEntry). e.node) (take l.entry-index l.entry-items))
