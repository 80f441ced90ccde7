use Rattle.std.proofs.Common.{◌≡◌, List, map, take, None}
use Rattle.std.specs.Prelude.{position}
use Rattle.depot_base.specs.declared.record.Record.{Record}
use Rattle.depot_audit.specs.Lookups.{nodes_in, accuses_one}
use Rattle.depot_audit.specs.MetTexts.{AreTexts}
use Rattle.depot_audit.proofs.named_nodes.first_place.Given as goal

abbrev pub invariant-loop-place : goal.invariant-loop-place
invariant-loop-place l = (J : List Record) → AreTexts J (take l.place l.texts) → position (accuses_one (nodes_in (map (λ t. t.now) l.traces))) J ≡ None
