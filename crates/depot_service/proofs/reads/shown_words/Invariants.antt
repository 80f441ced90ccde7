use Rattle.std.proofs.Common.{◌≡◌, take}
use Rattle.depot_model.specs.lists.Items.{updates_at}
use Rattle.depot_model.specs.journals.Journal.{accepted}
use Rattle.depot_service.specs.Printing.{shown_text}
use Rattle.depot_service.proofs.ShownWrites.{shown_as}
use Rattle.depot_service.proofs.reads.shown_words.Given as goal

abbrev pub invariant-loop-item : goal.invariant-loop-item
invariant-loop-item g l = l.words ≡ shown_text (shown_as (g.N.NodeState.records l.node) l.key (updates_at (accepted (g.N.NodeState.records l.node)) (take l.item-index l.item-items)))
