use Rattle.std.proofs.Common.{◌≡◌, [], IsTrue, subst}
use Rattle.depot_model.specs.journals.Stops.{LeavesAll}
use Rattle.depot_node.specs.Holdings.{Holding}
use Rattle.depot_node.proofs.JournalTexts.{all_of_records, whole_texts}
use Rattle.depot_node.proofs.store.Store.is_stopped.Goals as goal

pub returns-clause-stable : goal.returns-clause-stable
returns-clause-stable g c =
    subst (λ (v : Holding g.row.D.Denot). v.unread ≡ [] → IsTrue (g.D.Disk.tells v.disk) → LeavesAll v.records v.stopped (g.D.Disk.may_leave v.disk)) c.self.view_is
    (λ none told. all_of_records _ _ _ _ (whole_texts _ _ c.self.invariant.0 none) (c.is_stopped.ensures.stable told))
