use Rattle.std.proofs.Common.{◌+◌, drop, sym, ap, ◌∙◌}
use Rattle.depot_node.specs.Holdings.{Holding}
use Rattle.depot_model.proofs.lists.Elements.{from_place}
use Rattle.depot_node.proofs.store.Store.unread.Goals as goal

pub returns-then-self-count-clause-some : goal.returns-then-self-count-clause-some
returns-then-self-count-clause-some g c = λ text is. (
  drop (c.self.inside.read + 1) c.self.inside.journal.records,
  sym (ap (λ (v : Holding g.row.D.Denot). v.unread) c.self.view_is) ∙ from_place c.self.inside.journal.records c.self.inside.read text (c.text.ensures ∙ is),
)
