use Rattle.std.proofs.Common.{◌≡◌, IsTrue, List, ℕ, [], length, map, sym, ap, subst, ◌∙◌}
use Rattle.depot_base.specs.File.{blocks}
use Rattle.depot_journal.specs.WriteSteps.{StandsTo}
use Rattle.depot_model.specs.texts.Records.{text_of_record}
use Rattle.depot_node.specs.Holdings.{Holding}
use Rattle.depot_node.proofs.JournalTexts.{whole_texts}
use Rattle.depot_node.proofs.store.Store.detach.Given.{Over}
use Rattle.depot_node.proofs.store.Store.detach.Goals as goal
use Rattle.depot_node.proofs.store.Store.detach.Goals.{After-detach-journal}

-- where all were read, the journal's texts are those of the records
texts : (g : Over) (c : After-detach-journal g) → c.args.self.unread ≡ [] → c.self.inside.journal.records ≡ map text_of_record c.args.self.records
texts g c read =
    let none = ap (λ (v : Holding g.row.D.Denot). v.unread) c.self.view_is ∙ read in
    (whole_texts c.self.inside.read c.self.inside.journal.records c.self.invariant.0 none).are ∙ ap (λ (v : Holding g.row.D.Denot). map text_of_record v.records) c.self.view_is

pub returns-clause-gate : goal.returns-clause-gate
returns-clause-gate g c = λ read.
    let at = (goal.at.returns-clause-gate g c).After-detach-journal in
    c.detach-journal.ensures.gate ∙ ap (λ (ts : List (List ℕ)). length (blocks ts)) (texts g at read)

pub returns-clause-stands : goal.returns-clause-stands
returns-clause-stands g c = λ read runs told.
    let at = (goal.at.returns-clause-stands g c).After-detach-journal in
    let is = ap (λ (v : Holding g.row.D.Denot). v.disk) c.self.view_is in
    let ran = ap (λ (v : Holding g.row.D.Denot). v.stopped) c.self.view_is ∙ runs in
    let stands = c.detach-journal.ensures.stands ran (subst (λ (d : g.row.D.Denot). IsTrue (g.D.Disk.tells d)) (sym is) told) in
    subst (λ (d : g.row.D.Denot). StandsTo (g.D.Disk.seen d) (map text_of_record c.args.self.records) c.detach-journal.result.gate) is
    (subst (λ (ts : List (List ℕ)). StandsTo (g.D.Disk.seen c.self.inside.journal.disk) ts c.detach-journal.result.gate) (texts g at read) stands)
