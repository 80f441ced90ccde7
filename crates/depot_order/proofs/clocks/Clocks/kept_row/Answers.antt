use Rattle.std.proofs.Common.{◌∙◌, ℕ, List, IfOk, subst, arith}
use Rattle.depot_order.specs.KeptRows.{IsChangedFrom}
use Rattle.depot_order.specs.ChainItems.{ChainItem}
use Rattle.depot_order.proofs.ChainCounts.{number_of_chains-later}
use Rattle.depot_order.proofs.KeptCounts.{kept_as_changed}
use Rattle.depot_order.proofs.clocks.Clocks.kept_row.Goals as goal

pub returns-in-Some : goal.returns-in-Some
returns-in-Some c =
    let x : ChainItem = record { chain = c.args.chain; place = c.args.place; parents = c.args.parents.now } in
    let long = c.requires.row.long ∙ number_of_chains-later c.args.self.now x (omega arith) in
    kept_as_changed c.args.self.now x c.in-Some.behind c.args.row.items c.changed_row.result c.changed_row.ensures.chained c.requires.next c.requires.row long c.in-Some.ensures.parent
    (subst (λ (row : List ℕ). IfOk c.changed_row.result (IsChangedFrom c.args.self.now c.in-Some.behind row)) c.as_slice.ensures.value c.changed_row.ensures.changed)
