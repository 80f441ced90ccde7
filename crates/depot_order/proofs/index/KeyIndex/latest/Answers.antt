use Rattle.std.proofs.Common.{◌∙◌, List, Some, None, sym, ap}
use Rattle.depot_order.specs.KeyLists.{KeyList, latest_of}
use Rattle.depot_order.proofs.ReadLists.{latest_found}
use Rattle.depot_order.proofs.index.KeyIndex.latest.Goals as goal

pub returns-in-Some : goal.returns-in-Some
returns-in-Some c =
    c.as_slice.ensures.value ∙ (sym (latest_found c.args.key.now c.bytes.result.now c.self.inside.lists.entries (Some c.in-Some.list.now) c.bytes.ensures.same c.in-Some.ensures.value)
    ∙ ap (λ (l : List KeyList). latest_of c.args.key.now l) c.self.view_is)

pub returns-in-None : goal.returns-in-None
returns-in-None c =
    sym (latest_found c.args.key.now c.bytes.result.now c.self.inside.lists.entries None c.bytes.ensures.same c.in-None.ensures.value)
    ∙ ap (λ (l : List KeyList). latest_of c.args.key.now l) c.self.view_is
