use Rattle.std.proofs.Common.{ap, sym, ◌∙◌, ◌||◌, Bool, List, map}
use Rattle.std.specs.List.{list_any}
use Rattle.std.specs.Str.{bytes_eq}
use Rattle.depot_base.specs.declared.update.Dep.{Dep}
use Rattle.depot_model.specs.lists.Lists.{is_among}
use Rattle.depot_model.specs.updates.Order.{prevs}
use Rattle.depot_search.proofs.Tests.{any_map, any_behind}
use Rattle.depot_search.proofs.table.names.Goals as goal

pub returns : goal.returns
returns c =
    let deps = c.args.update.now.deps in
    let h = c.args.id.now in
    c.or.ensures
    ∙ ap (λ (b : Bool). b || c.has_entry-entry.result) c.is_prev-prev.ensures
    ∙ ap (λ (b : Bool). is_among h (prevs c.args.update.now) || b) (c.has_entry-entry.ensures ∙ ap (λ (ds : List Dep). list_any (λ d. bytes_eq h d.id) ds) c.as_slice.ensures ∙ sym (any_map (bytes_eq h) (λ d. d.id) deps))
    ∙ any_behind (bytes_eq h) (prevs c.args.update.now) (map (λ d. d.id) deps)
