use Rattle.std.proofs.Common.{ap, sym, ◌∙◌, List}
use Rattle.std.specs.List.{list_any}
use Rattle.std.specs.Str.{bytes_eq}
use Rattle.depot_base.specs.declared.write.Write.{Write}
use Rattle.depot_search.proofs.Tests.{any_map}
use Rattle.depot_search.proofs.exact.writes_key.Goals as goal

pub returns : goal.returns
returns c =
    let key = c.args.key.now in
    c.has_key.ensures ∙ ap (λ (ws : List Write). list_any (λ w. bytes_eq key w.key) ws) c.as_slice.ensures ∙ sym (any_map (bytes_eq key) (λ w. w.key) c.args.update.now.writes)
