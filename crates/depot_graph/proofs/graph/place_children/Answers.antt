use Rattle.std.proofs.Common.{◌∙◌, ap, map, List, ℕ, [], ◌∷◌, ◌++◌, ◌<◌, is_ok, arith, vec_len, vec_capacity}
use Rattle.std.proofs.lemmas.List.{map-append}
use Rattle.std.proofs.lemmas.Bool.{cond-true}
use Rattle.depot_graph.proofs.graph.place_children.Goals as goal

pub returns : goal.returns
returns c =
    let room : vec_len c.replace_list.new.lists < vec_capacity c.replace_list.new.lists = omega (arith, c.requires.room, c.replace_list.ensures.len, c.replace_list.ensures.capacity) in
    let pushed = c.push.ensures.items ∙ cond-true (is_ok c.push.result) (c.replace_list.new.lists.items ++ c.args.none ∷ []) c.replace_list.new.lists.items (c.push.ensures.succeeds room) in
    ap (map (λ list. list.items)) pushed ∙ (map-append (λ list. list.items) c.replace_list.new.lists.items (c.args.none ∷ []) ∙ ap (λ (lists : List (List ℕ)). lists ++ c.args.none.items ∷ []) c.replace_list.ensures.lists)
