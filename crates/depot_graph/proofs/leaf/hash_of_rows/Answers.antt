use Rattle.std.proofs.Common.{◌∙◌, ap, sym, List, ℕ, [], ◌++◌, append_assoc}
use Rattle.std.proofs.lemmas.List.{append-nil}
use Rattle.std.specs.List.{flat_map}
use Rattle.sha2.specs.Sha256.{sha256}
use Rattle.depot_graph.specs.PastLeaves.{row_of}
use Rattle.depot_graph.specs.declared.leaf.Leaf.{Leaf}
use Rattle.depot_graph.proofs.leaf.hash_of_rows.Goals as goal

pub loop-leaf-init : goal.loop-leaf-init
loop-leaf-init c = ([], (c.new-hasher.ensures, ap (λ (ls : List Leaf). flat_map row_of ls) c.into_iter-leaf-iterator.ensures.into_iter_gives.0))

pub loop-leaf-preserved : goal.loop-leaf-preserved
loop-leaf-preserved c =
    let v = c.loop-leaf.invariant in (
      v.0 ++ c.row.result,
      (
        c.update.ensures v.0 v.1.0,
        append_assoc v.0 c.row.result (flat_map row_of c.next.new.self)
            ∙ ap (λ (row : List ℕ). v.0 ++ (row ++ flat_map row_of c.next.new.self)) c.row.ensures
            ∙ ap (λ (ls : List Leaf). v.0 ++ flat_map row_of ls) (sym c.in-Some.ensures.steps)
            ∙ v.1.1,
      ),
    )

pub returns : goal.returns
returns c =
    let v = c.loop-leaf.invariant in
    c.new.ensures ∙ c.finalize.ensures v.0 v.1.0
    ∙ ap sha256 (sym (append-nil v.0) ∙ ap (λ (ls : List Leaf). v.0 ++ flat_map row_of ls) (sym c.in-None.ensures.steps.0) ∙ v.1.1)
