use Rattle.std.proofs.Common.{◌≡◌, ◌∙◌, ℕ, Bool, List, [], false, ◌||◌, map, sym, ap, subst, arith}
use Rattle.std.specs.List.{list_any}
use Rattle.std.proofs.lemmas.List.{length-map}
use Rattle.depot_base.specs.declared.write.Write.{Write}
use Rattle.depot_model.specs.journals.Journal.{has_id}
use Rattle.depot_model.specs.updates.LatestList.{latest_in}
use Rattle.depot_model.specs.texts.Texts.{id_of_update}
use Rattle.depot_model.proofs.lists.Elements.{in_at}
use Rattle.depot_model.proofs.lists.Members.{any_from, in_map}
use Rattle.depot_graph.specs.Causal.{causal_from_test}
use Rattle.depot_graph.specs.Kept.{updates_in}
use Rattle.depot_trim.proofs.BelowLaws.{latest_item}
use Rattle.depot_trim.proofs.SoFar.{any_next, element_at, map_at, whole}
use Rattle.depot_trim.proofs.below.is_latest.Goals as goal

pub returns-then-contains : goal.returns-then-contains
returns-then-contains c = λ u at.
    let us = updates_in c.args.graph.now.items.entries in
    let ws = c.args.writes.now in
    let w = c.write-item.result in
    let there = element_at ws c.loop-write.write-index w c.loop-write-test.true c.write-item.is in
    let one = sym (latest_item w.key c.latest.result.now us c.args.item u (causal_from_test [] us c.args.graph.now.causal) c.latest.ensures.latest at) ∙ sym c.contains.ensures.value ∙ c.if-contains.true in
    sym (any_from (λ key. has_id (latest_in key us) (id_of_update u)) w.key (map (λ (x : Write). x.key) ws) (in_map (λ (x : Write). x.key) w ws (in_at ws c.loop-write.write-index w there)) one)

pub loop-write-preserved : goal.loop-write-preserved
loop-write-preserved c = λ u at.
    let us = updates_in c.args.graph.now.items.entries in
    let ws = c.args.writes.now in
    let w = c.write-item.result in
    let i = c.loop-write.write-index in
    let there = map_at (λ (x : Write). x.key) ws i w (element_at ws i w c.loop-write-test.true c.write-item.is) in
    let none = sym (latest_item w.key c.latest.result.now us c.args.item u (causal_from_test [] us c.args.graph.now.causal) c.latest.ensures.latest at) ∙ sym c.contains.ensures.value ∙ c.if-contains.false in
    let test : List ℕ → Bool = λ key. has_id (latest_in key us) (id_of_update u) in
    any_next test (map (λ (x : Write). x.key) ws) i w.key there ∙ ap (λ (b : Bool). b || test w.key) (c.loop-write.invariant u at) ∙ none

pub returns : goal.returns
returns c = λ u at.
    let us = updates_in c.args.graph.now.items.entries in
    let ws = c.args.writes.now in
    let i = c.loop-write.write-index in
    let all = whole i (map (λ (x : Write). x.key) ws) (omega (arith, length-map ws (λ (x : Write). x.key), c.loop-write-test.false)) in
    sym (subst (λ (keys : List (List ℕ)). list_any (λ key. has_id (latest_in key us) (id_of_update u)) keys ≡ false) all (c.loop-write.invariant u at))
