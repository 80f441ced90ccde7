use Rattle.std.proofs.Common.{◌<◌, ℕ, length, sym, subst}
use Rattle.std.specs.List.{AllByRecursion}
use Rattle.std.specs.List.Sorted.{IsNonDecreasing}
use Rattle.std.proofs.lemmas.List.Sorted.{IsNonDecreasingBy-from_sort, IsPermutation-sym}
use Rattle.depot_model.specs.lists.Lists.{IsIn}
use Rattle.depot_model.proofs.lists.Members.{all_at, all_from, in_permuted}
use Rattle.depot_graph.specs.Kept.{updates_in}
use Rattle.depot_queries.proofs.candidate_places.lacked.Goals as goal

pub lacked_among-requires-clause-sorted : goal.lacked_among-requires-clause-sorted
lacked_among-requires-clause-sorted c = subst IsNonDecreasing (sym c.as_slice.ensures.value) (IsNonDecreasingBy-from_sort (λ x. x) c.sort_unstable.new.self.items c.sort_unstable.ensures.sorted)

pub lacked_among-requires-clause-inside : goal.lacked_among-requires-clause-inside
lacked_among-requires-clause-inside c =
    let old = c.in_ok-items.items.items in
    let new = c.sort_unstable.new.self.items in
    let low = λ (item : ℕ). item < length (updates_in c.args.graph.now.items.entries) in
    subst (AllByRecursion low) (sym c.as_slice.ensures.value)
    (all_from low new (λ item on. all_at low old item c.in_ok-items.ensures.inside (in_permuted item new old (IsPermutation-sym old new c.sort_unstable.ensures.permutation) on)))

pub lacked_among-requires-clause-behind : goal.lacked_among-requires-clause-behind
lacked_among-requires-clause-behind c = λ item chain place at high.
    subst (IsIn item) (sym c.as_slice.ensures.value) (in_permuted item c.in_ok-items.items.items c.sort_unstable.new.self.items c.sort_unstable.ensures.permutation (c.in_ok-items.ensures.all item chain place at high))
