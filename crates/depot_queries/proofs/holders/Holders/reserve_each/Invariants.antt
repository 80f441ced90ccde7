use Rattle.std.proofs.Common.{◌≡◌, ℕ, List, true, take}
use Rattle.std.specs.List.{AllByRecursion}
use Rattle.depot_queries.specs.HolderLists.{holders_of, has_place}
use Rattle.depot_queries.proofs.holders.Holders.reserve_each.Given as goal

abbrev pub invariant-loop-id : goal.invariant-loop-id
invariant-loop-id l = record {
  same : (other : List ℕ) → holders_of l.self other ≡ holders_of l.initial.self other;
  place : AllByRecursion (λ id. has_place l.self id l.node ≡ true) (take l.id-index l.ids);
}
