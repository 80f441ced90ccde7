use Rattle.std.proofs.Common.{◌≡◌, ℕ, List, true, take, if◌then◌else◌}
use Rattle.depot_model.specs.lists.Lists.{is_among}
use Rattle.depot_model.specs.worlds.Receipts.{put_number}
use Rattle.depot_queries.specs.HolderLists.{holders_of, has_place}
use Rattle.depot_queries.proofs.holders.Holders.note_each.Given as goal

abbrev pub invariant-loop-id : goal.invariant-loop-id
invariant-loop-id l = record {
  noted : (other : List ℕ) → holders_of l.self other ≡ (if is_among other (take l.id-index l.ids) then put_number l.node (holders_of l.initial.self other) else holders_of l.initial.self other);
  places : (other : List ℕ) → has_place l.initial.self other l.node ≡ true → has_place l.self other l.node ≡ true;
}
