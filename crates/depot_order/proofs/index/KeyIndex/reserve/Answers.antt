use Rattle.std.proofs.Common.{◌≡◌, ◌∙◌, ◌<◌, ◌≤◌, ◌+◌, List, vec_len, sym, ap, subst, arith}
use Rattle.std.specs.Vec.{vec_capacity}
use Rattle.depot_order.specs.KeyLists.{KeyList, latest_of, room_of, key_lists}
use Rattle.depot_order.proofs.ReadLists.{reserved_same, reserved_room, reserved_rooms, spare}
use Rattle.depot_order.proofs.index.KeyIndex.reserve.Goals as goal

over : (c : goal.Joined-branch-5) → 0 < spare c.reserve.new.self
over c = let more : vec_len c.reserve.new.self + 1 ≤ vec_capacity c.reserve.new.self = c.in_ok-reserve.ensures.ok in omega (arith, more)

pub returns-clause-same : goal.returns-clause-same
returns-clause-same c = λ other.
    let es = c.self.inside.lists.entries in
    let key = c.args.key.now in
    let k_is : c.in_ok-key.key.items ≡ key = c.in_ok-key.ensures.items ∙ c.bytes.ensures.same in
    let v_is : c.reserve.new.self.items ≡ latest_of key (key_lists es) = c.in_ok-reserve.ensures.items ∙ (c.in_ok-list.ensures.items ∙ (c.latest.ensures ∙ ap (λ (l : List KeyList). latest_of key l) (sym c.self.view_is))) in
    reserved_same other key es c.insert.new.self.entries c.in_ok-key.key c.reserve.new.self k_is v_is c.in_ok-insert.ensures.entries ∙ ap (λ (l : List KeyList). latest_of other l) c.self.view_is

pub returns-clause-room : goal.returns-clause-room
returns-clause-room c =
    reserved_room c.args.key.now c.self.inside.lists.entries c.insert.new.self.entries c.in_ok-key.key c.reserve.new.self (c.in_ok-key.ensures.items ∙ c.bytes.ensures.same) (over c) c.in_ok-insert.ensures.entries

pub returns-clause-rooms : goal.returns-clause-rooms
returns-clause-rooms c = λ other had.
    reserved_rooms other c.self.inside.lists.entries c.insert.new.self.entries c.in_ok-key.key c.reserve.new.self (over c) c.in_ok-insert.ensures.entries
    (subst (λ (l : List KeyList). 0 < room_of other l) (sym c.self.view_is) had)
