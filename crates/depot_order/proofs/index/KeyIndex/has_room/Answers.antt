use Rattle.std.proofs.Common.{◌≡◌, ◌∙◌, ◌-◌, List, Some, None, true≢false, sym, ap, arith}
use Rattle.std.specs.Vec.{vec_capacity, vec_len}
use Rattle.std.proofs.lemmas.Bool.{ltb-true, lt-ltb}
use Rattle.depot_order.specs.KeyLists.{KeyList, room_of}
use Rattle.depot_order.proofs.ReadLists.{room_found}
use Rattle.depot_order.proofs.index.KeyIndex.has_room.Goals as goal

pub returns-in-Some : goal.returns-in-Some
returns-in-Some c =
    let room : room_of c.args.key.now c.args.self.now ≡ vec_capacity c.in-Some.list.now - vec_len c.in-Some.list.now =
    ap (λ (l : List KeyList). room_of c.args.key.now l) (sym c.self.view_is) ∙ room_found c.args.key.now c.bytes.result.now c.self.inside.lists.entries (Some c.in-Some.list.now) c.bytes.ensures.same c.in-Some.ensures.value in (
      (λ yes_. let less = ltb-true c.len.result c.capacity.result yes_ in omega (arith, less, room, c.len.ensures, c.capacity.ensures)),
      (λ some. lt-ltb c.len.result c.capacity.result (omega (arith, some, room, c.len.ensures, c.capacity.ensures))),
    )

pub returns-in-None : goal.returns-in-None
returns-in-None c =
    let room : room_of c.args.key.now c.args.self.now ≡ 0 =
    ap (λ (l : List KeyList). room_of c.args.key.now l) (sym c.self.view_is) ∙ room_found c.args.key.now c.bytes.result.now c.self.inside.lists.entries None c.bytes.ensures.same c.in-None.ensures.value in (
      (λ never. absurd (true≢false (sym never))),
      (λ some. absurd (omega (arith, some, room))),
    )
