use Rattle.std.proofs.Common.{◌≡◌, ◌∙◌, ◌+◌, ◌-◌, ℕ, List, length, All, Option, Some, None, Vec, is_some, true, vec_len, sym, ap, subst, arith}
use Rattle.std.specs.Vec.{vec_capacity}
use Rattle.std.specs.declared.alloc.Global.{Global}
use Rattle.depot_order.specs.LatestItems.{IsMended}
use Rattle.depot_order.specs.KeyLists.{KeyList, latest_of, room_of, key_lists}
use Rattle.depot_order.proofs.ReadLists.{latest_found, room_found, latest_set, room_set, at_own, at_other, spare, found_in}
use Rattle.depot_order.proofs.index.KeyIndex.mend_list.Goals as goal

pub unreachable-requires : goal.unreachable-requires
unreachable-requires g c =
    let room : room_of c.args.key.now c.args.self.now ≡ 0 =
    ap (λ (l : List KeyList). room_of c.args.key.now l) (sym c.self.view_is) ∙ room_found c.args.key.now c.bytes.result.now c.self.inside.lists.entries None c.bytes.ensures.same c.in-None.ensures.value in
    omega (arith, room, c.requires.room)

pub mend-requires-clause-room : goal.mend-requires-clause-room
mend-requires-clause-room g c =
    let room : room_of c.args.key.now c.args.self.now ≡ vec_capacity c.in-Some.list.now - vec_len c.in-Some.list.now =
    ap (λ (l : List KeyList). room_of c.args.key.now l) (sym c.self.view_is) ∙ room_found c.args.key.now c.bytes.result.now c.self.inside.lists.entries (Some c.in-Some.list.now) c.bytes.ensures.same c.in-Some.ensures.value in
    omega (arith, room, c.requires.room)

pub mend-requires-clause-items : goal.mend-requires-clause-items
mend-requires-clause-items g c =
    let same : latest_of c.args.key.now c.args.self.now ≡ c.in-Some.list.now.items =
    ap (λ (l : List KeyList). latest_of c.args.key.now l) (sym c.self.view_is) ∙ latest_found c.args.key.now c.bytes.result.now c.self.inside.lists.entries (Some c.in-Some.list.now) c.bytes.ensures.same c.in-Some.ensures.value in
    subst (λ (l : List ℕ). All (g.P.Precedes.has c.args.order.now) l) same c.requires.items

there : (o : Option (Vec ℕ Global)) (v : Vec ℕ Global) → Some v ≡ o → is_some o ≡ true
there o v e = ap (λ (p : Option (Vec ℕ Global)). is_some p) (sym e)

pub returns-clause-others : goal.returns-clause-others
returns-clause-others g c = λ other apart.
    let bytes = c.bytes.result.now in
    let es = c.self.inside.lists.entries in
    let new = c.get_mut.follows.lender c.mend.new.list in
    latest_set bytes other es new.entries c.mend.new.list (there (found_in bytes es) c.in-Some.list.now c.in-Some.ensures.value) (c.get_mut.follows.holds c.mend.new.list).0
    ∙ (at_other other bytes c.mend.new.list.items (latest_of other (key_lists es)) (λ same. apart (same ∙ c.bytes.ensures.same)) ∙ ap (λ (l : List KeyList). latest_of other l) c.self.view_is)

pub returns-clause-rooms : goal.returns-clause-rooms
returns-clause-rooms g c = λ other apart.
    let bytes = c.bytes.result.now in
    let es = c.self.inside.lists.entries in
    let new = c.get_mut.follows.lender c.mend.new.list in
    room_set bytes other es new.entries c.mend.new.list (there (found_in bytes es) c.in-Some.list.now c.in-Some.ensures.value) (c.get_mut.follows.holds c.mend.new.list).0
    ∙ (at_other other bytes (spare c.mend.new.list) (room_of other (key_lists es)) (λ same. apart (same ∙ c.bytes.ensures.same)) ∙ ap (λ (l : List KeyList). room_of other l) c.self.view_is)

pub returns-clause-cost : goal.returns-clause-cost
returns-clause-cost g c =
    let same : latest_of c.args.key.now c.args.self.now ≡ c.in-Some.list.now.items =
    ap (λ (l : List KeyList). latest_of c.args.key.now l) (sym c.self.view_is) ∙ latest_found c.args.key.now c.bytes.result.now c.self.inside.lists.entries (Some c.in-Some.list.now) c.bytes.ensures.same c.in-Some.ensures.value in
    c.mend.ensures.cost ∙ ap (λ (l : List ℕ). c.args.steps.now + length l) (sym same)

pub returns-clause-mended : goal.returns-clause-mended
returns-clause-mended g c =
    let bytes = c.bytes.result.now in
    let key = c.args.key.now in
    let es = c.self.inside.lists.entries in
    let new = c.get_mut.follows.lender c.mend.new.list in
    let precedes = g.P.Precedes.precedes c.args.order.now in
    let listed = g.P.Precedes.listed c.args.order.now in
    let was : latest_of key c.args.self.now ≡ c.in-Some.list.now.items =
    ap (λ (l : List KeyList). latest_of key l) (sym c.self.view_is) ∙ latest_found key bytes es (Some c.in-Some.list.now) c.bytes.ensures.same c.in-Some.ensures.value in
    let set_there : latest_of bytes (key_lists new.entries) ≡ c.mend.new.list.items =
    latest_set bytes bytes es new.entries c.mend.new.list (there (found_in bytes es) c.in-Some.list.now c.in-Some.ensures.value) (c.get_mut.follows.holds c.mend.new.list).0
    ∙ at_own bytes c.mend.new.list.items (latest_of bytes (key_lists es)) in
    let is : latest_of key (key_lists new.entries) ≡ c.mend.new.list.items = ap (λ (k : List ℕ). latest_of k (key_lists new.entries)) (sym c.bytes.ensures.same) ∙ set_there in
    subst (λ (l : List ℕ). IsMended precedes listed c.args.item l (latest_of key (key_lists new.entries))) (sym was) (subst (λ (l : List ℕ). IsMended precedes listed c.args.item c.in-Some.list.now.items l) (sym is) c.mend.ensures.mended)
