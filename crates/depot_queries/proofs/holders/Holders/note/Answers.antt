use Rattle.std.proofs.Common.{◌≡◌, ◌∙◌, ap, Some, Option, Vec, ℕ, is_some, true, sym}
use Rattle.std.specs.declared.alloc.Global.{Global}
use Rattle.depot_model.specs.worlds.Receipts.{put_number}
use Rattle.depot_queries.specs.HolderLists.{holders_of, has_place}
use Rattle.depot_queries.proofs.HolderLaws.{kept, nodes_in, node_noted, places_stay}
use Rattle.depot_queries.proofs.holders.Holders.note.Goals as goal

there : (o : Option (Vec ℕ Global)) (v : Vec ℕ Global) → Some v ≡ o → is_some o ≡ true
there o v e = ap (λ (p : Option (Vec ℕ Global)). is_some p) (sym e)

pub returns-clause-noted : goal.returns-clause-noted
unfolding holders_of
returns-clause-noted c = λ other.
    let id = c.args.id.now in
    let old = c.args.self.now.lists in
    let was = c.in-Some.ensures.value in
    let updates = (c.get_mut.follows.holds c.put_among.new.list).3 (there (kept old id) c.in-Some.list.now was) in
    node_noted old (c.get_mut.follows.lender c.put_among.new.list) id c.args.node c.put_among.new.list updates.0 (c.put_among.ensures.put ∙ ap (λ (o : Option (Vec ℕ Global)). put_number c.args.node (nodes_in o)) was) other

pub returns-clause-places : goal.returns-clause-places
unfolding has_place
returns-clause-places c = λ other had.
    let id = c.args.id.now in
    let old = c.args.self.now.lists in
    let updates = (c.get_mut.follows.holds c.put_among.new.list).3 (there (kept old id) c.in-Some.list.now c.in-Some.ensures.value) in
    places_stay old (c.get_mut.follows.lender c.put_among.new.list) id c.args.node c.put_among.new.list updates.0 c.put_among.ensures.place other had
