-- The hellos that a node makes are its own, and name each leaf.
use Rattle.std.proofs.Common.{◌≡◌, List, refl, sym, subst, inl, inr}
use Rattle.depot_base.specs.declared.record.Record.{Record}
use Rattle.depot_base.specs.declared.update.Update.{Update}
use Rattle.depot_model.specs.declared.hello.Hello.{Hello}
use Rattle.depot_model.specs.declared.hello.HelloLeaf.{HelloLeaf}
use Rattle.depot_model.specs.exchange.Hello.{hello_of, leaves_named, named_leaf}
use Rattle.depot_model.specs.journals.Journal.{accepted}
use Rattle.depot_model.specs.lists.Lists.{IsIn}
use Rattle.depot_model.specs.updates.History.{by_id, leaves_of}
use Rattle.depot_model.specs.worlds.World.{Correct, World, setting_of}
use Rattle.depot_model.proofs.lists.Members.{from_map, in_map}
use Rattle.depot_model.proofs.lists.RisingUpdates.{from_by_id, in_by_id}
use Rattle.depot_laws.proofs.records.Causes.{leaf_is_on}
use Rattle.depot_gossip.specs.AskingAgain.{IsHelloOf, IsNewHello, NamesLeaves, Round}
use Rattle.depot_gossip.specs.FarHellos.{far_hello}
use Rattle.depot_gossip.proofs.BoundLaws.{keeps_leaves, names_accepted}

leaf_is_named : (J : List Record) (t : Update) → IsIn t (leaves_of (accepted J)) → IsIn (named_leaf t) (leaves_named J)
leaf_is_named J t on = in_map named_leaf t (by_id (leaves_of (accepted J))) (in_by_id t (leaves_of (accepted J)) on)

named_is_leaf : (J : List Record) (l : HelloLeaf) → IsIn l (leaves_named J) → (u : Update) × (IsIn u (accepted J) × (named_leaf u ≡ l))
named_is_leaf J l on = let u = from_map named_leaf l (by_id (leaves_of (accepted J))) on in (u.0, (leaf_is_on (accepted J) u.0 (from_by_id u.0 (leaves_of (accepted J)) u.1.0), u.1.1))

-- a hello of this node that names each leaf
abbrev IsFullHello : Correct → Hello → Type 0
IsFullHello a h = IsHelloOf a h × ((t : Update) → IsIn t (leaves_of (accepted a.journal)) → IsIn (named_leaf t) h.leaves)

near_is_full : (W : World) (a : Correct) → IsFullHello a (hello_of (setting_of W a) a.journal)
unfolding hello_of
near_is_full W a = (record { node = refl; names = named_is_leaf a.journal }, leaf_is_named a.journal)

far_is_full : (W : World) (a : Correct) → IsFullHello a (far_hello (setting_of W a) a.journal)
unfolding hello_of far_hello
far_is_full W a = (
  record { node = refl; names = names_accepted (setting_of W a) a.journal },
  λ t on. keeps_leaves (setting_of W a) a.journal (named_leaf t) (leaf_is_named a.journal t on),
)

pub new_hello : (r : Round) → IsNewHello r → IsHelloOf r.asker r.hello × NamesLeaves r
new_hello r (inl near) = subst (λ (h : Hello). IsFullHello r.asker h) (sym near) (near_is_full r.world r.asker)
new_hello r (inr far) = subst (λ (h : Hello). IsFullHello r.asker h) (sym far) (far_is_full r.world r.asker)
