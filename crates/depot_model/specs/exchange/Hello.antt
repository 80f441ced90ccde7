-- A hello: what a node says of what it has and of what it wants.
use Rattle.std.specs.Prelude.{ℕ, List, length, take, map, filter, position, Bool, true, not, ◌&&◌, ◌||◌, ◌==◌, nat_lt, Option, Some, None}
use Rattle.std.specs.List.{flat_map}
use Rattle.std.specs.Int.{w16}
use Rattle.depot_base.specs.declared.limits.TheConstants.{MOST_NODES, MOST_LEAVES, MOST_WANTED}
use Rattle.depot_base.specs.Format.{Format, number, constant, field, made_of_fields, list_of}
use Rattle.depot_base.specs.Parts.{node_number, node_rises, digest, digests, is_below}
use Rattle.depot_base.specs.declared.update.Update.{Update}
use Rattle.depot_base.specs.declared.record.Record.{Record}
use Rattle.depot_model.specs.declared.hello.Hello.{Hello}
use Rattle.depot_model.specs.declared.hello.HelloLeaf.{HelloLeaf}
use Rattle.depot_model.specs.texts.Texts.{id_of_update, hash_of_roster}
use Rattle.depot_model.specs.updates.History.{leaves_of, by_id}
use Rattle.depot_model.specs.journals.Journal.{accepted, accepted_by, has_id, is_convicted, holds}
use Rattle.depot_model.specs.checks.Checks.{Setting}
use Rattle.depot_model.specs.texts.Contents.{values_named}
use Rattle.depot_model.specs.checks.Vouching.{rising}

-- ---- the text

-- a leaf, 34 bytes: writer, id
unfoldable pub hello_leaf : Format HelloLeaf
hello_leaf =
    field node_number (λ l. l.writer) λ writer.
    field digest (λ l. l.id) λ id.
    made_of_fields (record { writer = writer; id = id })

-- leaves rise strictly by (writer, id)
abbrev pub hello_leaf_rises : Option HelloLeaf → HelloLeaf → Bool
hello_leaf_rises None l = true
hello_leaf_rises (Some before) l = nat_lt before.writer l.writer || (before.writer == l.writer && is_below before.id l.id)

-- version 1, kind 3, the sender and its roster, and then three lists, each after its count
unfoldable pub hello : Format Hello
hello =
    field (constant 1) (λ h. 1) λ version.
    field (constant 3) (λ h. 3) λ kind_byte.
    field node_number (λ h. h.node) λ node.
    field digest (λ h. h.roster) λ roster.
    field (number w16 0 MOST_NODES) (λ h. length h.convicted) λ convicted_count.
    field (list_of convicted_count node_number node_rises) (λ h. h.convicted) λ convicted.
    field (number w16 0 MOST_LEAVES) (λ h. length h.leaves) λ leaf_count.
    field (list_of leaf_count hello_leaf hello_leaf_rises) (λ h. h.leaves) λ leaves.
    field (number w16 0 MOST_WANTED) (λ h. length h.wanted) λ wanted_count.
    field (digests wanted_count) (λ h. h.wanted) λ wanted.
    made_of_fields (record { node = node; roster = roster; convicted = convicted; leaves = leaves; wanted = wanted })

-- which hellos have a text, and that text
abbrev pub IsHello : Hello → Type 0
IsHello h = hello.fits h

-- the one text of a hello
abbrev pub text_of_hello : Hello → List ℕ
text_of_hello h = hello.text h

-- ---- a node's hello

-- the convicted nodes, in rising order, as the roster has them
unfoldable pub convicted_nodes : Setting → List Record → List ℕ
convicted_nodes here J = filter (is_convicted J) (map (λ e. e.node) here.listed)

-- a leaf as a hello names it
abbrev pub named_leaf : Update → HelloLeaf
named_leaf t = record { writer = t.writer; id = id_of_update t }

-- all hashes of values that accepted updates name and that aren't held in their length, in rising order
unfoldable pub lacking : List Record → List (List ℕ)
lacking J = rising (map (λ n. n.hash) (filter (λ n. not (holds J n.hash n.size)) (flat_map values_named (accepted J))))

-- the first 1,024 of them
abbrev pub wanted_of : List Record → List (List ℕ)
wanted_of J = take MOST_WANTED (lacking J)

-- the place of the record that accepts the update of this id, where one does
unfoldable pub record_place : List Record → List ℕ → Option ℕ
record_place J h = position (λ r. has_id (accepted_by r) h) J

-- the leaves of a journal in rising order of (writer, id), as a hello names them
abbrev pub leaves_named : List Record → List HelloLeaf
leaves_named J = map named_leaf (by_id (leaves_of (accepted J)))

-- the hello of a node with this journal
unfoldable pub hello_of : Setting → List Record → Hello
hello_of here J = record {
  node = here.me;
  roster = hash_of_roster here.listed;
  convicted = convicted_nodes here J;
  leaves = leaves_named J;
  wanted = wanted_of J;
}
