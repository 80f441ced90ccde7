-- The format of hellos is lawful: its texts are read back, none begins another, and each fault is the first.
use Rattle.std.proofs.Common.{◌*◌, arith}
use Rattle.std.specs.Int.{w16}
use Rattle.depot_base.specs.Parts.{node_number, node_rises, digest, digest_rises}
use Rattle.depot_base.proofs.FormatLaws.{Lawful, weaken}
use Rattle.depot_base.proofs.Numbers.{one_number, number_within}
use Rattle.depot_base.proofs.Combined.{made_lawful, field_lawful}
use Rattle.depot_base.proofs.EntryLists.{list_lawful, list_count}
use Rattle.depot_base.proofs.PartLaws.{u16_lawful, constant_lawful, node_lawful, digest_lawful, digests_lawful}
use Rattle.std.specs.Int.{w8}
use Rattle.depot_model.specs.exchange.Hello.{hello_leaf, hello_leaf_rises, hello}

pub hello_leaf_lawful : Lawful hello_leaf 34
unfolding hello_leaf
hello_leaf_lawful =
    field_lawful _ _ _ 2 _ node_lawful (λ a l f h. cc) λ writer _.
    field_lawful _ _ _ 32 0 digest_lawful (λ a l f h. cc) λ id _.
    made_lawful _

pub hello_lawful : Lawful hello 172620
unfolding hello
hello_lawful =
    field_lawful _ _ _ 1 _ (constant_lawful 1 (omega arith)) (λ a v f h. one_number w8 1 a f) λ version _.
    field_lawful _ _ _ 1 _ (constant_lawful 3 (omega arith)) (λ a v f h. one_number w8 3 a f) λ kind_byte _.
    field_lawful _ _ _ 2 _ node_lawful (λ a v f h. cc) λ node _.
    field_lawful _ _ _ 32 _ digest_lawful (λ a v f h. cc) λ roster _.
    field_lawful _ _ _ 2 _ (u16_lawful 0 256 (omega arith)) (λ a v f h. list_count a node_number node_rises v.convicted h.0) λ convicted_count c.
    field_lawful _ _ _ 512 _ (weaken _ (convicted_count * 2) 512 (let r = number_within w16 0 256 convicted_count c in omega arith) (list_lawful convicted_count node_number node_rises 2 node_lawful)) (λ a v f h. cc) λ convicted _.
    field_lawful _ _ _ 2 _ (u16_lawful 0 4097 (omega arith)) (λ a v f h. list_count a hello_leaf hello_leaf_rises v.leaves h.0) λ leaf_count n.
    field_lawful _ _ _ 139298 _ (weaken _ (leaf_count * 34) 139298 (let r = number_within w16 0 4097 leaf_count n in omega arith) (list_lawful leaf_count hello_leaf hello_leaf_rises 34 hello_leaf_lawful)) (λ a v f h. cc) λ leaves _.
    field_lawful _ _ _ 2 _ (u16_lawful 0 1024 (omega arith)) (λ a v f h. list_count a digest digest_rises v.wanted h.0) λ wanted_count w.
    field_lawful _ _ _ 32768 0 (weaken _ (wanted_count * 32) 32768 (let r = number_within w16 0 1024 wanted_count w in omega arith) (digests_lawful wanted_count)) (λ a v f h. cc) λ wanted _.
    made_lawful _
