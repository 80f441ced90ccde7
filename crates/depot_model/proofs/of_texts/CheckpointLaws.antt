-- The format of checkpoints is lawful, and their keys have one form.
use Rattle.std.proofs.Common.{◌*◌, arith}
use Rattle.std.specs.Int.{w8, w16}
use Rattle.depot_base.proofs.FormatLaws.{Lawful, weaken}
use Rattle.depot_base.proofs.Numbers.{one_number, number_within}
use Rattle.depot_base.proofs.Combined.{made_lawful, field_lawful}
use Rattle.depot_base.proofs.EntryLists.{list_lawful, list_count}
use Rattle.depot_base.proofs.PartLaws.{u16_lawful, constant_lawful, digest_lawful}
use Rattle.depot_model.specs.exchange.Hello.{hello_leaf, hello_leaf_rises}
use Rattle.depot_model.proofs.of_texts.HelloLaws.{hello_leaf_lawful}
use Rattle.depot_model.specs.readers.Checkpoints.{checkpoint}

-- no text is longer than 34,852 bytes
pub checkpoint_lawful : Lawful checkpoint 34852
unfolding checkpoint
checkpoint_lawful =
    field_lawful _ _ _ 1 _ (constant_lawful 1 (omega arith)) (λ a v f h. one_number w8 1 a f) λ version _.
    field_lawful _ _ _ 1 _ (constant_lawful 6 (omega arith)) (λ a v f h. one_number w8 6 a f) λ kind_byte _.
    field_lawful _ _ _ 32 _ digest_lawful (λ a v f h. cc) λ roster _.
    field_lawful _ _ _ 2 _ (u16_lawful 1 1024 (omega arith)) (λ a v f h. list_count a hello_leaf hello_leaf_rises v.leaves h.0) λ count n.
    field_lawful _ _ _ 34816 0 (weaken _ (count * 34) 34816 (let r = number_within w16 1 1024 count n in omega arith) (list_lawful count hello_leaf hello_leaf_rises 34 hello_leaf_lawful)) (λ a v f h. cc) λ leaves _.
    made_lawful _
