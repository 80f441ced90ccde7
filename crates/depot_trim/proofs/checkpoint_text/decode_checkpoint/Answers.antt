use Rattle.std.proofs.Common.{arith}
use Rattle.depot_base.proofs.Decoding.{is_early, decodes}
use Rattle.depot_model.specs.readers.Checkpoints.{checkpoint}
use Rattle.depot_model.proofs.of_texts.CheckpointLaws.{checkpoint_lawful}
use Rattle.depot_trim.proofs.checkpoint_text.decode_checkpoint.Goals as goal

pub answer-requires : goal.answer-requires
answer-requires c = is_early checkpoint 34852 checkpoint_lawful (omega arith) c.args.text.now (λ i. omega (arith, c.type_inv.text i)) c.whole_checkpoint.result (rw c.new.ensures at c.whole_checkpoint.ensures)

pub returns : goal.returns
returns c = rw c.answer.ensures (decodes checkpoint 34852 checkpoint_lawful c.args.text.now (λ i. omega (arith, c.type_inv.text i)) c.whole_checkpoint.result (rw c.new.ensures at c.whole_checkpoint.ensures))
