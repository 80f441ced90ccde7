-- The prefix is looked for, and after it 32 bytes.
use Rattle.depot_lines.proofs.KeyForms.{other_checkpoint_front, behind_checkpoint_front}
use Rattle.depot_lines.proofs.spelling.is_checkpoint_key.Goals as goal

pub returns-in-Some : goal.returns-in-Some
returns-in-Some c = let e = c.in-Some.ensures.cases in behind_checkpoint_front c.args.key.now c.in-Some.hash.now e.0 e.1 e.2

pub returns-in-None : goal.returns-in-None
returns-in-None c = other_checkpoint_front c.args.key.now c.in-None.ensures.cases
