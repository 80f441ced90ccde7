use Rattle.depot_examples.proofs.TopLeaves.{one_text}
use Rattle.depot_examples.proofs.signatures.a_top_leaf_signs_one_text.Goals as goal

pub returns : goal.returns
returns x seed body other height i j high same = one_text seed body other height i j high same
