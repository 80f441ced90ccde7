use Rattle.std.proofs.Common.{ap, ◌∙◌}
use Rattle.sha2.specs.Sha256.{sha256}
use Rattle.depot_model.specs.texts.Texts.{id_of_update}
use Rattle.depot_tests_orders.proofs.graphs.update_of.Goals as goal

pub returns : goal.returns
unfolding id_of_update
returns c =
    let read = c.decode_update.ensures.found c.in-Ok.update c.in-Ok.is in
    (read.0, c.new-id.ensures ∙ (c.digest.ensures ∙ ap sha256 read.1))
