use Rattle.std.proofs.Common.{refl, ap, ◌∙◌}
use Rattle.sha2.specs.Sha256.{sha256}
use Rattle.depot_model.specs.texts.Texts.{id_of_update}
use Rattle.depot_scan.proofs.body.Body.of_text.Goals as goal

pub invariant_of-result : goal.invariant_of-result
unfolding id_of_update
invariant_of-result c =
    let read = c.in_ok-update.ensures.found c.in_ok-update.update refl in
    record { is_id = c.new-id.ensures ∙ (c.digest.ensures ∙ ap sha256 read.1); is_update = read.0 }
