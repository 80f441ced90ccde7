use Rattle.std.proofs.Common.{◌∙◌, List, map, ap}
use Rattle.std.specs.List.{list_any}
use Rattle.depot_base.specs.declared.write.Write.{Write}
use Rattle.depot_model.specs.journals.Journal.{has_id}
use Rattle.depot_model.specs.updates.LatestList.{latest_in}
use Rattle.depot_model.specs.texts.Texts.{id_of_update}
use Rattle.depot_graph.specs.Kept.{updates_in}
use Rattle.depot_trim.proofs.BelowLaws.{there_is, none_is}
use Rattle.depot_trim.proofs.below.is_given_up.Goals as goal

pub returns-in-Some : goal.returns-in-Some
returns-in-Some c =
    let us = updates_in c.args.below.now.items.entries in
    there_is us c.args.id.now c.args.update.now c.in-Some.item c.is_latest.result c.requires c.in-Some.ensures
    (λ t at. c.is_latest.ensures t at ∙ ap (λ (ws : List Write). list_any (λ key. has_id (latest_in key us) (id_of_update t)) (map (λ w. w.key) ws)) c.as_slice.ensures)

pub returns-in-None : goal.returns-in-None
returns-in-None c = none_is (updates_in c.args.below.now.items.entries) c.args.id.now c.args.update.now c.requires c.in-None.ensures
