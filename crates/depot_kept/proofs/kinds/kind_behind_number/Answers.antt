use Rattle.std.proofs.Common.{◌∙◌}
use Rattle.depot_kept.proofs.KindLaws.{kept_is_voucher, came_is_voucher, both_are_updates}
use Rattle.depot_kept.proofs.kinds.kind_behind_number.Goals as goal
use Rattle.depot_model.proofs.of_texts.BodyLaws.{id_of_its_update}

pub kind_of_updates-requires-clause-first : goal.kind_of_updates-requires-clause-first
kind_of_updates-requires-clause-first c = id_of_its_update _ _ _ c.requires.kept_id c.in-Update.is

pub kind_of_updates-requires-clause-second : goal.kind_of_updates-requires-clause-second
kind_of_updates-requires-clause-second c = id_of_its_update _ _ _ c.requires.came_id c.in-Update-came.is

pub returns-in-Voucher : goal.returns-in-Voucher
returns-in-Voucher c = kept_is_voucher _ _ _ c.in-Voucher.is c.requires.writer c.requires.bodies c.requires.number

pub returns-in-Voucher-came : goal.returns-in-Voucher-came
returns-in-Voucher-came c = came_is_voucher _ _ _ _ c.in-Update.is c.in-Voucher-came.is c.requires.writer c.requires.bodies c.requires.number

pub returns-in-Update-came : goal.returns-in-Update-came
returns-in-Update-came c = c.kind_of_updates.ensures ∙ both_are_updates _ _ _ _ c.in-Update.is c.in-Update-came.is c.requires.writer c.requires.bodies c.requires.number
