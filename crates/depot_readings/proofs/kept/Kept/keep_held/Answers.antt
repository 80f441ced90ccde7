use Rattle.std.proofs.Common.{refl}
use Rattle.depot_base.proofs.Writing.{on_err_from}
use Rattle.depot_readings.proofs.KeptLaws.{held_kept, still_keeps}
use Rattle.depot_readings.proofs.kept.Kept.keep_held.Goals as goal

pub returns-in_err-reserve-clause-err : goal.returns-in_err-reserve-clause-err
returns-in_err-reserve-clause-err g c = on_err_from _ (still_keeps g.S.Scheme.verifies _ _ _ _ _ refl (λ J s. s) c.reserve.ensures.values_stay)

pub returns-clause-ok : goal.returns-clause-ok
returns-clause-ok g c = λ J k l.
    held_kept J c.args.value c.args.hash _ _ _ _ c.add_hashed.result _ c.requires.hash c.in_ok-reserve.ensures.values_stay (c.add_hashed.ensures.succeeds c.in_ok-reserve.ensures.room)
    (record { known = c.add_hashed.ensures.known; new = c.add_hashed.ensures.new; else_stays = c.add_hashed.ensures.else_stays; others_stay = c.add_hashed.ensures.others_stay }) k
