use Rattle.std.specs.List.{flat_map}
use Rattle.std.proofs.lemmas.Result.{on_ok_weaker}
use Rattle.depot_model.specs.worlds.Causality.{puts_of}
use Rattle.depot_model.specs.journals.Journal.{accepted, value_by}
use Rattle.depot_audit.proofs.MetRecords.{put_brings}
use Rattle.depot_audit.proofs.met.Met.take_put.Goals as goal

pub id_in_own_put-requires : goal.id_in_own_put-requires
id_in_own_put-requires c = (c.args.update, record { values = c.args.values; fits = c.requires.fits; is = c.requires.is })

pub add-requires : goal.add-requires
add-requires c = c.id_in_own_put.ensures c.args.update (record { values = c.args.values; fits = c.requires.fits; is = c.requires.is })

pub returns : goal.returns
returns c =
    on_ok_weaker c.add_all.result (λ more rs m.
    put_brings rs c.args.update c.args.values c.args.self.now (record { updates = c.add.new.self; values = c.add_all.new.self }) (c.in_ok-add.ensures (accepted rs) (puts_of rs)) (more (flat_map value_by rs)) m)
    c.add_all.ensures
