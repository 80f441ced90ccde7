use Rattle.std.proofs.Common.{◌≡◌, ◌<◌, List, length, sym, subst}
use Rattle.depot_base.specs.declared.update.Update.{Update}
use Rattle.depot_model.specs.lists.Items.{at}
use Rattle.depot_model.specs.texts.Texts.{id_of_update}
use Rattle.depot_replay.proofs.mem_host.MemHostActor.id.Goals as goal

pub id-requires : goal.id-requires
id-requires g c = subst (λ (us : List Update). c.args.item < length us) (sym c.graph.ensures) c.requires

pub returns : goal.returns
returns g c = subst (λ (us : List Update). at us c.args.item (λ u. id_of_update u ≡ c.id.result.now)) c.graph.ensures c.id.ensures
