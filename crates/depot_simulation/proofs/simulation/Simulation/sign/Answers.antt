use Rattle.std.proofs.Common.{List, [], ◌∷◌, sym, subst}
use Rattle.depot_base.specs.declared.update.Update.{Update}
use Rattle.depot_simulation.specs.Playing.{WereSeen}
use Rattle.depot_simulation.proofs.MadeTexts.{update_seen}
use Rattle.depot_simulation.proofs.Remembered.{all_are_seen}
use Rattle.depot_simulation.proofs.simulation.Simulation.sign.Goals as goal

pub returns-clause-were : goal.returns-clause-were
returns-clause-were g c =
    let u = c.args.update in
    let were = subst (λ (us : List Update). WereSeen us (u ∷ [])) (sym c.in_ok-add.ensures.ok) (all_are_seen c.args.self.now.seen.listed.updates (u ∷ [])) in
    update_seen c.add.new.self.listed.updates u c.in_ok-update.field-0.signed were c.in_ok-update.ensures.update
