use Rattle.std.proofs.Common.{ℕ, ◌<◌, ◌≡◌, ◌^◌, true, Option, sym, subst}
use Rattle.std.specs.Prelude.{IfSome}
use Rattle.std.proofs.lemmas.Result.{on_ok_weaker}
use Rattle.depot_base.specs.declared.update.Update.{Update}
use Rattle.depot_schedule.specs.EventWords.{is_declared}
use Rattle.depot_simulation.specs.Doing.{with_update}
use Rattle.depot_simulation.specs.Drafts.{IsNumbered}
use Rattle.depot_simulation.specs.Playing.{IsSimulationAt}
use Rattle.depot_scenario.specs.KnownUpdates.{HasSeenParents}
use Rattle.depot_simulation.proofs.SignedUpdates.{sees_update}
use Rattle.depot_simulation.proofs.simulation.Simulation.given.Given.{Over}
use Rattle.depot_simulation.proofs.simulation.Simulation.given.Goals as goal
use Rattle.depot_simulation.proofs.simulation.Simulation.given.Goals.{In-Some}

numbered : (g : Over) (c : In-Some g) → IsNumbered c.args.writer c.args.seq c.in-Some.update
numbered g c = subst (λ (o : Option Update). IfSome o (λ u. IsNumbered c.args.writer c.args.seq u)) c.in-Some.is c.requires.numbered

pub sign-requires-clause-declared : goal.sign-requires-clause-declared
sign-requires-clause-declared g c =
    subst (λ (n : ℕ). is_declared c.args.scenario.now.members.now n ≡ true) (sym (numbered g (goal.at.sign-requires-clause-declared g c).In-Some).writer_is) c.requires.leaf.declared

pub sign-requires-clause-leaf : goal.sign-requires-clause-leaf
sign-requires-clause-leaf g c = subst (λ (n : ℕ). n < 2 ^ c.args.scenario.now.height) (sym (numbered g (goal.at.sign-requires-clause-leaf g c).In-Some).seq_is) c.requires.leaf.leaf

pub returns-in-Some-clause-at : goal.returns-in-Some-clause-at
returns-in-Some-clause-at g c = on_ok_weaker c.sign.result (λ seen setup run at.
    let us = c.args.self.now.seen.listed.updates in
    let parents = subst (λ (o : Option Update). IfSome o (λ u. HasSeenParents us u)) c.in-Some.is c.requires.parents in
    subst (λ (o : Option Update). IsSimulationAt g.A.Actor.view g.A.Reader.Reading.reads setup (with_update run o) c.sign.new.self) (sym c.in-Some.is)
    (sees_update g.row.A.Denot g.A.Actor.view g.A.Reader.Reading.reads setup run c.in-Some.update c.args.self.now c.sign.new.self at parents c.sign.ensures.participants c.sign.ensures.labels c.sign.ensures.readers seen)) c.sign.ensures.seen
