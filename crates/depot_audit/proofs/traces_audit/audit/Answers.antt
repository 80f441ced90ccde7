use Rattle.std.proofs.Common.{◌≡◌, List, map, Option, Some, None, sym, subst, ◌∙◌}
use Rattle.std.specs.Borrow.{Bor}
use Rattle.std.specs.List.{AllByRecursion}
use Rattle.std.proofs.lemmas.Result.{IfOk-weaker}
use Rattle.depot_model.specs.worlds.Audit.{finding_in}
use Rattle.depot_model.specs.worlds.Traces.{Trace, HasRightReads, IsFindingOf, IsWorldOf}
use Rattle.depot_model.specs.worlds.World.{World}
use Rattle.depot_traces.specs.SeenTraces.{finding_of, trace_of}
use Rattle.depot_traces.specs.declared.finding.Finding.{Finding}
use Rattle.depot_traces.specs.declared.trace.Trace as made
use Rattle.depot_audit.specs.InTurn.{IsTurnOf}
use Rattle.depot_audit.proofs.TracedNodes.{turn_is_finding}
use Rattle.depot_audit.proofs.WorldFindings.{sorted_too, few_sorted, IsTracedBy, world_of_turn, world_finding}
use Rattle.depot_audit.proofs.traces_audit.audit.Goals as goal
use Rattle.depot_audit.proofs.traces_audit.audit.Goals.{In-None}

-- the world that the traces make, where no node's records and reads are wrong; the list is lent once more
world_there : (g : _) (c : In-None g) (list : List (Bor made.Trace)) → list ≡ c.in_ok-list.list.items → IsTracedBy g.S.Scheme.verifies c.args.roster.now c.args.traces.now list
world_there g c list same =
    let ts = c.args.traces.now in
    let sorted = sorted_too list c.in_ok-list.list.items ts c.as_slice.result.now same c.in_ok-list.ensures c.as_slice.ensures in
    let turn : IsTurnOf g.S.Scheme.verifies c.args.roster.now (map (λ t. trace_of t.now) c.deref.result.now) None =
    subst (λ (o : Option Finding). IsTurnOf g.S.Scheme.verifies c.args.roster.now (map (λ t. trace_of t.now) c.deref.result.now) o) c.in-None.is c.in_ok-found.ensures in
    world_of_turn g.S.Scheme.verifies c.args.roster.now ts list sorted c.requires.distinct c.requires.members c.requires.fit
    (subst (λ (xs : List (Bor made.Trace)). AllByRecursion (HasRightReads g.S.Scheme.verifies c.args.roster.now) (map (λ t. trace_of t.now) xs)) (c.deref.ensures.value ∙ sym same) turn)

pub look_at_all-requires : goal.look_at_all-requires
look_at_all-requires g c =
    let ts = c.args.traces.now in
    few_sorted ts c.deref.result.now (sorted_too c.deref.result.now c.in_ok-list.list.items ts c.as_slice.result.now c.deref.ensures.value c.in_ok-list.ensures c.as_slice.ensures) c.requires.fit

pub returns-in-Some : goal.returns-in-Some
returns-in-Some g c =
    let ts = c.args.traces.now in
    let sorted = sorted_too c.deref.result.now c.in_ok-list.list.items ts c.as_slice.result.now c.deref.ensures.value c.in_ok-list.ensures c.as_slice.ensures in
    let turn : IsTurnOf g.S.Scheme.verifies c.args.roster.now (map (λ t. trace_of t.now) c.deref.result.now) (Some c.in-Some.found) =
    subst (λ (o : Option Finding). IsTurnOf g.S.Scheme.verifies c.args.roster.now (map (λ t. trace_of t.now) c.deref.result.now) o) c.in-Some.is c.in_ok-found.ensures in
    turn_is_finding g.S.Scheme.verifies c.args.roster.now (map trace_of ts) c.in-Some.found (subst (λ (xs : List Trace). IsTurnOf g.S.Scheme.verifies c.args.roster.now xs (Some c.in-Some.found)) sorted turn)

pub found_in_world-requires-clause-world : goal.found_in_world-requires-clause-world
found_in_world-requires-clause-world g c = let t = world_there g (goal.at.found_in_world-requires-clause-world g c).In-None c.deref-in-None.result.now c.deref-in-None.ensures.value in (t.world, t.of)

pub found_in_world-requires-clause-few : goal.found_in_world-requires-clause-few
found_in_world-requires-clause-few g c =
    let ts = c.args.traces.now in
    few_sorted ts c.deref-in-None.result.now (sorted_too c.deref-in-None.result.now c.in_ok-list.list.items ts c.as_slice.result.now c.deref-in-None.ensures.value c.in_ok-list.ensures c.as_slice.ensures) c.requires.fit

pub returns : goal.returns
returns g c =
    let t = world_there g (goal.at.returns g c).In-None c.deref-in-None.result.now c.deref-in-None.ensures.value in
    IfOk-weaker c.found_in_world.result
    (λ found. (W : World) → IsWorldOf (map (λ s. trace_of s.now) c.deref-in-None.result.now) W → finding_of found ≡ finding_in W)
    (λ found. IsFindingOf g.S.Scheme.verifies c.args.roster.now (map trace_of c.args.traces.now) (finding_of found))
    (λ found is. world_finding g.S.Scheme.verifies c.args.roster.now (map trace_of c.args.traces.now) t.world t.traced t.of.is_world (finding_of found) (is t.world t.of)) c.found_in_world.ensures
