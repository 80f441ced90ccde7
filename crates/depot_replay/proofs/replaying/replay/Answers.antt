use Rattle.std.proofs.Common.{Bool, true, false, ap}
use Rattle.depot_world.specs.Setups.{suite_of}
use Rattle.depot_simulation.proofs.BegunRuns.{signers_on}
use Rattle.depot_replay.proofs.replaying.replay.Goals as goal

pub replay_with-requires-clause-scheme : goal.replay_with-requires-clause-scheme
unfolding suite_of
replay_with-requires-clause-scheme g c = ap (λ (b : Bool). (suite_of b).verifies) c.if-schedule.true

pub replay_with-requires-clause-signers : goal.replay_with-requires-clause-signers
unfolding suite_of
replay_with-requires-clause-signers g c = signers_on _ _ c.args.schedule.winter true c.args.schedule.height c.args.schedule.members _ _ _ c.if-schedule.true c.as_slice-members.ensures c.as_slice.ensures.value c.in_ok-signers.ensures

pub replay_with-requires-2-clause-scheme : goal.replay_with-requires-2-clause-scheme
unfolding suite_of
replay_with-requires-2-clause-scheme g c = ap (λ (b : Bool). (suite_of b).verifies) c.if-schedule.false

pub replay_with-requires-2-clause-signers : goal.replay_with-requires-2-clause-signers
unfolding suite_of
replay_with-requires-2-clause-signers g c = signers_on _ _ c.args.schedule.winter false c.args.schedule.height c.args.schedule.members _ _ _ c.if-schedule.false c.as_slice-members.ensures c.as_slice-2.ensures.value c.in_ok-signers-2.ensures
