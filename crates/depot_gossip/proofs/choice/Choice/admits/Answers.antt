use Rattle.std.proofs.Common.{◌+◌, length, ap, arith}
use Rattle.depot_gossip.proofs.BoundedChoices.{room_told}
use Rattle.depot_gossip.proofs.choice.Choice.admits.Goals as goal

pub returns-clause-room : goal.returns-clause-room
returns-clause-room c = λ me J xs x k p.
    let before = length c.as_slice-before.result.now in
    room_told me J c.args.room.now xs x c.args.self.now c.args.parcel.now c.args.fresh.now before (before + length c.as_slice.result.now) (c.frame_count.result + c.frame_count-2.result) (length c.as_slice-2.result.now + length c.as_slice-3.result.now) c.has.result k p
    (ap length c.as_slice-before.ensures) (omega (arith, ap length c.as_slice.ensures)) (omega (arith, c.frame_count.ensures.count, c.frame_count-2.ensures.count)) (omega (arith, ap length c.as_slice-2.ensures, ap length c.as_slice-3.ensures)) c.has.ensures.has
