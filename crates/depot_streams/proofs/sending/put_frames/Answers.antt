use Rattle.std.proofs.Common.{[]}
use Rattle.depot_streams.proofs.FrameLengths.{lent_is_short}
use Rattle.depot_streams.proofs.sending.put_frames.Goals as goal

pub put_frame-requires : goal.put_frame-requires
put_frame-requires c = lent_is_short c.args.payloads.now c.loop-payload.payload-index (record { ref_ptr = (0, 0); now = [] }) c.loop-payload-test.true c.requires
