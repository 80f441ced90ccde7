use Rattle.std.proofs.Common.{◌≡◌, ◌*◌, ◌≤◌, take}
use Rattle.depot_streams.specs.Sendings.{payloads_of}
use Rattle.depot_streams.proofs.FrameLengths.{length_under}
use Rattle.depot_streams.proofs.sending.frames_length.Given as goal

abbrev pub invariant-loop-payload : goal.invariant-loop-payload
invariant-loop-payload l = record {
  so_far : l.bytes ≡ length_under (payloads_of (take l.payload-index l.payloads));
  short : l.bytes ≤ l.payload-index * 131077;
}
