use Rattle.std.proofs.Common.{◌≡◌, ◌++◌, take}
use Rattle.std.specs.List.{flat_map}
use Rattle.depot_base.specs.Tags.{frame_byte}
use Rattle.depot_model.specs.texts.Frames.{text_of_frame}
use Rattle.depot_streams.specs.Sendings.{payloads_of, frames_under}
use Rattle.depot_streams.proofs.sending.put_frames.Given as goal

abbrev pub invariant-loop-payload : goal.invariant-loop-payload
invariant-loop-payload l = l.out ≡ l.initial.out ++ flat_map text_of_frame (frames_under (frame_byte l.tag) (payloads_of (take l.payload-index l.payloads)))
