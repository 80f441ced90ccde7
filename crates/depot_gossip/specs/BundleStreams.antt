-- The stream of a bundle.
use Rattle.std.specs.Prelude.{◌≡◌, List, ◌++◌, length, map}
use Rattle.std.specs.List.{flat_map}
use Rattle.depot_base.specs.declared.record.Record.{Record}
use Rattle.depot_model.specs.declared.hello.Hello.{Hello}
use Rattle.depot_model.specs.texts.Frames.{text_of_frame}
use Rattle.depot_model.specs.exchange.Bundle.{Signs, proof_frame, end_frame, proofs_for, vouchers_for, voucher_frame}
use Rattle.depot_streams.specs.declared.sending.Sending.{Sending}
use Rattle.depot_gossip.specs.declared.front.BundleFront.{BundleFront}
use Rattle.depot_gossip.specs.declared.bundle_stream.Bundled.{Bundled}

-- The stream has the frames of the proofs, the vouchers, what is sent, and End, and they are counted.
pub record IsStream (sign : Signs) (J : List Record) (h : Hello) (s : Sending) (b : Bundled) : Type 0 where
  pub bytes : b.bytes ≡ flat_map text_of_frame (map proof_frame (proofs_for J h)) ++ (flat_map text_of_frame (map (voucher_frame sign) (vouchers_for J s.ids)) ++ (s.frames ++ text_of_frame (end_frame s.more)))
  pub proofs : b.counts.proofs ≡ length (proofs_for J h)
  pub vouchers : b.counts.vouchers ≡ length (vouchers_for J s.ids)
  pub updates : b.counts.updates ≡ s.updates
  pub values : b.counts.values ≡ s.values
  pub more : b.more ≡ s.more

-- The bytes of the leading frames, of what is sent, and of End follow one another, and so do their counts.
pub record IsJoined (f : BundleFront) (s : Sending) (b : Bundled) : Type 0 where
  pub bytes : b.bytes ≡ f.proofs.bytes ++ (f.vouchers.bytes ++ (s.frames ++ text_of_frame (end_frame s.more)))
  pub proofs : b.counts.proofs ≡ f.proofs.count
  pub vouchers : b.counts.vouchers ≡ f.vouchers.count
  pub updates : b.counts.updates ≡ s.updates
  pub values : b.counts.values ≡ s.values
  pub more : b.more ≡ s.more
