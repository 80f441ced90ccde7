-- What precedes the updates and values of a bundle.
use Rattle.std.specs.Prelude.{◌≡◌, ◌++◌, ◌∷◌, [], ℕ, List, OnOk, Result, length, map}
use Rattle.std.specs.List.{flat_map}
use Rattle.depot_base.specs.declared.record.Record.{Record}
use Rattle.depot_model.specs.declared.hello.Hello.{Hello}
use Rattle.depot_model.specs.texts.Frames.{Frame, text_of_frame}
use Rattle.depot_model.specs.exchange.Bundle.{Signs, proof_frame, proofs_for, vouchers_for, voucher_frame}
use Rattle.depot_gossip.specs.declared.front.BundleFront.{BundleFront}
use Rattle.depot_gossip.specs.declared.front.FrontFrames.{FrontFrames}

-- The bytes are those of these frames, and they are counted.
pub record AreFrames (fs : List Frame) (made : FrontFrames) : Type 0 where
  pub bytes : made.bytes ≡ flat_map text_of_frame fs
  pub count : made.count ≡ length fs

-- after `Ok` this frame follows whatever frames were there
abbrev pub AddsFrame : {A E : Type 0} → FrontFrames → Frame → FrontFrames → Result A E → Type 0
AddsFrame old f new result = (fs : List Frame) → AreFrames fs old → OnOk result (AreFrames (fs ++ f ∷ []) new)

-- These are the frames of the proofs for a hello and of the own vouchers that name one of these ids, as far as these records go.
pub record IsFront (sign : Signs) (J : List Record) (h : Hello) (ids : List (List ℕ)) (f : BundleFront) : Type 0 where
  pub proofs : AreFrames (map proof_frame (proofs_for J h)) f.proofs
  pub vouchers : AreFrames (map (voucher_frame sign) (vouchers_for J ids)) f.vouchers
