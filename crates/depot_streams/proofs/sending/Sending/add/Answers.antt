use Rattle.std.proofs.Common.{◌≡◌, ℕ, List, ◌++◌, length, append_assoc, refl, sym, ap, ◌∙◌, arith, length-append}
use Rattle.std.specs.List.{flat_map}
use Rattle.std.proofs.lemmas.List.{length-map}
use Rattle.std.proofs.lemmas.Grind.{flat_map-append}
use Rattle.std.specs.Borrow.{Bor}
use Rattle.depot_model.specs.texts.Frames.{text_of_frame}
use Rattle.depot_streams.specs.Sendings.{payloads_of, frames_under}
use Rattle.depot_streams.proofs.FrameLengths.{frames_long, bytes_both}
use Rattle.depot_streams.proofs.sending.Sending.add.Goals as goal

pub returns : goal.returns
returns c =
    let statements = frames_under 2 (payloads_of c.args.statements.now) in
    let behind = frames_under 3 (payloads_of c.args.values.now) in
    let before = c.args.self.now.frames in
    let frames : c.put_frames-2.new.out ≡ before ++ flat_map text_of_frame (statements ++ behind) =
    c.in_ok-put_frames-2.ensures ∙ ap (λ (bytes : List ℕ). bytes ++ flat_map text_of_frame behind) c.in_ok-put_frames.ensures
    ∙ append_assoc before (flat_map text_of_frame statements) (flat_map text_of_frame behind) ∙ sym (ap (λ (bytes : List ℕ). before ++ bytes) (flat_map-append text_of_frame statements behind)) in
    let long = length-append before (flat_map text_of_frame (statements ++ behind)) in
    let count = length-map c.args.statements.now (λ (t : Bor (List ℕ)). t.now) in
    let behind_count = length-map c.args.values.now (λ (t : Bor (List ℕ)). t.now) in
    record {
      frames = frames;
      updates = omega (arith, count);
      values = omega (arith, behind_count);
      ids = refl;
      short = record {
        within = omega (arith, ap length frames, long, frames_long (statements ++ behind), bytes_both statements behind, c.frames_length.ensures.bytes 2, c.frames_length-2.ensures.bytes 3, ap length c.as_slice.ensures, c.if-bytes.false);
        few = omega (arith, c.if-count.false);
      };
    }
