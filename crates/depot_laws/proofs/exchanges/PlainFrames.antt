-- Frames that carry a proof, a signed statement or a value are frames, and none of them is End.
use Rattle.std.proofs.Common.{◌≡◌, ℕ, ◌==◌, List, [], ◌∷◌, map, false, refl, inl, inr, arith}
use Rattle.std.specs.List.{AllByRecursion}
use Rattle.depot_base.specs.Sized.{IsValue}
use Rattle.depot_base.specs.declared.statement.Signed.{Signed}
use Rattle.depot_base.specs.declared.proof.Proof.{Proof}
use Rattle.depot_model.specs.lists.Lists.{IsIn}
use Rattle.depot_model.specs.texts.Texts.{IsSigned, IsProof}
use Rattle.depot_model.specs.texts.Frames.{Frame, IsFrame}
use Rattle.depot_model.specs.exchange.Bundle.{statement_frame, value_frame, proof_frame}
use Rattle.depot_model.proofs.of_texts.TextLaws.{signed_lawful, proof_lawful}

-- a frame that isn't End
pub record IsPlainFrame (f : Frame) : Type 0 where
  pub good : IsFrame f
  pub other : (f.tag == 4) ≡ false

pub plain_proof : (p : Proof) → IsProof p → IsPlainFrame (proof_frame p)
plain_proof p fits = let short = proof_lawful.short p fits in record { good = record { least = omega arith; most = omega arith; short = omega (arith, short); end = λ e. absurd (omega (arith, e)) }; other = refl }

pub plain_statement : (s : Signed) → IsSigned s → IsPlainFrame (statement_frame s)
plain_statement s fits = let short = signed_lawful.short s fits in record { good = record { least = omega arith; most = omega arith; short = omega (arith, short); end = λ e. absurd (omega (arith, e)) }; other = refl }

pub plain_value : (x : List ℕ) → IsValue x → IsPlainFrame (value_frame x)
plain_value x fits = record { good = record { least = omega arith; most = omega arith; short = omega (arith, fits); end = λ e. absurd (omega (arith, e)) }; other = refl }

-- each of the frames that are made of a list
pub all_mapped : {X : Type 0} (frame : X → Frame) (xs : List X) → ((x : X) → IsIn x xs → IsPlainFrame (frame x)) → AllByRecursion IsPlainFrame (map frame xs)
all_mapped frame [] each = tt
all_mapped frame (x ∷ xs) each = (each x (inl refl), all_mapped frame xs (λ y on. each y (inr on)))
