-- A text given to a reader has the outcome of the value that it decodes to.
use Rattle.std.proofs.Common.{◌≡◌, ◌<◌, ℕ, List, length, Result, Ok, Err, refl, ap, ◌∙◌, arith}
use Rattle.depot_base.specs.Closed.{Closed, closing, rest_of}
use Rattle.depot_base.specs.Format.{◌>>=◌, FirstFault}
use Rattle.depot_base.specs.Sized.{IsValue}
use Rattle.depot_base.specs.declared.check.Check.TheVariants as check
use Rattle.depot_base.specs.declared.proof.Proof.{Proof}
use Rattle.depot_base.specs.declared.statement.Signed.{Signed}
use Rattle.depot_base.proofs.ClosedLaws.{LawfulClosed, closing_lawful, rest_lawful}
use Rattle.depot_model.specs.checks.Checks.{Given, given_statement, given_proof, given_value}
use Rattle.depot_model.specs.readers.Readers.{Reader, told, told_as, reader_outcome, reader_takes}
use Rattle.depot_model.specs.checks.Taking.{at_start, as_statement, as_proof, as_value, given_as}
use Rattle.depot_model.specs.texts.Texts.{signed, proof, IsSigned, IsProof, text_of_signed, text_of_proof}
use Rattle.depot_model.proofs.of_texts.TextLaws.{signed_lawful, proof_lawful}

-- what a text of a form gives
abbrev read_by : {V : Type 0} → Closed V → (V → Given) → List ℕ → Result Given ℕ
read_by f give text = f.read (at_start text) >>= λ v. Ok (give v)

gives_value : {V : Type 0} (f : Closed V) (m : ℕ) → LawfulClosed f m → (give : V → Given) (text : List ℕ) (v : V) → f.fits v → text ≡ f.text v → read_by f give text ≡ Ok (give v)
gives_value f m l give text v fits is = ap (read_by f give) is ∙ ap (λ r. r >>= λ x. Ok (give x)) (l.again 0 v fits)

gives_fault : {V : Type 0} (f : Closed V) (m : ℕ) → LawfulClosed f m → (give : V → Given) (text : List ℕ) (at : ℕ) → f.fault text at → read_by f give text ≡ Err at
gives_fault f m l give text at fault = ap (λ r. r >>= λ x. Ok (give x)) (l.stops 0 text at fault) ∙ ap (λ n. Err n) (omega arith)

module _ (R : Reader) where
  pub statement_read : (text : List ℕ) (s : Signed) → IsSigned s → text ≡ text_of_signed s → reader_takes R as_statement text ≡ reader_outcome R (given_statement s)
  unfolding reader_takes given_as
  statement_read text s fits is = ap (told_as R) (gives_value (closing signed) _ (closing_lawful signed _ signed_lawful) (λ x. given_statement x) text s fits is)

  pub statement_unread : (text : List ℕ) (at : ℕ) → FirstFault signed text at → reader_takes R as_statement text ≡ told (Err (check.IllFormed at)) R
  unfolding reader_takes given_as
  statement_unread text at fault = ap (told_as R) (gives_fault (closing signed) _ (closing_lawful signed _ signed_lawful) (λ x. given_statement x) text at fault)

  pub proof_read : (text : List ℕ) (p : Proof) → IsProof p → text ≡ text_of_proof p → reader_takes R as_proof text ≡ reader_outcome R (given_proof p)
  unfolding reader_takes given_as
  proof_read text p fits is = ap (told_as R) (gives_value (closing proof) _ (closing_lawful proof _ proof_lawful) (λ x. given_proof x) text p fits is)

  pub proof_unread : (text : List ℕ) (at : ℕ) → FirstFault proof text at → reader_takes R as_proof text ≡ told (Err (check.IllFormed at)) R
  unfolding reader_takes given_as
  proof_unread text at fault = ap (told_as R) (gives_fault (closing proof) _ (closing_lawful proof _ proof_lawful) (λ x. given_proof x) text at fault)

  pub value_read : (v : List ℕ) → IsValue v → reader_takes R as_value v ≡ reader_outcome R (given_value v)
  unfolding reader_takes given_as rest_of
  value_read v fits = ap (told_as R) (gives_value (rest_of 65536) _ (rest_lawful 65536) (λ x. given_value x) v v fits refl)

  pub value_too_long : (v : List ℕ) → 65536 < length v → reader_takes R as_value v ≡ told (Err (check.IllFormed 65536)) R
  unfolding reader_takes given_as rest_of
  value_too_long v long = ap (told_as R) (gives_fault (rest_of 65536) _ (rest_lawful 65536) (λ x. given_value x) v 65536 (long, refl))
