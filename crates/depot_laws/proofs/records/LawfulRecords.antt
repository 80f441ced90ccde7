-- Which records have a text, by their kind.
use Rattle.std.proofs.Common.{ℕ, List, arith}
use Rattle.depot_base.specs.Closed.{rest_of}
use Rattle.depot_base.specs.Format.{number}
use Rattle.depot_base.specs.Sized.{IsValue}
use Rattle.depot_base.specs.declared.statement.Signed.{Signed}
use Rattle.depot_base.specs.declared.proof.Proof.{Proof}
use Rattle.depot_base.specs.declared.record.Record.TheVariants.{OwnVoucher, Foreign, Conviction, Held}
use Rattle.depot_base.specs.declared.voucher.Voucher.{Voucher}
use Rattle.depot_base.specs.declared.statement.Statement.TheVariants as statements
use Rattle.depot_model.specs.texts.Texts.{statement, voucher_body, IsStatement, IsSigned, IsProof}
use Rattle.depot_model.specs.texts.Records.{tagged, record_text, IsRecord}

pub IsRecord-Foreign : (s : Signed) → IsSigned s → IsRecord (Foreign s)
unfolding record_text tagged number
IsRecord-Foreign s fits = ((omega arith, omega arith), fits)

pub IsSigned-from_record : (s : Signed) → IsRecord (Foreign s) → IsSigned s
unfolding record_text tagged
IsSigned-from_record s fits = fits.1

pub IsRecord-Conviction : (p : Proof) → IsProof p → IsRecord (Conviction p)
unfolding record_text tagged number
IsRecord-Conviction p fits = ((omega arith, omega arith), fits)

pub IsProof-from_record : (p : Proof) → IsRecord (Conviction p) → IsProof p
unfolding record_text tagged
IsProof-from_record p fits = fits.1

pub IsRecord-Held : (v : List ℕ) → IsValue v → IsRecord (Held v)
unfolding record_text tagged number rest_of
IsRecord-Held v fits = ((omega arith, omega arith), fits)

-- a voucher is in the ranges of a statement where it is in those of a body
pub IsStatement-from_voucher : (v : Voucher) → voucher_body.fits v → IsStatement (statements.Voucher v)
unfolding statement voucher_body number
IsStatement-from_voucher v fits = ((omega arith, omega arith), ((omega arith, omega arith), fits.1.1))

pub IsStatement-from_own_voucher : (v : Voucher) → IsRecord (OwnVoucher v) → IsStatement (statements.Voucher v)
unfolding record_text tagged
IsStatement-from_own_voucher v fits = IsStatement-from_voucher v fits.1

pub IsValue-from_record : (v : List ℕ) → IsRecord (Held v) → IsValue v
unfolding record_text tagged rest_of
IsValue-from_record v fits = fits.1
