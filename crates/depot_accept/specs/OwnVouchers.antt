-- The node's own vouchers.
use Rattle.std.specs.Prelude.{◌≡◌, ◌-◌, ℕ, List, Bool, Vec, vec_len}
use Rattle.std.specs.List.{AllByRecursion}
use Rattle.std.specs.Str.{bytes_eq}
use Rattle.std.specs.Vec.{vec_capacity}
use Rattle.depot_base.specs.declared.voucher.Voucher.{Voucher}
use Rattle.depot_base.specs.declared.statement.Statement.TheVariants as statements
use Rattle.depot_model.specs.texts.Texts.{IsStatement, text_of_statement}

-- whether a voucher has the same body as this one
abbrev pub has_body_of_voucher : Voucher → Voucher → Bool
has_body_of_voucher v own = bytes_eq (text_of_statement (statements.Voucher own)) (text_of_statement (statements.Voucher v))

-- how many more a list has reserved memory for
abbrev pub spare : {X Z : Type 0} → Vec X Z → ℕ
spare v = vec_capacity v - vec_len v

-- Each has a text, and names this node.
pub record AreVouchersOf (node : ℕ) (vs : List Voucher) : Type 0 where
  pub texts : AllByRecursion (λ v. IsStatement (statements.Voucher v)) vs
  pub nodes : AllByRecursion (λ v. v.node ≡ node) vs
