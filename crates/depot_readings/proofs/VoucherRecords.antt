-- The records of own vouchers have vouchers alone.
use Rattle.std.proofs.Common.{◌≡◌, ℕ, ◌+◌, List, [], ◌∷◌, ◌++◌, None, length, refl, ap, ◌∙◌}
use Rattle.std.specs.List.{flat_map}
use Rattle.std.proofs.lemmas.List.{map-append}
use Rattle.depot_base.specs.declared.record.Record.TheVariants.{OwnVoucher}
use Rattle.depot_base.specs.declared.update.Update.{Update}
use Rattle.depot_base.specs.declared.voucher.Voucher.{Voucher}
use Rattle.depot_model.specs.exchange.Bundle.{records_where}
use Rattle.depot_model.specs.journals.Journal.{accepted, value_by}
use Rattle.depot_model.specs.checks.Vouching.{records_of}
use Rattle.depot_readings.specs.Lacking.{names_brought}
use Rattle.depot_readings.specs.Named.{names_in}
use Rattle.depot_readings.specs.NewRecords.{vouchers_of}
use Rattle.depot_readings.specs.Places.{accepts}
use Rattle.depot_readings.specs.LeavesWith.{leaves_with}
use Rattle.depot_readings.specs.declared.news.NewVoucher.{NewVoucher}

-- they accept no update
pub none_accepted : (vs : List Voucher) → accepted (records_of vs) ≡ []
none_accepted [] = refl
none_accepted (v ∷ vs) = none_accepted vs

pub none_accepting : (n : ℕ) (vs : List Voucher) → records_where accepts n (records_of vs) ≡ []
unfolding records_where
none_accepting n [] = refl
none_accepting n (v ∷ vs) = none_accepting (n + 1) vs

-- so they name no value
pub none_named : (vs : List Voucher) → names_in (records_of vs) ≡ []
none_named [] = refl
none_named (v ∷ []) = refl
none_named (v ∷ w ∷ vs) = refl

-- bring none of others
pub none_brought : (vs : List Voucher) → names_brought (records_of vs) ≡ []
none_brought [] = refl
none_brought (v ∷ []) = refl
none_brought (v ∷ w ∷ vs) = refl

-- and none at all
pub none_valued : (vs : List Voucher) → flat_map value_by (records_of vs) ≡ []
none_valued [] = refl
none_valued (v ∷ vs) = none_valued vs

-- and count no leaf
pub no_leaves : (us : List Update) (leaves : ℕ) (vs : List Voucher) → leaves_with us leaves (records_of vs) ≡ None
no_leaves us leaves [] = refl
no_leaves us leaves (v ∷ []) = refl
no_leaves us leaves (v ∷ w ∷ vs) = refl

-- one more
pub records_push : (xs : List NewVoucher) (x : NewVoucher) → records_of (vouchers_of (xs ++ x ∷ [])) ≡ records_of (vouchers_of xs) ++ OwnVoucher x.voucher ∷ []
records_push xs x = ap records_of (map-append (λ (y : NewVoucher). y.voucher) xs (x ∷ [])) ∙ map-append (λ (v : Voucher). OwnVoucher v) (vouchers_of xs) (x.voucher ∷ [])

-- of no length, no elements
pub none_left : {X : Type 0} (xs : List X) → length xs ≡ 0 → xs ≡ []
none_left [] e = refl
none_left (x ∷ xs) e = absurd cc
