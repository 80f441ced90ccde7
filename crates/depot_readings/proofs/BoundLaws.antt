-- How much a lawful journal can hold.
use Rattle.std.proofs.Common.{◌≡◌, ℕ, ◌+◌, ◌<◌, ◌≤◌, List, [], ◌∷◌, ◌++◌, length, ap, arith, length-append}
use Rattle.std.proofs.lemmas.List.{length-map}
use Rattle.depot_base.specs.declared.record.Record.{Record}
use Rattle.depot_base.specs.declared.record.Record.TheVariants.{Birth, OwnPut, OwnVoucher, Foreign, Conviction, Held}
use Rattle.depot_base.specs.declared.statement.Signed.{Signed}
use Rattle.depot_base.specs.declared.update.Update.{Update}
use Rattle.depot_base.specs.declared.voucher.Voucher.{Voucher}
use Rattle.depot_model.specs.checks.Checks.{Setting}
use Rattle.depot_model.specs.journals.Journal.{accepted, foreign, foreign_by, own}
use Rattle.depot_model.specs.journals.Lawful.{IsLawful}
use Rattle.depot_model.specs.checks.Vouching.{records_of}
use Rattle.depot_laws.proofs.records.JournalLimits.{within_from_room}
use Rattle.depot_laws.proofs.own_updates.OwnTexts.{few_own, lawful_is_short}
use Rattle.depot_laws.proofs.lists.Splits.{lawful_front, lawful_last}
use Rattle.depot_readings.specs.NewRecords.{vouchers_of}
use Rattle.depot_readings.specs.Totals.{AreTotals}
use Rattle.depot_readings.specs.declared.news.NewVoucher.{NewVoucher}
use Rattle.depot_readings.specs.declared.totals.Totals.{Totals}
use Rattle.depot_readings.proofs.LeafLaws.{few_accepted}

one_foreign : (r : Record) → length (foreign_by r) ≤ 1
one_foreign (Birth node h) = omega arith
one_foreign (OwnPut u value) = omega arith
one_foreign (OwnVoucher v) = omega arith
one_foreign (Foreign s) = omega arith
one_foreign (Conviction p) = omega arith
one_foreign (Held value) = omega arith

-- no more statements of others than records
few_foreign : (J : List Record) → length (foreign J) ≤ length J
few_foreign [] = omega arith
few_foreign (r ∷ J) = let one = one_foreign r in let more = few_foreign J in omega (arith, length-append (foreign_by r) (foreign J))

-- what a lawful journal holds before its last record
record AreWithin (J : List Record) (r : Record) : Type 0 where
  pub records : length J < 131072
  pub accepted : length (accepted J) < 131072
  pub foreign : length (foreign J) < 131072
  pub own : length (own J) < 131072

within : (here : Setting) (J : List Record) (r : Record) → IsLawful here (J ++ r ∷ []) → AreWithin J r
within here J r l =
    let w = within_from_room here.me J (r ∷ []) (lawful_last here J r l).room in
    let few : length J < 131072 = omega (arith, w.records, length-append J (r ∷ [])) in
    record {
      records = few;
      accepted = omega (arith, few, few_accepted J);
      foreign = omega (arith, few, few_foreign J);
      own = omega (arith, few, few_own J);
    }

-- few enough that one more can be counted
pub few_updates : (here : Setting) (J : List Record) (r : Record) (us : List Update) → IsLawful here (J ++ r ∷ []) → accepted J ≡ us → length us < 4294967295
few_updates here J r us l is = let w = within here J r l in omega (arith, w.accepted, ap length is)

pub few_statements : (here : Setting) (J : List Record) (r : Record) (kept : List Signed) → IsLawful here (J ++ r ∷ []) → foreign J ≡ kept → length kept ≤ 131072
few_statements here J r kept l is = let w = within here J r l in omega (arith, w.foreign, ap length is)

pub few_of_own : (here : Setting) (me : ℕ) (J : List Record) (r : Record) (t : Totals) → IsLawful here (J ++ r ∷ []) → AreTotals me J t → t.own < 131072
few_of_own here me J r t l a = let w = within here J r l in omega (arith, w.own, a.own)

-- the records before others
few_records : (here : Setting) (J more : List Record) → IsLawful here (J ++ more) → length J ≤ 131072
few_records here J more l = lawful_is_short here J (lawful_front here J more l)

-- the same for their count, where there are some that hold this
pub few_counted : (P : List Record → Type 0) (here : Setting) (more : List Record) (count : ℕ) → (J : List Record) × (P J × ((count ≡ length J) × IsLawful here (J ++ more))) → count ≤ 131072
few_counted P here more count (J, (holds, (is, l))) = omega (arith, is, few_records here J more l)

-- and with more records after these
pub few_with : (P : List Record → Type 0) (here : Setting) (more : List Record) (count : ℕ) → (J : List Record) × (P J × ((count ≡ length J) × IsLawful here (J ++ more))) → count + length more ≤ 131072
few_with P here more count (J, (holds, (is, l))) = omega (arith, is, lawful_is_short here (J ++ more) l, length-append J more)

-- own vouchers after others
pub few_vouchers : (here : Setting) (J : List Record) (xs : List NewVoucher) → IsLawful here (J ++ records_of (vouchers_of xs)) → length xs ≤ 131072
few_vouchers here J xs l = omega (arith, lawful_is_short here (J ++ records_of (vouchers_of xs)) l, length-append J (records_of (vouchers_of xs)), length-map (vouchers_of xs) (λ (v : Voucher). OwnVoucher v), length-map xs (λ (x : NewVoucher). x.voucher))
