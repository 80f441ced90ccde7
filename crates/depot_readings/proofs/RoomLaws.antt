-- The limit that a growth would pass, from what is counted of a journal.
use Rattle.std.proofs.Common.{◌≡◌, ℕ, ◌+◌, ◌*◌, ◌≤◌, ◌^◌, List, [], ◌∷◌, ◌++◌, length, Option, None, Ok, refl, sym, ◌∙◌, arith, inl, inr}
use Rattle.std.proofs.lemmas.List.Sums.{sum_by-cons}
use Rattle.std.specs.Global.{Vec}
use Rattle.std.specs.List.{AllByRecursion}
use Rattle.depot_base.specs.declared.proof.Proof.{Proof}
use Rattle.depot_base.specs.declared.record.Record.{Record}
use Rattle.depot_base.specs.declared.record.Record.TheVariants.{Birth, OwnPut, Foreign, Conviction, Held}
use Rattle.depot_base.specs.declared.statement.Signed.{Signed}
use Rattle.depot_base.specs.declared.statement.Statement.{Statement}
use Rattle.depot_base.specs.declared.statement.Statement.TheVariants as statements
use Rattle.depot_base.specs.declared.voucher.Voucher.{Voucher}
use Rattle.depot_model.specs.declared.taken.Taken.TheVariants.{New}
use Rattle.depot_model.specs.checks.Checks.{Setting, given_statement, answer_to}
use Rattle.depot_model.specs.journals.Journal.{accepted}
use Rattle.depot_model.specs.journals.Lawful.{IsLawful}
use Rattle.depot_model.specs.texts.Records.{IsRecord, journal_bytes, text_of_record}
use Rattle.depot_model.specs.checks.Room.{foreign_leaves, takes_update, leaves_counted, limit_passed, full_with, full_by}
use Rattle.depot_model.specs.checks.Vouching.{records_of}
use Rattle.depot_laws.proofs.records.Counts.{leaves_behind, taken_count}
use Rattle.depot_laws.proofs.records.NewVouchers.{takes_none}
use Rattle.depot_readings.specs.NewRecords.{bytes_of_records, records_in, vouchers_of, IsGrowth, AreNew}
use Rattle.depot_readings.specs.LeavesWith.{leaves_then, leaves_with}
use Rattle.depot_readings.specs.declared.news.News.{News}
use Rattle.depot_readings.specs.declared.news.News.TheVariants as news
use Rattle.depot_readings.proofs.RecordTextLaws.{record_short}
use Rattle.depot_readings.proofs.VoucherRecords.{no_leaves}

-- ---- the leaves that count

-- where no update of another comes, none do
none_counted : (me : ℕ) (J : List Record) (r : Record) → takes_update r ≡ [] → leaves_counted me J (r ∷ []) ≡ None
none_counted me J r none = rw none refl

-- with a new statement
counted_then : (here : Setting) (J : List Record) (s : Signed) → IsLawful here J → answer_to here J (given_statement s) ≡ Ok New
    → leaves_counted here.me J (Foreign s ∷ []) ≡ leaves_then (accepted J) (length (foreign_leaves here.me J)) s.statement
counted_then here J s l new = by_kind s.statement refl where
  by_kind : (st : Statement) → s.statement ≡ st → leaves_counted here.me J (Foreign s ∷ []) ≡ leaves_then (accepted J) (length (foreign_leaves here.me J)) st
  by_kind (statements.Update u) is = rw (taken_count here J s u l is new, is) refl
  by_kind (statements.Voucher v) is = rw is refl

-- and with a conviction at the front
counted_behind : (me : ℕ) (J : List Record) (p : Proof) (new : List Record) → leaves_counted me J (Conviction p ∷ new) ≡ leaves_counted me J new
counted_behind me J p new = rw (leaves_behind me J p new) refl

-- own vouchers count no leaf
counted_with_vouchers : (me : ℕ) (J : List Record) (vs : List Voucher) → leaves_counted me J (records_of vs) ≡ None
counted_with_vouchers me J vs = rw (takes_none vs) refl

-- with a growth
pub counted_with : (here : Setting) (J : List Record) (news : News) → IsLawful here J → AreNew here J (records_in news) → leaves_counted here.me J (records_in news) ≡ leaves_with (accepted J) (length (foreign_leaves here.me J)) (records_in news)
counted_with here J news.Nothing l new = refl
counted_with here J (news.Birth node roster) l new = none_counted here.me J (Birth node roster) refl
counted_with here J (news.Put u values id parents) l new = none_counted here.me J (OwnPut u values) refl
counted_with here J (news.Foreign s id parents) l new = counted_then here J s l (new s (inl refl))
counted_with here J (news.Conviction p) l new = none_counted here.me J (Conviction p) refl
counted_with here J (news.Held value hash) l new = none_counted here.me J (Held value) refl
counted_with here J (news.Convicting p s id parents) l new = counted_behind here.me J p (Foreign s ∷ []) ∙ counted_then here J s l (new s (inr (inl refl)))
counted_with here J (news.Vouchers xs) l new = counted_with_vouchers here.me J (vouchers_of xs) ∙ sym (no_leaves (accepted J) (length (foreign_leaves here.me J)) (vouchers_of xs))

-- ---- all three

-- the limit that records pass is that of the counts, where there is one of them
pub full_is_limit : (me : ℕ) (J new : List Record) (records bytes : ℕ) (leaves : Option ℕ) → (length new ≡ 0 → ⊥) → length (J ++ new) ≡ records → journal_bytes (J ++ new) ≡ bytes → leaves_counted me J new ≡ leaves
    → limit_passed (length J) (journal_bytes J) (length (foreign_leaves me J)) records bytes leaves ≡ full_by me J new
unfolding full_with
full_is_limit me J [] records bytes leaves some long large counted = absurd (some refl)
full_is_limit me J (r ∷ rs) records bytes leaves some long large counted = rw (← long, ← large, ← counted) refl

-- ---- how large a growth may be

-- a record takes at most 1,096,365 bytes
bytes_short : (rs : List Record) → AllByRecursion IsRecord rs → bytes_of_records rs ≤ 1096365 * length rs
bytes_short [] fit = omega arith
bytes_short (r ∷ rs) fit = let rest = bytes_short rs fit.1 in omega (arith, sum_by-cons (λ (x : Record). 5 + length (text_of_record x)) r rs, record_short r fit.0, rest)

-- a growth has few
pub growth_is_small : (news : News) (bytes : ℕ) (texts : Option (Vec (List ℕ))) → IsGrowth news bytes texts → bytes ≤ 2 ^ 38
growth_is_small news bytes texts g = let short = bytes_short (records_in news) g.fit in omega (arith, g.sum, g.few, short)

-- ---- the test whether there is anything

-- ---- the limits one by one

-- and no fewer than those of its gates and lengths
pub bytes_least : (rs : List Record) → 5 * length rs ≤ bytes_of_records rs
bytes_least [] = omega arith
bytes_least (r ∷ rs) = omega (arith, bytes_least rs, sum_by-cons (λ (x : Record). 5 + length (text_of_record x)) r rs)
