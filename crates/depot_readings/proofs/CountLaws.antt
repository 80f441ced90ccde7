-- How much a journal takes with a growth after it.
use Rattle.std.proofs.Common.{◌≡◌, ℕ, ◌+◌, ◌≤◌, List, [], ◌∷◌, ◌++◌, length, Option, refl, sym, ap, subst, ◌∙◌, arith, not, eqb, append_assoc, length-append}
use Rattle.std.specs.Option.{unwrap_or}
use Rattle.std.specs.List.{filter}
use Rattle.std.proofs.lemmas.List.{append-nil}
use Rattle.std.proofs.lemmas.Grind.{flat_map-append}
use Rattle.depot_base.specs.declared.record.Record.{Record}
use Rattle.depot_base.specs.declared.record.Record.TheVariants.{Birth, OwnPut, OwnVoucher, Foreign, Conviction, Held}
use Rattle.depot_base.specs.declared.proof.Proof.{Proof}
use Rattle.depot_base.specs.declared.statement.Signed.{Signed}
use Rattle.depot_base.specs.declared.statement.Statement.{Statement}
use Rattle.depot_base.specs.declared.statement.Statement.TheVariants as statements
use Rattle.depot_base.specs.declared.update.Update.{Update}
use Rattle.depot_base.specs.declared.voucher.Voucher.{Voucher}
use Rattle.depot_model.specs.checks.Checks.{Setting}
use Rattle.depot_model.specs.updates.History.{leaves_of}
use Rattle.depot_model.specs.journals.Journal.{accepted, accepted_by}
use Rattle.depot_model.specs.journals.Lawful.{IsLawful}
use Rattle.depot_model.specs.texts.Records.{journal_bytes}
use Rattle.depot_model.specs.checks.Room.{foreign_leaves, full_by, leaves_counted, limit_passed}
use Rattle.depot_model.specs.checks.Vouching.{records_of}
use Rattle.depot_laws.proofs.records.Counts.{bytes_more, put_count, silent_leaves}
use Rattle.depot_laws.proofs.own_updates.Nexts.{next_of}
use Rattle.depot_laws.proofs.own_updates.OwnTexts.{lawful_is_short, lawful_is_light}
use Rattle.depot_laws.proofs.lists.Splits.{lawful_front, lawful_last, silent}
use Rattle.depot_readings.specs.Counts.{AreCountsOf}
use Rattle.depot_readings.specs.NewRecords.{AreNew, bytes_of_records, records_in, vouchers_of}
use Rattle.depot_readings.specs.LeavesWith.{leaves_then, leaves_with_record, leaves_with, number_after}
use Rattle.depot_readings.specs.declared.counts.JournalCounts.{JournalCounts}
use Rattle.depot_readings.specs.declared.news.News.{News}
use Rattle.depot_readings.specs.declared.news.News.TheVariants as news
use Rattle.depot_readings.proofs.RoomLaws.{counted_with, full_is_limit}
use Rattle.depot_readings.proofs.StateGrowth.{lawful_both}
use Rattle.depot_readings.proofs.TotalLaws.{leaves_after}
use Rattle.depot_readings.proofs.VoucherRecords.{no_leaves, none_accepted}

-- ---- the limit

-- the limit that records pass is that of the counts, where there is one of them
pub limit_of_counts : (me : ℕ) (J new : List Record) (t : JournalCounts) (n b : ℕ) (leaves : Option ℕ) → AreCountsOf me J t → (n ≡ 0 → ⊥) → n ≡ length new → b ≡ bytes_of_records new → leaves ≡ leaves_counted me J new
    → limit_passed t.records t.bytes t.leaves (t.records + n) (t.bytes + b) leaves ≡ full_by me J new
limit_of_counts me J new t n b leaves a some many large counted =
    rw (a.records, a.bytes, a.leaves) (full_is_limit me J new (length J + n) (journal_bytes J + b) leaves (λ none. some (many ∙ none))
    (omega (arith, length-append J new, many))
    (omega (arith, bytes_more J new, large))
    (sym counted))

-- the leaves that count with a growth that is new to a lawful journal
pub leaves_of_growth : (here : Setting) (J given : List Record) (news : News) (t : JournalCounts) (leaves : Option ℕ) → records_in news ≡ given → IsLawful here J → AreNew here J given → AreCountsOf here.me J t → leaves ≡ leaves_with (accepted J) t.leaves given
    → leaves ≡ leaves_counted here.me J given
leaves_of_growth here J given news t leaves same l new a counted =
    counted ∙ ap (λ (n : ℕ). leaves_with (accepted J) n given) a.leaves
    ∙ subst (λ (rs : List Record). leaves_with (accepted J) (length (foreign_leaves here.me J)) rs ≡ leaves_counted here.me J rs) same
    (sym (counted_with here J news l (subst (λ (rs : List Record). AreNew here J rs) (sym same) new)))

-- ---- leaves

same_leaves : (me : ℕ) (J K : List Record) → accepted J ≡ accepted K → length (foreign_leaves me J) ≡ length (foreign_leaves me K)
unfolding foreign_leaves
same_leaves me J K same = ap (λ (us : List Update). length (filter (λ (t : Update). not (eqb t.writer me)) (leaves_of us))) same

number_or : (us : List Update) (n : ℕ) (s : Statement) → unwrap_or (leaves_then us n s) n ≡ number_after us n s
number_or us n (statements.Update u) = refl
number_or us n (statements.Voucher v) = refl

leaves_after_one : (here : Setting) (J : List Record) (r : Record) → IsLawful here (J ++ r ∷ [])
    → unwrap_or (leaves_with_record (accepted J) (length (foreign_leaves here.me J)) r) (length (foreign_leaves here.me J)) ≡ length (foreign_leaves here.me (J ++ r ∷ []))
leaves_after_one here J (Birth node h) l = ap length (sym (silent_leaves here.me J (Birth node h) refl))
leaves_after_one here J (OwnPut u values) l =
    let may = (lawful_last here J (OwnPut u values) l).may in
    sym (put_count here J u values (lawful_front here J (OwnPut u values ∷ []) l) (next_of may) may.fresh)
leaves_after_one here J (OwnVoucher v) l = ap length (sym (silent_leaves here.me J (OwnVoucher v) refl))
leaves_after_one here J (Foreign s) l = number_or (accepted J) (length (foreign_leaves here.me J)) s.statement ∙ leaves_after here J s l
leaves_after_one here J (Conviction p) l = ap length (sym (silent_leaves here.me J (Conviction p) refl))
leaves_after_one here J (Held value) l = ap length (sym (silent_leaves here.me J (Held value) refl))

leaves_after_both : (here : Setting) (J : List Record) (p : Proof) (s : Signed) → IsLawful here (J ++ Conviction p ∷ Foreign s ∷ [])
    → unwrap_or (leaves_then (accepted J) (length (foreign_leaves here.me J)) s.statement) (length (foreign_leaves here.me J)) ≡ length (foreign_leaves here.me (J ++ Conviction p ∷ Foreign s ∷ []))
leaves_after_both here J p s l =
    let behind : List Record = J ++ Conviction p ∷ [] in
    let updates : accepted behind ≡ accepted J = silent accepted_by J (Conviction p) refl in
    let leaves : length (foreign_leaves here.me behind) ≡ length (foreign_leaves here.me J) = ap length (silent_leaves here.me J (Conviction p) refl) in
    ap (λ (us : List Update). unwrap_or (leaves_then us (length (foreign_leaves here.me J)) s.statement) (length (foreign_leaves here.me J))) (sym updates)
    ∙ ap (λ (n : ℕ). unwrap_or (leaves_then (accepted behind) n s.statement) n) (sym leaves)
    ∙ leaves_after_one here behind (Foreign s) (lawful_both here J p s l)
    ∙ ap (λ (rs : List Record). length (foreign_leaves here.me rs)) (append_assoc J (Conviction p ∷ []) (Foreign s ∷ []))

-- own vouchers bring no update
leaves_after_vouchers : (me : ℕ) (J : List Record) (vs : List Voucher) → length (foreign_leaves me J) ≡ length (foreign_leaves me (J ++ records_of vs))
leaves_after_vouchers me J vs = same_leaves me J (J ++ records_of vs) (sym (flat_map-append accepted_by J (records_of vs) ∙ ap (λ (us : List Update). accepted J ++ us) (none_accepted vs) ∙ append-nil (accepted J)))

-- the leaves that are reported with a growth, and else those from before
leaves_grown : (here : Setting) (J : List Record) (news : News) → IsLawful here (J ++ records_in news)
    → unwrap_or (leaves_with (accepted J) (length (foreign_leaves here.me J)) (records_in news)) (length (foreign_leaves here.me J)) ≡ length (foreign_leaves here.me (J ++ records_in news))
leaves_grown here J news.Nothing l = ap (λ (rs : List Record). length (foreign_leaves here.me rs)) (sym (append-nil J))
leaves_grown here J (news.Birth node roster) l = leaves_after_one here J (Birth node roster) l
leaves_grown here J (news.Put u values id parents) l = leaves_after_one here J (OwnPut u values) l
leaves_grown here J (news.Foreign s id parents) l = leaves_after_one here J (Foreign s) l
leaves_grown here J (news.Conviction p) l = leaves_after_one here J (Conviction p) l
leaves_grown here J (news.Held value hash) l = leaves_after_one here J (Held value) l
leaves_grown here J (news.Convicting p s id parents) l = leaves_after_both here J p s l
leaves_grown here J (news.Vouchers xs) l =
    ap (λ (o : Option ℕ). unwrap_or o (length (foreign_leaves here.me J))) (no_leaves (accepted J) (length (foreign_leaves here.me J)) (vouchers_of xs))
    ∙ leaves_after_vouchers here.me J (vouchers_of xs)

-- ---- all counts

-- a lawful journal has so few of each that they can be counted
pub record AreFew (t : JournalCounts) (given : List Record) : Type 0 where
  pub records : t.records + length given ≤ 131072
  pub bytes : t.bytes + bytes_of_records given ≤ 1073741824

pub few_counts : (given : List Record) (t : JournalCounts) → ((here : Setting) × ((J : List Record) × (IsLawful here (J ++ given) × AreCountsOf here.me J t))) → AreFew t given
few_counts given t (here, (J, (l, a))) = record {
  records = omega (arith, lawful_is_short here (J ++ given) l, length-append J given, a.records);
  bytes = omega (arith, lawful_is_light here (J ++ given) l, bytes_more J given, a.bytes);
}

-- those of a journal with a growth after
pub counts_grow : (here : Setting) (J given : List Record) (news : News) (t u : JournalCounts) (n b : ℕ) (leaves : Option ℕ) → records_in news ≡ given → IsLawful here (J ++ given) → AreCountsOf here.me J t → n ≡ length given → b ≡ bytes_of_records given
    → leaves ≡ leaves_with (accepted J) t.leaves given → u.records ≡ t.records + n → u.bytes ≡ t.bytes + b → u.leaves ≡ unwrap_or leaves t.leaves → AreCountsOf here.me (J ++ given) u
counts_grow here J given news t u n b leaves same l a many large counted records bytes told = record {
  records = omega (arith, records, a.records, many, length-append J given);
  bytes = omega (arith, bytes, a.bytes, large, bytes_more J given);
  leaves = told ∙ ap (λ (o : Option ℕ). unwrap_or o t.leaves) counted
      ∙ ap (λ (k : ℕ). unwrap_or (leaves_with (accepted J) k given) k) a.leaves
      ∙ subst (λ (rs : List Record). unwrap_or (leaves_with (accepted J) (length (foreign_leaves here.me J)) rs) (length (foreign_leaves here.me J)) ≡ length (foreign_leaves here.me (J ++ rs))) same
      (leaves_grown here J news (subst (λ (rs : List Record). IsLawful here (J ++ rs)) (sym same) l));
}
