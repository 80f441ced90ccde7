-- Own vouchers that are encoded one after another.
use Rattle.std.proofs.Common.{◌≡◌, ℕ, ◌+◌, ◌*◌, ◌≤◌, List, [], ◌∷◌, ◌++◌, length, map, Some, refl, sym, ap, subst, ◌∙◌, append_assoc, arith, length-append, inl, inr}
use Rattle.std.specs.Global.{Vec}
use Rattle.std.specs.List.{AllByRecursion}
use Rattle.std.proofs.lemmas.List.{append-nil, map-append, length-map}
use Rattle.std.proofs.lemmas.List.Sums.{sum_by-append}
use Rattle.depot_base.specs.declared.record.Record.{Record}
use Rattle.depot_base.specs.declared.record.Record.TheVariants.{OwnVoucher}
use Rattle.depot_base.specs.declared.voucher.Voucher.{Voucher}
use Rattle.depot_model.specs.lists.Lists.{IsIn}
use Rattle.depot_model.specs.texts.Records.{IsRecord, text_of_record, IsTextOf}
use Rattle.depot_model.specs.checks.Vouching.{records_of}
use Rattle.depot_model.proofs.lists.Members.{all_at, all_from, all_push, from_map, in_right}
use Rattle.depot_readings.specs.NewRecords.{HasOwnId, IsGrowth, bytes_of_records, vouchers_of}
use Rattle.depot_readings.specs.declared.news.NewVoucher.{NewVoucher}
use Rattle.depot_readings.specs.declared.news.News.TheVariants as news
use Rattle.depot_readings.proofs.GrowthLaws.{vouchers_written}
use Rattle.depot_readings.proofs.VoucherRecords.{records_push}

-- All vouchers but those that are left are encoded: their ids, texts and bytes are known.
pub record AreEncoded (all left : List Voucher) (items : List NewVoucher) (texts : List (List ℕ)) (bytes : ℕ) : Type 0 where
  pub split : vouchers_of items ++ left ≡ all
  pub ids : AllByRecursion HasOwnId items
  pub are : texts ≡ map text_of_record (records_of (vouchers_of items))
  pub sum : bytes ≡ bytes_of_records (records_of (vouchers_of items))
  pub small : bytes ≤ 1096365 * length items

pub none_encoded : (all left : List Voucher) (items : List NewVoucher) (texts : List (List ℕ)) → left ≡ all → items ≡ [] → texts ≡ [] → AreEncoded all left items texts 0
none_encoded all left items texts same none no_texts = subst (λ (xs : List NewVoucher). AreEncoded all left xs texts 0) (sym none) (record {
  split = same;
  ids = tt;
  are = no_texts;
  sum = refl;
  small = omega arith;
})

-- the next one is one of all
pub next_fits : (all left rest : List Voucher) (items : List NewVoucher) (texts : List (List ℕ)) (bytes : ℕ) (v : Voucher) → AllByRecursion (λ w. IsRecord (OwnVoucher w)) all → left ≡ v ∷ rest → AreEncoded all left items texts bytes → IsRecord (OwnVoucher v)
next_fits all left rest items texts bytes v fit next e =
    let on : IsIn v all = subst (λ (vs : List Voucher). IsIn v vs) (ap (λ (vs : List Voucher). vouchers_of items ++ vs) (sym next) ∙ e.split) (in_right v (vouchers_of items) (v ∷ rest) (inl refl)) in
    all_at (λ w. IsRecord (OwnVoucher w)) all v fit on

-- the bytes so far can be counted, with one text more
pub few_bytes : (all left rest : List Voucher) (items : List NewVoucher) (texts : List (List ℕ)) (bytes : ℕ) (v : Voucher) → length all ≤ 131072 → left ≡ v ∷ rest → AreEncoded all left items texts bytes → bytes ≤ 143702753280
few_bytes all left rest items texts bytes v few next e = omega (arith, few, e.small, ap length e.split, length-append (vouchers_of items) left, length-map items (λ (x : NewVoucher). x.voucher))

pub one_encoded : (all left rest : List Voucher) (items : List NewVoucher) (texts : List (List ℕ)) (bytes more : ℕ) (v : Voucher) (x : NewVoucher) (text : List ℕ) → left ≡ v ∷ rest → AreEncoded all left items texts bytes → x.voucher ≡ v → HasOwnId x
    → IsTextOf (OwnVoucher v) text → more ≡ 5 + length text → more ≤ 1096365 → AreEncoded all rest (items ++ x ∷ []) (texts ++ text ∷ []) (bytes + more)
one_encoded all left rest items texts bytes more v x text next e same own is size small =
    let record_is : text ≡ text_of_record (OwnVoucher x.voucher) = is.is ∙ ap (λ (w : Voucher). text_of_record (OwnVoucher w)) (sym same) in
    let pushed = records_push items x in
    record {
      split = ap (λ (vs : List Voucher). vs ++ rest) (map-append (λ (y : NewVoucher). y.voucher) items (x ∷ [])) ∙ append_assoc (vouchers_of items) (x.voucher ∷ []) rest ∙ ap (λ (w : Voucher). vouchers_of items ++ w ∷ rest) same ∙ ap (λ (vs : List Voucher). vouchers_of items ++ vs) (sym next) ∙ e.split;
      ids = all_push HasOwnId items x e.ids own;
      are = ap (λ (ts : List (List ℕ)). ts ++ text ∷ []) e.are ∙ ap (λ (t : List ℕ). map text_of_record (records_of (vouchers_of items)) ++ t ∷ []) record_is
          ∙ sym (map-append text_of_record (records_of (vouchers_of items)) (OwnVoucher x.voucher ∷ [])) ∙ ap (map text_of_record) (sym pushed);
      sum = omega (arith, e.sum, size, ap length record_is, sum_by-append (λ (r : Record). 5 + length (text_of_record r)) (records_of (vouchers_of items)) (OwnVoucher x.voucher ∷ []), ap bytes_of_records pushed);
      small = omega (arith, e.small, small, length-append items (x ∷ []));
    }

-- where none is left, these are all
pub all_vouchers : (all left : List Voucher) (items : List NewVoucher) (texts : List (List ℕ)) (bytes : ℕ) → left ≡ [] → AreEncoded all left items texts bytes → vouchers_of items ≡ all
all_vouchers all left items texts bytes none e = sym (append-nil (vouchers_of items)) ∙ ap (λ (vs : List Voucher). vouchers_of items ++ vs) (sym none) ∙ e.split

-- the growth that they make
pub all_encoded : (all left : List Voucher) (items : List NewVoucher) (texts : Vec (List ℕ)) (bytes : ℕ) → AllByRecursion (λ v. IsRecord (OwnVoucher v)) all → length all ≤ 131072 → left ≡ [] → AreEncoded all left items texts.items bytes
    → IsGrowth (news.Vouchers items) bytes (Some texts)
all_encoded all left items texts bytes fit few none e =
    let same = all_vouchers all left items texts.items bytes none e in
    record {
      fit = subst (λ (vs : List Voucher). AllByRecursion IsRecord (records_of vs)) (sym same) (all_from IsRecord (records_of all) (λ r on. let v = from_map (λ (w : Voucher). OwnVoucher w) r all on in subst IsRecord v.1.1 (all_at (λ w. IsRecord (OwnVoucher w)) all v.0 fit v.1.0)));
      sum = e.sum;
      hashed = e.ids;
      few = omega (arith, few, length-map (vouchers_of items) (λ (v : Voucher). OwnVoucher v), ap length same);
      written = vouchers_written (vouchers_of items) texts.items e.are;
    }

-- the same for the lists that equal these
pub encoded_as : (all left : List Voucher) (items items_now : List NewVoucher) (texts texts_now : List (List ℕ)) (bytes : ℕ) → AreEncoded all left items texts bytes → items_now ≡ items → texts_now ≡ texts → AreEncoded all left items_now texts_now bytes
encoded_as all left items items_now texts texts_now bytes e same same_texts =
    subst (λ (xs : List NewVoucher). AreEncoded all left xs texts_now bytes) (sym same) (subst (λ (ts : List (List ℕ)). AreEncoded all left items ts bytes) (sym same_texts) e)

-- each has a text where all do
pub at_fits : (xs : List NewVoucher) (x : NewVoucher) → AllByRecursion IsRecord (records_of (vouchers_of xs)) → IsIn x xs → IsRecord (OwnVoucher x.voucher)
at_fits [] x all on = absurd on
at_fits (y ∷ ys) x all (inl is) = subst (λ (z : NewVoucher). IsRecord (OwnVoucher z.voucher)) is all.0
at_fits (y ∷ ys) x all (inr on) = at_fits ys x all.1 on
