-- The records of a journal, and their texts as they are on its disk.
use Rattle.std.proofs.Common.{◌≡◌, ◌≤◌, ◌^◌, ℕ, ◌+◌, zero, suc, Bool, List, [], ◌∷◌, ◌++◌, length, map, take, drop, refl, sym, ap, subst, ◌∙◌, arith, length-append, length-drop, append-nil}
use Rattle.std.proofs.Math.Seq.{drop-append-add, drop-length, take-append-add, take-append_seam, take-length}
use Rattle.std.specs.List.{AllByRecursion}
use Rattle.std.proofs.lemmas.List.{map-append, length-map, length-take-le, take-map, take-append-drop}
use Rattle.std.proofs.lemmas.List.Sums.{sum_by-cons}
use Rattle.depot_base.specs.File as files
use Rattle.depot_base.specs.File.{IsFileOf, PassesLimit, blocks, framed}
use Rattle.depot_base.specs.declared.check.FullOf.{FullOf}
use Rattle.depot_base.specs.declared.check.FullOf.TheVariants as full_of
use Rattle.depot_base.specs.declared.record.Record.{Record}
use Rattle.depot_base.proofs.CallLaws.{framed_long}
use Rattle.depot_model.specs.texts.Records.{IsRecord, journal_bytes, text_of_record}
use Rattle.depot_model.specs.journals.Stops.{HasFront, LeavesAll}
use Rattle.depot_journal.specs.Stable as stable
use Rattle.depot_laws.proofs.records.Counts.{bytes_more}
use Rattle.depot_base.proofs.GeneralLaws.{all_both}
use Rattle.depot_readings.specs.NewRecords.{bytes_of_records}
use Rattle.depot_node.specs.JournalRecords.{AreRecordTexts, AreTextsFor, records_in_texts}
use Rattle.depot_node.proofs.JournalRecordLaws.{records_of_texts}

-- ---- records and their texts

-- the records are read back
pub read_back : (J : List Record) (texts : List (List ℕ)) → AreTextsFor J texts → records_in_texts texts ≡ J
read_back J texts t = ap records_in_texts t.are ∙ records_of_texts J t.fit

pub are_texts : (J : List Record) (texts : List (List ℕ)) → AreTextsFor J texts → AreRecordTexts texts
are_texts J texts t =
    let back = read_back J texts t in
    record { fit = subst (λ (rs : List Record). AllByRecursion IsRecord rs) (sym back) t.fit; are = t.are ∙ ap (map text_of_record) (sym back) }

pub texts_for : (texts : List (List ℕ)) → AreRecordTexts texts → AreTextsFor (records_in_texts texts) texts
texts_for texts t = record { fit = t.fit; are = t.are }

-- as many as the records
pub as_many : (J : List Record) (texts : List (List ℕ)) → AreTextsFor J texts → length texts ≡ length J
as_many J texts t = ap length t.are ∙ length-map J text_of_record

-- of records and more after them
pub both_texts : (J new : List Record) (texts more : List (List ℕ)) → AreTextsFor J texts → AreTextsFor new more → AreTextsFor (J ++ new) (texts ++ more)
both_texts J new texts more t u = record {
  fit = all_both IsRecord J new t.fit u.fit;
  are = ap (λ (x : List (List ℕ)). x ++ more) t.are ∙ ap (λ (x : List (List ℕ)). map text_of_record J ++ x) u.are ∙ sym (map-append text_of_record J new);
}

all_front : {X : Type 0} (P : X → Type 0) (n : ℕ) (xs : List X) → AllByRecursion P xs → AllByRecursion P (take n xs)
all_front P zero xs all = tt
all_front P (suc n) [] all = tt
all_front P (suc n) (x ∷ xs) all = (all.0, all_front P n xs all.1)

-- of a prefix of the records
pub front_texts : (n : ℕ) (J : List Record) (texts : List (List ℕ)) → AreTextsFor J texts → AreTextsFor (take n J) (take n texts)
front_texts n J texts t = record { fit = all_front IsRecord n J t.fit; are = ap (take n) t.are ∙ take-map text_of_record n J }

-- ---- bytes

-- the bytes of records are those of their blocks
pub bytes_are_blocks : (J : List Record) → length (blocks (map text_of_record J)) ≡ bytes_of_records J
bytes_are_blocks [] = refl
bytes_are_blocks (r ∷ J) =
    omega (
      arith,
      bytes_are_blocks J,
      length-append (framed (text_of_record r)) (blocks (map text_of_record J)),
      framed_long (text_of_record r),
      sum_by-cons (λ (x : Record). 5 + length (text_of_record x)) r J,
    )

pub blocks_long : (J : List Record) (texts : List (List ℕ)) → AreTextsFor J texts → length (blocks texts) ≡ bytes_of_records J
blocks_long J texts t = ap (λ (x : List (List ℕ)). length (blocks x)) t.are ∙ bytes_are_blocks J

pub journal_long : (J : List Record) (texts : List (List ℕ)) → AreTextsFor J texts → 1 + length (blocks texts) ≡ journal_bytes J
journal_long J texts t = omega (arith, blocks_long J texts t)

-- ---- the crash images

pub front_of_records : (J new : List Record) (texts more : List (List ℕ)) (file : List ℕ) → AreTextsFor J texts → AreTextsFor new more → files.HasBodyFront texts more file → HasFront J new file
front_of_records J new texts more file t u front = record {
  count = front.count;
  has = subst (IsFileOf file) (both_texts J (take front.count new) texts (take front.count more) t (front_texts front.count new more u)).are front.is;
}

pub all_of_records : (J : List Record) (texts : List (List ℕ)) (stopped : Bool) (images : List ℕ → Type 0) → AreTextsFor J texts → stable.LeavesAllBodies texts stopped images → LeavesAll J stopped images
all_of_records J texts stopped images t all = λ file left.
    let has = all file left in
    record { more = has.more; has = subst (λ (x : List (List ℕ)). IsFileOf file (x ++ has.more)) t.are has.has; none = has.none }

-- ---- a failed append

-- the records that were appended before it
pub cut_texts : (J new : List Record) (texts more kept : List (List ℕ)) (told : Type 0) (images : List ℕ → Type 0) → AreTextsFor J texts → AreTextsFor new more → (cut : files.AreBodiesCutShort texts more kept told images)
    → AreTextsFor (J ++ take cut.count new) kept
cut_texts J new texts more kept told images t u cut =
    subst (λ (x : List (List ℕ)). AreTextsFor (J ++ take cut.count new) x) (sym cut.front) (both_texts J (take cut.count new) texts (take cut.count more) t (front_texts cut.count new more u))

-- ---- room

-- a journal that is within the limits with records more passes none with their texts
pub passes_none : (J new : List Record) (texts more : List (List ℕ)) → AreTextsFor J texts → AreTextsFor new more → length (J ++ new) ≤ 131072 → journal_bytes (J ++ new) ≤ 2 ^ 30 → (what : FullOf) (number : ℕ)
    → PassesLimit texts (length more) (length (blocks more)) what number → ⊥
passes_none J new texts more t u few small full_of.Records number passes = omega (arith, passes.1, few, length-append J new, as_many J texts t, as_many new more u)
passes_none J new texts more t u few small full_of.Bytes number passes = omega (arith, passes.2, small, bytes_more J new, journal_long J texts t, blocks_long new more u)
passes_none J new texts more t u few small full_of.Writers number passes = passes

-- ---- what was read of a journal's texts

-- this many were read
pub read_count : (n : ℕ) (texts : List (List ℕ)) → AreRecordTexts (take n texts) → n ≤ length texts → length (records_in_texts (take n texts)) ≡ n
read_count n texts t within = sym (as_many (records_in_texts (take n texts)) (take n texts) (texts_for (take n texts) t)) ∙ length-take-le n texts within

-- where none is left, all were read
pub all_read : (n : ℕ) (texts : List (List ℕ)) → drop n texts ≡ [] → take n texts ≡ texts
all_read n texts none = sym (append-nil (take n texts)) ∙ ap (λ (x : List (List ℕ)). take n texts ++ x) (sym none) ∙ take-append-drop n texts

pub whole_texts : (n : ℕ) (texts : List (List ℕ)) → AreRecordTexts (take n texts) → drop n texts ≡ [] → AreTextsFor (records_in_texts (take n texts)) texts
whole_texts n texts t none = let all = all_read n texts none in subst (λ (x : List (List ℕ)). AreTextsFor (records_in_texts (take n texts)) x) all (texts_for (take n texts) t)

-- ---- more is read

behind : (n m : ℕ) (texts front more : List (List ℕ)) → texts ≡ front ++ more → length front ≡ n → take (n + m) texts ≡ front ++ take m more
behind n m texts front more whole long = ap (take (n + m)) whole ∙ ap (λ (k : ℕ). take (k + m) (front ++ more)) (sym long) ∙ take-append-add front more m

-- this many more texts
pub take_more_texts : (n : ℕ) (texts more rest : List (List ℕ)) → n ≤ length texts → drop n texts ≡ more ++ rest → take (n + length more) texts ≡ take n texts ++ more
take_more_texts n texts more rest within is =
    behind n (length more) texts (take n texts) (drop n texts) (sym (take-append-drop n texts)) (length-take-le n texts within)
    ∙ ap (λ (x : List (List ℕ)). take n texts ++ take (length more) x) is
    ∙ ap (λ (x : List (List ℕ)). take n texts ++ x) (take-append_seam more rest)

pub drop_more_texts : (n m : ℕ) (texts : List (List ℕ)) → n ≤ length texts → drop (n + m) texts ≡ drop m (drop n texts)
drop_more_texts n m texts within =
    ap (drop (n + m)) (sym (take-append-drop n texts))
    ∙ ap (λ (k : ℕ). drop (k + m) (take n texts ++ drop n texts)) (sym (length-take-le n texts within))
    ∙ drop-append-add (take n texts) (drop n texts) m

-- what a reading leaves: these records were read, and no more texts than there are
pub record IsReadTo (n : ℕ) (texts : List (List ℕ)) (J : List Record) (rest : List (List ℕ)) : Type 0 where
  pub are : AreRecordTexts (take n texts)
  pub within : n ≤ length texts
  pub records : records_in_texts (take n texts) ≡ J
  pub left : drop n texts ≡ rest

pub read_more : (n m : ℕ) (texts more rest : List (List ℕ)) (new : List Record) → AreRecordTexts (take n texts) → n ≤ length texts → AreTextsFor new more → m ≡ length more → drop n texts ≡ map text_of_record new ++ rest
    → IsReadTo (n + m) texts (records_in_texts (take n texts) ++ new) (drop (length new) (drop n texts))
read_more n m texts more rest new t within u many is =
    let here : drop n texts ≡ more ++ rest = is ∙ ap (λ (x : List (List ℕ)). x ++ rest) (sym u.are) in
    let same : take (n + m) texts ≡ take n texts ++ more = ap (λ (k : ℕ). take (n + k) texts) many ∙ take_more_texts n texts more rest within here in
    let all = both_texts (records_in_texts (take n texts)) new (take n texts) more (texts_for (take n texts) t) u in
    let both = subst (λ (x : List (List ℕ)). AreTextsFor (records_in_texts (take n texts) ++ new) x) (sym same) all in
    record {
      are = are_texts (records_in_texts (take n texts) ++ new) (take (n + m) texts) both;
      within = omega (arith, within, many, length-drop n texts, ap length here, length-append more rest);
      records = read_back (records_in_texts (take n texts) ++ new) (take (n + m) texts) both;
      left = drop_more_texts n m texts within ∙ ap (λ (k : ℕ). drop k (drop n texts)) (many ∙ as_many new more u);
    }

-- all of them
pub read_all : (n : ℕ) (texts : List (List ℕ)) (J : List Record) → AreTextsFor J texts → n ≡ length texts → IsReadTo n texts J []
read_all n texts J t all =
    let whole : take n texts ≡ texts = ap (λ (k : ℕ). take k texts) all ∙ take-length texts in
    record {
      are = subst (λ (x : List (List ℕ)). AreRecordTexts x) (sym whole) (are_texts J texts t);
      within = omega (arith, all);
      records = ap records_in_texts whole ∙ read_back J texts t;
      left = ap (λ (k : ℕ). drop k texts) all ∙ drop-length texts;
    }
