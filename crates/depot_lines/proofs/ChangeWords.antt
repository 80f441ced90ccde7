-- Words of writes are lawful, and they are read as changes that a node may be asked for.
use Rattle.std.proofs.Common.{◌≡◌, ℕ, ◌<◌, ◌≤◌, ◌⊎◌, Bool, true, false, not, cond, eqb, leb, ltb, ◌&&◌, ◌||◌, List, [], ◌∷◌, ◌++◌, length, Option, Some, None, is_some, Result, Ok, Err, refl, sym, ap, subst, ◌∙◌, arith, inl, inr, length-append}
use Rattle.std.specs.List.{list_all, AllByRecursion}
use Rattle.std.specs.Option.{option_to_list}
use Rattle.std.specs.Ordering.{is_lt}
use Rattle.std.specs.Str.{bytes_eq}
use Rattle.std.proofs.lemmas.Bool.{leb-true, ltb-true, lt-ltb, and_parts, and_from, ne_eqb}
use Rattle.std.proofs.lemmas.Cmp.{nat_list_cmp_total}
use Rattle.hex.specs.Hex.{encode_lower, IsBytes}
use Rattle.depot_base.specs.Format.{◌>>=◌}
use Rattle.depot_base.specs.Pairs.{AllPairsByRecursion}
use Rattle.depot_base.specs.Parts.{is_below}
use Rattle.depot_base.specs.Sized.{IsKey, IsValue}
use Rattle.depot_base.specs.Writes.{one_change, value_in_change}
use Rattle.depot_base.specs.declared.write.Change.{Change}
use Rattle.depot_base.proofs.GeneralLaws.{less_is}
use Rattle.depot_model.specs.updates.Changes.{AreChanges}
use Rattle.depot_model.specs.readers.Checkpoints.{is_checkpoint_key}
use Rattle.depot_model.specs.worlds.Receipts.{receipt_of}
use Rattle.depot_lines.specs.declared.line_fault.LineFault.{LineFault}
use Rattle.depot_lines.specs.declared.line_fault.LineFault.TheVariants as is
use Rattle.depot_lines.specs.declared.changes.Keys.{Keys}
use Rattle.depot_lines.specs.declared.changes.Keys.TheVariants as keys
use Rattle.depot_lines.specs.Spelling.{is_word, is_word_byte, is_within, is_lower_digit}
use Rattle.depot_lines.specs.Language.{nothing, or_fault, split, join, earlier, dash, FitsOption, FitAll, read_parts, with_parts, parts_of}
use Rattle.depot_lines.specs.PutKeys.{WriteNoReceipts}
use Rattle.depot_lines.specs.Vocabulary.{hex, key, value, key_by, FitsChange, text_behind_key, text_of_change, deletion_of, change_of, change, rise_behind, keys_rise, changes}
use Rattle.depot_lines.specs.declared.line_fault.LineError.{LineError}
use Rattle.depot_lines.specs.declared.line_fault.LineError.TheVariants.{Memory, In}
use Rattle.depot_lines.specs.LineReading.{AnswersReading, gathered}
use Rattle.depot_lines.proofs.LanguageLaws.{LawfulWord, bind_ok, such_that_lawful, ok_is}
use Rattle.depot_lines.proofs.Splitting.{lacks, split_none, split_at, join_split, all_weaker, all_append}
use Rattle.depot_lines.proofs.HexWords.{key_lawful, put_key_lawful, value_lawful, lower_encoded, plain_hex}
use Rattle.depot_lines.proofs.VocabularyLaws.{parts_lawful}
use Rattle.depot_lines.proofs.KeyForms.{plain_key}

-- ---- keys and values

pub key_by_lawful : {C : Type 0} (by : Keys) → LawfulWord (key_by {C = C} by)
key_by_lawful keys.Any = key_lawful
key_by_lawful keys.Put = put_key_lawful

key_text : (by : Keys) (k : List ℕ) → (key_by {C = Unit {0}} by).text k ≡ encode_lower k
key_text keys.Any k = refl
key_text keys.Put k = refl

key_again : (by : Keys) (k : List ℕ) → (key_by {C = Unit {0}} by).fits nothing k → (key_by {C = Unit {0}} by).read nothing (encode_lower k) ≡ Ok k
key_again keys.Any k fits = (key_lawful {C = Unit {0}}).again nothing k fits
key_again keys.Put k fits = (put_key_lawful {C = Unit {0}}).again nothing k fits

-- bytes so many as a test allows that allows some from 1 on
within_is : (high n : ℕ) → is_within 1 high n ≡ true → (0 < n) × (n ≤ high)
within_is high n e = let p = and_parts (leb 1 n) (leb n high) e in let low : 1 ≤ n = leb-true _ _ p.0 in (omega (arith, low), leb-true _ _ p.1)

pub key_is : (by : Keys) (k : List ℕ) → (key_by {C = Unit {0}} by).fits nothing k → IsKey k × IsBytes k
key_is keys.Any k fits = (within_is 255 (length k) fits.0, fits.1)
key_is keys.Put k fits = (within_is 255 (length k) fits.0.0, fits.0.1)

pub value_is : (v : List ℕ) → (value {C = Unit {0}}).fits nothing v → IsValue v
value_is [] fits = omega arith
value_is (b ∷ bs) fits = (within_is 65536 (length (b ∷ bs)) fits.0).1

-- ---- bytes that don't occur in their words

differs : (b c : ℕ) → is_lower_digit b ≡ true → is_lower_digit c ≡ false → not (eqb b c) ≡ true
differs b c lower apart = rw (ne_eqb b c (λ e. no (sym lower ∙ ap is_lower_digit e ∙ apart))) refl where
  no : true ≡ false → ⊥
  no e = cc

hex_lacks : (c : ℕ) → is_lower_digit c ≡ false → (v : List ℕ) → IsBytes v → lacks c (encode_lower v) ≡ true
hex_lacks c apart v h = all_weaker is_lower_digit (λ b. not (eqb b c)) (λ b lower. differs b c lower apart) (encode_lower v) (lower_encoded v h)

value_lacks : (c : ℕ) → is_lower_digit c ≡ false → eqb 45 c ≡ false → (v : List ℕ) → (value {C = Unit {0}}).fits nothing v → lacks c ((value {C = Unit {0}}).text v) ≡ true
value_lacks c apart other [] fits = rw other refl
value_lacks c apart other (b ∷ bs) fits = hex_lacks c apart (b ∷ bs) fits.1

-- ---- one change

deletion_takes : (by : Keys) (t : List ℕ) (parts : List (List ℕ)) (c : Change) → join 33 parts ≡ t → deletion_of by parts ≡ Ok c → FitsChange by c × (t ≡ text_of_change c)
deletion_takes by t [] c j e = absurd cc
deletion_takes by t (k ∷ []) c j e = absurd cc
deletion_takes by t (k ∷ [] ∷ []) c j e =
    let b = bind_ok ((key_by by).read nothing k) (λ k. Ok (record { key = k; value = None })) c e in
    let l = (key_by_lawful {C = Unit {0}} by).takes nothing k b.0 b.1 in
    let text : t ≡ encode_lower b.0 ++ (33 ∷ []) = sym j ∙ ap (λ (x : List ℕ). x ++ (33 ∷ [])) (l.1 ∙ key_text by b.0) in
    subst (λ (x : Change). FitsChange by x × (t ≡ text_of_change x)) (ok_is (record { key = b.0; value = None }) c b.2) ((l.0, tt), text)
deletion_takes by t (k ∷ (x ∷ xs) ∷ []) c j e = absurd cc
deletion_takes by t (k ∷ x ∷ y ∷ rest) c j e = absurd cc

change_takes : (by : Keys) (t : List ℕ) (parts : List (List ℕ)) (c : Change) → join 61 parts ≡ t → change_of by parts ≡ Ok c → FitsChange by c × (t ≡ text_of_change c)
change_takes by t [] c j e = absurd cc
change_takes by t (w ∷ []) c j e = let d = deletion_takes by w (split 33 w) c (join_split 33 w) e in (d.0, sym j ∙ d.1)
change_takes by t (k ∷ v ∷ []) c j e =
    let b = bind_ok ((key_by by).read nothing k) (λ k. value.read nothing v >>= λ v. Ok (record { key = k; value = Some v })) c e in
    let d = bind_ok (value.read nothing v) (λ v. Ok (record { key = b.0; value = Some v })) c b.2 in
    let l = (key_by_lawful {C = Unit {0}} by).takes nothing k b.0 b.1 in
    let m = (value_lawful {C = Unit {0}}).takes nothing v d.0 d.1 in
    let text : t ≡ encode_lower b.0 ++ (61 ∷ (value {C = Unit {0}}).text d.0) = sym j ∙ ap (λ (x : List ℕ). x ++ (61 ∷ v)) (l.1 ∙ key_text by b.0) ∙ ap (λ (x : List ℕ). encode_lower b.0 ++ (61 ∷ x)) m.1 in
    subst (λ (x : Change). FitsChange by x × (t ≡ text_of_change x)) (ok_is (record { key = b.0; value = Some d.0 }) c d.2) ((l.0, m.0), text)
change_takes by t (k ∷ v ∷ x ∷ rest) c j e = absurd cc

change_again : (by : Keys) (k : List ℕ) (v : Option (List ℕ)) → FitsChange by (record { key = k; value = v }) → change_of by (split 61 (text_of_change (record { key = k; value = v }))) ≡ Ok (record { key = k; value = v })
change_again by k None fits =
    let bytes = (key_is by k fits.0).1 in
    let whole : split 61 (encode_lower k ++ (33 ∷ [])) ≡ (encode_lower k ++ (33 ∷ [])) ∷ [] = split_none 61 (encode_lower k ++ (33 ∷ [])) (all_append (λ b. not (eqb b 61)) (encode_lower k) (33 ∷ []) (hex_lacks 61 refl k bytes) refl) in
    let parts : split 33 (encode_lower k ++ (33 ∷ [])) ≡ encode_lower k ∷ [] ∷ [] = split_at 33 (encode_lower k) [] (hex_lacks 33 refl k bytes) in
    rw (whole, parts, key_again by k fits.0) refl
change_again by k (Some v) fits =
    let bytes = (key_is by k fits.0).1 in
    let value_word = (value {C = Unit {0}}).text v in
    let first : split 61 (encode_lower k ++ (61 ∷ value_word)) ≡ encode_lower k ∷ split 61 value_word = split_at 61 (encode_lower k) value_word (hex_lacks 61 refl k bytes) in
    let second : split 61 value_word ≡ value_word ∷ [] = split_none 61 value_word (value_lacks 61 refl refl v fits.1) in
    rw (first, second, key_again by k fits.0, (value_lawful {C = Unit {0}}).again nothing v fits.1) refl

behind_plain : (v : Option (List ℕ)) → FitsOption ((value {C = Unit {0}}).fits nothing) v → list_all is_word_byte (text_behind_key v) ≡ true
behind_plain None fits = refl
behind_plain (Some v) fits = and_from (is_word_byte 61) (list_all is_word_byte ((value {C = Unit {0}}).text v)) refl (and_parts (ltb 0 (length ((value {C = Unit {0}}).text v))) (list_all is_word_byte ((value {C = Unit {0}}).text v)) ((value_lawful {C = Unit {0}}).plain nothing v fits)).1

change_plain : (by : Keys) (c : Change) → FitsChange by c → is_word (text_of_change c) ≡ true
change_plain by c fits =
    let k = key_is by c.key fits.0 in
    let p = and_parts (ltb 0 (length (encode_lower c.key))) (list_all is_word_byte (encode_lower c.key)) (plain_hex c.key k.0.0 k.1) in
    let some : 0 < length (encode_lower c.key) = ltb-true _ _ p.0 in
    let more : 0 < length (encode_lower c.key ++ text_behind_key c.value) = omega (arith, some, length-append (encode_lower c.key) (text_behind_key c.value)) in
    and_from _ _ (lt-ltb _ _ more) (all_append is_word_byte (encode_lower c.key) (text_behind_key c.value) p.1 (behind_plain c.value fits.1))

behind_lacks : (v : Option (List ℕ)) → FitsOption ((value {C = Unit {0}}).fits nothing) v → lacks 44 (text_behind_key v) ≡ true
behind_lacks None fits = refl
behind_lacks (Some v) fits = value_lacks 44 refl refl v fits

-- no comma is in a change
change_lacks : (by : Keys) (c : Change) → FitsChange by c → lacks 44 (text_of_change c) ≡ true
change_lacks by c fits = all_append (λ b. not (eqb b 44)) (encode_lower c.key) (text_behind_key c.value) (hex_lacks 44 refl c.key (key_is by c.key fits.0).1) (behind_lacks c.value fits.1)

pub change_lawful : {C : Type 0} (by : Keys) → LawfulWord (change {C = C} by)
change_lawful {C = C} by = record {
  takes = λ c t a e. change_takes by t (split 61 t) a (join_split 61 t) e;
  again = λ c a fits. change_again by a.key a.value fits;
  plain = λ c a fits. change_plain by a fits;
}

-- ---- all of them

pub changes_lawful : {C : Type 0} (by : Keys) → LawfulWord (changes {C = C} by)
changes_lawful {C = C} by = such_that_lawful (parts_of (change by)) (λ c cs. leb (length cs) 16 && keys_rise cs) is.Hex (parts_lawful (change by) (change_lawful by) (λ c. change_lacks by))

-- ---- each fault of a change is that of bytes in hexadecimal

abbrev fails : {A : Type 0} → LineFault → Result A LineFault
fails f = Err f

or_fault_is : {A F : Type 0} (o : Option A) (f g : F) → or_fault o f ≡ Err g → g ≡ f
or_fault_is None f g e = cc
or_fault_is (Some a) f g e = absurd cc

bind_fault : {A B : Type 0} (r : Result A LineFault) (then : A → Result B LineFault) (f : LineFault) → (r >>= then) ≡ Err f → (r ≡ Err f) ⊎ ((a : A) × (r ≡ Ok a) × (then a ≡ Err f))
bind_fault (Ok a) then f e = inr (a, refl, e)
bind_fault {A = A} (Err g) then f e = let same : g ≡ f = cc in inl (ap (λ (x : LineFault). fails {A = A} x) same)

test_fault : (b : Bool) (k : List ℕ) (f : LineFault) → cond b (Ok k) (Err is.Hex) ≡ Err f → f ≡ is.Hex
test_fault true k f e = absurd cc
test_fault false k f e = cc

key_fault : (by : Keys) (word : List ℕ) (f : LineFault) → (key_by {C = Unit {0}} by).read nothing word ≡ Err f → f ≡ is.Hex
key_fault keys.Any word f e = or_fault_is _ is.Hex f e
key_fault keys.Put word f e = elim (bind_fault (key.read nothing word) (λ k. cond (not (is_some (receipt_of k) || is_checkpoint_key k)) (Ok k) (Err is.Hex)) f e) [
  | inl a ↦ or_fault_is _ is.Hex f a
  | inr a ↦ test_fault (not (is_some (receipt_of a.0) || is_checkpoint_key a.0)) a.0 f a.2
]

value_fault : (word : List ℕ) (f : LineFault) → (value {C = Unit {0}}).read nothing word ≡ Err f → f ≡ is.Hex
value_fault word f e = by_dash (bytes_eq word dash) e where
  by_dash : (b : Bool) → cond b (Ok []) ((hex {C = Unit {0}} (is_within 1 65536)).read nothing word) ≡ Err f → f ≡ is.Hex
  by_dash true e = absurd cc
  by_dash false e = or_fault_is _ is.Hex f e

deletion_fault : (by : Keys) (parts : List (List ℕ)) (f : LineFault) → deletion_of by parts ≡ Err f → f ≡ is.Hex
deletion_fault by [] f e = cc
deletion_fault by (k ∷ []) f e = cc
deletion_fault by (k ∷ [] ∷ []) f e = elim (bind_fault ((key_by by).read nothing k) (λ k. Ok (record { key = k; value = None })) f e) [
  | inl a ↦ key_fault by k f a
  | inr a ↦ let no = a.2 in absurd cc
]
deletion_fault by (k ∷ (x ∷ xs) ∷ []) f e = cc
deletion_fault by (k ∷ x ∷ y ∷ rest) f e = cc

change_fault : (by : Keys) (parts : List (List ℕ)) (f : LineFault) → change_of by parts ≡ Err f → f ≡ is.Hex
change_fault by [] f e = cc
change_fault by (w ∷ []) f e = deletion_fault by (split 33 w) f e
change_fault by (k ∷ v ∷ []) f e = elim (bind_fault ((key_by by).read nothing k) (λ k. value.read nothing v >>= λ v. Ok (record { key = k; value = Some v })) f e) [
  | inl a ↦ key_fault by k f a
  | inr a ↦ elim (bind_fault (value.read nothing v) (λ v. Ok (record { key = a.0; value = Some v })) f a.2) [
    | inl b ↦ value_fault v f b
    | inr b ↦ let no = b.2 in absurd cc
  ]
]
change_fault by (k ∷ v ∷ x ∷ rest) f e = cc

parts_fault : (by : Keys) (parts : List (List ℕ)) (f : LineFault) → read_parts ((change {C = Unit {0}} by).read nothing) parts ≡ Err f → f ≡ is.Hex
parts_fault by [] f e = absurd cc
parts_fault by (part ∷ parts) f e = of ((change {C = Unit {0}} by).read nothing part) (read_parts ((change {C = Unit {0}} by).read nothing) parts) (change_fault by (split 61 part)) (parts_fault by parts) f e where
  of : (one : Result Change LineFault) (more : Result (List Change) LineFault) → ((g : LineFault) → one ≡ Err g → g ≡ is.Hex) → ((g : LineFault) → more ≡ Err g → g ≡ is.Hex) → (g : LineFault) → with_parts one more ≡ Err g → g ≡ is.Hex
  of (Ok a) (Ok rest) one more g e = absurd cc
  of (Ok a) (Err h) one more g e = more g e
  of (Err h) (Ok rest) one more g e = let same : h ≡ g = cc in one g (ap (λ (x : LineFault). fails {A = Change} x) same)
  of (Err h) (Err k) one more g e =
      let first : h ≡ is.Hex = one h refl in
      let second : k ≡ is.Hex = more k refl in
      let same : earlier h k ≡ g = cc in
      sym same ∙ ap (λ (x : LineFault). earlier x k) first ∙ ap (λ (x : LineFault). earlier is.Hex x) second

-- a part with a fault decides of those from it on
pub part_stops : (by : Keys) (front : List Change) (part : List ℕ) (parts : List (List ℕ)) (f : LineFault) → (change {C = Unit {0}} by).read nothing part ≡ Err f → gathered None front (read_parts ((change {C = Unit {0}} by).read nothing) (part ∷ parts)) ≡ Err f
part_stops by front part parts f e = of (read_parts ((change {C = Unit {0}} by).read nothing) parts) (parts_fault by parts) where
  is_hex : f ≡ is.Hex
  is_hex = change_fault by (split 61 part) f e

  of : (more : Result (List Change) LineFault) → ((g : LineFault) → more ≡ Err g → g ≡ is.Hex) → gathered None front (with_parts ((change {C = Unit {0}} by).read nothing part) more) ≡ Err f
  of (Ok rest) only = rw e refl
  of (Err g) only = rw (e, is_hex, only g refl) refl

-- so of what a reader answers for it
pub part_decides : (by : Keys) (front : List Change) (part : List ℕ) (parts : List (List ℕ)) (whole : Result (List Change) LineFault) (e : LineError)
    → AnswersReading {A = Change} (Err e) ((change {C = Unit {0}} by).read nothing part) → gathered None front (read_parts ((change {C = Unit {0}} by).read nothing) (part ∷ parts)) ≡ whole → AnswersReading {A = List Change} (Err e) whole
part_decides by front part parts whole Memory one is = tt
part_decides by front part parts whole (In f) one is = sym is ∙ part_stops by front part parts f one

-- ---- what is read are changes that a node may be asked for

below_trans : (a b c : List ℕ) → is_below a b ≡ true → is_below b c ≡ true → is_below a c ≡ true
below_trans a b c one two = ap is_lt (nat_list_cmp_total.trans a b c (less_is _ one) (less_is _ two))

all_above : (k before : List ℕ) (cs : List Change) → is_below k before ≡ true → rise_behind before cs ≡ true → AllByRecursion (λ c. is_below k c.key ≡ true) cs
all_above k before [] low rise = tt
all_above k before (c ∷ cs) low rise =
    let p = and_parts (is_below before c.key) (rise_behind c.key cs) rise in
    let next = below_trans k before c.key low p.0 in
    (next, all_above k c.key cs next p.1)

behind_rise : (before : List ℕ) (cs : List Change) → rise_behind before cs ≡ true → AllByRecursion (λ c. is_below before c.key ≡ true) cs
behind_rise before [] rise = tt
behind_rise before (c ∷ cs) rise =
    let p = and_parts (is_below before c.key) (rise_behind c.key cs) rise in
    (p.0, all_above before c.key cs p.0 p.1)

keys_rise_all : (cs : List Change) → keys_rise cs ≡ true → AllPairsByRecursion (λ c d. is_below c.key d.key ≡ true) cs
keys_rise_all [] rise = tt
keys_rise_all (c ∷ []) rise = (tt, tt)
keys_rise_all (c ∷ d ∷ cs) rise = (behind_rise c.key (d ∷ cs) rise, keys_rise_all (d ∷ cs) (and_parts (is_below c.key d.key) (rise_behind d.key cs) rise).1)

values_are : (v : Option (List ℕ)) → FitsOption ((value {C = Unit {0}}).fits nothing) v → AllByRecursion IsValue (option_to_list v)
values_are None fits = tt
values_are (Some v) fits = (value_is v fits, tt)

each_is : (by : Keys) (cs : List Change) → FitAll (FitsChange by) cs → AllByRecursion (λ c. IsKey c.key × AllByRecursion IsValue (value_in_change c)) cs
each_is by [] fits = tt
each_is by (c ∷ cs) fits = (((key_is by c.key fits.0.0).0, values_are c.value fits.0.1), each_is by cs fits.1)

-- a word of writes is one of changes that a node may be asked for
pub changes_are : {C : Type 0} (c : C) (by : Keys) (cs : List Change) → (changes {C = C} by).fits c cs → AreChanges cs
changes_are c by cs fits =
    let p = and_parts (leb (length cs) 16) (keys_rise cs) fits.1 in
    let some : 0 < length cs = fits.0.0 in
    record { some = omega (arith, some); few = leb-true _ _ p.0; each = each_is by cs fits.0.1; rising = keys_rise_all cs p.1 }

-- so is one key with a value
pub one_is : {C : Type 0} (c : C) (by : Keys) (k v : List ℕ) → (key_by {C = C} by).fits c k → (value {C = C}).fits c v → AreChanges (one_change k v)
one_is c by k v key_fits value_fits = record { some = omega arith; few = omega arith; each = ((key_of_it by key_fits, (value_is v value_fits, tt)), tt); rising = (tt, tt) } where
  key_of_it : (by : Keys) → (key_by {C = _} by).fits c k → IsKey k
  key_of_it keys.Any fits = (key_is keys.Any k fits).0
  key_of_it keys.Put fits = (key_is keys.Put k fits).0

-- ---- none is of a receipt's key

each_plain : (cs : List Change) → FitAll (FitsChange keys.Put) cs → WriteNoReceipts cs
each_plain [] fits = tt
each_plain (c ∷ cs) fits = (plain_key c.key fits.0.0.1, each_plain cs fits.1)

-- a word of writes that a node may be asked for writes no receipt
pub puts_no_receipts : {C : Type 0} (c : C) (cs : List Change) → (changes {C = C} keys.Put).fits c cs → WriteNoReceipts cs
puts_no_receipts c cs fits = each_plain cs fits.0.1

-- so does one key with a value
pub put_no_receipt : {C : Type 0} (c : C) (k v : List ℕ) → (key_by {C = C} keys.Put).fits c k → WriteNoReceipts (one_change k v)
put_no_receipt c k v fits = (plain_key k fits.1, tt)
