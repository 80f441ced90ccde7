-- The texts of changes and of ids are lawful, and what they say is what a node may be asked.
use Rattle.std.proofs.Common.{◌≡◌, ℕ, suc, ◌+◌, ◌*◌, ◌≤◌, ◌++◌, Bool, true, false, cond, eqb, List, [], ◌∷◌, length, Option, None, Some, refl, sym, ap, subst, ◌∙◌, arith}
use Rattle.std.specs.Prelude.{not, is_some, ◌&&◌}
use Rattle.std.specs.List.{AllByRecursion}
use Rattle.std.specs.Int.{w8, w32}
use Rattle.std.specs.Ordering.{is_lt}
use Rattle.std.proofs.lemmas.Bool.Decides.{nat_tests}
use Rattle.std.proofs.lemmas.Cmp.{nat_list_cmp_total}
use Rattle.depot_base.specs.Format.{Format, Follows, number, bytes_of, choose, field, made_of_fields, list_of}
use Rattle.depot_base.specs.Pairs.{AllPairsByRecursion}
use Rattle.depot_base.specs.Parts.{digest, digest_rises, digests, is_below}
use Rattle.depot_base.specs.Sized.{IsKey, IsValue}
use Rattle.depot_base.specs.Writes.{value_in_change}
use Rattle.depot_base.specs.declared.write.Change.{Change}
use Rattle.depot_base.proofs.Combined.{bytes_count, bytes_lawful, choose_lawful, field_lawful, made_lawful}
use Rattle.depot_base.proofs.EntryLists.{last_pushed, list_count, list_lawful}
use Rattle.depot_base.proofs.FormatLaws.{Lawful, weaken}
use Rattle.depot_base.proofs.GeneralLaws.{less_is}
use Rattle.depot_base.proofs.Numbers.{number_within}
use Rattle.depot_base.proofs.PartLaws.{digests_lawful, u32_lawful, u8_lawful}
use Rattle.depot_model.specs.worlds.Receipts.{receipt_of}
use Rattle.depot_requests.specs.ChangeTexts.{change_behind, change_follows, change_mark, change_text, changes_text, given_value, ids_text, key_text}

-- ---- keys

pub key_text_lawful : Lawful key_text 256
unfolding key_text
key_text_lawful =
    field_lawful _ _ _ 1 255 (u8_lawful 1 255 (omega arith)) (λ a k f h. bytes_count a k h.0) λ key_length range.
    field_lawful _ _ _ 255 0 (weaken _ key_length 255 (let r = number_within w8 1 255 key_length range in omega arith) (bytes_lawful key_length)) (λ key k f h. h) λ key _.
    made_lawful _

-- ---- one change

abbrev behind : Bool → List ℕ → Format Change
behind gone key =
    choose gone (made_of_fields (record { key = key; value = None }))
    (field (number w32 0 65536) (λ c. length (given_value c.value)) λ size.
    field (bytes_of size) (λ c. given_value c.value) λ value.
    made_of_fields (record { key = key; value = Some value }))

key_behind : (gone : Bool) (key : List ℕ) (c : Change) → (behind gone key).fits c → c.key ≡ key
key_behind true key c h = ap (λ (x : Change). x.key) h
key_behind false key c h = ap (λ (x : Change). x.key) h.1.1

mark_behind : (gone : Bool) (key : List ℕ) (c : Change) → (behind gone key).fits c → change_mark c.value ≡ cond gone 0 1
mark_behind true key c h = ap (λ (x : Change). change_mark x.value) h
mark_behind false key c h = ap (λ (x : Change). change_mark x.value) h.1.1

none_or_one : (mark : ℕ) → mark ≤ 1 → cond (eqb mark 0) 0 1 ≡ mark
none_or_one mark high = grind (arith, nat_tests)

value_lawful : (key : List ℕ) → Lawful {V = Change} (field (number w32 0 65536) (λ c. length (given_value c.value)) λ size. field (bytes_of size) (λ c. given_value c.value) λ value. made_of_fields (record { key = key; value = Some value })) 65540
value_lawful key =
    field_lawful _ _ _ 4 65536 (u32_lawful 0 65536 (omega arith)) (λ a c f h. bytes_count a (given_value c.value) h.0) λ size range.
    field_lawful _ _ _ 65536 0 (weaken _ size 65536 (let r = number_within w32 0 65536 size range in omega arith) (bytes_lawful size)) (λ value c f h. ap (λ (x : Change). given_value x.value) h) λ value _.
    made_lawful _

behind_lawful : (key : List ℕ) (mark : ℕ) → Lawful (change_behind key mark) 65540
unfolding change_behind
behind_lawful key mark = choose_lawful (eqb mark 0) _ _ 65540 (weaken _ 0 65540 (omega arith) (made_lawful _)) (value_lawful key)

key_of_change : (key : List ℕ) (mark : ℕ) (c : Change) → (change_behind key mark).fits c → c.key ≡ key
unfolding change_behind
key_of_change key mark c h = key_behind (eqb mark 0) key c h

mark_of_change : (key : List ℕ) (mark : ℕ) (c : Change) → mark ≤ 1 → (change_behind key mark).fits c → change_mark c.value ≡ mark
unfolding change_behind
mark_of_change key mark c high h = mark_behind (eqb mark 0) key c h ∙ none_or_one mark high

pub change_text_lawful : Lawful change_text 65797
unfolding change_text
change_text_lawful =
    field_lawful _ _ _ 1 65796 (u8_lawful 1 255 (omega arith)) (λ a c f h. bytes_count a c.key h.0) λ key_length range.
    field_lawful _ _ _ 255 65541 (weaken _ key_length 255 (let r = number_within w8 1 255 key_length range in omega arith) (bytes_lawful key_length)) (λ key c f h. key_of_change key _ c h.1) λ key _.
    field_lawful _ _ _ 1 65540 (u8_lawful 0 1 (omega arith)) (λ mark c f h. mark_of_change key mark c (let r = number_within w8 0 1 mark f in r.1) h) λ mark _.
    behind_lawful key mark

-- ---- lists

pub changes_text_lawful : Lawful changes_text 1052753
unfolding changes_text
changes_text_lawful =
    field_lawful _ _ _ 1 1052752 (u8_lawful 1 16 (omega arith)) (λ a cs f h. list_count a _ _ cs h.0) λ count range.
    field_lawful _ _ _ 1052752 0 (weaken _ (count * 65797) 1052752 (let r = number_within w8 1 16 count range in omega arith) (list_lawful count _ _ 65797 change_text_lawful)) (λ changes cs f h. h) λ changes _.
    made_lawful _

pub ids_text_lawful : Lawful ids_text 513
unfolding ids_text
ids_text_lawful =
    field_lawful _ _ _ 1 512 (u8_lawful 1 16 (omega arith)) (λ a ids f h. list_count a _ _ ids h.0) λ count range.
    field_lawful _ _ _ 512 0 (weaken _ (count * 32) 512 (let r = number_within w8 1 16 count range in omega arith) (digests_lawful count)) (λ ids is f h. h) λ ids _.
    made_lawful _

-- ---- lists whose keys rise

below_trans : (a b c : List ℕ) → is_below a b ≡ true → is_below b c ≡ true → is_below a c ≡ true
below_trans a b c one two = ap is_lt (nat_list_cmp_total.trans a b c (less_is _ one) (less_is _ two))

-- entries with keys, of which each that follows another has a greater one
module _ {E : Type 0} (entry : Format E) (may_follow : Option E → E → Bool) (key : E → List ℕ) (rises : (d e : E) → may_follow (Some d) e ≡ true → is_below (key d) (key e) ≡ true) where
  next_rises : (front : List E) (d e : E) (es : List E) → Follows entry may_follow (front ++ d ∷ []) (e ∷ es) → is_below (key d) (key e) ≡ true
  next_rises front d e es follows = rises d e (subst (λ (o : Option E). may_follow o e ≡ true) (last_pushed front d) follows.1)

  all_above : (low : List ℕ) (front : List E) (d : E) (es : List E) → is_below low (key d) ≡ true → Follows entry may_follow (front ++ d ∷ []) es → AllByRecursion (λ e. is_below low (key e) ≡ true) es
  all_above low front d [] below follows = tt
  all_above low front d (e ∷ es) below follows =
      let next = below_trans low (key d) (key e) below (next_rises front d e es follows) in
      (next, all_above low (front ++ d ∷ []) e es next follows.2)

  behind_rises : (front : List E) (d : E) (es : List E) → Follows entry may_follow (front ++ d ∷ []) es → AllByRecursion (λ e. is_below (key d) (key e) ≡ true) es
  behind_rises front d [] follows = tt
  behind_rises front d (e ∷ es) follows =
      let next = next_rises front d e es follows in
      (next, all_above (key d) (front ++ d ∷ []) e es next follows.2)

  pub all_rise : (front es : List E) → Follows entry may_follow front es → AllPairsByRecursion (λ d e. is_below (key d) (key e) ≡ true) es
  all_rise front [] follows = tt
  all_rise front (e ∷ es) follows = (behind_rises front e es follows.2, all_rise (front ++ e ∷ []) es follows.2)
