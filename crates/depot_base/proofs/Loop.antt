-- Reading entries one after another, as a loop does.
use Rattle.std.proofs.Common.{◌≡◌, ℕ, suc, ◌-◌, ◌+◌, ◌<◌, Bool, true, false, List, [], ◌∷◌, ◌++◌, Option, Result, Ok, Err, refl, sym, ◌∙◌, arith}
use Rattle.depot_base.specs.Cursor.{Cursor}
use Rattle.depot_base.specs.Reading.{Reads, ReadsBy}
use Rattle.depot_base.specs.declared.fault.Fault.{Fault}
use Rattle.depot_base.specs.declared.fault.Fault.TheVariants.{Memory, At}
use Rattle.depot_base.specs.Format.{last_of, read_entries}

abbrev pub failing : {V : Type 0} → Fault → Result V Fault
failing f = Err f

pub goes_on : {E : Type 0} (entry : Cursor → Result (E × Cursor) ℕ) (may_follow : Option E → E → Bool) (count i : ℕ) (front : List E) (c : Cursor) (e : E) (d : Cursor) (total : Result (List E × Cursor) ℕ)
    → i < count → entry c ≡ Ok (e, d) → may_follow (last_of front) e ≡ true
    → read_entries entry may_follow (count - i) front c ≡ total → read_entries entry may_follow (count - (i + 1)) (front ++ e ∷ []) d ≡ total
goes_on entry may_follow count i front c e d total lt read may so_far =
    let k : count - i ≡ suc (count - (i + 1)) = omega arith in
    let one : read_entries entry may_follow (count - i) front c ≡ read_entries entry may_follow (count - (i + 1)) (front ++ e ∷ []) d = rw (k, read, may) refl in
    sym one ∙ so_far

pub refused : {E : Type 0} (entry : Cursor → Result (E × Cursor) ℕ) (may_follow : Option E → E → Bool) (count i : ℕ) (front : List E) (c : Cursor) (e : E) (d : Cursor) (total : Result (List E × Cursor) ℕ)
    → i < count → entry c ≡ Ok (e, d) → may_follow (last_of front) e ≡ false
    → read_entries entry may_follow (count - i) front c ≡ total → total ≡ Err c.at
refused entry may_follow count i front c e d total lt read may so_far =
    let k : count - i ≡ suc (count - (i + 1)) = omega arith in
    let one : read_entries entry may_follow (count - i) front c ≡ Err c.at = rw (k, read, may) refl in
    sym so_far ∙ one

pub failed : {E X : Type 0} (view : X → List E) (entry : Cursor → Result (E × Cursor) ℕ) (may_follow : Option E → E → Bool) (count i : ℕ) (front : List E) (c : Cursor) (f : Fault) (total : Result (List E × Cursor) ℕ) (after : Cursor)
    → i < count → Reads (failing {V = E} f) after (entry c)
    → read_entries entry may_follow (count - i) front c ≡ total → ReadsBy view (failing {V = X} f) after total
failed view entry may_follow count i front c Memory total after lt read so_far = tt
failed view entry may_follow count i front c (At at) total after lt read so_far =
    let k : count - i ≡ suc (count - (i + 1)) = omega arith in
    let one : read_entries entry may_follow (count - i) front c ≡ Err at = rw (k, read) refl in
    sym so_far ∙ one
