-- The room of a journal, for its records one by one.
use Rattle.std.proofs.Common.{◌≡◌, ℕ, ◌+◌, ◌≤◌, ◌^◌, Bool, true, false, List, [], ◌∷◌, ◌++◌, length, Option, None, refl, sym, ap, subst, append_assoc, arith}
use Rattle.std.specs.List.{AllByRecursion}
use Rattle.std.proofs.lemmas.Bool.{ltb-false, le-ltb}
use Rattle.std.proofs.lemmas.List.Sums.{sum_by-append}
use Rattle.std.proofs.lemmas.List.{length-append}
use Rattle.depot_base.specs.declared.proof.Proof.{Proof}
use Rattle.depot_base.specs.declared.record.Record.{Record}
use Rattle.depot_base.specs.declared.record.Record.TheVariants.{Conviction}
use Rattle.depot_base.specs.declared.check.Full.{Full}
use Rattle.depot_model.specs.lists.Lists.{when, first}
use Rattle.depot_model.specs.texts.Records.{text_of_record, journal_bytes}
use Rattle.depot_model.specs.checks.Room.{foreign_leaves, take_an_update, leaves_passed, full_with, HasRoom}
use Rattle.depot_model.proofs.lists.FirstLaws.{each_is_none, when-none}

-- what the three limits say
pub record Within (me : ℕ) (J new : List Record) : Type 0 where
  pub records : length (J ++ new) ≤ 131072
  pub bytes : journal_bytes (J ++ new) ≤ 2 ^ 30
  pub writers : take_an_update new ≡ true → length (foreign_leaves me (J ++ new)) ≤ 4096

-- the limit of leaves is kept where those that count are few, and only there
leaves_within : (counts : Bool) (leaves leaves_then : ℕ) → leaves_passed leaves (when counts leaves_then) ≡ None → counts ≡ true → leaves_then ≤ 4096
leaves_within true leaves leaves_then none is = ltb-false _ _ (when-none _ _ none)
leaves_within false leaves leaves_then none is = absurd cc

leaves_kept : (counts : Bool) (leaves leaves_then : ℕ) → (counts ≡ true → leaves_then ≤ 4096) → leaves_passed leaves (when counts leaves_then) ≡ None
leaves_kept true leaves leaves_then few = rw (le-ltb _ _ (few refl)) refl
leaves_kept false leaves leaves_then few = refl

-- where none of three comes first, each is none
each_of_three : {X : Type 0} (a b c : Option X) → first (a ∷ b ∷ c ∷ []) ≡ None → AllByRecursion (λ (o : Option X). o ≡ None) (a ∷ b ∷ c ∷ [])
each_of_three a b c none = each_is_none (a ∷ b ∷ c ∷ []) none

-- where there is room, the limits are kept
pub within_from_room : (me : ℕ) (J new : List Record) → HasRoom me J new → Within me J new
unfolding full_with
within_from_room me J new room =
    let each = each_of_three _ _ _ room in
    record {
      records = ltb-false _ _ (when-none _ _ each.0);
      bytes = ltb-false _ _ (when-none _ _ each.1.0);
      writers = leaves_within (take_an_update new) _ _ each.1.1.0;
    }

-- and only there
pub room_from_within : (me : ℕ) (J new : List Record) → Within me J new → HasRoom me J new
unfolding full_with
room_from_within me J new w = rw (le-ltb _ _ w.records, le-ltb _ _ w.bytes) (ap (λ (o : Option Full). first (o ∷ [])) (leaves_kept (take_an_update new) _ _ w.writers))

-- ---- two records in turn

-- records before others bring no more bytes than all of them
pub bytes_front : (J new more : List Record) → journal_bytes (J ++ new) ≤ journal_bytes (J ++ (new ++ more))
bytes_front J new more =
    let f : Record → ℕ = λ r. 5 + length (text_of_record r) in
    omega (arith, sum_by-append f J new, sum_by-append f J (new ++ more), sum_by-append f new more)

-- room for a conviction and more is room for the conviction
pub room_front : (me : ℕ) (J : List Record) (p : Proof) (more : List Record) → HasRoom me J (Conviction p ∷ more) → HasRoom me J (Conviction p ∷ [])
room_front me J p more room =
    let w = within_from_room me J (Conviction p ∷ more) room in
    room_from_within me J (Conviction p ∷ []) (record {
      records = omega (arith, w.records, length-append J (Conviction p ∷ []), length-append J (Conviction p ∷ more));
      bytes = omega (arith, w.bytes, bytes_front J (Conviction p ∷ []) more);
      writers = λ takes. absurd cc;
    })

-- and after it for the others
pub room_behind : (me : ℕ) (J : List Record) (p : Proof) (more : List Record) → HasRoom me J (Conviction p ∷ more) → HasRoom me (J ++ Conviction p ∷ []) more
room_behind me J p more room =
    let w = within_from_room me J (Conviction p ∷ more) room in
    let same : (J ++ Conviction p ∷ []) ++ more ≡ J ++ Conviction p ∷ more = append_assoc J (Conviction p ∷ []) more in
    room_from_within me (J ++ Conviction p ∷ []) more (record {
      records = subst (λ (x : List Record). length x ≤ 131072) (sym same) w.records;
      bytes = subst (λ (x : List Record). journal_bytes x ≤ 2 ^ 30) (sym same) w.bytes;
      writers = λ takes. subst (λ (x : List Record). length (foreign_leaves me x) ≤ 4096) (sym same) (w.writers takes);
    })
