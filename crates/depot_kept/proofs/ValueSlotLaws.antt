-- What a slot that is put in changes.
use Rattle.std.proofs.Common.{◌≡◌, ◌≢◌, ℕ, Bool, true, false, cond, List, Option, Some, None, IsTrue, IfSome, is_some, refl, sym, ap, ◌∙◌, subst}
use Rattle.std.specs.Prelude.{option_and_then}
use Rattle.std.specs.HashMap.{get, IsUnchanged}
use Rattle.std.specs.Str.{bytes_eq}
use Rattle.std.specs.Cmp.Lexicographic.{same_text}
use Rattle.sha2.specs.Sha256.{sha256}
use Rattle.depot_base.proofs.GeneralLaws.{same_bytes as same_slot}
use Rattle.depot_kept.specs.ValueSlots.{Slots, has_slot, value_in_slot, AreSlotsHashed, PutsSlot}

-- the slot that was put in
pub value_put : (old new : Slots) (hash : List ℕ) (slot : Option (List ℕ)) → PutsSlot old new hash slot → value_in_slot new hash ≡ slot
value_put old new hash slot p = ap (option_and_then (λ slot. slot)) (p.slots hash ∙ ap (λ (b : Bool). cond b (Some slot) (get bytes_eq old hash)) (same_slot hash))

by_test : (b : Bool) (x y : Option (Option (List ℕ))) (v : Option (List ℕ)) → v ≡ option_and_then (λ slot. slot) (cond b x y) → (b ≡ true → ⊥) → v ≡ option_and_then (λ slot. slot) y
by_test true x y v e other = absurd (other refl)
by_test false x y v e other = e

-- the other slots
pub value_beside : (old new : Slots) (hash : List ℕ) (slot : Option (List ℕ)) (other : List ℕ) → PutsSlot old new hash slot → other ≢ hash → value_in_slot new other ≡ value_in_slot old other
value_beside old new hash slot other p apart =
    by_test (bytes_eq hash other) (Some slot) (get bytes_eq old other) (value_in_slot new other) (ap (option_and_then (λ slot. slot)) (p.slots other)) (λ same. apart (sym (same_text hash other (sym same))))

-- an empty slot in place of none, or of an empty one, changes no value
pub values_same : (old new : Slots) (hash : List ℕ) → PutsSlot old new hash None → value_in_slot old hash ≡ None → (other : List ℕ) → value_in_slot new other ≡ value_in_slot old other
values_same old new hash p free other = by_cases (bytes_eq hash other) refl where
  by_cases : (b : Bool) → b ≡ bytes_eq hash other → value_in_slot new other ≡ value_in_slot old other
  by_cases true e = subst (λ (h : List ℕ). value_in_slot new h ≡ value_in_slot old h) (same_text hash other e) (value_put old new hash None p ∙ sym free)
  by_cases false e = value_beside old new hash None other p (λ same. let s = same_slot hash in let t : bytes_eq hash other ≡ true = subst (λ (h : List ℕ). bytes_eq hash h ≡ true) (sym same) s in cc)

-- a slot stays
pub slot_stays : (old new : Slots) (hash : List ℕ) (slot : Option (List ℕ)) → PutsSlot old new hash slot → (other : List ℕ) → IsTrue (has_slot old other) → IsTrue (has_slot new other)
slot_stays old new hash slot p other there = kept (bytes_eq hash other) (get bytes_eq new other) (p.slots other) where
  kept : (b : Bool) (now : Option (Option (List ℕ))) → now ≡ cond b (Some slot) (get bytes_eq old other) → IsTrue (is_some now)
  kept true now e = subst (λ (o : Option (Option (List ℕ))). IsTrue (is_some o)) (sym e) refl
  kept false now e = subst (λ (o : Option (Option (List ℕ))). IsTrue (is_some o)) (sym e) there

-- the slot that was put in is there
pub slot_put : (old new : Slots) (hash : List ℕ) (slot : Option (List ℕ)) → PutsSlot old new hash slot → IsTrue (has_slot new hash)
slot_put old new hash slot p = ap is_some (p.slots hash ∙ ap (λ (b : Bool). cond b (Some slot) (get bytes_eq old hash)) (same_slot hash))

-- with no slot there is no value
pub no_slot : (slots : Slots) (hash : List ℕ) → has_slot slots hash ≡ false → value_in_slot slots hash ≡ None
no_slot slots hash e = nothing (get bytes_eq slots hash) e where
  nothing : (o : Option (Option (List ℕ))) → is_some o ≡ false → option_and_then (λ slot. slot) o ≡ None
  nothing None e = refl
  nothing (Some x) e = absurd cc

-- the same entries have the same slots
pub same_slots : (old new : Slots) → IsUnchanged old new → (other : List ℕ) → get bytes_eq new other ≡ get bytes_eq old other
same_slots old new same other = rw same refl

-- values still have the hashes of their slots
pub hashed_after : (old new : Slots) (hash : List ℕ) (slot : Option (List ℕ)) → AreSlotsHashed old → PutsSlot old new hash slot → IfSome slot (λ value. sha256 value ≡ hash) → AreSlotsHashed new
hashed_after old new hash slot good p fits other value at = by_cases (bytes_eq hash other) refl where
  here : (s : Option (List ℕ)) → IfSome s (λ value. sha256 value ≡ hash) → s ≡ Some value → sha256 value ≡ hash
  here None fits e = absurd cc
  here (Some v) fits e = let same : v ≡ value = cc in subst (λ (x : List ℕ). sha256 x ≡ hash) same fits

  by_cases : (b : Bool) → b ≡ bytes_eq hash other → sha256 value ≡ other
  by_cases true e =
      let same = same_text hash other e in
      let now : value_in_slot new hash ≡ Some value = subst (λ (h : List ℕ). value_in_slot new h ≡ Some value) (sym same) at in
      here slot fits (sym (value_put old new hash slot p) ∙ now) ∙ same
  by_cases false e =
      good other value (sym (value_beside old new hash slot other p (λ same. let s = same_slot hash in let t : bytes_eq hash other ≡ true = subst (λ (h : List ℕ). bytes_eq hash h ≡ true) (sym same) s in cc)) ∙ at)

pub hashed_same : (old new : Slots) → AreSlotsHashed old → IsUnchanged old new → AreSlotsHashed new
hashed_same old new good same other value at = good other value (sym (ap (option_and_then (λ slot. slot)) (same_slots old new same other)) ∙ at)

pub ruleset slot_laws = (value_put, value_beside, values_same, slot_stays, slot_put, no_slot, same_slots, hashed_after, hashed_same)
