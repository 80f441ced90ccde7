-- The changes that give receipts: a node may be asked for them, they are bytes, and they are as many as the references.
use Rattle.std.proofs.Common.{◌≡◌, ℕ, suc, ◌+◌, ◌≤◌, List, [], ◌∷◌, length, map, Option, Some, None, refl, sym, ap, subst, ◌∙◌, arith, inl, inr, length-append}
use Rattle.std.specs.Prelude.{codes, option_map}
use Rattle.std.specs.List.{AllByRecursion}
use Rattle.sha2.proofs.Facts256.{length-sha256}
use Rattle.depot_base.specs.Sized.{IsKey, IsValue}
use Rattle.depot_base.specs.Writes.{value_in_change}
use Rattle.depot_base.specs.declared.update.Update.{Update}
use Rattle.depot_model.specs.updates.Changes.{AreChanges}
use Rattle.depot_model.specs.lists.Lists.{IsIn}
use Rattle.depot_model.specs.worlds.Receipts.{receipt_key, receipt_changes}
use Rattle.depot_model.specs.texts.Texts.{id_of_update, text_of_update}
use Rattle.depot_model.specs.checks.Vouching.{rising}
use Rattle.depot_model.proofs.lists.Members.{from_map}
use Rattle.depot_laws.proofs.of_audits.TrueReceipts.{keys_rise}
use Rattle.depot_laws.proofs.lists.Groups.{from_rising}
use Rattle.depot_laws.proofs.lists.RisingBytes.{rising_rises, rising_short, rising_some}
use Rattle.depot_schedule.specs.declared.event.Ref.{Ref}
use Rattle.depot_world.specs.FaultySigning.{all_of, all_referred}
use Rattle.depot_world.specs.Run.{Run, referred}
use Rattle.depot_world.proofs.of_bytes.ByteOwn.{IsByteChange}
use Rattle.depot_world.proofs.of_bytes.ByteTexts.{only_id}
use Rattle.depot_world.proofs.of_bytes.OnlyBytes.{OnlyBytes, only_both}

-- ---- ids that rise

-- the ids of some updates, rising
abbrev pub ids_of : List Update → List (List ℕ)
ids_of us = rising (map id_of_update us)

id_is : (us : List Update) (h : List ℕ) → IsIn h (ids_of us) → (u : Update) × (id_of_update u ≡ h)
id_is us h on = let t = from_map id_of_update h us (from_rising h (map id_of_update us) on) in (t.0, t.1.1)

id_is_long : (u : Update) → length (id_of_update u) ≡ 32
unfolding id_of_update
id_is_long u = length-sha256 (text_of_update u)

-- ---- their changes

key_is_long : (h : List ℕ) → length h ≡ 32 → length (receipt_key h) ≡ 40
unfolding receipt_key
key_is_long h long = length-append (codes "receipt:") h ∙ ap (λ (n : ℕ). 8 + n) long

only_key : (h : List ℕ) → OnlyBytes h → OnlyBytes (receipt_key h)
unfolding receipt_key
only_key h only = only_both (codes "receipt:") h (omega arith, (omega arith, (omega arith, (omega arith, (omega arith, (omega arith, (omega arith, (omega arith, tt)))))))) only

as_many : (ids : List (List ℕ)) → length (receipt_changes ids) ≡ length ids
as_many [] = refl
as_many (h ∷ ids) = ap (λ (n : ℕ). suc n) (as_many ids)

pub many_ids : (us : List Update) → length (map id_of_update us) ≡ length us
many_ids [] = refl
many_ids (u ∷ us) = ap (λ (n : ℕ). suc n) (many_ids us)

each_is : (ids : List (List ℕ)) → ((h : List ℕ) → IsIn h ids → length h ≡ 32) → AllByRecursion (λ c. IsKey c.key × AllByRecursion IsValue (value_in_change c)) (receipt_changes ids)
each_is [] long = tt
each_is (h ∷ ids) long =
    let key = key_is_long h (long h (inl refl)) in
    (((omega (arith, key), omega (arith, key)), (omega arith, tt)), each_is ids (λ k on. long k (inr on)))

-- 1 to 16 updates make changes that a node may be asked for
pub receipts_are_changes : (us : List Update) → 1 ≤ length us → length us ≤ 16 → AreChanges (receipt_changes (ids_of us))
receipts_are_changes us some few =
    let many = as_many (ids_of us) in
    let ids = many_ids us in
    let low = rising_some (map id_of_update us) (omega (arith, some, ids)) in
    let high = rising_short (map id_of_update us) in
    record {
      some = omega (arith, low, many);
      few = omega (arith, high, ids, few, many);
      each = each_is (ids_of us) (λ h on. let t = id_is us h on in subst (λ (k : List ℕ). length k ≡ 32) t.1 (id_is_long t.0));
      rising = keys_rise (ids_of us) (rising_rises (map id_of_update us));
    }

each_only : (ids : List (List ℕ)) → ((h : List ℕ) → IsIn h ids → OnlyBytes h) → AllByRecursion IsByteChange (receipt_changes ids)
each_only [] only = tt
each_only (h ∷ ids) only = ((only_key h (only h (inl refl)), (tt, tt)), each_only ids (λ k on. only k (inr on)))

-- and they are bytes
pub receipts_are_bytes : (us : List Update) → AllByRecursion IsByteChange (receipt_changes (ids_of us))
receipts_are_bytes us = each_only (ids_of us) (λ h on. let t = id_is us h on in subst OnlyBytes t.1 (only_id t.0))

-- ---- what references name

all_as_many : {X : Type 0} (os : List (Option X)) (xs : List X) → all_of os ≡ Some xs → length xs ≡ length os
unfolding all_of
all_as_many [] xs e = let none : [] ≡ xs = cc in sym (ap length none)
all_as_many (None ∷ os) xs e = absurd cc
all_as_many {X = X} (Some x ∷ os) xs e = of (all_of os) (all_as_many os) e where
  of : (o : Option (List X)) → ((ys : List X) → o ≡ Some ys → length ys ≡ length os) → option_map (λ ys. x ∷ ys) o ≡ Some xs → length xs ≡ suc (length os)
  of None each e = absurd cc
  of (Some ys) each e = let all : x ∷ ys ≡ xs = cc in sym (ap length all) ∙ ap (λ (n : ℕ). suc n) (each ys refl)

asked_as_many : (run : Run) (refs : List Ref) → length (map (referred run) refs) ≡ length refs
asked_as_many run [] = refl
asked_as_many run (r ∷ refs) = ap (λ (n : ℕ). suc n) (asked_as_many run refs)

-- as many updates as references
pub referred_as_many : (run : Run) (refs : List Ref) (us : List Update) → all_referred run refs ≡ Some us → length us ≡ length refs
referred_as_many run refs us e = all_as_many (map (referred run) refs) us e ∙ asked_as_many run refs
