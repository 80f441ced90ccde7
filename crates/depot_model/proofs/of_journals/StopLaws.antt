-- The crash images of a call that does nothing, and of calls one after another.
use Rattle.std.proofs.Common.{◌≡◌, ◌≤◌, ◌⊎◌, ℕ, ◌+◌, Bool, true, false, IsTrue, List, ◌++◌, append_assoc, length, take, map, refl, sym, ap, subst, ◌∙◌, append-nil, arith, inl, inr, ⊎_elim}
use Rattle.std.proofs.lemmas.List.{take_all, take-append-le}
use Rattle.std.proofs.Math.Seq.{take-append_seam, take-append-add}
use Rattle.depot_base.specs.Disk.{LeavesOnly}
use Rattle.depot_base.specs.File.{IsFileOf}
use Rattle.depot_base.specs.declared.record.Record.{Record}
use Rattle.depot_model.specs.texts.Records.{text_of_record}
use Rattle.depot_model.specs.journals.JournalCalls.{JournalView, IsStable, Lasts}
use Rattle.depot_model.specs.journals.Stops.{HasAll, HasFront, HasRecords}

-- all records of a node that runs are a prefix with none of the new ones
none_of_new : (J new : List Record) (stopped : Bool) (file : List ℕ) → stopped ≡ false → HasAll J stopped file → HasFront J new file
none_of_new J new stopped file runs all = record {
  count = 0;
  has = subst (λ (x : List (List ℕ)). IsFileOf file x) (ap (λ (x : List (List ℕ)). map text_of_record J ++ x) (all.none runs) ∙ append-nil (map text_of_record J) ∙ ap (map text_of_record) (sym (append-nil J))) all.has;
}

-- where nothing is done, whatever might have been appended
pub idle_lasts : {N : Type 0} (v : JournalView N) → ((n : N) (file : List ℕ) → v.left_since n (v.moment n) file → v.may_leave n file)
    → (n : N) (more : List Record) → IsStable v n → Lasts v n n more
idle_lasts v only_now n more stable = record {
  told = refl;
  any_moment = λ t runs. record {
    later = omega arith;
    each = λ file left. none_of_new (v.records n) more (v.stopped n) file runs (stable t file (only_now n file left));
    before = λ t file _ left. inl left;
  };
  stable = stable;
  untouched = λ _. record { same_moment = refl; no_more = λ t file left. left };
}

-- ---- one call, and then another

-- of two numbers one isn't more than the other
no_more_or_less : (m n : ℕ) → (m ≤ n) ⊎ (n ≤ m)
no_more_or_less m n = grind arith

-- a prefix of some records is a prefix of these and more
pub front_longer : (J a b : List Record) (file : List ℕ) → HasFront J a file → HasFront J (a ++ b) file
front_longer J a b file front = by_count (no_more_or_less front.count (length a)) where
  by_count : (front.count ≤ length a) ⊎ (length a ≤ front.count) → HasFront J (a ++ b) file
  by_count (inl le) = record { count = front.count; has = subst (λ (x : List Record). HasRecords (J ++ x) file) (sym (take-append-le front.count a b le)) front.has }
  by_count (inr ge) = record { count = length a; has = subst (λ (x : List Record). HasRecords (J ++ x) file) (take_all front.count a ge ∙ sym (take-append_seam a b)) front.has }

-- some first ones of the second after all of the first are as many more of all
pub so_many_more : (J a b : List Record) (count : ℕ) → (J ++ a) ++ take count b ≡ J ++ take (length a + count) (a ++ b)
so_many_more J a b count = append_assoc J a (take count b) ∙ ap (λ (x : List Record). J ++ x) (sym (take-append-add a b count))

-- a prefix of the second after all of the first is a prefix of all
front_of_second : (J K a b : List Record) (file : List ℕ) → K ≡ J ++ a → HasFront K b file → HasFront J (a ++ b) file
front_of_second J K a b file grown front = record {
  count = length a + front.count;
  has = subst (λ (x : List Record). HasRecords x file) (ap (λ (x : List Record). x ++ take front.count b) grown ∙ so_many_more J a b front.count) front.has;
}

-- two stretches of time, of which each left something that has P
both_leave : {N : Type 0} {moment : N → ℕ} {left_since : N → ℕ → List ℕ → Type 0} (old mid new : N) (A B P : List ℕ → Type 0) → ((file : List ℕ) → A file → P file) → ((file : List ℕ) → B file → P file)
    → LeavesOnly moment left_since old mid A → LeavesOnly moment left_since mid new B → LeavesOnly moment left_since old new P
both_leave {moment = moment} old mid new A B P of_a of_b a b = record {
  later = omega (arith, a.later, b.later);
  each = λ file left. ⊎_elim (λ was. of_a file (a.each file was)) (λ now. of_b file now) (b.before (moment old) file a.later left);
  before = λ t file le left. ⊎_elim (λ was. ⊎_elim (λ before. inl before) (λ then. inr (of_a file then)) (a.before t file le was)) (λ now. inr (of_b file now)) (b.before t file (omega (arith, le, a.later)) left);
}

-- a prefix of the records that a call appends is one of these and more
pub lasts_longer : {N : Type 0} {v : JournalView N} → (old new : N) (a b : List Record) → Lasts v old new a → Lasts v old new (a ++ b)
lasts_longer {v = v} old new a b lasts = record {
  told = lasts.told;
  any_moment = λ t runs. let only = lasts.any_moment t runs in record {
    later = only.later;
    each = λ file left. longer file (only.each file left);
    before = λ t file le left. ⊎_elim (λ was. inl was) (λ then. inr (longer file then)) (only.before t file le left);
  };
  stable = lasts.stable;
  untouched = lasts.untouched;
} where
  longer : (file : List ℕ) → HasFront (v.records old) a file → HasFront (v.records old) (a ++ b) file
  longer file front = front_longer (v.records old) a b file front

-- the same for a list that is equal
pub lasts_alike : {N : Type 0} {v : JournalView N} → (old new : N) (a b : List Record) → a ≡ b → Lasts v old new a → Lasts v old new b
lasts_alike {v = v} old new a b is lasts = subst (λ (x : List Record). Lasts v old new x) is lasts

-- A call on a running node that appended all of the first ones, and then another one on it as it runs on.
pub lasts_joined : {N : Type 0} {v : JournalView N}
    → (old mid new : N) (a b : List Record) → v.stopped old ≡ false → v.stopped mid ≡ false → v.records mid ≡ v.records old ++ a → Lasts v old mid a → Lasts v mid new b → Lasts v old new (a ++ b)
lasts_joined {v = v} old mid new a b ran runs grown one two =
    let J = v.records old in
    let same : v.tells old ≡ v.tells mid = sym one.told in
    record {
      told = two.told ∙ one.told;
      any_moment = λ t _. both_leave old mid new (HasFront J a) (HasFront (v.records mid) b) (HasFront J (a ++ b)) (front_longer J a b)
          (λ file front. front_of_second J (v.records mid) a b file grown front) (one.any_moment t ran) (two.any_moment (subst (λ (x : Bool). IsTrue x) same t) runs);
      stable = two.stable;
      untouched = λ is. absurd (untrue (sym is ∙ ran));
    }
  where
    untrue : true ≡ false → ⊥
    untrue e = cc
