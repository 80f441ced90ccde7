-- What calls on a node, one after another, do on its disk.
use Rattle.std.proofs.Common.{◌≡◌, ℕ, ◌+◌, true, false, List, [], ◌++◌, append_assoc, length, map, refl, sym, ap, subst, ◌∙◌}
use Rattle.std.proofs.lemmas.List.{append-nil, append_cancel_left, map-append}
use Rattle.depot_base.specs.Calls.{Call, Made, made, FailsAmong, calls_to_append_all}
use Rattle.depot_base.specs.File.{blocks}
use Rattle.depot_base.specs.declared.record.Record.{Record}
use Rattle.depot_base.proofs.Blocks.{blocks-append}
use Rattle.depot_base.proofs.CallLaws.{fails_wider, fails_later, made_later, appends_append}
use Rattle.depot_model.specs.texts.Records.{text_of_record}
use Rattle.depot_model.specs.journals.JournalCalls.{JournalView, CallsDisk}
use Rattle.depot_model.specs.journals.Stops.{calls_to_record}

-- ---- the calls that append records

-- records that are appended after others
pub calls_behind : (J a b : List Record) → calls_to_record J (a ++ b) ≡ calls_to_record J a ++ calls_to_record (J ++ a) b
calls_behind J a b =
    let gate : ℕ = length (blocks (map text_of_record J)) in
    let behind : gate + length (blocks (map text_of_record a)) ≡ length (blocks (map text_of_record (J ++ a))) = sym (ap (λ (ts : List (List ℕ)). length (blocks ts)) (map-append text_of_record J a) ∙ blocks-append (map text_of_record J) (map text_of_record a)) in
    ap (calls_to_append_all gate) (map-append text_of_record a b)
    ∙ appends_append gate (map text_of_record a) (map text_of_record b)
    ∙ ap (λ (n : ℕ). calls_to_record J a ++ calls_to_append_all n (map text_of_record b)) behind

-- ---- one call

-- a node that wasn't called
pub nothing_called : {N : Type 0} (v : JournalView N) {failed : Type 0}
    → ((n : N) → v.after n [] n) → (n : N) (appends : List Record) → (failed → ⊥) → CallsDisk v n n appends failed
nothing_called v none n appends well = record {
  whole = λ _ grown is. subst (λ (adds : List Record). v.after n (made (calls_to_record (v.records n) adds)) n) (append_cancel_left (v.records n) [] grown (append-nil (v.records n) ∙ is)) (none n);
  part = λ f. absurd (well f);
  still = λ _. refl;
}

-- where the disk didn't fail, it doesn't matter what was to be appended
pub called_well : {N : Type 0} {v : JournalView N} {was failed : Type 0}
    → (old new : N) (a b : List Record) → (was → ⊥) → (failed → ⊥) → CallsDisk v old new a was → CallsDisk v old new b failed
called_well old new a b was_well well c = record { whole = λ _. c.whole was_well; part = λ f. absurd (well f); still = c.still }

-- of more records to append the disk fails on one, too
pub calls_longer : {N : Type 0} {v : JournalView N} {failed : Type 0}
    → (old new : N) (a b : List Record) → CallsDisk v old new a failed → CallsDisk v old new (a ++ b) failed
calls_longer {v = v} old new a b c = record {
  whole = c.whole;
  part = λ f. subst (λ (calls : List Call). FailsAmong v.after old new calls) (sym (calls_behind (v.records old) a b)) (fails_wider v.after old new _ _ (c.part f));
  still = c.still;
}

-- ---- one call, and then another

-- A call on a running node that appended these records, and on whose disk none failed. Then another one, which appended more.
pub calls_joined : {N : Type 0} (v : JournalView N) {was failed : Type 0}
    → ((x y z : N) (calls more : List Made) → v.after x calls y → v.after y more z → v.after x (calls ++ more) z)
    → (old mid new : N) (a b c more : List Record) → v.stopped old ≡ false → v.records mid ≡ v.records old ++ a → v.records new ≡ v.records mid ++ more → (was → ⊥)
    → CallsDisk v old mid c was → CallsDisk v mid new b failed → CallsDisk v old new (a ++ b) failed
calls_joined v join old mid new a b c more ran grown grown_more well one two =
    let J : List Record = v.records old in
    let first : v.after old (made (calls_to_record J a)) mid = one.whole well a grown in
    let split : (x : List Record) → calls_to_record J a ++ calls_to_record (v.records mid) x ≡ calls_to_record J (a ++ x) = λ x. ap (λ (K : List Record). calls_to_record J a ++ calls_to_record K x) grown ∙ sym (calls_behind J a x) in
    let all : v.records new ≡ J ++ (a ++ more) = grown_more ∙ ap (λ (K : List Record). K ++ more) grown ∙ append_assoc J a more in
    record {
      whole = λ well grown_by is. subst (λ (adds : List Record). v.after old (made (calls_to_record J adds)) new) (append_cancel_left J (a ++ more) grown_by (sym all ∙ is))
          (subst (λ (calls : List Call). v.after old (made calls) new) (split more) (made_later v.after join old mid new _ _ first (two.whole well more grown_more)));
      part = λ f. subst (λ (calls : List Call). FailsAmong v.after old new calls) (split b) (fails_later v.after join old mid new _ _ first (two.part f));
      still = λ is. absurd (untrue (sym is ∙ ran));
    }
  where
    untrue : true ≡ false → ⊥
    untrue e = cc
