-- Groups that are appended, and the calls that append them.
use Rattle.std.proofs.Common.{◌≡◌, ◌≤◌, ℕ, List, [], ◌∷◌, ◌++◌, append-nil, length, map, sym, ap, subst, ◌∙◌, arith}
use Rattle.depot_base.specs.Calls.{Call, FailsAmong, made}
use Rattle.depot_base.specs.File.{blocks}
use Rattle.depot_base.specs.declared.record.Record.{Record}
use Rattle.depot_journal.specs.Groups.{calls_to_append_group}
use Rattle.depot_model.specs.declared.node_state.NodeState.{Ghosts}
use Rattle.depot_model.specs.texts.Records.{text_of_record}
use Rattle.depot_session.specs.GroupCalls.{AppendsGroups, calls_of_group, calls_of_groups}

-- the calls of an append are those of its group
calls_are : (J K : List Record) (gate : ℕ) (bytes : List ℕ) → 1 ≤ length (map text_of_record K) → gate ≡ length (blocks (map text_of_record J)) → bytes ≡ blocks (map text_of_record K) → calls_to_append_group gate bytes ≡ calls_of_groups J (K ∷ [])
calls_are J [] gate bytes some at is = absurd (omega (arith, some))
calls_are J (r ∷ K) gate bytes some at is =
    let gates : calls_to_append_group gate bytes ≡ calls_to_append_group (length (blocks (map text_of_record J))) bytes = ap (λ (n : ℕ). calls_to_append_group n bytes) at in
    let texts : calls_to_append_group (length (blocks (map text_of_record J))) bytes ≡ calls_of_group J (r ∷ K) = ap (calls_to_append_group (length (blocks (map text_of_record J)))) is in
    gates ∙ texts ∙ sym (append-nil (calls_of_group J (r ∷ K)))

module _ {N : Type 0} (g : Ghosts N) (old new : N) (failed : Type 0) where
  -- none was appended
  pub appends_nothing : (failed → ⊥) → g.records new ≡ g.records old → g.after old [] new → AppendsGroups g old new failed
  appends_nothing calm same none = record { groups = []; grown = λ _. same ∙ sym (append-nil (g.records old)); whole = λ _. none; part = λ f. absurd (calm f) }

  module _ (K : List Record) (gate : ℕ) (bytes : List ℕ) (some : 1 ≤ length (map text_of_record K)) (at : gate ≡ length (blocks (map text_of_record (g.records old)))) (is : bytes ≡ blocks (map text_of_record K)) where
    -- one was
    pub appends_one : (failed → ⊥) → g.records new ≡ g.records old ++ K → g.after old (made (calls_to_append_group gate bytes)) new → AppendsGroups g old new failed
    appends_one calm more done = record {
      groups = K ∷ [];
      grown = λ _. more ∙ ap (λ (L : List Record). g.records old ++ L) (sym (append-nil K));
      whole = λ _. subst (λ (calls : List Call). g.after old (made calls) new) (calls_are (g.records old) K gate bytes some at is) done;
      part = λ f. absurd (calm f);
    }

    -- its append failed
    pub appends_in_part : failed → FailsAmong g.after old new (calls_to_append_group gate bytes) → AppendsGroups g old new failed
    appends_in_part f fails = record {
      groups = K ∷ [];
      grown = λ calm. absurd (calm f);
      whole = λ calm. absurd (calm f);
      part = λ _. subst (λ (calls : List Call). FailsAmong g.after old new calls) (calls_are (g.records old) K gate bytes some at is) fails;
    }
