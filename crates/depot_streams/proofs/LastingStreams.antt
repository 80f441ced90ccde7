-- The crash images of calls on a node, one after another.
use Rattle.std.proofs.Common.{◌≡◌, ℕ, ◌+◌, false, List, [], ◌++◌, append_assoc, length, take, refl, sym, ap, subst, ◌∙◌, arith}
use Rattle.std.proofs.lemmas.List.{append-nil, take_all}
use Rattle.depot_base.specs.declared.record.Record.{Record}
use Rattle.depot_model.specs.checks.Checks.{Setting}
use Rattle.depot_model.specs.journals.Lawful.{IsLawful}
use Rattle.depot_model.specs.checks.Limits.{IsCutShort}
use Rattle.depot_model.specs.worlds.Receipts.{AreReceiptsTrue}
use Rattle.depot_model.specs.journals.JournalCalls.{IsStable, Lasts}
use Rattle.depot_model.specs.journals.Replicas.{journal_of}
use Rattle.depot_model.specs.declared.node_state.NodeState.{Ghosts}
use Rattle.depot_streams.specs.Lasting.{IsToAppend, LastsIn}
use Rattle.depot_model.proofs.of_journals.StopLaws.{idle_lasts, lasts_joined, so_many_more}

-- ---- all or a prefix

-- these were appended, or, where the call failed, a prefix of them
pub record IsPart (J new then : List Record) (failed : Type 0) : Type 0 where
  pub count : ℕ
  pub front : then ≡ J ++ take count new
  pub all : (failed → ⊥) → then ≡ J ++ new

-- all of them were appended
pub all_of : (J new then : List Record) (failed : Type 0) → then ≡ J ++ new → IsPart J new then failed
all_of J new then failed grown = record { count = length new; front = grown ∙ ap (λ (x : List Record). J ++ x) (sym (take_all (length new) new (omega arith))); all = λ _. grown }

-- the disk cut them short
pub cut_of : (J new then : List Record) (failed : Type 0) → failed → IsCutShort J new then → IsPart J new then failed
cut_of J new then failed is cut = record { count = cut.count; front = cut.grown; all = λ well. absurd (well is) }

-- what was to be appended, with which the journal is lawful and its receipts are true
pub to_append : (here : Setting) (J new then : List Record) (failed : Type 0) → IsLawful here (J ++ new) → (AreReceiptsTrue J → AreReceiptsTrue (J ++ new)) → IsPart J new then failed → IsToAppend here J new then failed
to_append here J new then failed lawful receipts part = record { lawful = lawful; receipts = receipts; count = part.count; front = part.front; all = part.all }

-- what a call was to append it was to append, where more failed than the call
pub lasts_so : {N : Type 0} (g : Ghosts N) (was failed : Type 0) (old new : N) → (was → failed) → LastsIn g was old new → LastsIn g failed old new
lasts_so g was failed old new so l = record {
  appends = l.appends;
  is = record { lawful = l.is.lawful; receipts = l.is.receipts; count = l.is.count; front = l.is.front; all = λ well. l.is.all (λ w. well (so w)) };
  lasts = l.lasts;
}

-- ---- a call that does nothing

-- a call that appended nothing
pub none_in : {N : Type 0} (g : Ghosts N) (failed : Type 0) (old new : N) → IsLawful (g.stands old) (g.records old) → g.records new ≡ g.records old → Lasts (journal_of g) old new [] → LastsIn g failed old new
none_in g failed old new lawful same lasts =
    let J : List Record = g.records old in
    let nil : J ≡ J ++ [] = sym (append-nil J) in
    record {
      appends = [];
      is = to_append (g.stands old) J [] (g.records new) failed (subst (λ (K : List Record). IsLawful (g.stands old) K) nil lawful) (subst AreReceiptsTrue nil) (all_of J [] (g.records new) failed (same ∙ nil));
      lasts = lasts;
    }

-- a call that did nothing
pub nothing_in : {N : Type 0} (g : Ghosts N) → ((n : N) (file : List ℕ) → g.left_since n (g.moment n) file → g.may_leave n file)
    → (failed : Type 0) (n : N) → IsLawful (g.stands n) (g.records n) → IsStable (journal_of g) n → LastsIn g failed n n
nothing_in g only_now failed n lawful stable = none_in g failed n n lawful refl (idle_lasts (journal_of g) only_now n [] stable)

-- ---- one call, and then another

-- what was to be appended by both
both_to_append : (here there : Setting) (was failed : Type 0) (J K L a b : List Record) → (was → ⊥) → there ≡ here → IsToAppend here J a K was → IsToAppend there K b L failed → IsToAppend here J (a ++ b) L failed
both_to_append here there was failed J K L a b well stays one two =
    let grown : K ≡ J ++ a = one.all well in
    let behind : (x : List Record) → K ++ x ≡ J ++ (a ++ x) = λ x. ap (λ (y : List Record). y ++ x) grown ∙ append_assoc J a x in
    record {
      lawful = subst (λ (x : List Record). IsLawful here x) (behind b) (subst (λ (h : Setting). IsLawful h (K ++ b)) stays two.lawful);
      receipts = λ a_true. subst AreReceiptsTrue (behind b) (two.receipts (subst AreReceiptsTrue (sym grown) (one.receipts a_true)));
      count = length a + two.count;
      front = two.front ∙ ap (λ (x : List Record). x ++ take two.count b) grown ∙ so_many_more J a b two.count;
      all = λ whole. two.all whole ∙ behind b;
    }

-- the same, where the records are those that the calls were to append
pub joined_in : {N : Type 0} (g : Ghosts N) (was failed : Type 0) (old mid new : N) → (was → ⊥) → g.stands mid ≡ g.stands old → g.stopped old ≡ false → g.stopped mid ≡ false → LastsIn g was old mid → LastsIn g failed mid new → LastsIn g failed old new
joined_in g was failed old mid new well stays ran runs one two = record {
  appends = one.appends ++ two.appends;
  is = both_to_append (g.stands old) (g.stands mid) was failed (g.records old) (g.records mid) (g.records new) one.appends two.appends well stays one.is two.is;
  lasts = lasts_joined old mid new one.appends two.appends ran runs (one.is.all well) one.lasts two.lasts;
}
