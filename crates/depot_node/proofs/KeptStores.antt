-- The store of a node after a commit.
use Rattle.std.proofs.Common.{◌≡◌, false, List, [], ◌∷◌, ◌++◌, take, refl, sym, ap, subst, ◌∙◌}
use Rattle.depot_base.specs.declared.record.Record.{Record}
use Rattle.depot_model.specs.checks.Checks.{Setting}
use Rattle.depot_model.specs.journals.Lawful.{IsLawful, is_empty}
use Rattle.depot_model.specs.checks.Limits.{IsCutShort}
use Rattle.depot_model.specs.texts.Roster.{Verifies}
use Rattle.depot_node.specs.Holdings.{Holding, node_setting}
use Rattle.depot_node.specs.StoreCalls.{IsKept}
use Rattle.depot_node.proofs.AppendLaws.{lawful_cut}

some_more : (J new : List Record) → is_empty J ≡ false → is_empty (J ++ new) ≡ false
some_more [] new some = absurd cc
some_more (r ∷ J) new some = refl

-- with all of the new records
pub kept_grown : {D : Type 0} (verifies : Verifies) (old new : Holding D) (more : List Record) → IsKept verifies old → new.unread ≡ [] → node_setting verifies new ≡ node_setting verifies old → IsLawful (node_setting verifies old) (old.records ++ more) → new.records ≡ old.records ++ more → IsKept verifies new
kept_grown verifies old new more kept read stands lawful grown = record {
  read = read;
  lawful = subst (λ (s : Setting). IsLawful s new.records) (sym stands) (subst (λ (K : List Record). IsLawful (node_setting verifies old) K) (sym grown) lawful);
  some = ap is_empty grown ∙ some_more old.records more kept.some;
}

-- with none
pub kept_same : {D : Type 0} (verifies : Verifies) (old new : Holding D) → IsKept verifies old → new.unread ≡ [] → node_setting verifies new ≡ node_setting verifies old → new.records ≡ old.records → IsKept verifies new
kept_same verifies old new kept read stands same = record {
  read = read;
  lawful = subst (λ (s : Setting). IsLawful s new.records) (sym stands) (subst (λ (K : List Record). IsLawful (node_setting verifies old) K) (sym same) kept.lawful);
  some = ap is_empty same ∙ kept.some;
}

-- with those before the one on which the disk failed
pub kept_cut : {D : Type 0} (verifies : Verifies) (old new : Holding D) (more : List Record) → IsKept verifies old → new.unread ≡ [] → node_setting verifies new ≡ node_setting verifies old → IsLawful (node_setting verifies old) (old.records ++ more) → IsCutShort old.records more new.records → IsKept verifies new
kept_cut verifies old new more kept read stands lawful cut = record {
  read = read;
  lawful = lawful_cut (node_setting verifies old) (node_setting verifies new) old.records more new.records stands lawful cut;
  some = ap is_empty cut.grown ∙ some_more old.records (take cut.count more) kept.some;
}
