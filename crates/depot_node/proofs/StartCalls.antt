-- Which calls on the disk a start makes.
use Rattle.std.proofs.Common.{◌≡◌, ℕ, List, [], ◌∷◌, ◌++◌, map, refl, arith}
use Rattle.depot_base.specs.Calls.{Made, made, FailsAmong, calls_to_start}
use Rattle.depot_base.specs.Faults.{HasCause}
use Rattle.depot_base.specs.File.{IsFileOf}
use Rattle.depot_base.specs.declared.record.Record.{Record}
use Rattle.depot_base.proofs.CallLaws.{fails_later, fails_wider, made_later}
use Rattle.depot_journal.specs.declared.journal_error.JournalError.{JournalError}
use Rattle.depot_journal.specs.declared.journal_error.JournalError.TheVariants as journal_error
use Rattle.depot_journal.proofs.OneList.{one_list}
use Rattle.depot_model.specs.checks.Checks.{Setting}
use Rattle.depot_model.specs.texts.Records.{text_of_record}
use Rattle.depot_model.specs.journals.Stops.{calls_to_record}
use Rattle.depot_node.specs.Starting.{birth_after, calls_to_start_node, of_journal}
use Rattle.depot_node.specs.declared.start_error.StartError.TheVariants as refused

-- ---- records are read

-- where there is a record, no birth is appended
pub no_birth : {D : Type 0} (after : D → List Made → D → Type 0) (here : Setting) (old new : D) (texts rest : List (List ℕ)) (text : List ℕ) → texts ≡ text ∷ rest → after old [] new
    → (J : List Record) → texts ≡ map text_of_record J → after old (made (calls_to_record J (birth_after here J))) new
no_birth after here old new texts rest text some none [] is = absurd cc
no_birth after here old new texts rest text some none (r ∷ J) is = none

-- ---- a journal is started, and then its records are read

module _ {D : Type 0} (after : D → List Made → D → Type 0) (more : (a b c : D) (xs ys : List Made) → after a xs b → after b ys c → after a (xs ++ ys) c) (here : Setting) (file : List ℕ) where
  pub calls_of_start : (disk mid new : D) (texts : List (List ℕ)) → IsFileOf file texts → after disk (made (calls_to_start file)) mid → ((J : List Record) → texts ≡ map text_of_record J → after mid (made (calls_to_record J (birth_after here J))) new)
      → (J : List Record) → IsFileOf file (map text_of_record J) → after disk (made (calls_to_start_node here file J)) new
  calls_of_start disk mid new texts read first then J has = made_later after more disk mid new (calls_to_start file) (calls_to_record J (birth_after here J)) first (then J (one_list file texts (map text_of_record J) read has))

  pub reading_fails : (disk mid new : D) (texts : List (List ℕ)) → IsFileOf file texts → after disk (made (calls_to_start file)) mid → ((J : List Record) → texts ≡ map text_of_record J → FailsAmong after mid new (calls_to_record J (birth_after here J)))
      → (J : List Record) → IsFileOf file (map text_of_record J) → FailsAmong after disk new (calls_to_start_node here file J)
  reading_fails disk mid new texts read first then J has = fails_later after more disk mid new (calls_to_start file) (calls_to_record J (birth_after here J)) first (then J (one_list file texts (map text_of_record J) read has))

-- the journal couldn't be started
pub start_fails : {D : Type 0} (after : D → List Made → D → Type 0) (here : Setting) (file : List ℕ) (disk new : D) → FailsAmong after disk new (calls_to_start file) → (J : List Record) → FailsAmong after disk new (calls_to_start_node here file J)
start_fails after here file disk new fails J = fails_wider after disk new (calls_to_start file) (calls_to_record J (birth_after here J)) fails

-- that is so where the journal says that the disk failed
pub disk_of_journal : (e : JournalError) → of_journal e ≡ refused.Disk → e ≡ journal_error.Disk
disk_of_journal journal_error.Memory is = absurd cc
disk_of_journal journal_error.Disk is = refl
disk_of_journal (journal_error.Damaged at) is = absurd cc

-- a fault after a call in which none came
pub cause_behind : (before mid new back : ℕ) (failed answered : Type 0) → mid ≡ before → back ≡ new → (answered → failed) → (failed → answered) → HasCause mid new failed → HasCause before back answered
cause_behind before mid new back failed answered first last on from c = record {
  never_falls = omega (arith, c.never_falls, first, last);
  rose = λ is. omega (arith, c.rose (on is), first, last);
  only = λ rose. from (c.only (omega (arith, rose, first, last)));
}
