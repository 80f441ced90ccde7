-- The calls of a run on its disk.
use Rattle.std.proofs.Common.{◌≡◌, true, List, [], ◌∷◌, ◌++◌, append_assoc, sym, ap, subst, ◌∙◌}
use Rattle.depot_base.proofs.CallLaws.{fails_wider, made_append}
use Rattle.depot_base.specs.Calls.{Call, FailsAmong, Made, calls_to_start, made, made_but_last}
use Rattle.depot_base.specs.declared.record.Record.{Record}
use Rattle.depot_model.proofs.of_journals.CallsOnDisk.{calls_behind}
use Rattle.depot_model.specs.checks.Checks.{Setting}
use Rattle.depot_model.specs.journals.Stops.{calls_to_record}
use Rattle.depot_node.specs.Starting.{birth_after, calls_to_start_node, started}
use Rattle.depot_outside.specs.Told.{Disks}
use Rattle.depot_session.specs.SessionRuns.{DiskFailsAmong, calls_of_run}

module _ (here : Setting) (J : List Record) (disk : Disks) where
  -- the calls that start the node
  abbrev starting : List Call
  starting = calls_to_start_node here disk.file J

  -- after them those that append more
  in_run : (added : List Record) → starting ++ calls_to_record (started here J) added ≡ calls_of_run disk J (birth_after here J ++ added)
  in_run added =
      append_assoc (calls_to_start disk.file) (calls_to_record J (birth_after here J)) (calls_to_record (started here J) added)
      ∙ ap (λ (l : List Call). calls_to_start disk.file ++ l) (sym (calls_behind J (birth_after here J) added))

  -- they were made
  pub made_in_run : (added : List Record) → disk.after (made starting ++ made (calls_to_record (started here J) added)) → disk.after (made (calls_of_run disk J (birth_after here J ++ added)))
  made_in_run added is = subst (λ (l : List Call). disk.after (made l)) (in_run added) (subst disk.after (sym (made_append starting (calls_to_record (started here J) added))) is)

  -- one of the start's failed
  pub fails_at_start : (added : List Record) → DiskFailsAmong disk starting → DiskFailsAmong disk (calls_of_run disk J (birth_after here J ++ added))
  fails_at_start added f = subst (DiskFailsAmong disk) (in_run added) (fails_wider {D = Unit {0}} (λ _ calls _. disk.after calls) tt tt starting (calls_to_record (started here J) added) f)

  -- one after them did
  pub fails_in_run : {N : Type 0} (after : N → List Made → N → Type 0) (old new : N) (added : List Record) → ((more : List Made) → after old more new → disk.after (made starting ++ more)) → FailsAmong after old new (calls_to_record (started here J) added)
      → DiskFailsAmong disk (calls_of_run disk J (birth_after here J ++ added))
  fails_in_run after old new added behind f =
      let last : List Made = record { call = f.failing; failed = true } ∷ [] in
      let all : made starting ++ made_but_last f.before f.failing ≡ made_but_last (starting ++ f.before) f.failing =
      sym (append_assoc (made starting) (made f.before) last) ∙ ap (λ (l : List Made). l ++ last) (sym (made_append starting f.before)) in
      record {
        before = starting ++ f.before;
        failing = f.failing;
        rest = f.rest;
        parts = sym (in_run added) ∙ ap (λ (l : List Call). starting ++ l) f.parts ∙ sym (append_assoc starting f.before (f.failing ∷ f.rest));
        fails = subst disk.after all (behind (made_but_last f.before f.failing) f.fails);
      }
