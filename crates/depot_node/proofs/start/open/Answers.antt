use Rattle.std.proofs.Common.{◌≡◌, ◌<◌, ◌≤◌, IsTrue, ℕ, List, [], map, Err, refl, sym, ap, subst, ◌∙◌, arith}
use Rattle.depot_base.specs.Calls.{FailsAmong, made}
use Rattle.depot_base.specs.Disk.{LeavesOnly}
use Rattle.depot_base.specs.File.{IsFileOf}
use Rattle.depot_accept.specs.StateView.{setting}
use Rattle.depot_model.specs.checks.Checks.{Setting}
use Rattle.depot_base.specs.declared.record.Record.{Record}
use Rattle.depot_model.specs.texts.Records.{text_of_record}
use Rattle.depot_model.specs.journals.Stops.{calls_to_record}
use Rattle.depot_model.specs.checks.RecordFaults.{AreTextsOf}
use Rattle.depot_node.specs.Holdings.{Holding, node_setting}
use Rattle.depot_node.specs.Starting.{AreNotRead, IsDiskThen, LeavesNew, birth_after, calls_to_start_node, of_journal, started}
use Rattle.depot_node.proofs.Fills.{not_disk}
use Rattle.depot_node.proofs.StartCalls.{calls_of_start, cause_behind, disk_of_journal, reading_fails, start_fails}
use Rattle.depot_node.proofs.Starts.{fault_has_text, left_by_both, left_by_journal, reading_fault, started_from}
use Rattle.depot_node.proofs.start.open.Given.{Over}
use Rattle.depot_node.proofs.start.open.Goals as goal
use Rattle.depot_node.proofs.start.open.Goals.{After-fill}

-- the setting of the node
abbrev here : (g : Over) (c : After-fill g) → Setting
here g c = setting g.S.Scheme.verifies c.args.state

unrisen : (was is : ℕ) → was ≤ is → (was < is → ⊥) → is ≡ was
unrisen was is least most = grind (arith, least, most)

-- the disk of the journal is the store's
mid : (g : Over) (c : After-fill g) → c.new-store.result.disk ≡ c.in-Ok.journal.disk
mid g c = ap (λ (v : Holding g.row.D.Denot). v.disk) c.new-store.ensures

-- its bytes are visible as the one that was given
told_in : (g : Over) (c : After-fill g) → IsTrue (g.D.Disk.tells c.args.disk) → IsTrue (g.D.Disk.tells c.new-store.result.disk)
told_in g c told = subst (λ (d : g.row.D.Denot). IsTrue (g.D.Disk.tells d)) (sym (mid g c)) (subst IsTrue (sym c.in-Ok.ensures.disk.tells) told)

-- the crash images, of the journal's start and of what comes after it
left : (g : Over) (c : After-fill g) (new : List Record) → IsTrue (g.D.Disk.tells c.args.disk)
    → LeavesOnly g.D.Disk.moment g.D.Disk.left_since c.new-store.result.disk c.fill.new.store.disk (LeavesNew new (c.new-store.result.unread ≡ []) (g.D.Disk.may_leave c.new-store.result.disk))
    → LeavesOnly g.D.Disk.moment g.D.Disk.left_since c.args.disk c.fill.new.store.disk (LeavesNew new (IsFileOf (g.D.Disk.seen c.args.disk) []) (g.D.Disk.may_leave c.args.disk))
left g c new told filled =
    let between = c.in-Ok.journal.disk in
    let behind = subst (λ (v : Holding g.row.D.Denot). LeavesOnly g.D.Disk.moment g.D.Disk.left_since v.disk c.fill.new.store.disk (LeavesNew new (v.unread ≡ []) (g.D.Disk.may_leave v.disk))) c.new-store.ensures filled in
    let first = left_by_journal g.D.Disk.moment g.D.Disk.left_since new (g.D.Disk.seen c.args.disk) (g.D.Disk.may_leave c.args.disk) c.args.disk between (c.in-Ok.ensures.any_moment told) in
    left_by_both g.D.Disk.moment g.D.Disk.left_since new (g.D.Disk.seen c.args.disk) (g.D.Disk.may_leave c.args.disk) c.in-Ok.journal.records c.args.disk between c.fill.new.store.disk (g.D.Disk.may_leave between)
    (c.in-Ok.ensures.read told) (λ image now. g.met.D.Disk.counts_now between (g.D.Disk.moment c.args.disk) image first.later now) first behind

-- whatever is answered
then : (g : Over) (c : After-fill g) → IsDiskThen g.D.Disk (here g c) c.args.disk c.fill.new.store.disk
then g c = record {
  same = c.fill.ensures.disk.same ∙ ap g.D.Disk.handle (mid g c) ∙ c.in-Ok.ensures.disk.handle;
  told = c.fill.ensures.left.told ∙ ap g.D.Disk.tells (mid g c) ∙ c.in-Ok.ensures.disk.tells;
  any_moment = λ told.
      let stands = ap (λ (v : Holding g.row.D.Denot). birth_after (node_setting g.S.Scheme.verifies v) []) c.new-store.ensures in
      left g c (birth_after (here g c) []) told
      (subst (λ (new : List Record). LeavesOnly g.D.Disk.moment g.D.Disk.left_since c.new-store.result.disk c.fill.new.store.disk (LeavesNew new (c.new-store.result.unread ≡ []) (g.D.Disk.may_leave c.new-store.result.disk))) stands (c.fill.ensures.left.any_moment (told_in g c told)));
  faultless = λ w.
      let first = c.in-Ok.ensures.disk.faultless w in
      let next = c.fill.ensures.disk.calm (subst (λ (d : g.row.D.Denot). g.D.Disk.is_faultless d) (sym (mid g c)) first.0) in
      (next.0, next.1 ∙ ap g.D.Disk.faults (mid g c) ∙ first.1);
}

-- ---- the journal isn't started

pub returns-in-Err-clause-back : goal.returns-in-Err-clause-back
returns-in-Err-clause-back g c = record {
  unchanged = λ leaves. c.in-Err.ensures.kept (not_disk c.in-Err.field-0.error (rw c.error_of.ensures at leaves));
  unborn = λ other told. left_by_journal g.D.Disk.moment g.D.Disk.left_since [] (g.D.Disk.seen c.args.disk) (g.D.Disk.may_leave c.args.disk) c.args.disk c.in-Err.field-0.disk (c.in-Err.ensures.any_moment told);
  failing = λ failed told J has.
      start_fails g.D.Disk.after (setting g.S.Scheme.verifies c.args.state) (g.D.Disk.seen c.args.disk) c.args.disk c.in-Err.field-0.disk ((c.in-Err.ensures.made told).failing (disk_of_journal c.in-Err.field-0.error (sym c.error_of.ensures ∙ failed))) J;
  cause = cause_behind _ _ _ _ _ _ refl refl (λ is. disk_of_journal c.in-Err.field-0.error (sym c.error_of.ensures ∙ is)) (λ is. c.error_of.ensures ∙ ap of_journal is) c.in-Err.ensures.disk.cause;
}

pub returns-in-Err-clause-disk : goal.returns-in-Err-clause-disk
returns-in-Err-clause-disk g c = record {
  same = c.in-Err.ensures.disk.handle;
  told = c.in-Err.ensures.disk.tells;
  any_moment = λ told. left_by_journal g.D.Disk.moment g.D.Disk.left_since (birth_after (setting g.S.Scheme.verifies c.args.state) []) (g.D.Disk.seen c.args.disk) (g.D.Disk.may_leave c.args.disk) c.args.disk c.in-Err.field-0.disk (c.in-Err.ensures.any_moment told);
  faultless = c.in-Err.ensures.disk.faultless;
}

-- ---- its records are read

pub returns-in-Ok-fill-clause-lawful : goal.returns-in-Ok-fill-clause-lawful
returns-in-Ok-fill-clause-lawful g c =
    let J = subst (λ (v : Holding g.row.D.Denot). (K : List Record) × (AreTextsOf (node_setting g.S.Scheme.verifies v) K v.unread × (c.fill.new.store.records ≡ started (node_setting g.S.Scheme.verifies v) K))) c.new-store.ensures c.in-Ok-fill.ensures.filled.records in
    (J.0, (J.1.0.lawful, J.1.1))

pub returns-in-Ok-fill-clause-whole : goal.returns-in-Ok-fill-clause-whole
returns-in-Ok-fill-clause-whole g c = c.in-Ok-fill.ensures.filled.whole

pub returns-in-Ok-fill-clause-started : goal.returns-in-Ok-fill-clause-started
returns-in-Ok-fill-clause-started g c =
    let at = (goal.at.returns-in-Ok-fill-clause-started g c).After-fill in
    let J = subst (λ (v : Holding g.row.D.Denot). (K : List Record) × (AreTextsOf (node_setting g.S.Scheme.verifies v) K v.unread × (c.fill.new.store.records ≡ started (node_setting g.S.Scheme.verifies v) K))) c.new-store.ensures c.in-Ok-fill.ensures.filled.records in
    let before : g.D.Disk.faults c.new-store.result.disk ≡ g.D.Disk.faults c.args.disk = ap (λ (v : Holding g.row.D.Denot). g.D.Disk.faults v.disk) c.new-store.ensures ∙ unrisen _ _ c.in-Ok.ensures.disk.cause.never_falls c.in-Ok.ensures.disk.cause.only in
    record {
      from = λ told. started_from (setting g.S.Scheme.verifies c.args.state) (g.D.Disk.seen c.args.disk) c.in-Ok.journal.records c.fill.new.store.records J (c.in-Ok.ensures.read told);
      stable = λ told. c.in-Ok-fill.ensures.filled.stable (told_in g at told);
      calls = λ told J has.
          let filled = subst (λ (v : Holding g.row.D.Denot). (K : List Record) → v.unread ≡ map text_of_record K → g.D.Disk.after v.disk (made (calls_to_record K (birth_after (node_setting g.S.Scheme.verifies v) K))) c.fill.new.store.disk) c.new-store.ensures c.in-Ok-fill.ensures.filled.calls in
          calls_of_start g.D.Disk.after g.met.D.Disk.after_more (setting g.S.Scheme.verifies c.args.state) (g.D.Disk.seen c.args.disk) c.args.disk c.in-Ok.journal.disk c.fill.new.store.disk c.in-Ok.journal.records (c.in-Ok.ensures.read told) ((c.in-Ok.ensures.made told).all refl) filled J has;
      calm = unrisen _ _ c.in-Ok-fill.ensures.disk.cause.never_falls (λ rose. (let never = c.in-Ok-fill.ensures.disk.cause.only rose in absurd cc)) ∙ before;
    }

pub returns-in-Ok-fill-clause-disk : goal.returns-in-Ok-fill-clause-disk
returns-in-Ok-fill-clause-disk g c = then g (goal.at.returns-in-Ok-fill-clause-disk g c).After-fill

-- ---- they aren't

pub returns-in-Err-fill-clause-refused : goal.returns-in-Err-fill-clause-refused
returns-in-Err-fill-clause-refused g c =
    let wrong = subst (λ (v : Holding g.row.D.Denot). AreNotRead (node_setting g.S.Scheme.verifies v) v.unread c.in-Err-fill.error) c.new-store.ensures c.in-Err-fill.ensures.refused.wrong in
    reading_fault (setting g.S.Scheme.verifies c.args.state) (IsTrue (g.D.Disk.tells c.args.disk)) (g.D.Disk.seen c.args.disk) c.in-Ok.journal.records c.in-Err-fill.error c.in-Ok.ensures.read wrong

pub returns-in-Err-fill-clause-back : goal.returns-in-Err-fill-clause-back
returns-in-Err-fill-clause-back g c =
    let at = (goal.at.returns-in-Err-fill-clause-back g c).After-fill in
    let spot = setting g.S.Scheme.verifies c.args.state in
    let before : g.D.Disk.faults c.new-store.result.disk ≡ g.D.Disk.faults c.args.disk = ap (λ (v : Holding g.row.D.Denot). g.D.Disk.faults v.disk) c.new-store.ensures ∙ unrisen _ _ c.in-Ok.ensures.disk.cause.never_falls c.in-Ok.ensures.disk.cause.only in
    record {
      unchanged = λ leaves.
          let wrong = subst (λ (v : Holding g.row.D.Denot). AreNotRead (node_setting g.S.Scheme.verifies v) v.unread c.in-Err-fill.error) c.new-store.ensures c.in-Err-fill.ensures.refused.wrong in
          let disk = c.into_disk.ensures ∙ c.in-Err-fill.ensures.refused.unchanged leaves ∙ ap (λ (v : Holding g.row.D.Denot). v.disk) c.new-store.ensures in
          ap g.D.Disk.seen disk ∙ c.in-Ok.ensures.same (fault_has_text spot c.in-Ok.journal.records c.in-Err-fill.error wrong leaves);
      unborn = λ other told.
          subst (λ (d : g.row.D.Denot). LeavesOnly g.D.Disk.moment g.D.Disk.left_since c.args.disk d (LeavesNew [] (IsFileOf (g.D.Disk.seen c.args.disk) []) (g.D.Disk.may_leave c.args.disk))) (sym c.into_disk.ensures) (left g at [] told (c.in-Err-fill.ensures.refused.unborn other (told_in g at told)));
      failing = λ failed told J has.
          let filled = subst (λ (v : Holding g.row.D.Denot). (K : List Record) → v.unread ≡ map text_of_record K → FailsAmong g.D.Disk.after v.disk c.fill.new.store.disk (calls_to_record K (birth_after (node_setting g.S.Scheme.verifies v) K))) c.new-store.ensures (c.in-Err-fill.ensures.refused.failing failed) in
          let fails = reading_fails g.D.Disk.after g.met.D.Disk.after_more spot (g.D.Disk.seen c.args.disk) c.args.disk c.in-Ok.journal.disk c.fill.new.store.disk c.in-Ok.journal.records (c.in-Ok.ensures.read told) ((c.in-Ok.ensures.made told).all refl) filled J has in
          subst (λ (d : g.row.D.Denot). FailsAmong g.D.Disk.after c.args.disk d (calls_to_start_node spot (g.D.Disk.seen c.args.disk) J)) (sym c.into_disk.ensures) fails;
      cause = cause_behind _ _ _ _ _ _ before (ap g.D.Disk.faults c.into_disk.ensures) (λ is. ap Err is) (λ is. cc) c.in-Err-fill.ensures.disk.cause;
    }

pub returns-in-Err-fill-clause-disk : goal.returns-in-Err-fill-clause-disk
returns-in-Err-fill-clause-disk g c =
    subst (λ (d : g.row.D.Denot). IsDiskThen g.D.Disk (setting g.S.Scheme.verifies c.args.state) c.args.disk d) (sym c.into_disk.ensures) (then g (goal.at.returns-in-Err-fill-clause-disk g c).After-fill)
