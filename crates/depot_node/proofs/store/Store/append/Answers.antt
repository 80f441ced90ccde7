use Rattle.std.proofs.Common.{rules, ◌≡◌, ◌↔◌, ◌++◌, ◌*◌, ◌+◌, ◌≤◌, Bool, true, false, IsTrue, List, ℕ, length, take, Ok, Err, refl, sym, ap, subst, ◌∙◌, arith}
use Rattle.std.specs.Prelude.{IsErrOf}
use Rattle.std.proofs.lemmas.Result.{err_from_is_err_and}
use Rattle.depot_base.specs.WithRest.{with_rest}
use Rattle.depot_base.specs.declared.key.RosterEntry.{RosterEntry}
use Rattle.depot_base.specs.declared.record.Record.{Record}
use Rattle.depot_model.specs.journals.JournalCalls.{IsJournalCall}
use Rattle.depot_journal.specs.DiskCalls.{OnlyReserves}
use Rattle.depot_model.specs.checks.Limits.{IsCutShort}
use Rattle.depot_model.specs.journals.Journal.{accepted}
use Rattle.depot_model.specs.journals.Lawful.{IsLawful}
use Rattle.depot_model.specs.journals.Stops.{LeavesAll}
use Rattle.depot_laws.proofs.own_updates.OwnTexts.{lawful_is_light}
use Rattle.depot_decide.specs.Deciding.{AreJoined}
use Rattle.depot_journal.specs.declared.journal_error.AppendError.{AppendError}
use Rattle.depot_journal.specs.declared.journal_error.AppendError.TheVariants as refused
use Rattle.depot_readings.specs.NewRecords.{bytes_of_records}
use Rattle.depot_readings.specs.ReadingsView as readings
use Rattle.depot_readings.specs.RecordTexts.{IsGiven, given_of}
use Rattle.depot_readings.specs.ReadingsView.{Known}
use Rattle.depot_node.specs.Holdings.{Holding, journal_on, node_setting}
use Rattle.depot_node.specs.JournalRecords.{AreTextsFor, records_in_texts}
use Rattle.depot_node.specs.StoreCalls.{IsWriteCall}
use Rattle.depot_node.specs.declared.commit.WriteError.TheVariants as unwritten
use Rattle.depot_node.proofs.AppendLaws.{appended, covers, cut_appended, cut_short, disk_failed, store_over, unwritten_call, written_call}
use Rattle.depot_node.proofs.JournalTexts.{all_of_records, whole_texts}
use Rattle.depot_node.proofs.SeenRecords.{given_texts, readings_are, whole_inside}
use Rattle.depot_node.proofs.store.Store.append.Given.{Over}
use Rattle.depot_node.proofs.store.Store.append.Goals as goal
use Rattle.depot_node.proofs.store.Store.append.Goals.{After-reserve, After-count-self-inside}

pub overflow_cast-size : goal.overflow_cast-size
overflow_cast-size g c =
    let light = lawful_is_light (node_setting g.S.Scheme.verifies c.args.self.now) (c.args.self.now.records ++ c.args.new) c.requires.lawful in
    omega (arith, light, c.bytes.ensures.behind c.args.self.now.records)

pub overflow_sub-size : goal.overflow_sub-size
overflow_sub-size g c = omega (arith, c.bytes.ensures.least, c.count-count.ensures.count)

pub keep_parents-requires : goal.keep_parents-requires
keep_parents-requires g c =
    let is = readings_are _ _ c.self.inside.readings c.self.view_is refl refl (c.self.invariant.2 (whole_inside _ _ c.self.view_is c.requires.whole).runs) in
    subst (λ (r : Known). AreJoined (accepted r.records) c.args.parents) (sym is) c.requires.joined

pub given-rest-requires : goal.given-rest-requires
given-rest-requires g c = subst (λ (rs : List Record). IsGiven rs c.args.given.now) (sym c.take_texts.ensures.same) c.requires.given

pub read-requires : goal.read-requires
read-requires g c =
    let is = readings_are _ _ c.self.inside.readings c.self.view_is refl refl (c.self.invariant.2 (whole_inside _ _ c.self.view_is c.requires.whole).runs) in
    let new = subst (λ (rs : List Record). IsLawful (node_setting g.S.Scheme.verifies c.args.self.now) (c.args.self.now.records ++ rs)) (sym c.take_texts.ensures.same) c.requires.lawful in
    record { lawful = subst (λ (r : Known). IsLawful (readings.standing g.S.Scheme.verifies r) (r.records ++ c.take_texts.new.self)) (sym (c.keep_parents.ensures ∙ is)) new }

-- ---- what holds when memory for the journal was reserved

-- the records, as they are inside
abbrev J : (g : Over) (c : After-reserve g) → List Record
J g c = records_in_texts (take c.self.inside.read c.self.inside.journal.records)

ran : (g : Over) (c : After-reserve g) → c.self.inside.journal.is_stopped ≡ false
ran g c = (whole_inside _ _ c.self.view_is c.requires.whole).runs

-- their texts are those of the journal
old_texts : (g : Over) (c : After-reserve g) → AreTextsFor (J g c) c.self.inside.journal.records
old_texts g c = whole_texts c.self.inside.read c.self.inside.journal.records c.self.invariant.0 (whole_inside _ _ c.self.view_is c.requires.whole).read

-- what comes of it where no record is appended
unwritten_then : (g : Over) (c : After-reserve g) (then : Holding g.row.D.Denot) → then.disk ≡ c.reserve.new.self.disk → then.records ≡ J g c → then.stopped ≡ c.self.inside.journal.is_stopped → IsWriteCall g.D.Disk c.args.self.now then c.args.new (Err unwritten.Memory)
unwritten_then g c then disk records stopped =
    subst (λ (v : Holding g.row.D.Denot). IsWriteCall g.D.Disk v then c.args.new (Err unwritten.Memory)) c.self.view_is
    (unwritten_call g.D.Disk g.met.D.Disk.only_now g.met.D.Disk.after_more _ then c.self.inside.journal.records c.args.new (ran g c) (old_texts g c) records stopped
    (subst (λ (d : g.row.D.Denot). OnlyReserves g.D.Disk c.self.inside.journal.disk d) (sym disk) c.reserve.ensures.disk) c.is_stopped-runs.ensures.stable (λ e. cc))

pub returns-in_default-clause-call : goal.returns-in_default-clause-call
returns-in_default-clause-call g c =
    unwritten_then g (goal.at.returns-in_default-clause-call g c).After-reserve _ refl (ap (λ (x : List (List ℕ)). records_in_texts (take c.self.inside.read x)) c.reserve.ensures.same) c.reserve.ensures.running

pub returns-in_default-take_texts-clause-call : goal.returns-in_default-take_texts-clause-call
returns-in_default-take_texts-clause-call g c =
    unwritten_then g (goal.at.returns-in_default-take_texts-clause-call g c).After-reserve _ refl (ap (λ (x : List (List ℕ)). records_in_texts (take c.self.inside.read x)) c.reserve.ensures.same) c.reserve.ensures.running

pub returns-in_err-read-clause-call : goal.returns-in_err-read-clause-call
returns-in_err-read-clause-call g c =
    let p = err_from_is_err_and c.from_residual.result c.from_residual.ensures.1 in
    rw (p.1, p.2) (unwritten_then g (goal.at.returns-in_err-read-clause-call g c).After-reserve _ refl (ap (λ (x : List (List ℕ)). records_in_texts (take c.self.inside.read x)) c.reserve.ensures.same) c.reserve.ensures.running)

-- ---- what holds when the texts were appended, or weren't

abbrev texts : (g : Over) (c : After-count-self-inside g) → List (List ℕ)
texts g c = with_rest c.as_slice.result.now c.given-rest.result.now

new_texts : (g : Over) (c : After-count-self-inside g) → AreTextsFor c.args.new (texts g c)
new_texts g c =
    let rest = c.given-rest.ensures ∙ ap given_of c.take_texts.ensures.same in
    subst (λ (ts : List (List ℕ)). AreTextsFor c.args.new (with_rest ts c.given-rest.result.now)) (sym c.as_slice.ensures.value)
    (given_texts (node_setting g.S.Scheme.verifies c.args.self.now) c.args.self.now.records c.args.new _ c.given-rest.result.now c.requires.lawful c.in-Ok-take_texts.ensures.texts rest)

mid_texts : (g : Over) (c : After-count-self-inside g) → AreTextsFor (records_in_texts (take c.self.inside.read c.self.inside.journal.records)) c.reserve.new.self.records
mid_texts g c = subst (λ (x : List (List ℕ)). AreTextsFor (records_in_texts (take c.self.inside.read c.self.inside.journal.records)) x) (sym c.reserve.ensures.same) (whole_texts c.self.inside.read c.self.inside.journal.records c.self.invariant.0 (whole_inside _ _ c.self.view_is c.requires.whole).read)

lawful_in : (g : Over) (c : After-count-self-inside g) → IsLawful (node_setting g.S.Scheme.verifies c.args.self.now) (records_in_texts (take c.self.inside.read c.self.inside.journal.records) ++ c.args.new)
lawful_in g c = subst (λ (K : List Record). IsLawful (node_setting g.S.Scheme.verifies c.args.self.now) (K ++ c.args.new)) (sym (ap (λ (v : Holding g.row.D.Denot). v.records) c.self.view_is)) c.requires.lawful

-- what is said of the call, whatever comes of it
written : (g : Over) (c : After-count-self-inside g) {failed nothing : Type 0} (K : List Record) (me : ℕ) (listed : List RosterEntry) (unread : List (List ℕ)) → AreTextsFor K c.append_all-written.new.self.records → (failed ↔ IsErrOf c.append_all-written.result refused.Disk)
    → ((c.append_all-written.new.self.is_stopped ≡ true) ↔ failed) → (nothing → ⊥) → ((failed → ⊥) → (K ≡ records_in_texts (take c.self.inside.read c.self.inside.journal.records) ++ c.args.new) × (c.append_all-written.result ≡ Ok tt))
    → IsJournalCall (journal_on g.D.Disk) c.args.self.now (store_over me listed K unread c.append_all-written.new.self) c.args.new ⊥ failed nothing
written g c {failed} {nothing} K me listed unread w fails stops never grew =
    let whole = whole_inside _ _ c.self.view_is c.requires.whole in
    let then = store_over me listed K unread c.append_all-written.new.self in
    let all : IsTrue (g.D.Disk.tells c.self.inside.journal.disk) → LeavesAll (records_in_texts (take c.self.inside.read c.self.inside.journal.records)) false (g.D.Disk.may_leave c.self.inside.journal.disk) = λ told.
    subst (λ (b : Bool). LeavesAll (records_in_texts (take c.self.inside.read c.self.inside.journal.records)) b (g.D.Disk.may_leave c.self.inside.journal.disk)) whole.runs
    (all_of_records _ _ _ _ (whole_texts c.self.inside.read c.self.inside.journal.records c.self.invariant.0 whole.read) (c.is_stopped-runs.ensures.stable told)) in
    subst (λ (v : Holding g.row.D.Denot). IsJournalCall (journal_on g.D.Disk) v then c.args.new ⊥ failed nothing) c.self.view_is
    (written_call g.D.Disk g.met.D.Disk.only_now g.met.D.Disk.after_more _ me listed K c.args.new unread (texts g c) c.reserve.new.self c.append_all-written.new.self c.append_all-written.result whole.runs (c.reserve.ensures.running ∙ whole.runs) (mid_texts g c) (new_texts g c) w
    c.reserve.ensures.disk all c.append_all-written.ensures.calls c.append_all-written.ensures.any_moment c.append_all-written.ensures.stands fails stops never grew)

-- ---- all were appended

pub invariant_of-self-in-Ok-written : goal.invariant_of-self-in-Ok-written
invariant_of-self-in-Ok-written g c =
    let at = (goal.at.invariant_of-self-in-Ok-written g c).After-count-self-inside in
    let r = appended c.count-self-inside.result _ c.args.new c.reserve.new.self.records (texts g at) c.append_all-written.new.self.records (mid_texts g at) (new_texts g at) c.in-Ok-written.ensures.ok c.count-self-inside.ensures in
    let ran = (whole_inside _ _ c.self.view_is c.requires.whole).runs in (
      r.are,
      r.within,
      λ runs. ap (λ (k : Known). k.records) c.in_ok-read.ensures.ok
          ∙ ap (λ (k : Known). k.records ++ c.take_texts.new.self) c.keep_parents.ensures
          ∙ ap (λ (rs : List Record). c.self.inside.readings.records ++ rs) c.take_texts.ensures.same
          ∙ ap (λ (K : List Record). K ++ c.args.new) (c.self.invariant.2 ran)
          ∙ sym r.records,
    )

pub returns-in-Ok-written-clause-appends : goal.returns-in-Ok-written-clause-appends
returns-in-Ok-written-clause-appends g c =
    let at = (goal.at.returns-in-Ok-written-clause-appends g c).After-count-self-inside in
    let r = appended c.count-self-inside.result _ c.args.new c.reserve.new.self.records (texts g at) c.append_all-written.new.self.records (mid_texts g at) (new_texts g at) c.in-Ok-written.ensures.ok c.count-self-inside.ensures in
    r.records ∙ ap (λ (v : Holding g.row.D.Denot). v.records ++ c.args.new) c.self.view_is

pub returns-in-Ok-written-clause-call : goal.returns-in-Ok-written-clause-call
returns-in-Ok-written-clause-call g c =
    let at = (goal.at.returns-in-Ok-written-clause-call g c).After-count-self-inside in
    let r = appended c.count-self-inside.result _ c.args.new c.reserve.new.self.records (texts g at) c.append_all-written.new.self.records (mid_texts g at) (new_texts g at) c.in-Ok-written.ensures.ok c.count-self-inside.ensures in
    written g at _ _ _ _ (whole_texts c.count-self-inside.result c.append_all-written.new.self.records r.are r.left) (λ e. absurd cc, λ e. (let ok = sym c.in-Ok-written.is ∙ e in absurd cc)) (λ now. (let runs = sym c.in-Ok-written.ensures.stops.runs ∙ now in absurd cc), λ e. absurd cc) (λ e. cc) (λ well. (r.records, c.in-Ok-written.is))

-- ---- the disk failed

-- nothing else can fail, for memory and room were found before
failed : (g : Over) (c : After-count-self-inside g) (e : AppendError) → c.append_all-written.result ≡ Err e → length c.args.new ≤ c.reserve.new.self.room_records → bytes_of_records c.args.new ≤ c.reserve.new.self.room_bytes + 5 * length c.args.new → IsErrOf c.append_all-written.result refused.Disk
failed g c e is records bytes =
    disk_failed (node_setting g.S.Scheme.verifies c.args.self.now) c.reserve.new.self _ c.args.new (texts g c) c.append_all-written.result e is (mid_texts g c) (new_texts g c) (lawful_in g c) (covers c.reserve.new.self c.args.new (texts g c) (new_texts g c) records bytes)
    (c.reserve.ensures.running ∙ (whole_inside _ _ c.self.view_is c.requires.whole).runs) c.append_all-written.ensures.limits c.append_all-written.ensures.memory c.append_all-written.ensures.stops.answered

pub unreachable-requires : goal.unreachable-requires
unreachable-requires g c =
    let at = (goal.at.unreachable-requires g c).After-count-self-inside in
    let f : c.append_all-written.result ≡ Err refused.Disk = failed g at c.in-Err.field-0 c.in-Err.is (omega (arith, c.in-Ok.ensures.records, c.count-count.ensures.count)) (omega (arith, c.in-Ok.ensures.bytes, c.count-count.ensures.count, c.bytes.ensures.bytes)) in
    search rules

pub invariant_of-self-in-Err-Disk : goal.invariant_of-self-in-Err-Disk
invariant_of-self-in-Err-Disk g c =
    let at = (goal.at.invariant_of-self-in-Err-Disk g c).After-count-self-inside in
    let f = failed g at c.in-Err-Disk.field-0 c.in-Err-Disk.is (omega (arith, c.in-Ok.ensures.records, c.count-count.ensures.count)) (omega (arith, c.in-Ok.ensures.bytes, c.count-count.ensures.count, c.bytes.ensures.bytes)) in
    let cut = cut_appended c.count-self-inside.result _ c.args.new c.reserve.new.self.records (texts g at) c.append_all-written.new.self.records _ _ (mid_texts g at) (new_texts g at) (c.append_all-written.ensures.disk f) c.count-self-inside.ensures in
    (cut.reads.are, cut.reads.within, λ runs. (let never = sym (c.append_all-written.ensures.stops.failed f) ∙ runs in absurd cc))

pub returns-in-Err-Disk-clause-appends : goal.returns-in-Err-Disk-clause-appends
returns-in-Err-Disk-clause-appends g c =
    let at = (goal.at.returns-in-Err-Disk-clause-appends g c).After-count-self-inside in
    let f = failed g at c.in-Err-Disk.field-0 c.in-Err-Disk.is (omega (arith, c.in-Ok.ensures.records, c.count-count.ensures.count)) (omega (arith, c.in-Ok.ensures.bytes, c.count-count.ensures.count, c.bytes.ensures.bytes)) in
    let cut = cut_appended c.count-self-inside.result _ c.args.new c.reserve.new.self.records (texts g at) c.append_all-written.new.self.records _ _ (mid_texts g at) (new_texts g at) (c.append_all-written.ensures.disk f) c.count-self-inside.ensures in
    subst (λ (v : Holding g.row.D.Denot). IsCutShort v.records c.args.new (records_in_texts (take c.count-self-inside.result c.append_all-written.new.self.records))) c.self.view_is (cut_short c.count-self-inside.result _ c.args.new c.append_all-written.new.self.records cut)

pub returns-in-Err-Disk-clause-call : goal.returns-in-Err-Disk-clause-call
returns-in-Err-Disk-clause-call g c =
    let at = (goal.at.returns-in-Err-Disk-clause-call g c).After-count-self-inside in
    let f = failed g at c.in-Err-Disk.field-0 c.in-Err-Disk.is (omega (arith, c.in-Ok.ensures.records, c.count-count.ensures.count)) (omega (arith, c.in-Ok.ensures.bytes, c.count-count.ensures.count, c.bytes.ensures.bytes)) in
    let cut = cut_appended c.count-self-inside.result _ c.args.new c.reserve.new.self.records (texts g at) c.append_all-written.new.self.records _ _ (mid_texts g at) (new_texts g at) (c.append_all-written.ensures.disk f) c.count-self-inside.ensures in
    written g at _ _ _ _ (whole_texts c.count-self-inside.result c.append_all-written.new.self.records cut.reads.are cut.reads.left) (λ e. f, λ e. refl) (λ now. refl, λ e. c.append_all-written.ensures.stops.failed f) (λ e. cc) (λ well. absurd (well refl))
