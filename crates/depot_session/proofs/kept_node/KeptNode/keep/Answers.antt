use Rattle.std.proofs.Common.{◌≡◌, ◌≢◌, ◌≤◌, ◌+◌, ◌^◌, ◌++◌, Bool, false, IsTrue, Err, List, ℕ, length, map, take, refl, sym, ap, subst, ◌∙◌, arith}
use Rattle.std.proofs.lemmas.List.{length-drop, length-map, map-append, take-append-drop, take_all}
use Rattle.depot_base.proofs.Blocks.{blocks-append}
use Rattle.depot_base.specs.Disk.{LeavesOnly, Only, Within}
use Rattle.depot_base.specs.File.{blocks}
use Rattle.depot_base.specs.declared.record.Record.{Record}
use Rattle.depot_journal.specs.WriteSteps.{AppendsGroup, IsBeforeOrAfter, StandsTo}
use Rattle.depot_laws.proofs.lists.Splits.{lawful_front}
use Rattle.depot_model.proofs.of_journals.StopLaws.{idle_lasts}
use Rattle.depot_model.specs.journals.JournalCalls.{IsStable}
use Rattle.depot_model.specs.journals.Lawful.{IsLawful}
use Rattle.depot_model.specs.journals.Replicas.{journal_of}
use Rattle.depot_model.specs.journals.Stops.{HasAll, HasRecords}
use Rattle.depot_model.specs.texts.Records.{text_of_record}
use Rattle.depot_session.specs.Keeping.{IsFileKept, IsInFile, kept_records, kept_state, unkept_records}
use Rattle.depot_session.specs.declared.kept_node.KeptNode.{KeptNode}
use Rattle.depot_session.proofs.of_serving.AppendedGroups.{appends_in_part, appends_nothing, appends_one}
use Rattle.depot_session.proofs.of_serving.KeptFiles.{all_of_either, either_of, group_idle, group_lasts, only_them, some_bytes, unwritten, within}
use Rattle.depot_session.proofs.on_disks.LeftJournals.{all_there}
use Rattle.depot_session.proofs.kept_node.KeptNode.keep.Given.{Over}
use Rattle.depot_session.proofs.kept_node.KeptNode.keep.Goals as goal
use Rattle.depot_session.proofs.kept_node.KeptNode.keep.Goals.{After-as_slice, After-append_group}

-- ---- before the append

abbrev J : (g : Over) → KeptNode g.row.N.Denot g.row.D.Denot → List Record
J g k = kept_records g.N.NodeState k

abbrev K : (g : Over) → KeptNode g.row.N.Denot g.row.D.Denot → List Record
K g k = unkept_records g.N.NodeState k

whole : (g : Over) (k : KeptNode g.row.N.Denot g.row.D.Denot) → J g k ++ K g k ≡ g.N.NodeState.records k.node
whole g k = take-append-drop k.kept (g.N.NodeState.records k.node)

lawful : (g : Over) (k : KeptNode g.row.N.Denot g.row.D.Denot) → IsLawful (g.N.NodeState.stands k.node) (J g k ++ K g k)
lawful g k = subst (IsLawful (g.N.NodeState.stands k.node)) (sym (whole g k)) (g.met.N.Replica.lawful k.node)

-- what the file leaves then
left_before : (g : Over) (k : KeptNode g.row.N.Denot g.row.D.Denot) → IsFileKept g.N.NodeState g.D.Disk k → (file : List ℕ) → IsTrue (g.D.Disk.tells k.disk) → g.D.Disk.may_leave k.disk file → HasAll (J g k) false file
left_before g k r file told left = only_them (g.N.NodeState.stands k.node) (J g k) (g.D.Disk.seen k.disk) file k.gate (g.D.Disk.may_leave k.disk) (lawful_front _ (J g k) (K g k) (lawful g k)) (r.file.stands told) (r.file.stable told) left

stable_before : (g : Over) (k : KeptNode g.row.N.Denot g.row.D.Denot) → IsFileKept g.N.NodeState g.D.Disk k → IsStable (journal_of (kept_state g.N.NodeState g.D.Disk)) k
stable_before g k r = λ told file left. subst (λ (b : Bool). HasAll (J g k) b file) (sym r.runs) (left_before g k r file told left)

pub returns-then-count-self-clause-lasts : goal.returns-then-count-self-clause-lasts
returns-then-count-self-clause-lasts g c =
    idle_lasts (journal_of (kept_state g.N.NodeState g.D.Disk)) (λ k file left. g.met.D.Disk.only_now k.disk file left) c.args.self.now _ (stable_before g c.args.self.now c.requires)

pub returns-in_default-clause-lasts : goal.returns-in_default-clause-lasts
returns-in_default-clause-lasts g c =
    idle_lasts (journal_of (kept_state g.N.NodeState g.D.Disk)) (λ k file left. g.met.D.Disk.only_now k.disk file left) c.args.self.now _ (stable_before g c.args.self.now c.requires)

pub returns-in_default-clause-idle : goal.returns-in_default-clause-idle
returns-in_default-clause-idle g c = λ memory.
    idle_lasts (journal_of (kept_state g.N.NodeState g.D.Disk)) (λ k file left. g.met.D.Disk.only_now k.disk file left) c.args.self.now _ (stable_before g c.args.self.now c.requires)

-- ---- the group

long : (g : Over) (c : After-as_slice g) → c.args.self.now.gate + length c.in-Ok.group ≤ 2 ^ 30
long g c =
    let limits = (within _ (J g c.args.self.now ++ K g c.args.self.now) (lawful g c.args.self.now)).bytes in
    omega (arith, limits, c.requires.file.gate_is, ap length c.in-Ok.ensures, ap (λ (ts : List (List ℕ)). length (blocks ts)) (map-append text_of_record (J g c.args.self.now) (K g c.args.self.now)), blocks-append (map text_of_record (J g c.args.self.now)) (map text_of_record (K g c.args.self.now)))

pub append_group-requires-clause-gate : goal.append_group-requires-clause-gate
append_group-requires-clause-gate g c = let l = long g (goal.at.append_group-requires-clause-gate g c).After-as_slice in omega (arith, l)

some : (g : Over) (k : KeptNode g.row.N.Denot g.row.D.Denot) → IsFileKept g.N.NodeState g.D.Disk k → (count : ℕ) → count ≡ length (g.N.NodeState.records k.node) → count ≢ k.kept → 1 ≤ length (map text_of_record (K g k))
some g k r count is other = let inside = r.inside in omega (arith, inside, other, is, length-map (K g k) text_of_record, length-drop k.kept (g.N.NodeState.records k.node))

pub append_group-requires-clause-some : goal.append_group-requires-clause-some
append_group-requires-clause-some g c =
    let bytes = some_bytes _ (some g c.args.self.now c.requires c.record_count-count.result c.record_count-count.ensures c.if-count-self.false) in
    omega (arith, bytes, ap length c.in-Ok.ensures)

pub overflow_add-self : goal.overflow_add-self
overflow_add-self g c = let l = long g (goal.at.overflow_add-self g c).After-as_slice in omega (arith, l, ap length c.as_slice.ensures)

-- ---- after the append

-- the crash images of the append
any : (g : Over) (c : After-append_group g) → IsTrue (g.D.Disk.tells c.args.self.now.disk) → LeavesOnly g.D.Disk.moment g.D.Disk.left_since c.args.self.now.disk c.append_group.new.disk (IsBeforeOrAfter (map text_of_record (J g c.args.self.now)) (map text_of_record (K g c.args.self.now)))
any g c told = c.append_group.ensures.any_moment (map text_of_record (J g c.args.self.now)) (map text_of_record (K g c.args.self.now)) told (some g c.args.self.now c.requires c.record_count-count.result c.record_count-count.ensures c.if-count-self.false) c.in-Ok.ensures (c.requires.file.stands told) (c.requires.file.stable told)

-- all records of the node are those that were in the file and those that were appended
all_of : (g : Over) (c : After-append_group g) → take c.record_count-count.result (g.N.NodeState.records c.args.self.now.node) ≡ J g c.args.self.now ++ K g c.args.self.now
all_of g c = take_all c.record_count-count.result (g.N.NodeState.records c.args.self.now.node) (omega (arith, c.record_count-count.ensures)) ∙ sym (whole g c.args.self.now)

-- and they are in the file now
in_file : (g : Over) (c : After-append_group g) → AppendsGroup g.D.Disk c.args.self.now.disk c.append_group.new.disk c.args.self.now.gate c.in-Ok.group → (IsTrue (g.D.Disk.tells c.args.self.now.disk) → Only (g.D.Disk.seen c.append_group.new.disk) (g.D.Disk.may_leave c.append_group.new.disk))
    → IsInFile g.D.Disk c.append_group.new.disk (take c.record_count-count.result (g.N.NodeState.records c.args.self.now.node)) (c.args.self.now.gate + length c.as_slice.result.now)
in_file g c ok stable =
    let was : IsTrue (g.D.Disk.tells c.append_group.new.disk) → IsTrue (g.D.Disk.tells c.args.self.now.disk) = λ told. subst IsTrue c.append_group.ensures.disk.tells told in
    let same : c.args.self.now.gate + length c.in-Ok.group ≡ c.args.self.now.gate + length c.as_slice.result.now = ap (λ (b : List ℕ). c.args.self.now.gate + length b) (sym c.as_slice.ensures) in
    subst (λ (L : List Record). IsInFile g.D.Disk c.append_group.new.disk L (c.args.self.now.gate + length c.as_slice.result.now)) (sym (all_of g c)) (record {
      gate_is = omega (arith, c.requires.file.gate_is, ap length c.in-Ok.ensures, ap length c.as_slice.ensures, ap (λ (ts : List (List ℕ)). length (blocks ts)) (map-append text_of_record (J g c.args.self.now) (K g c.args.self.now)), blocks-append (map text_of_record (J g c.args.self.now)) (map text_of_record (K g c.args.self.now)));
      stands = λ told. subst (StandsTo (g.D.Disk.seen c.append_group.new.disk) (map text_of_record (J g c.args.self.now ++ K g c.args.self.now))) same
          (subst (λ (ts : List (List ℕ)). StandsTo (g.D.Disk.seen c.append_group.new.disk) ts (c.args.self.now.gate + length c.in-Ok.group)) (sym (map-append text_of_record (J g c.args.self.now) (K g c.args.self.now)))
          (ok (map text_of_record (J g c.args.self.now)) (map text_of_record (K g c.args.self.now)) (was told) (some g c.args.self.now c.requires c.record_count-count.result c.record_count-count.ensures c.if-count-self.false) c.in-Ok.ensures (c.requires.file.stands (was told))));
      stable = λ told. stable (was told);
    })

pub returns-in-Ok-append_group-clause-kept : goal.returns-in-Ok-append_group-clause-kept
returns-in-Ok-append_group-clause-kept g c =
    let at = (goal.at.returns-in-Ok-append_group-clause-kept g c).After-append_group in
    record { runs = c.requires.runs; inside = omega (arith, c.record_count-count.ensures); file = in_file g at c.in-Ok-append_group.ensures.ok c.in-Ok-append_group.ensures.stable }

pub returns-in-Ok-append_group-clause-lasts : goal.returns-in-Ok-append_group-clause-lasts
returns-in-Ok-append_group-clause-lasts g c =
    let at = (goal.at.returns-in-Ok-append_group-clause-lasts g c).After-append_group in
    let file = in_file g at c.in-Ok-append_group.ensures.ok c.in-Ok-append_group.ensures.stable in
    group_lasts (kept_state g.N.NodeState g.D.Disk) c.args.self.now _ (g.N.NodeState.stands c.args.self.now.node) (J g c.args.self.now) (K g c.args.self.now) (lawful g c.args.self.now) refl c.requires.runs c.append_group.ensures.disk.tells
    (λ told image left. subst (λ (b : Bool). HasAll (take c.record_count-count.result (g.N.NodeState.records c.args.self.now.node)) b image) (sym c.requires.runs)
    (only_them (g.N.NodeState.stands c.args.self.now.node) _ (g.D.Disk.seen c.append_group.new.disk) image (c.args.self.now.gate + length c.as_slice.result.now) (g.D.Disk.may_leave c.append_group.new.disk)
    (subst (IsLawful (g.N.NodeState.stands c.args.self.now.node)) (sym (all_of g at)) (lawful g c.args.self.now)) (file.stands told) (file.stable told) left))
    (λ told. (let l = any g at told in record { later = l.later; each = l.each; before = l.before }))

-- no memory was found, and the file leaves what it left
stable_still : (g : Over) (c : After-append_group g) → Within (g.D.Disk.may_leave c.args.self.now.disk) (g.D.Disk.may_leave c.append_group.new.disk) → (file : List ℕ) → IsTrue (g.D.Disk.tells c.append_group.new.disk) → g.D.Disk.may_leave c.append_group.new.disk file → HasAll (J g c.args.self.now) c.args.self.now.stopped file
stable_still g c images file told left = stable_before g c.args.self.now c.requires (subst IsTrue c.append_group.ensures.disk.tells told) file (images file left)

pub returns-in-Err-Memory-clause-lasts : goal.returns-in-Err-Memory-clause-lasts
returns-in-Err-Memory-clause-lasts g c =
    let at = (goal.at.returns-in-Err-Memory-clause-lasts g c).After-append_group in
    group_lasts (kept_state g.N.NodeState g.D.Disk) c.args.self.now _ (g.N.NodeState.stands c.args.self.now.node) (J g c.args.self.now) (K g c.args.self.now) (lawful g c.args.self.now) refl c.requires.runs c.append_group.ensures.disk.tells
    (λ told file left. stable_still g at (c.in-Err-Memory.ensures.memory (ap Err c.in-Err-Memory.field-0-is)).images file told left)
    (λ told. (let l = any g at told in record { later = l.later; each = l.each; before = l.before }))

pub returns-in-Err-Memory-clause-idle : goal.returns-in-Err-Memory-clause-idle
returns-in-Err-Memory-clause-idle g c = λ memory.
    let at = (goal.at.returns-in-Err-Memory-clause-idle g c).After-append_group in
    let idle = c.in-Err-Memory.ensures.memory (ap Err c.in-Err-Memory.field-0-is) in
    group_idle (kept_state g.N.NodeState g.D.Disk) c.args.self.now _ (g.N.NodeState.stands c.args.self.now.node) (J g c.args.self.now) (K g c.args.self.now) (lawful g c.args.self.now) refl c.requires.runs c.append_group.ensures.disk.tells
    (λ told file left. stable_still g at idle.images file told left)
    (λ told. (let l = unwritten g.D.Disk.moment g.D.Disk.left_since c.args.self.now.disk c.append_group.new.disk (g.D.Disk.may_leave c.args.self.now.disk) (g.D.Disk.may_leave c.append_group.new.disk) (HasRecords (J g c.args.self.now)) (λ file left. g.met.D.Disk.only_now c.args.self.now.disk file left) idle.images idle.time (λ file left. all_there (J g c.args.self.now) file (left_before g c.args.self.now c.requires file told left)) in
    record { later = l.later; each = l.each; before = l.before }))

pub returns-in-Err-Failed-clause-lasts : goal.returns-in-Err-Failed-clause-lasts
returns-in-Err-Failed-clause-lasts g c =
    let at = (goal.at.returns-in-Err-Failed-clause-lasts g c).After-append_group in
    let here = g.N.NodeState.stands c.args.self.now.node in
    group_lasts (kept_state g.N.NodeState g.D.Disk) c.args.self.now _ here (J g c.args.self.now) (K g c.args.self.now) (lawful g c.args.self.now) refl c.requires.runs c.append_group.ensures.disk.tells
    (λ told file left. (let l = any g at (subst IsTrue c.append_group.ensures.disk.tells told) in
    all_of_either here (J g c.args.self.now) (K g c.args.self.now) (lawful g c.args.self.now) file (either_of here (J g c.args.self.now) (K g c.args.self.now) (lawful g c.args.self.now) file (l.each file (g.met.D.Disk.counts_now c.append_group.new.disk (g.D.Disk.moment c.args.self.now.disk) file l.later left)))))
    (λ told. (let l = any g at told in record { later = l.later; each = l.each; before = l.before }))

-- ---- its calls

pub returns-then-count-self-clause-calls : goal.returns-then-count-self-clause-calls
returns-then-count-self-clause-calls g c = appends_nothing (kept_state g.N.NodeState g.D.Disk) c.args.self.now c.args.self.now _ (λ failed. absurd cc) refl (g.met.D.Disk.after_none c.args.self.now.disk)

pub returns-in_default-clause-calls : goal.returns-in_default-clause-calls
returns-in_default-clause-calls g c = appends_nothing (kept_state g.N.NodeState g.D.Disk) c.args.self.now c.args.self.now _ (λ failed. absurd cc) refl (g.met.D.Disk.after_none c.args.self.now.disk)

pub returns-in-Ok-append_group-clause-calls : goal.returns-in-Ok-append_group-clause-calls
returns-in-Ok-append_group-clause-calls g c =
    let at = (goal.at.returns-in-Ok-append_group-clause-calls g c).After-append_group in
    appends_one (kept_state g.N.NodeState g.D.Disk) c.args.self.now _ _ (K g c.args.self.now) c.args.self.now.gate c.in-Ok.group
    (some g c.args.self.now c.requires c.record_count-count.result c.record_count-count.ensures c.if-count-self.false) c.requires.file.gate_is c.in-Ok.ensures (λ failed. absurd cc) (all_of g at) (c.in-Ok-append_group.ensures.made.all refl)

pub returns-in-Err-Memory-clause-calls : goal.returns-in-Err-Memory-clause-calls
returns-in-Err-Memory-clause-calls g c =
    appends_nothing (kept_state g.N.NodeState g.D.Disk) c.args.self.now _ _ (λ failed. absurd cc) refl (c.in-Err-Memory.ensures.memory (ap Err c.in-Err-Memory.field-0-is)).made

pub returns-in-Err-Failed-clause-calls : goal.returns-in-Err-Failed-clause-calls
returns-in-Err-Failed-clause-calls g c =
    let f = c.in-Err-Failed.ensures.made.failing (ap Err c.in-Err-Failed.field-0-is) in
    appends_in_part (kept_state g.N.NodeState g.D.Disk) c.args.self.now _ _ (K g c.args.self.now) c.args.self.now.gate c.in-Ok.group
    (some g c.args.self.now c.requires c.record_count-count.result c.record_count-count.ensures c.if-count-self.false) c.requires.file.gate_is c.in-Ok.ensures refl
    (record { before = f.before; failing = f.failing; rest = f.rest; parts = f.parts; fails = f.fails })
