use Rattle.std.proofs.Common.{◌≡◌, Ok, Err, refl, sym, ap, subst, ◌∙◌}
use Rattle.depot_model.proofs.of_journals.JournalCallLaws.{idle_call}
use Rattle.depot_model.specs.checks.Room.{full_by}
use Rattle.depot_readings.specs.NewRecords.{AreNew}
use Rattle.depot_readings.specs.ReadingsView as readings
use Rattle.depot_readings.specs.ReadingsView.{Known}
use Rattle.depot_node.specs.Commits.{AppendsRecords}
use Rattle.depot_node.specs.Holdings.{journal_on, known}
use Rattle.depot_node.specs.StoreCalls.{IsWriteCall}
use Rattle.depot_node.specs.declared.commit.WriteError.{WriteError}
use Rattle.depot_node.specs.declared.commit.WriteError.TheVariants as unwritten
use Rattle.depot_node.proofs.CallNames.{commit_call}
use Rattle.depot_node.proofs.KeptStores.{kept_cut, kept_grown, kept_same}
use Rattle.depot_node.proofs.SeenRecords.{readings_are, runs_inside}
use Rattle.depot_node.proofs.store.Store.commit.Given.{Over}
use Rattle.depot_node.proofs.store.Store.commit.Goals as goal
use Rattle.depot_node.proofs.store.Store.commit.Goals.{After-limit}

-- what was read is what is known of the store
read : (g : Over) (c : After-limit g) → c.self.inside.readings ≡ known c.args.self.now
read g c = readings_are _ _ c.self.inside.readings c.self.view_is refl refl (c.self.invariant.2 (runs_inside _ _ c.self.view_is c.requires.runs))

-- so the limit is that of its records
limit : (g : Over) (c : After-limit g) → c.limit.result ≡ full_by c.args.self.now.me c.args.self.now.records c.args.new
limit g c = c.limit.ensures ∙ ap (λ (r : Known). full_by r.me r.records c.args.new) (read g c)

pub limit-requires : goal.limit-requires
limit-requires g c =
    let is = readings_are _ _ c.self.inside.readings c.self.view_is refl refl (c.self.invariant.2 (runs_inside _ _ c.self.view_is c.requires.runs)) in
    subst (λ (r : Known). AreNew (readings.standing g.S.Scheme.verifies r) r.records c.args.new) (sym is) c.requires.may.statements

pub returns-in-Some-clause-commits : goal.returns-in-Some-clause-commits
returns-in-Some-clause-commits g c = (sym (limit g (goal.at.returns-in-Some-clause-commits g c).After-limit) ∙ c.in-Some.is, refl)

pub returns-in-Some-clause-call : goal.returns-in-Some-clause-call
returns-in-Some-clause-call g c =
    idle_call (journal_on g.D.Disk) (λ v file left. g.met.D.Disk.only_now v.disk file left) (λ v. g.met.D.Disk.after_none v.disk) c.args.self.now _ (c.is_stopped-runs.ensures.stable c.requires.kept.read) (λ never. absurd never, λ was. (let no = sym was ∙ c.requires.runs in absurd cc)) (λ e. cc)

pub append-requires-clause-lawful : goal.append-requires-clause-lawful
append-requires-clause-lawful g c = c.requires.may.lawful (sym (limit g (goal.at.append-requires-clause-lawful g c).After-limit) ∙ c.in_default.is)

pub returns-in-Ok-clause-commits : goal.returns-in-Ok-clause-commits
returns-in-Ok-clause-commits g c = (sym (limit g (goal.at.returns-in-Ok-clause-commits g c).After-limit) ∙ c.in_default.is, c.in-Ok.ensures.appends)

pub returns-in-Ok-clause-kept : goal.returns-in-Ok-clause-kept
returns-in-Ok-clause-kept g c =
    kept_grown g.S.Scheme.verifies c.args.self.now c.append.new.self c.args.new c.requires.kept c.append.ensures.read c.append.ensures.stands (c.requires.may.lawful (sym (limit g (goal.at.returns-in-Ok-clause-kept g c).After-limit) ∙ c.in_default.is)) c.in-Ok.ensures.appends

pub returns-in-Ok-clause-full : goal.returns-in-Ok-clause-full
returns-in-Ok-clause-full g c = λ what is. (let none = sym c.in_default.is ∙ limit g (goal.at.returns-in-Ok-clause-full g c).After-limit ∙ is in absurd cc)

pub returns-in-Ok-clause-call : goal.returns-in-Ok-clause-call
returns-in-Ok-clause-call g c = commit_call g.D.Disk c.args.self.now c.append.new.self c.args.new (Ok tt) c.in-Ok.ensures.call

pub returns-in-Err-Memory-clause-commits : goal.returns-in-Err-Memory-clause-commits
returns-in-Err-Memory-clause-commits g c = subst (λ (e : WriteError). AppendsRecords c.args.self.now.records c.args.new (Err e) c.append.new.self.records) c.in-Err-Memory.field-0-is c.in-Err-Memory.ensures.appends

pub returns-in-Err-Memory-clause-kept : goal.returns-in-Err-Memory-clause-kept
returns-in-Err-Memory-clause-kept g c =
    kept_same g.S.Scheme.verifies c.args.self.now c.append.new.self c.requires.kept c.append.ensures.read c.append.ensures.stands (subst (λ (e : WriteError). AppendsRecords c.args.self.now.records c.args.new (Err e) c.append.new.self.records) c.in-Err-Memory.field-0-is c.in-Err-Memory.ensures.appends)

pub returns-in-Err-Memory-clause-full : goal.returns-in-Err-Memory-clause-full
returns-in-Err-Memory-clause-full g c = λ what is. (let none = sym c.in_default.is ∙ limit g (goal.at.returns-in-Err-Memory-clause-full g c).After-limit ∙ is in absurd cc)

pub returns-in-Err-Memory-clause-call : goal.returns-in-Err-Memory-clause-call
returns-in-Err-Memory-clause-call g c =
    commit_call g.D.Disk c.args.self.now c.append.new.self c.args.new (Err unwritten.Memory) (subst (λ (e : WriteError). IsWriteCall g.D.Disk c.args.self.now c.append.new.self c.args.new (Err e)) c.in-Err-Memory.field-0-is c.in-Err-Memory.ensures.call)

pub returns-in-Err-Disk-clause-commits : goal.returns-in-Err-Disk-clause-commits
returns-in-Err-Disk-clause-commits g c = (
  sym (limit g (goal.at.returns-in-Err-Disk-clause-commits g c).After-limit) ∙ c.in_default.is,
  subst (λ (e : WriteError). AppendsRecords c.args.self.now.records c.args.new (Err e) c.append.new.self.records) c.in-Err-Disk.field-0-is c.in-Err-Disk.ensures.appends,
)

pub returns-in-Err-Disk-clause-kept : goal.returns-in-Err-Disk-clause-kept
returns-in-Err-Disk-clause-kept g c =
    kept_cut g.S.Scheme.verifies c.args.self.now c.append.new.self c.args.new c.requires.kept c.append.ensures.read c.append.ensures.stands (c.requires.may.lawful (sym (limit g (goal.at.returns-in-Err-Disk-clause-kept g c).After-limit) ∙ c.in_default.is))
    (subst (λ (e : WriteError). AppendsRecords c.args.self.now.records c.args.new (Err e) c.append.new.self.records) c.in-Err-Disk.field-0-is c.in-Err-Disk.ensures.appends)

pub returns-in-Err-Disk-clause-full : goal.returns-in-Err-Disk-clause-full
returns-in-Err-Disk-clause-full g c = λ what is. (let none = sym c.in_default.is ∙ limit g (goal.at.returns-in-Err-Disk-clause-full g c).After-limit ∙ is in absurd cc)

pub returns-in-Err-Disk-clause-call : goal.returns-in-Err-Disk-clause-call
returns-in-Err-Disk-clause-call g c =
    commit_call g.D.Disk c.args.self.now c.append.new.self c.args.new (Err unwritten.Disk) (subst (λ (e : WriteError). IsWriteCall g.D.Disk c.args.self.now c.append.new.self c.args.new (Err e)) c.in-Err-Disk.field-0-is c.in-Err-Disk.ensures.call)
