-- The birth of the node is lawful after no records, so it has a text.
use Rattle.std.proofs.Common.{◌≡◌, [], ◌∷◌, ◌++◌, List, Ok, Err, sym, ap, subst, ◌∙◌}
use Rattle.depot_base.specs.declared.record.Record.{Record}
use Rattle.depot_base.specs.declared.record.Record.TheVariants.{Birth}
use Rattle.depot_model.specs.journals.Lawful.{IsLawful}
use Rattle.depot_model.specs.texts.Texts.{hash_of_roster}
use Rattle.depot_readings.specs.RecordTexts.{IsGiven}
use Rattle.depot_node.specs.Holdings.{node_setting}
use Rattle.depot_node.specs.Starting.{birth_after}
use Rattle.depot_node.specs.StoreCalls.{IsWriteCall}
use Rattle.depot_node.specs.declared.commit.WriteError.{WriteError}
use Rattle.depot_node.specs.declared.commit.WriteError.TheVariants as unwritten
use Rattle.depot_node.proofs.Beginnings.{birth_begins, last_has_text}
use Rattle.depot_node.proofs.Fills.{birth_call, runs_after}
use Rattle.depot_node.proofs.start_reading.add_birth.Given.{Over}
use Rattle.depot_node.proofs.start_reading.add_birth.Goals as goal
use Rattle.depot_node.proofs.start_reading.add_birth.Goals.{After-hash-hash, After-birth-birth}

-- the journal with it is lawful
lawful : (g : Over) (c : After-hash-hash g) → IsLawful (node_setting g.S.Scheme.verifies c.args.store.now) (c.args.store.now.records ++ Birth c.me-node.result c.hash-hash.result.now ∷ [])
lawful g c =
    birth_begins (node_setting g.S.Scheme.verifies c.args.store.now) c.args.store.now.records c.me-node.result c.roster-roster.result.now c.hash-hash.result.now
    c.requires.none c.me-node.ensures c.roster-roster.ensures c.entries-entries.ensures.roster c.hash-hash.ensures c.requires.listed

-- it is what a start appends
is_birth : (g : Over) (c : After-birth-birth g) → c.birth-birth.result ≡ birth_after (node_setting g.S.Scheme.verifies c.args.store.now) []
is_birth g c = c.birth-birth.ensures ∙ (λ i. Birth (c.me-node.ensures i) ((c.hash-hash.ensures ∙ ap hash_of_roster c.roster-roster.ensures) i) ∷ [])

pub birth-birth-requires : goal.birth-birth-requires
birth-birth-requires g c = record { text = last_has_text (node_setting g.S.Scheme.verifies c.args.store.now) c.args.store.now.records (Birth c.me-node.result c.hash-hash.result.now) (lawful g (goal.at.birth-birth-requires g c).After-hash-hash) }

pub append-requires-clause-lawful : goal.append-requires-clause-lawful
append-requires-clause-lawful g c =
    subst (λ (rs : List Record). IsLawful (node_setting g.S.Scheme.verifies c.args.store.now) (c.args.store.now.records ++ rs)) (sym c.birth-birth.ensures) (lawful g (goal.at.append-requires-clause-lawful g c).After-hash-hash)

pub append-requires-clause-given : goal.append-requires-clause-given
append-requires-clause-given g c = subst (λ (rs : List Record). IsGiven rs []) (sym c.birth-birth.ensures) tt

pub returns-in-Ok-clause-records : goal.returns-in-Ok-clause-records
returns-in-Ok-clause-records g c = c.in-Ok.ensures.appends ∙ ap (λ (J : List Record). J ++ c.birth-birth.result) c.requires.none ∙ is_birth g (goal.at.returns-in-Ok-clause-records g c).After-birth-birth

pub returns-in-Ok-clause-whole : goal.returns-in-Ok-clause-whole
returns-in-Ok-clause-whole g c = record { runs = runs_after g.D.Disk c.args.store.now c.append.new.self c.birth-birth.result c.in-Ok.ensures.call c.requires.runs (λ e. cc); read = c.append.ensures.read }

pub returns-in-Ok-clause-call : goal.returns-in-Ok-clause-call
returns-in-Ok-clause-call g c = birth_call g.D.Disk c.args.store.now c.append.new.self c.birth-birth.result _ (Ok tt) (is_birth g (goal.at.returns-in-Ok-clause-call g c).After-birth-birth) c.in-Ok.ensures.call

pub returns-in-Err-Memory-clause-call : goal.returns-in-Err-Memory-clause-call
returns-in-Err-Memory-clause-call g c =
    birth_call g.D.Disk c.args.store.now c.append.new.self c.birth-birth.result _ (Err unwritten.Memory) (is_birth g (goal.at.returns-in-Err-Memory-clause-call g c).After-birth-birth)
    (subst (λ (e : WriteError). IsWriteCall g.D.Disk c.args.store.now c.append.new.self c.birth-birth.result (Err e)) c.in-Err-Memory.field-0-is c.in-Err-Memory.ensures.call)

pub returns-in-Err-Disk-clause-call : goal.returns-in-Err-Disk-clause-call
returns-in-Err-Disk-clause-call g c =
    birth_call g.D.Disk c.args.store.now c.append.new.self c.birth-birth.result _ (Err unwritten.Disk) (is_birth g (goal.at.returns-in-Err-Disk-clause-call g c).After-birth-birth)
    (subst (λ (e : WriteError). IsWriteCall g.D.Disk c.args.store.now c.append.new.self c.birth-birth.result (Err e)) c.in-Err-Disk.field-0-is c.in-Err-Disk.ensures.call)
