use Rattle.std.proofs.Common.{◌≡◌, ◌∷◌, ◌++◌, ℕ, List, Err, refl, subst, ◌∙◌}
use Rattle.depot_model.specs.journals.Journal.{accepted}
use Rattle.depot_model.specs.journals.Lawful.{IsLawful}
use Rattle.depot_readings.specs.ReadingsView as readings
use Rattle.depot_readings.specs.ReadingsView.{Known}
use Rattle.depot_node.specs.Holdings.{node_setting}
use Rattle.depot_decide.specs.Deciding.{AreJoined}
use Rattle.depot_decide.specs.ReadRecords.{IsReadAs, IsReadFrom}
use Rattle.depot_decide.specs.declared.record_check.ReadError.{ReadError}
use Rattle.depot_decide.specs.declared.record_check.ReadError.TheVariants as refused
use Rattle.depot_node.proofs.RecordReads.{read_goes_on, read_stands_first}
use Rattle.depot_node.proofs.start_reading.read_next.Given.{Over}
use Rattle.depot_node.proofs.start_reading.read_next.Goals as goal
use Rattle.depot_node.proofs.start_reading.read_next.Goals.{In-Some, In-Ok}

-- the text is the first that wasn't read
next : (g : Over) (c : In-Some g) → (rest : List (List ℕ)) × (c.args.store.now.unread ≡ c.in-Some.text.now ∷ rest)
next g c = c.in-Some.ensures.some c.in-Some.text.now refl

-- the record that is read of it
fit : (g : Over) (c : In-Ok g) → IsReadFrom (node_setting g.S.Scheme.verifies c.args.store.now) c.args.store.now.records c.in-Some.text.now c.in-Ok.field-0.growth
fit g c = subst (λ (r : Known). IsReadFrom (readings.standing g.S.Scheme.verifies r) r.records c.in-Some.text.now c.in-Ok.field-0.growth) c.readings.ensures c.in-Ok.ensures.fit

lawful : (g : Over) (c : In-Ok g) → IsLawful (node_setting g.S.Scheme.verifies c.args.store.now) (c.args.store.now.records ++ c.in-Ok.field-0.growth)
lawful g c = subst (λ (r : Known). IsLawful (readings.standing g.S.Scheme.verifies r) (r.records ++ c.in-Ok.field-0.growth)) c.readings.ensures c.in-Ok.ensures.lawful

pub read-requires-clause-next : goal.read-requires-clause-next
read-requires-clause-next g c =
    let at = goal.at.read-requires-clause-next g c in
    let n = next g at.In-Some in
    (n.0, n.1 ∙ read_stands_first (node_setting g.S.Scheme.verifies c.args.store.now) c.args.store.now.records c.in-Some.text.now n.0 c.in-Ok.field-0.growth (fit g at.In-Ok))

pub read-requires-clause-lawful : goal.read-requires-clause-lawful
read-requires-clause-lawful g c = lawful g (goal.at.read-requires-clause-lawful g c).In-Ok

pub read-requires-clause-joined : goal.read-requires-clause-joined
read-requires-clause-joined g c = subst (λ (r : Known). AreJoined (accepted r.records) c.in-Ok.field-0.parents) c.readings.ensures c.in-Ok.ensures.joined

pub returns-in_ok-read-in-Ok-clause-read : goal.returns-in_ok-read-in-Ok-clause-read
returns-in_ok-read-in-Ok-clause-read g c =
    let at = goal.at.returns-in_ok-read-in-Ok-clause-read g c in
    let n = next g at.In-Some in
    λ _. read_goes_on (node_setting g.S.Scheme.verifies c.args.store.now) c.args.store.now c.read.new.self c.in-Some.text.now n.0 c.in-Ok.field-0.growth (lawful g at.In-Ok) (fit g at.In-Ok) n.1 c.in_ok-read-in-Ok.ensures.ok

pub returns-in-Err-Fault-clause-wrong : goal.returns-in-Err-Fault-clause-wrong
returns-in-Err-Fault-clause-wrong g c =
    let n = next g (goal.at.returns-in-Err-Fault-clause-wrong g c).In-Some in
    let known = subst (λ (e : ReadError). IsReadAs (readings.standing g.S.Scheme.verifies c.readings.result.now) c.readings.result.now.records c.in-Some.text.now (Err e)) c.in-Err-Fault.field-0-is c.in-Err-Fault.ensures.fit in
    let wrong = subst (λ (r : Known). IsReadAs (readings.standing g.S.Scheme.verifies r) r.records c.in-Some.text.now (Err (refused.Fault c.in-Err-Fault.fault))) c.readings.ensures known in
    (c.count.ensures, (c.in-Some.text.now, (n.0, (n.1, wrong))))
