use Rattle.std.proofs.Common.{List, ◌++◌, length, sym, ap, refl, subst, ◌∙◌, arith}
use Rattle.std.proofs.lemmas.List.{length-map}
use Rattle.depot_model.specs.journals.Journal.{accepted}
use Rattle.depot_model.specs.journals.Lawful.{IsLawful}
use Rattle.depot_model.specs.texts.Records.{text_of_record}
use Rattle.depot_laws.proofs.own_updates.OwnTexts.{lawful_is_short}
use Rattle.depot_decide.specs.Deciding.{AreJoined}
use Rattle.depot_readings.specs.ReadingsView as readings
use Rattle.depot_readings.specs.ReadingsView.{Known}
use Rattle.depot_base.specs.declared.record.Record.{Record}
use Rattle.depot_node.specs.Holdings.{Holding, node_setting}
use Rattle.depot_node.proofs.JournalTexts.{read_count}
use Rattle.depot_node.proofs.SeenRecords.{read_seen, readings_are, runs_inside, view_read}
use Rattle.depot_node.proofs.store.Store.read.Goals as goal

pub keep_parents-requires : goal.keep_parents-requires
keep_parents-requires g c =
    let is = readings_are _ _ c.self.inside.readings c.self.view_is refl refl (c.self.invariant.2 (runs_inside _ _ c.self.view_is c.requires.runs)) in
    subst (λ (r : Known). AreJoined (accepted r.records) c.args.parents) (sym is) c.requires.joined

pub read-requires : goal.read-requires
read-requires g c =
    let is = readings_are _ _ c.self.inside.readings c.self.view_is refl refl (c.self.invariant.2 (runs_inside _ _ c.self.view_is c.requires.runs)) in
    record { lawful = subst (λ (r : Known). IsLawful (readings.standing g.S.Scheme.verifies r) (r.records ++ c.args.new)) (sym (c.keep_parents.ensures ∙ is)) c.requires.lawful }

pub overflow_add-self : goal.overflow_add-self
overflow_add-self g c =
    let many = c.count-count.ensures.count ∙ sym (length-map c.args.new text_of_record) in
    let r = read_seen (node_setting g.S.Scheme.verifies c.args.self.now) _ _ c.self.inside.read c.count-count.result c.self.inside.journal.records c.args.self.now.records c.args.new c.self.view_is refl c.self.invariant.0 c.self.invariant.1 many c.requires.lawful c.requires.next in
    let few = lawful_is_short (node_setting g.S.Scheme.verifies c.args.self.now) (c.args.self.now.records ++ c.args.new) c.requires.lawful in
    let same = ap (λ (v : Holding g.row.D.Denot). length (v.records ++ c.args.new)) c.self.view_is in
    omega (arith, few, same, ap length r.records, read_count _ c.self.inside.journal.records r.are r.within)

pub invariant_of-self-2 : goal.invariant_of-self-2
invariant_of-self-2 g c =
    let many = c.count-count.ensures.count ∙ sym (length-map c.args.new text_of_record) in
    let r = read_seen (node_setting g.S.Scheme.verifies c.args.self.now) _ _ c.self.inside.read c.count-count.result c.self.inside.journal.records c.args.self.now.records c.args.new c.self.view_is refl c.self.invariant.0 c.self.invariant.1 many c.requires.lawful c.requires.next in
    (r.are, r.within, λ runs. ap (λ (k : Known). k.records) (c.in_ok-read.ensures.ok ∙ ap (λ (k : Known). readings.with_more_records k (k.records ++ c.args.new)) c.keep_parents.ensures) ∙ ap (λ (J : List Record). J ++ c.args.new) (c.self.invariant.2 runs) ∙ sym r.records)

pub returns-clause-ok : goal.returns-clause-ok
returns-clause-ok g c =
    let many = c.count-count.ensures.count ∙ sym (length-map c.args.new text_of_record) in
    let ran = runs_inside _ _ c.self.view_is c.requires.runs in
    let r = read_seen (node_setting g.S.Scheme.verifies c.args.self.now) _ _ c.self.inside.read c.count-count.result c.self.inside.journal.records c.args.self.now.records c.args.new c.self.view_is refl c.self.invariant.0 c.self.invariant.1 many c.requires.lawful c.requires.next in
    let k = c.in_ok-read.ensures.ok ∙ ap (λ (k : Known). readings.with_more_records k (k.records ++ c.args.new)) c.keep_parents.ensures in
    view_read _ _ c.read.new.self _ _ c.args.new c.self.view_is (k ∙ ap (λ (J : List Record). readings.with_more_records c.self.inside.readings (J ++ c.args.new)) (c.self.invariant.2 ran)) r.records r.left
