use Rattle.std.proofs.Common.{◌≡◌, List, ◌++◌, length, sym, ap, subst, ◌∙◌, arith, length-append}
use Rattle.depot_base.specs.declared.record.Record.{Record}
use Rattle.depot_model.specs.checks.Checks.{Setting}
use Rattle.depot_model.specs.journals.Lawful.{IsLawful}
use Rattle.depot_model.specs.texts.Records.{journal_bytes}
use Rattle.depot_accept.specs.StateView.{setting}
use Rattle.depot_laws.proofs.records.Counts.{bytes_more}
use Rattle.depot_laws.proofs.own_updates.OwnTexts.{lawful_is_light, lawful_is_short}
use Rattle.depot_readings.specs.NewRecords.{records_in}
use Rattle.depot_readings.specs.ReadingsParts.{AreReadings}
use Rattle.depot_readings.proofs.ReadingsLaws.{lawful_inside, view_read}
use Rattle.depot_readings.proofs.readings.Readings.read.Goals as goal

pub overflow_add-self : goal.overflow_add-self
overflow_add-self g c =
    let J : List Record = c.self.inside.records.items in
    let new : List Record = records_in c.new.inside.news in
    let few = lawful_is_short _ _ (lawful_inside g.S.Scheme.verifies _ _ _ _ c.self.view_is c.new.view_is c.requires.lawful) in
    omega (arith, few, length-append J new, c.self.invariant.1.records, c.count-count.ensures.count, ap length c.new.view_is)

pub overflow_add-self-2 : goal.overflow_add-self-2
overflow_add-self-2 g c =
    let J : List Record = c.self.inside.records.items in
    let new : List Record = records_in c.new.inside.news in
    let light = lawful_is_light _ _ (lawful_inside g.S.Scheme.verifies _ _ _ _ c.self.view_is c.new.view_is c.requires.lawful) in
    omega (arith, light, bytes_more J new, c.self.invariant.1.size, c.new.invariant.sum)

-- memory ran out
pub invariant_of-self : goal.invariant_of-self
invariant_of-self g c =
    let J : List Record = c.self.inside.records.items in (
      c.in_err-read.ensures.err J c.self.invariant.0,
      record {
        records = c.self.invariant.1.records;
        size = c.self.invariant.1.size;
        lawful = subst (λ (h : Setting). IsLawful h J) (sym c.read.ensures.stays) c.self.invariant.1.lawful;
      },
    )

-- all were read
pub invariant_of-self-2 : goal.invariant_of-self-2
invariant_of-self-2 g c =
    let J : List Record = c.self.inside.records.items in
    let new : List Record = records_in c.new.inside.news in
    let then = c.read.new.self in
    let lawful : IsLawful (setting g.S.Scheme.verifies c.self.inside.parts.kept.state) (J ++ new) = lawful_inside g.S.Scheme.verifies _ _ _ _ c.self.view_is c.new.view_is c.requires.lawful in
    let all : c.with-records.result.items ≡ J ++ new = c.with-records.ensures ∙ ap (λ (rs : List Record). J ++ rs) (sym c.new.view_is) in (
      subst (λ (K : List Record). AreReadings K then.kept.state then.kept.values then.kept.totals then.named then.lacking then.places.places then.mine.ids then.front) (sym all) (c.in_ok-read.ensures.ok J c.self.invariant.0 c.self.invariant.1.records lawful),
      record {
        records = omega (arith, c.self.invariant.1.records, c.count-count.ensures.count, ap length all, length-append J new, ap length c.new.view_is);
        size = omega (arith, c.self.invariant.1.size, c.new.invariant.sum, ap journal_bytes all, bytes_more J new);
        lawful = subst (λ (K : List Record). IsLawful (setting g.S.Scheme.verifies then.kept.state) K) (sym all) (subst (λ (h : Setting). IsLawful h (J ++ new)) (sym c.read.ensures.stays) lawful);
      },
    )

pub returns-clause-ok : goal.returns-clause-ok
returns-clause-ok g c =
    let J : List Record = c.self.inside.records.items in
    let all : c.with-records.result.items ≡ J ++ records_in c.new.inside.news = c.with-records.ensures ∙ ap (λ (rs : List Record). J ++ rs) (sym c.new.view_is) in
    view_read g.S.Scheme.verifies _ _ (setting g.S.Scheme.verifies c.read.new.self.kept.state) _ _ _ c.self.view_is c.new.view_is c.read.ensures.stays all
