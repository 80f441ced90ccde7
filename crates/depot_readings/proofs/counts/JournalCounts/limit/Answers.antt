use Rattle.std.proofs.Common.{ap, ◌∙◌, arith}
use Rattle.depot_readings.specs.NewRecords.{bytes_of_records}
use Rattle.depot_readings.proofs.CountLaws.{leaves_of_growth, limit_of_counts}
use Rattle.depot_readings.proofs.RoomLaws.{growth_is_small}
use Rattle.depot_readings.proofs.counts.JournalCounts.limit.Goals as goal

pub limit_passed-requires-clause-small : goal.limit_passed-requires-clause-small
limit_passed-requires-clause-small c = let small = growth_is_small _ _ _ c.growth.invariant in omega (arith, small)

pub returns-clause-counted : goal.returns-clause-counted
returns-clause-counted c = λ me J a counted.
    c.limit_passed.ensures ∙ limit_of_counts me J c.args.growth.now c.args.self.now _ _ _ a c.if-records-eq0.false c.count-records.ensures.count (c.growth.invariant.sum ∙ ap bytes_of_records c.growth.view_is) counted

pub returns-clause-lawful : goal.returns-clause-lawful
returns-clause-lawful c = λ here J l new a counted.
    c.limit_passed.ensures
    ∙ limit_of_counts here.me J c.args.growth.now c.args.self.now _ _ _ a c.if-records-eq0.false c.count-records.ensures.count (c.growth.invariant.sum ∙ ap bytes_of_records c.growth.view_is)
    (leaves_of_growth here J c.args.growth.now c.growth.inside.news c.args.self.now _ c.growth.view_is l new a counted)
