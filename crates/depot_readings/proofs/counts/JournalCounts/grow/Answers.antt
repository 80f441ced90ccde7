use Rattle.std.proofs.Common.{refl, ap, ◌∙◌, arith}
use Rattle.depot_readings.specs.NewRecords.{bytes_of_records}
use Rattle.depot_readings.proofs.CountLaws.{counts_grow, few_counts}
use Rattle.depot_readings.proofs.counts.JournalCounts.grow.Goals as goal

pub overflow_add-self : goal.overflow_add-self
overflow_add-self c = let few = few_counts c.args.growth.now c.args.self.now c.requires in omega (arith, few.records, c.count.ensures.count)

pub overflow_cast-self-2 : goal.overflow_cast-self-2
overflow_cast-self-2 c = let few = few_counts c.args.growth.now c.args.self.now c.requires in omega (arith, few.bytes, c.growth.invariant.sum, ap bytes_of_records c.growth.view_is)

pub overflow_add-self-2 : goal.overflow_add-self-2
overflow_add-self-2 c = let few = few_counts c.args.growth.now c.args.self.now c.requires in omega (arith, few.bytes, c.growth.invariant.sum, ap bytes_of_records c.growth.view_is)

pub returns : goal.returns
returns c = λ here J l a counted.
    counts_grow here J c.args.growth.now c.growth.inside.news c.args.self.now _ _ _ _ c.growth.view_is l a c.count.ensures.count (c.growth.invariant.sum ∙ ap bytes_of_records c.growth.view_is) counted refl refl c.unwrap_or-self.ensures
