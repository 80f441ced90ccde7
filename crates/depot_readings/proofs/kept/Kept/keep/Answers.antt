use Rattle.std.proofs.Common.{◌++◌, sym, subst}
use Rattle.depot_readings.specs.NewRecords.{records_in}
use Rattle.depot_readings.specs.ReadingsParts.{IsKeptOf}
use Rattle.depot_readings.specs.declared.news.News.{News}
use Rattle.depot_readings.proofs.KeptLaws.{birth_kept}
use Rattle.depot_readings.proofs.kept.Kept.keep.Goals as goal

pub returns-in-Birth-clause-ok : goal.returns-in-Birth-clause-ok
returns-in-Birth-clause-ok g c = λ J k l. subst (λ (n : News). IsKeptOf (J ++ records_in n) c.args.self.now.state c.args.self.now.values c.args.self.now.totals) (sym c.in-Birth.is) (birth_kept J c.in-Birth.node c.in-Birth.roster _ _ _ k)
