use Rattle.std.proofs.Common.{subst}
use Rattle.depot_base.specs.declared.record.Record.{Record}
use Rattle.depot_model.specs.texts.Records.{IsRecord}
use Rattle.depot_model.proofs.of_texts.RecordLaws.{update_of_own_put}
use Rattle.depot_search.proofs.RecordFits.{foreign_fits}
use Rattle.depot_search.proofs.entry.JournalEntry.accepted.Goals as goal

pub returns-in-OwnPut-clause-fits : goal.returns-in-OwnPut-clause-fits
returns-in-OwnPut-clause-fits c = update_of_own_put c.in-OwnPut.update c.in-OwnPut.values (subst (λ (r : Record). IsRecord r) c.in-OwnPut.is c.self.invariant)

pub returns-in-Update-clause-fits : goal.returns-in-Update-clause-fits
returns-in-Update-clause-fits c = foreign_fits c.in-Foreign.signed c.in-Update.update c.in-Update.is (subst (λ (r : Record). IsRecord r) c.in-Foreign.is c.self.invariant)
