use Rattle.std.proofs.Common.{subst}
use Rattle.depot_base.specs.declared.record.Record.{Record}
use Rattle.depot_model.specs.texts.Records.{IsRecord}
use Rattle.depot_model.proofs.of_texts.RecordLaws.{update_of_own_put}
use Rattle.depot_search.proofs.entry.JournalEntry.puts.Goals as goal

pub is_one_body-requires-clause-some : goal.is_one_body-requires-clause-some
is_one_body-requires-clause-some c = update_of_own_put c.in-OwnPut.update c.in-OwnPut.values (subst (λ (r : Record). IsRecord r) c.in-OwnPut.is c.self.invariant)
