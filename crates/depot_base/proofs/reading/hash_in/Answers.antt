use Rattle.depot_base.proofs.reading.hash_in.Goals as goal
use Rattle.depot_base.proofs.Writing.{goes_by_bytes}

pub returns-clause-stays : goal.returns-clause-stays
returns-clause-stays c = goes_by_bytes 32 c.args.fields.now c.take_hash.result c.take_hash.new.self c.take_hash.ensures
