use Rattle.std.proofs.Common.{[]}
use Rattle.depot_session.proofs.AskedCommands.{asks_bundle, asks_sign, asks_take}
use Rattle.depot_session.proofs.requesting.request_with.Goals as goal

pub returns-in-Bundle-clause-asks : goal.returns-in-Bundle-clause-asks
returns-in-Bundle-clause-asks c = rw c.in-Bundle.is (λ s name is there. asks_bundle s _ [] name c.args.bytes is there)

pub returns-in-Take-clause-asks : goal.returns-in-Take-clause-asks
returns-in-Take-clause-asks c = rw c.in-Take.is (λ s name is there. asks_take s _ name c.args.bytes is there)

pub returns-in-Sign-clause-asks : goal.returns-in-Sign-clause-asks
returns-in-Sign-clause-asks c = rw c.in-Sign.is (λ s name is there. asks_sign s _ name c.args.bytes is there)
