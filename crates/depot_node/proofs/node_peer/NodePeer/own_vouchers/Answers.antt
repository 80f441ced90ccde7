use Rattle.std.proofs.Common.{refl}
use Rattle.depot_model.proofs.of_journals.JournalCallLaws.{call_within}
use Rattle.depot_node.specs.Holdings.{journal_on}
use Rattle.depot_node.proofs.node_peer.NodePeer.own_vouchers.Goals as goal

pub returns-clause-call : goal.returns-clause-call
returns-clause-call g c = record { same = record { stands = c.own_vouchers.ensures.stands; key = refl; signs = refl }; journal = call_within (λ n. n.store) {v = journal_on g.D.Disk} c.own_vouchers.ensures.call }
