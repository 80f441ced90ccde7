use Rattle.depot_node.proofs.StartLaws.{lawful_file_starts, lawful_file_is_read}
use Rattle.depot_node.proofs.node_laws.lawful_files_start.Goals as goal

pub returns-clause-started : goal.returns-clause-started
returns-clause-started c = lawful_file_starts

pub returns-clause-same : goal.returns-clause-same
returns-clause-same c = lawful_file_is_read
