use Rattle.depot_laws.proofs.of_worlds.InLine.{none_unordered, none_unseen}
use Rattle.depot_laws.proofs.orders.Branches.{none_split}
use Rattle.depot_laws.proofs.audits.lawful_worlds_are_in_line.Goals as goal

pub returns-clause-unordered : goal.returns-clause-unordered
returns-clause-unordered c W world = none_unordered W world

pub returns-clause-unseen : goal.returns-clause-unseen
returns-clause-unseen c W world = none_unseen W world

pub returns-clause-split : goal.returns-clause-split
returns-clause-split c W world = none_split W world
