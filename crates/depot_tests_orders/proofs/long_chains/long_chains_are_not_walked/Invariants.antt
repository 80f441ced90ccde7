use Rattle.depot_tests_orders.proofs.long_chains.long_chains_are_not_walked.Given as goal

abbrev pub ghosts-asked_often : goal.ghosts-asked_often
ghosts-asked_often g a = record { name = a.blank.name; parts = a.blank.parts }
