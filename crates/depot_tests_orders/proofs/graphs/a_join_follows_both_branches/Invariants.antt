use Rattle.depot_tests_orders.proofs.graphs.a_join_follows_both_branches.Given as goal

abbrev pub ghosts-forked_and_joined : goal.ghosts-forked_and_joined
ghosts-forked_and_joined g a = record { name = a.blank.name; parts = a.blank.parts }
