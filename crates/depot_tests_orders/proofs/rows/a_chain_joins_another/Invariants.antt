use Rattle.depot_tests_orders.proofs.rows.a_chain_joins_another.Given as goal

abbrev pub ghosts-joins : goal.ghosts-joins
ghosts-joins g a = record { name = a.blank.name; parts = a.blank.parts }
