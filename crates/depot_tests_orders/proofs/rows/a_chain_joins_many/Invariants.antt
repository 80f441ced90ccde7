use Rattle.depot_tests_orders.proofs.rows.a_chain_joins_many.Given as goal

abbrev pub ghosts-wide_rows : goal.ghosts-wide_rows
ghosts-wide_rows g a = record { name = a.blank.name; parts = a.blank.parts }
