use Rattle.depot_tests_orders.proofs.latest_items.latest_items_are_mended.Given as goal

abbrev pub ghosts-two_keys : goal.ghosts-two_keys
ghosts-two_keys g a = record { name = a.blank.name; parts = a.blank.parts }
