use Rattle.depot_tests_codecs.proofs.base_values.steps_take_no_bytes.Given as goal

abbrev pub ghosts-size_of_two : goal.ghosts-size_of_two
ghosts-size_of_two g a = record { name = a.blank.name; parts = a.blank.parts }
