use Rattle.depot_graph.proofs.covered.precedes.Given as goal

abbrev pub ghosts-precedes_with : goal.ghosts-precedes_with
ghosts-precedes_with a = record { name = a.blank.name; parts = a.blank.parts }
