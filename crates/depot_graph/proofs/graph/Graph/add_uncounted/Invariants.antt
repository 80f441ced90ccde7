use Rattle.depot_graph.proofs.graph.Graph.add_uncounted.Given as goal

abbrev pub ghosts-add_with : goal.ghosts-add_with
ghosts-add_with a = record { name = a.blank.name; parts = a.blank.parts }
