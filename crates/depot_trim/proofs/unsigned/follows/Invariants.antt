use Rattle.depot_trim.proofs.unsigned.follows.Given as goal

abbrev pub ghosts-precedes : goal.ghosts-precedes
ghosts-precedes a = record { name = a.blank.name; parts = a.blank.parts }
