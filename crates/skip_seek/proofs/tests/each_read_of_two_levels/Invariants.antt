use Rattle.skip_seek.proofs.tests.each_read_of_two_levels.Given as goal

abbrev pub ghosts-ask : goal.ghosts-ask
ghosts-ask g a = record { name = a.blank.name; parts = a.blank.parts }
