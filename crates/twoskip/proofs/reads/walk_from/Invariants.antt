use Rattle.twoskip.proofs.reads.walk_from.Given as goal

abbrev pub ghosts-walk_from_counted : goal.ghosts-walk_from_counted
ghosts-walk_from_counted a = record { name = a.blank.name; parts = a.blank.parts }
