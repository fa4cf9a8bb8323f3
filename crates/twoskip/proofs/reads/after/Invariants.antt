use Rattle.twoskip.proofs.reads.after.Given as goal

abbrev pub ghosts-after_counted : goal.ghosts-after_counted
ghosts-after_counted a = record { name = a.blank.name; parts = a.blank.parts }
