use Rattle.twoskip.proofs.reads.at_least.Given as goal

abbrev pub ghosts-at_least_counted : goal.ghosts-at_least_counted
ghosts-at_least_counted a = record { name = a.blank.name; parts = a.blank.parts }
