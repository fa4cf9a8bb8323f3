use Rattle.twoskip.proofs.reads.fetch.Given as goal

abbrev pub ghosts-fetch_counted : goal.ghosts-fetch_counted
ghosts-fetch_counted a = record { name = a.blank.name; parts = a.blank.parts }
