use Rattle.twoskip.proofs.repacking.live_items.Given as goal

abbrev pub ghosts-live_items_counted : goal.ghosts-live_items_counted
ghosts-live_items_counted a = record { name = a.blank.name; parts = a.blank.parts }
