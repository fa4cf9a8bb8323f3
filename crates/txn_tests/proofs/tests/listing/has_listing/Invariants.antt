use Rattle.txn_tests.proofs.tests.listing.has_listing.Given as goal

abbrev pub ghosts-has_listing_counted : goal.ghosts-has_listing_counted
ghosts-has_listing_counted a = record { name = a.blank.name; parts = a.blank.parts }
