use Rattle.std.proofs.Common.{◌≡◌, rules}
use Rattle.mail_rebuild.specs.Merging.{merged, pairs_left, usable_of}
use Rattle.mail_rebuild.proofs.MergeLemmas.{merged-whole, usable_of-rises}
use Rattle.mail_rebuild.proofs.merge.Merge.new.Goals as goal

pub returns-clause-whole : goal.returns-clause-whole
returns-clause-whole c rises =
    let value : pairs_left c.pass_record.new.self ≡ merged c.args.listing.now.messages (usable_of c.args.old) = search rules in
    rw value (merged-whole c.args.listing.now.messages (usable_of c.args.old) rises (usable_of-rises c.args.old))
