use Rattle.skip_txn.proofs.Sound.{tidy_sound, header_count}
use Rattle.skip_txn.proofs.session.Session.new.Goals as goal

pub invariant_of-result : goal.invariant_of-result
invariant_of-result c =
    let tidy = c.requires.tidy in
    tidy_sound c.args.image.bytes tidy.0 tidy.1 tidy.2 _ (header_count c.header-count.result tidy.0 (c.header-count.ensures.only tidy.0.header tidy.1.fields tidy.1.header) tidy.2.count)
