use Rattle.skip_lists.proofs.Ties.{still_leaves}
use Rattle.skip_recover.proofs.Leading.{may_link, leads_slot}
use Rattle.skip_recover.proofs.links.link.Goals as goal

pub returns-then-pointer-to-clause-moments : goal.returns-then-pointer-to-clause-moments
returns-then-pointer-to-clause-moments g c = λ base says t is. still_leaves base c.args.image.now.bytes says _ t (g.met.D.Disk.is_moment c.args.disk.now)

pub returns-clause-done : goal.returns-clause-done
returns-clause-done g c = λ base says t is.
    let b = c.args.image.now.bytes in (
      c.in_ok-write_pointer.ensures.tied base says t (may_link base b says _ t c.args.from c.args.slot c.args.to is c.requires.upper c.requires.slot),
      leads_slot base b says _ t c.args.from c.args.slot c.args.to c.write_pointer.new.self.bytes is c.requires.slot c.write_pointer.ensures.sets,
    )
