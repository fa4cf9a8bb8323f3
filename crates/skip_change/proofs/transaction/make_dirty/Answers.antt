use Rattle.std.proofs.Common.{Bool, subst}
use Rattle.skip_lists.specs.Tie.{TiedBy}
use Rattle.skip_lists.proofs.Ties.{tied_to_base, still_leaves}
use Rattle.skip_change.proofs.Dirtied.{stays_dirty, begins_dirty}
use Rattle.skip_change.proofs.transaction.make_dirty.Goals as goal

pub returns-then-changed-clause-dirty : goal.returns-then-changed-clause-dirty
returns-then-changed-clause-dirty g c = stays_dirty c.args.image.now.bytes (c.requires.dirty c.if-changed.true)

pub returns-then-changed-clause-tied : goal.returns-then-changed-clause-tied
returns-then-changed-clause-tied g c = λ base says t. subst (λ (x : Bool). TiedBy base says c.args.image.now.bytes x (g.D.Disk.state c.args.disk.now)) c.if-changed.true t

pub returns-then-changed-clause-moments : goal.returns-then-changed-clause-moments
returns-then-changed-clause-moments g c = λ base says t.
    let d = g.D.Disk.state c.args.disk.now in
    still_leaves base c.args.image.now.bytes says d (tied_to_base base c.args.image.now.bytes says d (subst (λ (x : Bool). TiedBy base says c.args.image.now.bytes x d) c.if-changed.true t)) (g.met.D.Disk.is_moment c.args.disk.now)

pub returns-then-changed-clause-long : goal.returns-then-changed-clause-long
returns-then-changed-clause-long g c = λ most le start. (start, record { each = λ i n left. let p = (g.met.D.Disk.is_moment c.args.disk.now).now i n left in (p.1, start i p.0) })

pub returns-then-changed-clause-rest : goal.returns-then-changed-clause-rest
returns-then-changed-clause-rest g c = g.met.D.Disk.rest_same _

pub returns-in_err-begin_changes-clause-dirty : goal.returns-in_err-begin_changes-clause-dirty
returns-in_err-begin_changes-clause-dirty g c =
    let h = c.requires.header in
    begins_dirty c.args.image.now.bytes c.begin_changes.new.image.bytes h.0 h.1 h.2 c.requires.there (c.begin_changes.ensures.dirty h.0 h.1 h.2)

pub returns-clause-dirty : goal.returns-clause-dirty
returns-clause-dirty g c =
    let h = c.requires.header in
    begins_dirty c.args.image.now.bytes c.begin_changes.new.image.bytes h.0 h.1 h.2 c.requires.there (c.begin_changes.ensures.dirty h.0 h.1 h.2)

pub returns-clause-tied : goal.returns-clause-tied
returns-clause-tied g c = λ base says t. c.in_ok-begin_changes.ensures.tied base says (subst (λ (x : Bool). TiedBy base says c.args.image.now.bytes x (g.D.Disk.state c.args.disk.now)) c.if-changed.false t)

pub returns-in_err-begin_changes-clause-moments : goal.returns-in_err-begin_changes-clause-moments
returns-in_err-begin_changes-clause-moments g c = λ base says t. c.begin_changes.ensures.moments base says (subst (λ (x : Bool). TiedBy base says c.args.image.now.bytes x (g.D.Disk.state c.args.disk.now)) c.if-changed.false t)

pub returns-clause-moments : goal.returns-clause-moments
returns-clause-moments g c = λ base says t. c.begin_changes.ensures.moments base says (subst (λ (x : Bool). TiedBy base says c.args.image.now.bytes x (g.D.Disk.state c.args.disk.now)) c.if-changed.false t)
