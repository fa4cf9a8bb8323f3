use Rattle.std.proofs.Common.{ℕ, subst}
use Rattle.skip_lists.proofs.Ties.{still_leaves}
use Rattle.skip_image.specs.HeadWrites.{ReadsButHead, IsAhead}
use Rattle.skip_image.proofs.HeadWrites.{not_ahead, reads_all}
use Rattle.skip_change.proofs.levels.leave_head.Goals as goal

pub returns-then-at-next-clause-reads : goal.returns-then-at-next-clause-reads
returns-then-at-next-clause-reads g c = λ shows. subst (λ (n : ℕ). ReadsButHead (g.D.Disk.state c.args.disk.now) c.args.image.now.bytes n) c.if-at-next.true (c.requires.reads shows)

pub returns-then-at-next-clause-tied : goal.returns-then-at-next-clause-tied
returns-then-at-next-clause-tied g c = λ base says ahead known. subst (λ (n : ℕ). IsAhead base says c.args.image.now.bytes n (g.D.Disk.state c.args.disk.now)) c.if-at-next.true ahead

pub returns-then-at-next-clause-moments : goal.returns-then-at-next-clause-moments
returns-then-at-next-clause-moments g c = λ base says ahead. still_leaves base ahead.was says (g.D.Disk.state c.args.disk.now) ahead.tied (g.met.D.Disk.is_moment c.args.disk.now)

pub returns-then-at-next-clause-long : goal.returns-then-at-next-clause-long
returns-then-at-next-clause-long g c = λ most le start. (start, record { each = λ i n left. let p = (g.met.D.Disk.is_moment c.args.disk.now).now i n left in (p.1, start i p.0) })

pub returns-then-at-next-clause-rest : goal.returns-then-at-next-clause-rest
returns-then-at-next-clause-rest g c = g.met.D.Disk.rest_same _

pub returns-clause-reads : goal.returns-clause-reads
returns-clause-reads g c = λ shows. reads_all c.args.image.now.bytes c.args.next (g.D.Disk.state c.write_head.new.disk) (c.in_ok-write_head.ensures.reads shows)

pub returns-clause-tied : goal.returns-clause-tied
returns-clause-tied g c = λ base says ahead known. not_ahead base c.args.image.now.bytes says c.args.next _ (c.in_ok-write_head.ensures.tied base says ahead) known
