use Rattle.std.proofs.Common.{◌≡◌, ◌+◌, ◌-◌, ◌≤◌, ℕ, length, subst, ◌∙◌, refl, arith}
use Rattle.std.specs.Prelude.{slice_index}
use Rattle.base_devices.specs.CrashImages.{Shows}
use Rattle.skip_spec.specs.Chain.{pairs}
use Rattle.skip_lists.proofs.Ties.{still_leaves, then_leaves, then_up_to}
use Rattle.skip_image.specs.HeadWrites.{ReadsButHead, IsAhead}
use Rattle.skip_image.proofs.HeadWrites.{reads_more, more_ahead}
use Rattle.skip_change.specs.Changing.{IsRelinked}
use Rattle.skip_change.proofs.Relinks.{begun_relinked, front_slots, head_tall, level_relinked, level_allowed}
use Rattle.skip_change.proofs.levels.relink.Goals as goal

pub loop-level-init : goal.loop-level-init
loop-level-init g c = record {
  relinked = λ s begun. begun_relinked c.args.image.now.bytes c.args.before.now c.args.leads.now c.args.height s begun;
  tied = λ base says s t known begun. (t, still_leaves base t.was says _ t.tied (g.met.D.Disk.is_moment c.args.disk.now));
  long_left = λ most le start. (start, record { each = λ i n left. let p = (g.met.D.Disk.is_moment c.args.disk.now).now i n left in (p.1, start i p.0) });
  reads = c.requires.reads;
  long = refl;
  spare = omega arith;
  written = omega arith;
  publishes = refl;
  mark = refl;
  faults = refl;
  rest = g.met.D.Disk.rest_same _;
}

pub leave_head-requires-clause-there : goal.leave_head-requires-clause-there
leave_head-requires-clause-there g c =
    front_slots c.args.image.now.bytes c.loop-level.image.bytes c.args.before.now c.args.leads.now c.args.height c.loop-level.level (c.loop-level.level - 1) c.requires.begun.0 c.requires.begun.1 (c.loop-level.invariant.relinked c.requires.begun.0 c.requires.begun.1) (omega (arith, c.loop-level-test.true, c.requires.height))

pub set_pointer-requires-clause-there : goal.set_pointer-requires-clause-there
set_pointer-requires-clause-there g c =
    front_slots c.args.image.now.bytes c.loop-level.image.bytes c.args.before.now c.args.leads.now c.args.height c.loop-level.level c.loop-level.level c.requires.begun.0 c.requires.begun.1 (c.loop-level.invariant.relinked c.requires.begun.0 c.requires.begun.1) (omega (arith, c.loop-level-test.true, c.requires.height))

pub set_pointer-requires-clause-slot : goal.set_pointer-requires-clause-slot
set_pointer-requires-clause-slot g c =
    head_tall c.args.image.now.bytes c.loop-level.image.bytes c.args.before.now c.args.leads.now c.args.height c.loop-level.level c.requires.begun.0 c.requires.begun.1 (c.loop-level.invariant.relinked c.requires.begun.0 c.requires.begun.1) (omega (arith, c.loop-level-test.true, c.requires.height))

pub returns-in_err-leave_head-clause-moments : goal.returns-in_err-leave_head-clause-moments
returns-in_err-leave_head-clause-moments g c = λ base says s t known begun.
    let on = g.met.D.Disk.rest_goes_on in
    let now = c.loop-level.invariant.tied base says s t known begun in
    then_leaves (pairs says.chain) _ _ _ (on _ _ c.loop-level.invariant.rest) (on _ _ c.leave_head.ensures.rest) c.loop-level.invariant.mark now.1 (c.leave_head.ensures.moments base says now.0)

pub returns-in_err-leave_head-clause-rest : goal.returns-in_err-leave_head-clause-rest
returns-in_err-leave_head-clause-rest g c = g.met.D.Disk.rest_then _ _ _ c.loop-level.invariant.rest c.leave_head.ensures.rest

pub loop-level-preserved : goal.loop-level-preserved
loop-level-preserved g c =
    let on = g.met.D.Disk.rest_goes_on in
    let old = c.args.image.now.bytes in
    let b = c.loop-level.image.bytes in
    let level = c.loop-level.level in
    let before = c.args.before.now in
    let leads = c.args.leads.now in
    let at = slice_index before level in
    let to = slice_index leads (level + 1) in
    let new = c.set_pointer.new.self.bytes in
    let high : level ≤ 30 = omega (arith, c.loop-level-test.true, c.requires.height) in
    let low : 1 ≤ level = omega (arith, c.loop-level.auto.level) in
    let next : level ≡ level + 1 - 1 = omega arith in
    let begun-1 = c.requires.begun.1 in
    let done = c.loop-level.invariant.relinked c.requires.begun.0 begun-1 in
    let there = front_slots old b before leads c.args.height level level c.requires.begun.0 begun-1 done high in
    let tall = head_tall old b before leads c.args.height level c.requires.begun.0 begun-1 done high in
    record {
      relinked = λ s begun. level_relinked old b new before leads c.args.height level s begun (c.loop-level.invariant.relinked s begun) low high (omega (arith, c.loop-level-test.true)) c.set_pointer.ensures.sets c.set_pointer.ensures.size;
      tied = λ base says s t known begun.
          let now = c.loop-level.invariant.tied base says s t known begun in
          let may = level_allowed base old b before leads c.args.height level to says s begun known (c.loop-level.invariant.relinked s begun) low high in
          let left = c.in_ok-leave_head.ensures.tied base says now.0 may.known in (
            subst (λ (n : ℕ). IsAhead base says new (slice_index before n) (g.D.Disk.state c.leave_head.new.disk)) next (more_ahead b new at (level + 1) to there tall c.set_pointer.ensures.sets c.set_pointer.ensures.size base says _ left may),
            then_leaves (pairs says.chain) _ _ _ (on _ _ c.loop-level.invariant.rest) (on _ _ c.leave_head.ensures.rest) c.loop-level.invariant.mark now.1 (c.leave_head.ensures.moments base says now.0),
          );
      long_left = λ most le. then_up_to most _ _ _ (on _ _ c.loop-level.invariant.rest) (on _ _ c.leave_head.ensures.rest) c.loop-level.invariant.mark (c.loop-level.invariant.long_left most le) (c.leave_head.ensures.long most (omega (arith, le, c.loop-level.invariant.long)));
      reads = λ shows. subst (λ (n : ℕ). ReadsButHead (g.D.Disk.state c.leave_head.new.disk) new (slice_index before n)) next (reads_more b new at (level + 1) to there tall c.set_pointer.ensures.sets c.set_pointer.ensures.size (g.D.Disk.state c.leave_head.new.disk) (c.in_ok-leave_head.ensures.reads shows));
      long = c.set_pointer.ensures.size ∙ c.loop-level.invariant.long;
      spare = omega (arith, c.set_pointer.ensures.spare, c.loop-level.invariant.spare);
      written = omega (arith, c.leave_head.ensures.written, c.loop-level.invariant.written);
      publishes = c.leave_head.ensures.publishes ∙ c.loop-level.invariant.publishes;
      mark = c.leave_head.ensures.mark ∙ c.loop-level.invariant.mark;
      faults = c.in_ok-leave_head.ensures.cause.kept ∙ c.loop-level.invariant.faults;
      rest = g.met.D.Disk.rest_then _ _ _ c.loop-level.invariant.rest c.leave_head.ensures.rest;
    }

-- ---- after the loop

pub write_head-requires-clause-there : goal.write_head-requires-clause-there
write_head-requires-clause-there g c =
    front_slots c.args.image.now.bytes c.loop-level.image.bytes c.args.before.now c.args.leads.now c.args.height c.loop-level.level (c.args.height - 1) c.requires.begun.0 c.requires.begun.1 (c.loop-level.invariant.relinked c.requires.begun.0 c.requires.begun.1) (omega (arith, c.requires.height))

pub write_head-requires-clause-reads : goal.write_head-requires-clause-reads
write_head-requires-clause-reads g c =
    let e : c.loop-level.level ≡ c.args.height = omega (arith, c.loop-level-test.false, c.loop-level.auto.level-end, c.requires.low) in
    subst (λ (n : ℕ). Shows (g.D.Disk.state c.loop-level.disk) → ReadsButHead (g.D.Disk.state c.loop-level.disk) c.loop-level.image.bytes (slice_index c.args.before.now (n - 1))) e c.loop-level.invariant.reads

pub returns-clause-relinked : goal.returns-clause-relinked
returns-clause-relinked g c = λ s begun.
    let e : c.loop-level.level ≡ c.args.height = omega (arith, c.loop-level-test.false, c.loop-level.auto.level-end, c.requires.low) in
    subst (λ (n : ℕ). IsRelinked c.args.image.now.bytes c.loop-level.image.bytes n s) e (c.loop-level.invariant.relinked s begun)

pub returns-clause-tied : goal.returns-clause-tied
returns-clause-tied g c = λ base says s t known begun.
    let e : c.loop-level.level ≡ c.args.height = omega (arith, c.loop-level-test.false, c.loop-level.auto.level-end, c.requires.low) in
    c.in_ok-write_head.ensures.tied base says (subst (λ (n : ℕ). IsAhead base says c.loop-level.image.bytes (slice_index c.args.before.now (n - 1)) (g.D.Disk.state c.loop-level.disk)) e (c.loop-level.invariant.tied base says s t known begun).0)

pub returns-in_err-write_head-clause-moments : goal.returns-in_err-write_head-clause-moments
returns-in_err-write_head-clause-moments g c = λ base says s t known begun.
    let on = g.met.D.Disk.rest_goes_on in
    let e : c.loop-level.level ≡ c.args.height = omega (arith, c.loop-level-test.false, c.loop-level.auto.level-end, c.requires.low) in
    let now = c.loop-level.invariant.tied base says s t known begun in
    then_leaves (pairs says.chain) _ _ _ (on _ _ c.loop-level.invariant.rest) (on _ _ c.write_head.ensures.rest) c.loop-level.invariant.mark now.1
    (c.write_head.ensures.moments base says (subst (λ (n : ℕ). IsAhead base says c.loop-level.image.bytes (slice_index c.args.before.now (n - 1)) (g.D.Disk.state c.loop-level.disk)) e now.0))

pub returns-clause-moments : goal.returns-clause-moments
returns-clause-moments g c = λ base says s t known begun.
    let on = g.met.D.Disk.rest_goes_on in
    let e : c.loop-level.level ≡ c.args.height = omega (arith, c.loop-level-test.false, c.loop-level.auto.level-end, c.requires.low) in
    let now = c.loop-level.invariant.tied base says s t known begun in
    then_leaves (pairs says.chain) _ _ _ (on _ _ c.loop-level.invariant.rest) (on _ _ c.write_head.ensures.rest) c.loop-level.invariant.mark now.1
    (c.write_head.ensures.moments base says (subst (λ (n : ℕ). IsAhead base says c.loop-level.image.bytes (slice_index c.args.before.now (n - 1)) (g.D.Disk.state c.loop-level.disk)) e now.0))

pub returns-in_err-leave_head-clause-long : goal.returns-in_err-leave_head-clause-long
returns-in_err-leave_head-clause-long g c = λ most le.
    let on = g.met.D.Disk.rest_goes_on in
    let first : length c.args.image.now.bytes ≤ most = omega (arith, le, c.loop-level.invariant.long) in
    then_up_to most _ _ _ (on _ _ c.loop-level.invariant.rest) (on _ _ c.leave_head.ensures.rest) c.loop-level.invariant.mark (c.loop-level.invariant.long_left most first) (c.leave_head.ensures.long most le)

pub returns-in_err-write_head-clause-long : goal.returns-in_err-write_head-clause-long
returns-in_err-write_head-clause-long g c = λ most le.
    let on = g.met.D.Disk.rest_goes_on in
    let first : length c.args.image.now.bytes ≤ most = omega (arith, le, c.loop-level.invariant.long) in
    then_up_to most _ _ _ (on _ _ c.loop-level.invariant.rest) (on _ _ c.write_head.ensures.rest) c.loop-level.invariant.mark (c.loop-level.invariant.long_left most first) (c.write_head.ensures.long most le)

pub returns-clause-long : goal.returns-clause-long
returns-clause-long g c = λ most le.
    let on = g.met.D.Disk.rest_goes_on in
    let first : length c.args.image.now.bytes ≤ most = omega (arith, le, c.loop-level.invariant.long) in
    then_up_to most _ _ _ (on _ _ c.loop-level.invariant.rest) (on _ _ c.write_head.ensures.rest) c.loop-level.invariant.mark (c.loop-level.invariant.long_left most first) (c.write_head.ensures.long most le)

pub returns-in_err-write_head-clause-rest : goal.returns-in_err-write_head-clause-rest
returns-in_err-write_head-clause-rest g c = g.met.D.Disk.rest_then _ _ _ c.loop-level.invariant.rest c.write_head.ensures.rest

pub returns-clause-rest : goal.returns-clause-rest
returns-clause-rest g c = g.met.D.Disk.rest_then _ _ _ c.loop-level.invariant.rest c.write_head.ensures.rest
